-- What a caller holds of an atlas: live boxes, which stay where they are and apart from one another.
use Rattle.std.specs.Prelude.{◌≡◌, ◌≢◌, ℕ, ◌+◌, ◌≤◌, pos, ◌+ℤ◌, ◌≤ℤ◌, ◌<ℤ◌, ◌&&◌, ◌⊎◌, ◌↔◌, true, false, List, [], ◌∷◌}
use Rattle.std.specs.Prelude.{◌++◌, map}
use Rattle.std.specs.Prelude.{length, All, Option, Some, None, Result, Ok, Err, IsSome, IfSome, option_map, ◌==◌}
use Rattle.std.specs.Prelude.{if◌then◌else◌}
use Rattle.atlas_model.specs.declared.allocation.Allocation.{Allocation}
use Rattle.atlas_model.specs.declared.error.AtlasError.{AtlasError}
use Rattle.atlas_model.specs.declared.error.AtlasError.TheVariants.{Memory, Slots}
use Rattle.atlas_model.specs.declared.geometry.Rectangle.{Rectangle}
use Rattle.atlas_model.specs.declared.geometry.Size.{Size}
use Rattle.atlas_model.specs.Boxes.{Sides, Box, box_sides, covers, Fits, IsPositive, IsNonempty, IsWithin, AreDisjoint}
use Rattle.atlas_model.specs.Choice.{Options, rounded, HasRoom, HasNoRoom}
use Rattle.atlas_model.specs.Pixels.{box_of, rectangle_of, sides_of, IsMeasurable}
use Rattle.atlas_model.specs.States.{State, live_in, free_in, IsLive, IsSound}
use Rattle.atlas_model.specs.Replies.{live_box}
use Rattle.atlas_model.specs.Laws.TreeLaws.{is_among}
use Rattle.atlas_model.specs.Laws.RunLaws.{IsTiled}

-- The rectangle of a live id.
abbrev pub rectangle_in : State → ℕ → Option Rectangle
rectangle_in s id = option_map rectangle_of (live_box s id)

-- The rectangle isn't empty, and lies within an atlas of these sides. So sums up to its `max` fit an `i32`.
pub record LiesWithin (s : Sides) (r : Rectangle) : Type 0 where
  pub left : pos 0 ≤ℤ r.min.x
  pub top : pos 0 ≤ℤ r.min.y
  pub wide : r.min.x <ℤ r.max.x
  pub high : r.min.y <ℤ r.max.y
  pub right : r.max.x ≤ℤ pos s.width
  pub bottom : r.max.y ≤ℤ pos s.height

-- What a request is granted in a state: a rectangle within the atlas, of the requested sides, rounded up to multiples
-- of the alignment: less than one alignment above them, and so equal to them at alignment 1.
pub record IsGranted (s : State) (request : Size) (r : Rectangle) : Type 0 where
  pub positive : (pos 0 <ℤ request.width) × (pos 0 <ℤ request.height)
  pub left : pos 0 ≤ℤ r.min.x
  pub top : pos 0 ≤ℤ r.min.y
  pub right : r.max.x ≤ℤ pos s.size.width
  pub bottom : r.max.y ≤ℤ pos s.size.height
  pub wide : (r.min.x +ℤ request.width) ≤ℤ r.max.x
  pub high : (r.min.y +ℤ request.height) ≤ℤ r.max.y
  pub barely_wide : r.max.x <ℤ ((r.min.x +ℤ request.width) +ℤ pos s.options.alignment.width)
  pub barely_high : r.max.y <ℤ ((r.min.y +ℤ request.height) +ℤ pos s.options.alignment.height)
  pub sides : box_sides (box_of r) ≡ rounded s.options (sides_of request)
  pub measurable : IsMeasurable r

-- Memory was refused, or the slots of the atlas don't suffice.
abbrev pub IsShortage : AtlasError → Type 0
IsShortage error = (error ≡ Memory) ⊎ (error ≡ Slots)

-- What a request is answered: None exactly if it has no room; an error, if it has, only where memory or slots are
-- wanting.
abbrev pub IsAnswer : State → (request : Size) → Result (Option Allocation) AtlasError → Type 0
IsAnswer s request (Ok None) = HasNoRoom (free_in s) s.options (sides_of request)
IsAnswer s request (Ok (Some a)) = IsGranted s request a.rectangle
IsAnswer s request (Err error) = IsShortage error × HasRoom (free_in s) s.options (sides_of request)

-- The size, the options and the limit of an atlas.
pub record HasFrame (s : State) (n : Sides) (o : Options) (most : ℕ) : Type 0 where
  pub size : s.size ≡ n
  pub options : s.options ≡ o
  pub limit : s.limit ≡ most

-- Size, options and limit stay.
abbrev pub KeepsFrame : (old new : State) → Type 0
KeepsFrame old new = HasFrame new old.size old.options old.limit

-- A list of boxes is guarded: they lie within the atlas, and are disjoint from each other and from the free boxes.
pub record AreGuarded (s : State) (held : List Box) : Type 0 where
  pub within : All (IsWithin s.size) held
  pub apart : AreDisjoint held
  pub disjoint : AreDisjoint (held ++ free_in s)

-- The atlas is sound, and each id that was live has the box that it had.
pub record KeepsLive (old new : State) : Type 0 where
  pub sound : IsSound new
  pub kept : (id : ℕ) → IsLive old id → live_box new id ≡ live_box old id

-- An id that wasn't live has this box, and every other id what it had.
pub record AddsBox (old new : State) (id : ℕ) (box : Box) : Type 0 where
  pub unused : live_box old id ≡ None
  pub live : IsLive new id
  pub here : live_box new id ≡ Some box
  pub boxes : (k : ℕ) → live_box new k ≡ (if k == id then Some box else live_box old k)
  pub count : length (live_in new) ≡ length (live_in old) + 1

-- A box joins each guarded list.
abbrev pub JoinsGuarded : (old new : State) (box : Box) → Type 0
JoinsGuarded old new box = (held : List Box) → AreGuarded old held → AreGuarded new (box ∷ held)

-- The atlas is sound; an id has no box, and every other id what it had. A list that was guarded with the id's box is
-- guarded without it.
pub record LeavesNoBox (old new : State) (id : ℕ) : Type 0 where
  pub sound : IsSound new
  pub gone : live_box new id ≡ None
  pub others : (k : ℕ) → k ≢ id → live_box new k ≡ live_box old k
  pub guarded : (box : Box) (held : List Box) → live_box old id ≡ Some box → AreGuarded old (box ∷ held)
      → AreGuarded new held

-- The atlas is sound; the ids of a list have no box, and every other id what it had.
pub record LeavesNoBoxes (old new : State) (ids : List ℕ) : Type 0 where
  pub sound : IsSound new
  pub gone : (id : ℕ) → is_among ids id ≡ true → live_box new id ≡ None
  pub others : (id : ℕ) → is_among ids id ≡ false → live_box new id ≡ live_box old id

-- The atlas is sound; what is live is what was live, where it was; each guarded list is guarded.
pub record KeepsAll (old new : State) : Type 0 where
  pub sound : IsSound new
  pub live : live_in new ≡ live_in old
  pub guarded : (held : List Box) → AreGuarded old held → AreGuarded new held

-- Each id has the box that it had.
abbrev pub HasSameBoxes : (old new : State) → Type 0
HasSameBoxes old new = (id : ℕ) → live_box new id ≡ live_box old id

-- The ids of a list weren't live, and every other id has the box that it had.
pub record AddsAtMost (old new : State) (ids : List ℕ) : Type 0 where
  pub unused : (id : ℕ) → is_among ids id ≡ true → live_box old id ≡ None
  pub others : (id : ℕ) → is_among ids id ≡ false → live_box new id ≡ live_box old id

-- No unit square lies in both boxes.
abbrev pub ShareNothing : Box → Box → Type 0
ShareNothing b c = (x y : ℕ) → (covers x y b && covers x y c) ≡ false

-- One box lies wholly left of, right of, above or below the other.
abbrev pub BoxesLieApart : Box → Box → Type 0
BoxesLieApart b c = (b.max.x ≤ c.min.x) ⊎ (c.max.x ≤ b.min.x) ⊎ (b.max.y ≤ c.min.y) ⊎ (c.max.y ≤ b.min.y)

-- The same of rectangles.
abbrev pub RectanglesLieApart : Rectangle → Rectangle → Type 0
RectanglesLieApart r q = (r.max.x ≤ℤ q.min.x) ⊎ (q.max.x ≤ℤ r.min.x) ⊎ (r.max.y ≤ℤ q.min.y) ⊎ (q.max.y ≤ℤ r.min.y)

-- The rectangles of any two ids lie apart.
abbrev pub AllLieApart : State → Type 0
AllLieApart s =
    (i j : ℕ) (r q : Rectangle) → i ≢ j → rectangle_in s i ≡ Some r → rectangle_in s j ≡ Some q → RectanglesLieApart r q

-- The rectangle of each id is nonempty and lies within the atlas.
abbrev pub AllLieWithin : State → Type 0
AllLieWithin s = (id : ℕ) → IfSome (rectangle_in s id) (λ r. IsNonempty (box_of r) × IsWithin s.size (box_of r))

-- Laws of what is live.

-- In each sound state, live and free boxes tile the atlas.
abbrev pub SoundIsTiled : Type 0
SoundIsTiled = (s : State) → IsSound s → IsTiled s

-- An id is live exactly if it has a box.
abbrev pub LiveHaveBoxes : Type 0
LiveHaveBoxes = (s : State) (id : ℕ) → IsLive s id ↔ IsSome (live_box s id)

-- The boxes of two live ids share no unit square, and lie apart.
abbrev pub LiveShareNothing : Type 0
LiveShareNothing =
    (s : State) (i j : ℕ) (b c : Box) → IsSound s → i ≢ j → live_box s i ≡ Some b → live_box s j ≡ Some c
    → ShareNothing b c × BoxesLieApart b c

-- Each live box is nonempty and lies within the atlas.
abbrev pub LiveLieWithin : Type 0
LiveLieWithin = (s : State) (id : ℕ) (b : Box) → IsSound s → live_box s id ≡ Some b → IsNonempty b × IsWithin s.size b

-- The live boxes are guarded together, and so is no box at all.
abbrev pub LiveAreGuarded : Type 0
LiveAreGuarded = (s : State) → IsSound s → AreGuarded s [] × AreGuarded s (map (λ g. g.box) (live_in s))

-- Where nothing is live, each request has room whose rounded sides fit the atlas.
abbrev pub IdleHasRoom : Type 0
IdleHasRoom =
    (s : State) (request : Sides) → IsSound s → live_in s ≡ [] → IsPositive request
    → Fits (rounded s.options request) s.size → HasRoom (free_in s) s.options request

-- What is granted and then freed leaves no trace: each id has the box that it had.

-- A grant that is freed.
abbrev pub GrantsAreGivenBack : Type 0
GrantsAreGivenBack =
    (old mid new : State) (id : ℕ) (box : Box) → AddsBox old mid id box → LeavesNoBox mid new id → HasSameBoxes old new

-- Grants of which some are freed on the way, and at last the others: one after another, or all by one call.
pub record ManyAreGivenBack : Type 0 where
  pub none : (s : State) → AddsAtMost s s []
  pub grant : (old mid new : State) (ids : List ℕ) (id : ℕ) (box : Box) → AddsAtMost old mid ids
      → AddsBox mid new id box → AddsAtMost old new (ids ++ id ∷ [])
  pub freeing : (old mid new : State) (before after : List ℕ) (id : ℕ) → AddsAtMost old mid (before ++ id ∷ after)
      → LeavesNoBox mid new id → AddsAtMost old new (before ++ after)
  pub all : (old mid new : State) (ids : List ℕ) → AddsAtMost old mid ids → LeavesNoBoxes mid new ids
      → HasSameBoxes old new
  pub nothing : (old new : State) → AddsAtMost old new [] → HasSameBoxes old new
