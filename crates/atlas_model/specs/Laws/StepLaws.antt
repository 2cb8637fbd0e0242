-- What each step does to an atlas, in plain facts: laws over the step relation.
use Rattle.std.specs.Prelude.{◌≡◌, ℕ, ◌+◌, ◌<◌, ◌≤◌, ◌==◌, Bool, true, false, not, ◌↔◌, List, [], ◌∷◌, ◌++◌, map}
use Rattle.std.specs.Prelude.{filter, count_by, All, Contains, IsPermutation}
use Rattle.atlas_model.specs.declared.error.AtlasError.TheVariants.{Memory, Slots}
use Rattle.atlas_model.specs.Boxes.{Sides, Box, box_sides, Fits, IsPositive}
use Rattle.atlas_model.specs.Choice.{Options, rounded, IsPick, HasRoom, HasNoRoom}
use Rattle.atlas_model.specs.Trees.{Grant}
use Rattle.atlas_model.specs.Laws.TreeLaws.{LiesInOneOf}
use Rattle.atlas_model.specs.States.{State, live_in, free_in, IsAligned, IsSound}
use Rattle.atlas_model.specs.Refits.{Rearrangement}
use Rattle.atlas_model.specs.Steps.{AtlasCall, AtlasReply, Step}
use Rattle.atlas_model.specs.Steps.AtlasCall.{Allocate, Deallocate, Grow, Clear, Reset}
use Rattle.atlas_model.specs.Steps.AtlasReply.{Allocated, NoRoom, Done, Changed, Refused, BadCall}

-- Each step keeps what each atlas keeps.
abbrev pub StepsKeep : Type 0
StepsKeep =
    (old new : State) (call : AtlasCall) (reply : AtlasReply) → IsSound old → Step old call reply new → IsSound new

-- A request takes one free box and no other.
abbrev pub PicksAreOne : Type 0
PicksAreOne =
    (s : State) (r : Sides) (f g : Box) → IsSound s → IsPick (free_in s) s.options r f
    → IsPick (free_in s) s.options r g → f ≡ g

-- At least n, and less than one step above it.
abbrev pub IsBarelyAbove : (n step m : ℕ) → Type 0
IsBarelyAbove n step m = (n ≤ m) × (m < n + step)

-- How many live boxes an id has.
abbrev pub live_count : ℕ → State → ℕ
live_count id s = count_by (λ g. g.id == id) (live_in s)

-- A granted box lies inside a free box of before. Its sides are multiples of the alignment, at least those asked for,
-- and less than one alignment above them. Its id wasn't live, and it is added to what is live.
pub record IsGrantStep (old : State) (request : Sides) (g : Grant) (new : State) : Type 0 where
  pub inside : LiesInOneOf (free_in old) g.box
  pub aligned : IsAligned old.options (box_sides g.box)
  pub width : IsBarelyAbove request.width old.options.alignment.width (box_sides g.box).width
  pub height : IsBarelyAbove request.height old.options.alignment.height (box_sides g.box).height
  pub id : live_count g.id old ≡ 0
  pub live : IsPermutation (g ∷ live_in old) (live_in new)

-- A freed id had one box. It is live no more, all others are, and their boxes haven't moved. The freed box lies inside
-- a free box, and a request of its sides has room.
pub record IsFreeingStep (old : State) (id : ℕ) (new : State) : Type 0 where
  pub one : live_count id old ≡ 1
  pub live : live_in new ≡ filter (λ g. not (g.id == id)) (live_in old)
  pub free : (g : Grant) → Contains (live_in old) g → g.id ≡ id → LiesInOneOf (free_in new) g.box
  pub room : (g : Grant) → Contains (live_in old) g → g.id ≡ id → HasRoom (free_in new) new.options (box_sides g.box)

-- A growth keeps every live box, and each earlier free box lies inside a free box.
pub record IsGrowthStep (old new : State) : Type 0 where
  pub live : live_in new ≡ live_in old
  pub free : All (LiesInOneOf (free_in new)) (free_in old)

-- What was live is what was moved and what found no room, each once; what is live is what it was moved to; no box has
-- other sides than before.
pub record IsRearrangingStep (old : State) (list : Rearrangement) (new : State) : Type 0 where
  pub before : IsPermutation (live_in old) (map (λ t. t.old) list.changes ++ list.failures)
  pub after : IsPermutation (live_in new) (map (λ t. t.new) list.changes)
  pub sides : All (λ t. box_sides t.new.box ≡ box_sides t.old.box) list.changes

-- What a step does: a request without room, a refused call and a bad call change nothing.
abbrev pub Does : State → AtlasCall → AtlasReply → State → Type 0
Does old call NoRoom new = new ≡ old
Does old call (Refused error) new = new ≡ old
Does old call BadCall new = new ≡ old
Does old call (Changed list) new = IsRearrangingStep old list new
Does old (Allocate r) (Allocated g) new = IsGrantStep old r g new
Does old (Deallocate id) Done new = IsFreeingStep old id new
Does old (Grow n) Done new = IsGrowthStep old new
Does old Clear Done new = live_in new ≡ []
Does old (Reset n o) Done new = live_in new ≡ []
-- No other reply comes.
Does old call reply new = ⊥

-- What each call that changes something does, of every step from a sound state.

abbrev pub GrantsLieInside : Type 0
GrantsLieInside = (old new : State) (r : Sides) (g : Grant) → IsSound old → Step old (Allocate r) (Allocated g) new
    → IsGrantStep old r g new

abbrev pub FreeingsRemoveOne : Type 0
FreeingsRemoveOne =
    (old new : State) (id : ℕ) → IsSound old → Step old (Deallocate id) Done new → IsFreeingStep old id new

abbrev pub GrowthsKeepBoxes : Type 0
GrowthsKeepBoxes = (old new : State) (n : Sides) → IsSound old → Step old (Grow n) Done new → IsGrowthStep old new

abbrev pub RearrangingsLoseNothing : Type 0
RearrangingsLoseNothing =
    (old new : State) (call : AtlasCall) (list : Rearrangement) → IsSound old → Step old call (Changed list) new
    → IsRearrangingStep old list new

-- Whether a reply refuses.
abbrev pub is_refusal : AtlasReply → Bool
is_refusal NoRoom = true
is_refusal (Refused error) = true
is_refusal BadCall = true
is_refusal _ = false

abbrev pub RefusalsChangeNothing : Type 0
RefusalsChangeNothing =
    (old new : State) (call : AtlasCall) (reply : AtlasReply) → Step old call reply new → is_refusal reply ≡ true
    → new ≡ old

-- Whether memory or slots were wanting.
abbrev pub is_short : AtlasReply → Bool
is_short (Refused Memory) = true
is_short (Refused Slots) = true
is_short _ = false

abbrev pub is_grant : AtlasReply → Bool
is_grant (Allocated g) = true
is_grant _ = false

-- A positive request that isn't refused for memory or slots is granted exactly if its rounded sides fit a free box.
abbrev pub GrantsAsDue : State → AtlasCall → AtlasReply → Type 0
GrantsAsDue old (Allocate r) reply =
    IsPositive r → is_short reply ≡ false → (is_grant reply ≡ true) ↔ HasRoom (free_in old) old.options r
GrantsAsDue old _ reply = Unit {0}

-- A request is answered "no room" exactly if it is empty or fits no free box.
abbrev pub DeniesAsDue : State → AtlasCall → AtlasReply → Type 0
DeniesAsDue old (Allocate r) reply = (reply ≡ NoRoom) ↔ HasNoRoom (free_in old) old.options r
DeniesAsDue old _ reply = Unit {0}

abbrev pub StepsAnswerAsDue : Type 0
StepsAnswerAsDue =
    (old new : State) (call : AtlasCall) (reply : AtlasReply) → Step old call reply new
    → GrantsAsDue old call reply × DeniesAsDue old call reply

-- A request that has room takes a free box.
abbrev pub PicksExist : Type 0
PicksExist = (free : List Box) (o : Options) (s : Sides) → HasRoom free o s → (f : Box) × IsPick free o (rounded o s) f

-- Where a request has room, each positive one that is no wider and no higher has room.
abbrev pub SmallerFits : Type 0
SmallerFits =
    (free : List Box) (o : Options) (r s : Sides) → HasRoom free o s → IsPositive r → Fits r s → HasRoom free o r
