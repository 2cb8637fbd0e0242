-- The simple allocator: a set of free boxes, which grants and never takes back.
pub mod SimpleRuns
use Rattle.std.specs.Prelude.{◌≡◌, ◌≢◌, nat_le, Bool, ◌&&◌, List, [], ◌∷◌, ◌++◌, map, filter, All}
use Rattle.std.specs.Prelude.{Option, Some, None, Result, Ok, Err}
use Rattle.atlas_model.specs.declared.error.AtlasError.{AtlasError}
use Rattle.atlas_model.specs.declared.error.AtlasError.TheVariants.{Memory}
use Rattle.atlas_model.specs.declared.geometry.Rectangle.{Rectangle}
use Rattle.atlas_model.specs.Boxes.{Sides, Box, box_at, box_sides, whole_box}
use Rattle.atlas_model.specs.Boxes.{Fits, IsPositive, IsNonempty, IsWithin, AreDisjoint, AreSameBoxes}
use Rattle.atlas_model.specs.Cuts.{rest_of}
use Rattle.atlas_model.specs.Choice.{Options, AreValid, rounded, IsPick, HasRoom, HasNoRoom}
use Rattle.atlas_model.specs.Pixels.{box_of}
use Rattle.atlas_model.specs.States.{State, live_in, free_in, IsSound}

-- The order of the free boxes has no meaning.
pub record SimpleState : Type 0 where
  pub free : List Box
  pub size : Sides
  pub options : Options

-- What each simple allocator keeps.
pub record IsSimple (s : SimpleState) : Type 0 where
  pub nonempty : IsPositive s.size
  pub valid : AreValid s.options
  pub boxes : All (λ b. IsNonempty b × IsWithin s.size b) s.free
  pub disjoint : AreDisjoint s.free

abbrev pub simple_start : Sides → Options → SimpleState
simple_start size options = record { free = whole_box size ∷ []; size = size; options = options }

-- Whether a part is neither narrower nor lower than the alignment.
abbrev pub is_kept : Options → Box → Bool
is_kept o b = nat_le o.alignment.width (box_sides b).width && nat_le o.alignment.height (box_sides b).height

-- What is kept of a box cut for a request.
abbrev pub kept_rest : Options → Box → Sides → List Box
kept_rest o f r = filter (is_kept o) (rest_of f r)

-- From old a request is granted this box, and new is left: the picked box gives way to what is kept of it.
pub record SimplyGrants (old : SimpleState) (s : Sides) (box : Box) (new : SimpleState) : Type 0 where
  pub positive : IsPositive s
  pub picked : Box
  pub pick : IsPick old.free old.options (rounded old.options s) picked
  pub granted : box ≡ box_at picked.min (rounded old.options s)
  pub free : AreSameBoxes (picked ∷ new.free) (kept_rest old.options picked (rounded old.options s) ++ old.free)
  pub size : new.size ≡ old.size
  pub options : new.options ≡ old.options

-- What a growth to a new size adds: what is kept of the new size cut for the old one.
abbrev pub added_by : SimpleState → Sides → List Box
added_by s n = kept_rest s.options (whole_box n) s.size

-- From old to new by a growth: parts are added, and none is merged with another.
pub record SimplyGrows (old : SimpleState) (n : Sides) (new : SimpleState) : Type 0 where
  pub free : AreSameBoxes new.free (added_by old n ++ old.free)
  pub size : new.size ≡ n
  pub options : new.options ≡ old.options

-- To new by a start from an atlas: each of its free boxes once, its size and its options.
pub record StartsFrom (source : State) (new : SimpleState) : Type 0 where
  pub sound : IsSound source
  pub free : AreSameBoxes new.free (free_in source)
  pub size : new.size ≡ source.size
  pub options : new.options ≡ source.options

-- A list of boxes that are held: inside the allocator, and disjoint from each other and from the free boxes.
pub record IsGuarded (s : SimpleState) (held : List Box) : Type 0 where
  pub within : All (λ b. IsWithin s.size b) held
  pub disjoint : AreDisjoint (held ++ s.free)

-- The live boxes of an atlas.
abbrev pub live_boxes : State → List Box
live_boxes s = map (λ g. g.box) (live_in s)

-- The calls; a start takes over from an atlas in the state `source`.
pub data SimpleAtlasCall : Type 0 where
  Allocate : (request : Sides) → SimpleAtlasCall
  Grow : (size : Sides) → SimpleAtlasCall
  Clear : SimpleAtlasCall
  Reset : (size : Sides) → (options : Options) → SimpleAtlasCall
  Start : (source : State) → SimpleAtlasCall

-- The answers to calls.
pub data SimpleAnswer : Type 0 where
  Granted : (box : Box) → SimpleAnswer
  NoRoom : SimpleAnswer
  Done : SimpleAnswer
  Refused : (error : AtlasError) → SimpleAnswer
  BadCall : SimpleAnswer

-- From old a call may have this answer and lead to new.
abbrev pub SimpleStep : SimpleState → SimpleAtlasCall → SimpleAnswer → SimpleState → Type 0
SimpleStep old (Allocate r) NoRoom new = HasNoRoom old.free old.options r × (new ≡ old)
SimpleStep old (Allocate r) (Granted box) new = SimplyGrants old r box new
-- Memory is asked for only where there is room.
SimpleStep old (Allocate r) (Refused Memory) new = HasRoom old.free old.options r × (new ≡ old)
-- No side may shrink.
SimpleStep old (Grow n) BadCall new = (Fits old.size n → ⊥) × (new ≡ old)
SimpleStep old (Grow n) Done new = Fits old.size n × SimplyGrows old n new
-- Memory is asked for only where a part is added.
SimpleStep old (Grow n) (Refused Memory) new = Fits old.size n × (added_by old n ≢ []) × (new ≡ old)
-- A clearing always succeeds.
SimpleStep old Clear Done new = new ≡ simple_start old.size old.options
-- A reset asks for a size that isn't empty and for valid options.
SimpleStep old (Reset n o) BadCall new = (IsPositive n × AreValid o → ⊥) × (new ≡ old)
SimpleStep old (Reset n o) Done new = IsPositive n × AreValid o × (new ≡ simple_start n o)
SimpleStep old (Start source) Done new = StartsFrom source new
SimpleStep old (Start source) (Refused Memory) new = new ≡ old
-- No other answer comes.
SimpleStep old call answer new = ⊥

-- What a request is answered, as the model sees it.
abbrev pub simple_answer : Result (Option Rectangle) AtlasError → SimpleAnswer
simple_answer (Ok (Some rectangle)) = Granted (box_of rectangle)
simple_answer (Ok None) = NoRoom
simple_answer (Err error) = Refused error

-- Of a call that gives nothing back.
abbrev pub simple_done : Result (Unit {0}) AtlasError → SimpleAnswer
simple_done (Ok _) = Done
simple_done (Err error) = Refused error
