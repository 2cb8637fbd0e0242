-- The step relation of an atlas: which replies each call may have, and the states that they lead to.
use Rattle.std.specs.Prelude.{◌≡◌, ℕ, ◌+◌, ◌<◌, ◌≤◌, List}
use Rattle.atlas_model.specs.declared.error.AtlasError.{AtlasError}
use Rattle.atlas_model.specs.declared.error.AtlasError.TheVariants.{Memory, Slots, NotLive}
use Rattle.atlas_model.specs.Boxes.{Sides, Box, Fits, IsPositive, box_at}
use Rattle.atlas_model.specs.Choice.{Options, AreValid, rounded, IsPick, HasNoRoom}
use Rattle.atlas_model.specs.Trees.{Tree, Grant, ids, slot_count}
use Rattle.atlas_model.specs.Changes.{fresh, only, place_need, grow_need}
use Rattle.atlas_model.specs.States.{State, live_in, free_in, used_in, IsLive, started, after_placing, after_freeing}
use Rattle.atlas_model.specs.States.{after_growth, after_refit}
use Rattle.atlas_model.specs.Refits.{Rearrangement, Refits, RefitPasses, IsRefitOrder}

pub data AtlasCall : Type 0 where
  Allocate : (request : Sides) → AtlasCall
  Deallocate : (id : ℕ) → AtlasCall
  Grow : (size : Sides) → AtlasCall
  Clear : AtlasCall
  Reset : (size : Sides) → (options : Options) → AtlasCall
  Rearrange : AtlasCall
  ResizeAndRearrange : (size : Sides) → AtlasCall

pub data AtlasReply : Type 0 where
  Allocated : (grant : Grant) → AtlasReply
  NoRoom : AtlasReply
  Done : AtlasReply
  Changed : (list : Rearrangement) → AtlasReply
  Refused : (error : AtlasError) → AtlasReply
  BadCall : AtlasReply

-- A positive request takes the free box f.
pub record Takes (s : State) (request : Sides) (f : Box) : Type 0 where
  pub positive : IsPositive request
  pub pick : IsPick (free_in s) s.options (rounded s.options request) f

-- How many members there are once the request is placed in f.
abbrev pub nodes_with : State → (request : Sides) → (f : Box) → ℕ
nodes_with s request f = used_in s + place_need s.size f (rounded s.options request) s.tree

-- How many members there are after a growth.
abbrev pub nodes_grown : State → Sides → ℕ
nodes_grown s n = used_in s + grow_need s.size n s.tree

-- The request is placed in f and granted under an id of an unused slot.
pub record Grants (old : State) (request : Sides) (f : Box) (g : Grant) (new : State) : Type 0 where
  pub takes : Takes old request f
  pub room : nodes_with old request f ≤ old.limit
  pub unused : slot_count g.id (ids old.tree.members) ≡ 0
  pub box : g.box ≡ box_at f.min (rounded old.options request)
  pub state : new ≡ after_placing old f (rounded old.options request) g.id

-- A rearranging into a new size and its replies.
abbrev pub Rearranges : State → Sides → AtlasReply → State → Type 0
Rearranges old n BadCall new = (IsPositive n → ⊥) × (new ≡ old)
Rearranges old n (Changed list) new =
    IsPositive n × (order : List Grant) × (t : Tree) × IsRefitOrder (live_in old) order
    × Refits n old.options old.limit (fresh n) order list t × (new ≡ after_refit old n t)
Rearranges old n (Refused Slots) new =
    IsPositive n × (order : List Grant) × IsRefitOrder (live_in old) order
    × RefitPasses n old.options old.limit (fresh n) order × (new ≡ old)
Rearranges old n (Refused Memory) new = IsPositive n × (new ≡ old)
-- No other reply comes.
Rearranges old n (Refused NotLive) new = ⊥
Rearranges old n (Allocated g) new = ⊥
Rearranges old n NoRoom new = ⊥
Rearranges old n Done new = ⊥

-- From old, the call may have this reply and lead to new.
abbrev pub Step : State → AtlasCall → AtlasReply → State → Type 0
-- An empty request has no room, and else one that fits no free box.
Step old (Allocate r) NoRoom new = HasNoRoom (free_in old) old.options r × (new ≡ old)
Step old (Allocate r) (Allocated g) new = (f : Box) × Grants old r f g new
-- The slots are counted before memory is asked for.
Step old (Allocate r) (Refused Slots) new = (f : Box) × Takes old r f × (old.limit < nodes_with old r f) × (new ≡ old)
-- Memory is asked for only where more members are used than ever since the last start.
Step old (Allocate r) (Refused Memory) new =
    (f : Box) × Takes old r f × (nodes_with old r f ≤ old.limit) × (old.kept < nodes_with old r f) × (new ≡ old)
Step old (Allocate r) (Refused NotLive) new = ⊥
Step old (Allocate r) Done new = ⊥
Step old (Allocate r) (Changed list) new = ⊥
Step old (Allocate r) BadCall new = ⊥
-- A freeing asks for no memory.
Step old (Deallocate id) Done new = IsLive old id × (new ≡ after_freeing old (only id))
Step old (Deallocate id) (Refused NotLive) new = (IsLive old id → ⊥) × (new ≡ old)
Step old (Deallocate id) (Refused Memory) new = ⊥
Step old (Deallocate id) (Refused Slots) new = ⊥
Step old (Deallocate id) (Allocated g) new = ⊥
Step old (Deallocate id) NoRoom new = ⊥
Step old (Deallocate id) (Changed list) new = ⊥
Step old (Deallocate id) BadCall new = ⊥
-- No side may shrink.
Step old (Grow n) BadCall new = (Fits old.size n → ⊥) × (new ≡ old)
Step old (Grow n) Done new = Fits old.size n × (nodes_grown old n ≤ old.limit) × (new ≡ after_growth old n)
Step old (Grow n) (Refused Slots) new = Fits old.size n × (old.limit < nodes_grown old n) × (new ≡ old)
Step old (Grow n) (Refused Memory) new =
    Fits old.size n × (nodes_grown old n ≤ old.limit) × (old.kept < nodes_grown old n) × (new ≡ old)
Step old (Grow n) (Refused NotLive) new = ⊥
Step old (Grow n) (Allocated g) new = ⊥
Step old (Grow n) NoRoom new = ⊥
Step old (Grow n) (Changed list) new = ⊥
-- A clearing always succeeds.
Step old Clear Done new = new ≡ started old.size old.options old.limit
Step old Clear (Allocated g) new = ⊥
Step old Clear NoRoom new = ⊥
Step old Clear (Changed list) new = ⊥
Step old Clear (Refused error) new = ⊥
Step old Clear BadCall new = ⊥
-- A reset asks for a size that isn't empty and for valid options.
Step old (Reset n o) BadCall new = (IsPositive n × AreValid o → ⊥) × (new ≡ old)
Step old (Reset n o) Done new = IsPositive n × AreValid o × (new ≡ started n o old.limit)
Step old (Reset n o) (Allocated g) new = ⊥
Step old (Reset n o) NoRoom new = ⊥
Step old (Reset n o) (Changed list) new = ⊥
Step old (Reset n o) (Refused error) new = ⊥
Step old Rearrange reply new = Rearranges old old.size reply new
Step old (ResizeAndRearrange n) reply new = Rearranges old n reply new
