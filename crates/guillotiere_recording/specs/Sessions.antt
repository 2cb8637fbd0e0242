-- Sessions by names: the state of an atlas with a name for each live id, and what events make of it.
use Rattle.std.specs.Prelude.{◌≡◌, ℕ, List, [], ◌∷◌, map, All, Some, None}
use Rattle.guillotiere.specs.declared.Size.{Size}
use Rattle.guillotiere.specs.declared.Allocation.{Allocation}
use Rattle.guillotiere.specs.Boxes.{Sides, IsPositive}
use Rattle.guillotiere.specs.Choice.{Options, AreValid}
use Rattle.guillotiere.specs.Pixels.{sides_of, box_of}
use Rattle.guillotiere.specs.Trees.{Grant, grant, ids}
use Rattle.guillotiere.specs.States.{State, live_in, IsLive, IsSound, started}
use Rattle.guillotiere.specs.Refits.{Transfer, Rearrangement}
use Rattle.guillotiere.specs.Renaming.{renamed_grant, IsOneToOne}
use Rattle.guillotiere.specs.Replies.{grant_of, IsExact}
use Rattle.guillotiere.specs.Rearranging.{transfer_of, IsExactChange}
use Rattle.guillotiere.specs.Steps.{AtlasCall, Step}
use Rattle.guillotiere.specs.Steps as atlas
use Rattle.guillotiere.specs.Steps.AtlasReply.{Allocated, NoRoom, Done, Changed}
use Rattle.guillotiere_recording.specs.Events.{EventValue, ListValue}
use Rattle.guillotiere_recording.specs.Events.EventValue.{Allocate, Deallocate, Grow, Rearrange, ResizeAndRearrange}

-- A state of an atlas, and the name of each live id.
pub record Named : Type 0 where
  pub state : State
  pub name : ℕ → ℕ

-- Both grants under the name of the old id.
abbrev pub renamed_transfer : (ℕ → ℕ) → Transfer → Transfer
renamed_transfer name t = record { old = grant (name t.old.id) t.old.box; new = grant (name t.old.id) t.new.box }

-- The live names with their boxes.
abbrev pub named_boxes : Named → List Grant
named_boxes s = map (renamed_grant s.name) (live_in s.state)

abbrev pub IsLiveName : Named → (name : ℕ) → Type 0
IsLiveName s name = (id : ℕ) × IsLive s.state id × (s.name id ≡ name)

-- What each session keeps: the state is sound, and names and live ids go together one to one.
pub record IsNamed (s : Named) : Type 0 where
  pub sound : IsSound s.state
  pub limit : s.state.limit ≡ 16777216
  pub names : IsOneToOne s.name (ids s.state.tree.members)

-- What is live before and after keeps its name.
abbrev pub KeepsNames : Named → Named → Type 0
KeepsNames old new = (id : ℕ) → IsLive old.state id → IsLive new.state id → new.name id ≡ old.name id

-- A request is granted under a name that isn't live.
pub record GrantsUnder (old : Named) (request : Size) (a : Allocation) (new : Named) : Type 0 where
  pub id : ℕ
  pub step : Step old.state (atlas.Allocate (sides_of request)) (Allocated (grant id (box_of a.rectangle))) new.state
  pub exact : IsExact a.rectangle
  pub unused : IsLiveName old a.id → ⊥
  pub named : new.name id ≡ a.id
  pub kept : KeepsNames old new

-- The box of a live name is freed.
pub record FreesUnder (old : Named) (name : ℕ) (new : Named) : Type 0 where
  pub id : ℕ
  pub live : IsLive old.state id
  pub named : old.name id ≡ name
  pub step : Step old.state (atlas.Deallocate id) Done new.state
  pub kept : KeepsNames old new

-- A call rearranges, and the list is its answer with the names of the old ids. What is moved keeps its name.
pub record RearrangesUnder (old : Named) (asked : AtlasCall) (list : ListValue) (new : Named) : Type 0 where
  pub answer : Rearrangement
  pub step : Step old.state asked (Changed answer) new.state
  pub exact_changes : All IsExactChange list.changes
  pub exact_failures : All (λ (a : Allocation). IsExact a.rectangle) list.failures
  pub changes : map transfer_of list.changes ≡ map (renamed_transfer old.name) answer.changes
  pub failures : map grant_of list.failures ≡ map (renamed_grant old.name) answer.failures
  pub kept : All (λ t. new.name t.new.id ≡ old.name t.old.id) answer.changes

-- From old, the call of the event may have the answer of the event, under names, and lead to new.
abbrev pub Leads : Named → EventValue → Named → Type 0
Leads old (Allocate size None) new =
    Step old.state (atlas.Allocate (sides_of size)) NoRoom new.state × KeepsNames old new
Leads old (Allocate size (Some a)) new = GrantsUnder old size a new
Leads old (Deallocate name) new = FreesUnder old name new
Leads old (Grow size) new = Step old.state (atlas.Grow (sides_of size)) Done new.state × KeepsNames old new
Leads old (Rearrange list) new = RearrangesUnder old atlas.Rearrange list new
Leads old (ResizeAndRearrange size list) new = RearrangesUnder old (atlas.ResizeAndRearrange (sides_of size)) list new

-- The events lead on, one after the other.
abbrev pub LeadOn : Named → List EventValue → Named → Type 0
LeadOn old [] new = new ≡ old
LeadOn old (event ∷ events) new = (mid : Named) × Leads old event mid × LeadOn mid events new

-- An atlas of this size in which nothing is live; its names are of no matter.
abbrev pub fresh_session : Sides → Options → (name : ℕ → ℕ) → Named
fresh_session size options name = record { state = started size options 16777216; name = name }

-- The events lead on from a new atlas of this size with these options.
pub record Recorded (size : Sides) (options : Options) (events : List EventValue) (last : Named) : Type 0 where
  pub nonempty : IsPositive size
  pub valid : AreValid options
  pub name : ℕ → ℕ
  pub leads : LeadOn (fresh_session size options name) events last
