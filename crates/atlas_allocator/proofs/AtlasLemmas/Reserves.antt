-- Memory for slots that aren't used yet.
use Rattle.std.proofs.Common.{ℕ, ◌+◌, ◌<◌, ◌≤◌, ◌≡◌, Bool, refl, ap, arith, vec_capacity}
use Rattle.std.specs.Prelude.{Result, Ok, Err, OnOk, IfErr, ◌↔◌}
use Rattle.atlas_model.specs.Boxes.{Sides}
use Rattle.atlas_model.specs.Choice.{Options, rounded}
use Rattle.atlas_model.specs.States.{State, IsSound, used_in, started, after_freeing}
use Rattle.atlas_model.specs.Steps.{AtlasReply, Step}
use Rattle.atlas_model.specs.Steps.AtlasCall.{Allocate, Grow}
use Rattle.atlas_model.specs.Steps.AtlasReply.{Allocated, NoRoom, Done, Changed, Refused, BadCall}
use Rattle.atlas_model.specs.Trees.{node_count}
use Rattle.atlas_model.specs.declared.error.AtlasError.{AtlasError}
use Rattle.atlas_model.specs.declared.error.AtlasError.TheVariants.{Memory, Slots, NotLive}
use Rattle.atlas_store.specs.Reserves.{HasReserve}
use Rattle.atlas_store.specs.Slots.{nodes}
use Rattle.atlas_store.specs.Slots.Reading.{tree_of}
use Rattle.atlas_store.specs.Store.Holdings.{shelf_of}
use Rattle.atlas_store.specs.Stored.{Shelf, Stored, IsAtlas}
use Rattle.atlas_store.specs.declared.store.Store.{Store}
use Rattle.atlas_model.proofs.ChoiceLemmas.RoundedSides.{rounded_positive}
use Rattle.atlas_model.proofs.StepLemmas.SoundSteps.{nodes_positive}
use Rattle.atlas_model.proofs.TreeLemmas.TreeCounts.{place_nodes, place_most, grow_nodes, grow_most, release_nodes}
use Rattle.atlas_store.proofs.WalkLemmas.StoredAtlas.{used-IsAtlas}
use Rattle.atlas_store.specs.Store.Choosing.{IsShortOf}
use Rattle.atlas_store.specs.Slots.Placing.{slots_of}
use Rattle.atlas_store.specs.declared.slots.placing.Plan.{Plan}
use Rattle.atlas_store.specs.declared.slots.placing.Plan.TheVariants as plan

-- Slots are refused exactly if there would be more than the limit.
pub slots-refused : (Q : Type 0) (v : Stored) (a : IsAtlas v) (n kept : ℕ) (result : Result (Unit {0}) AtlasError)
    → OnOk result ((v.used + n ≤ v.limit) × Q) → IfErr result (IsShortOf v.used v.limit n kept)
    → (result ≡ Err Slots) ↔ (v.limit < node_count (tree_of (nodes v.shelf.slots)).members + n)
slots-refused Q v a n kept (Ok x) few short =
    ((λ e. absurd (cc)), (λ over. absurd (omega (arith, few.0, over, used-IsAtlas v a))))
slots-refused Q v a n kept (Err Slots) few short = ((λ e. omega (arith, short, used-IsAtlas v a)), (λ over. refl))
slots-refused Q v a n kept (Err Memory) few short =
    ((λ e. absurd (cc)), (λ over. absurd (omega (arith, short.0, over, used-IsAtlas v a))))
slots-refused Q v a n kept (Err NotLive) few short = absurd short

-- Where there is memory for n more slots than are used, they are in reserve.
pub made-ready : {A : Type 0} (v : Stored) (a : IsAtlas v) (made : Store A) (n turns : ℕ) → shelf_of made ≡ v.shelf
    → (result : Result (Unit {0}) AtlasError) → OnOk result (v.used + n ≤ vec_capacity made.slots)
    → OnOk result (HasReserve n (record {
      stored = record { shelf = shelf_of made; first = v.first; used = v.used; size = v.size; limit = v.limit };
      turns = turns;
      capacity = vec_capacity made.slots;
    }))
made-ready v a made n turns same (Ok x) ready =
    omega (arith, ready, used-IsAtlas v a, ap (λ (s : Shelf). node_count (tree_of (nodes s.slots)).members) same)
made-ready v a made n turns same (Err error) ready = tt

-- A plan takes at most four slots.
pub plan-few : (p : Plan) → slots_of p ≤ 4
plan-few plan.Whole = omega arith
plan-few (plan.StripAlong p) = omega arith
plan-few (plan.CornerAlong p q) = omega arith
plan-few (plan.StripAcross q) = omega arith
plan-few (plan.CornerAcross p q) = omega arith

-- A request uses at most four more slots.
pub request-few : (old new : State) (r : Sides) (reply : AtlasReply) → IsSound old → Step old (Allocate r) reply new
    → used_in new ≤ used_in old + 4
request-few old new r (Allocated g) sound step =
    let grants = step.1 in
    let f = step.0 in
    let size = rounded old.options r in
    let positive = rounded_positive old.options r sound.valid grants.takes.positive in
    omega (
      arith,
      ap used_in grants.state,
      place_nodes old.size old.tree f size g.id,
      place_most old.size old.tree f size sound.well_formed positive grants.takes.pick.best.candidate.fitting.fits,
    )
request-few old new r NoRoom sound step = omega (arith, ap used_in step.1)
request-few old new r (Refused Slots) sound step = omega (arith, ap used_in step.3)
request-few old new r (Refused Memory) sound step = omega (arith, ap used_in step.4)
request-few old new r (Refused NotLive) sound step = absurd step
request-few old new r Done sound step = absurd step
request-few old new r (Changed list) sound step = absurd step
request-few old new r BadCall sound step = absurd step

-- A growth uses at most three more.
pub growth-few : (old new : State) (n : Sides) → Step old (Grow n) Done new → used_in new ≤ used_in old + 3
growth-few old new n step =
    omega (arith, ap used_in step.2, grow_nodes old.size n old.tree, grow_most old.size n old.tree)

-- A freeing uses none.
pub freeing-few : (old new : State) (set : ℕ → Bool) → new ≡ after_freeing old set → used_in new ≤ used_in old + 0
freeing-few old new set is = omega (arith, ap used_in is, release_nodes set old.tree)

-- An atlas that is started again uses one.
pub start-few : (old new : State) (n : Sides) (o : Options) → IsSound old → new ≡ started n o old.limit
    → used_in new ≤ used_in old + 0
start-few old new n o sound is = omega (arith, ap used_in is, nodes_positive old.size old.tree sound.well_formed)
