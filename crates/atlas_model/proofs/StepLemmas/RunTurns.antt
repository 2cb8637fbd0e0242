-- How many turns a run takes.
use Rattle.std.proofs.Common.{◌≡◌, ℕ, ◌+◌, ◌*◌, ◌≤◌, List, [], ◌∷◌, ◌++◌, length, subst, sym, arith, inl, inr, All}
use Rattle.std.proofs.lemmas.List.Elements.{All-head, All-tail}
use Rattle.std.proofs.lemmas.List.Sorted.{All-permutation}
use Rattle.atlas_model.specs.Boxes.{Sides, Box, box_sides, IsPositive}
use Rattle.atlas_model.specs.Changes.{only, release, grown, place, fresh, place_need}
use Rattle.atlas_model.specs.Choice.{Options, AreValid}
use Rattle.atlas_model.specs.Refits.{Rearrangement, refit_sides, Refits}
use Rattle.atlas_model.specs.RunTurns.{grants_of, freeings_of, growths_of, moves_of, in_all, turns_within}
use Rattle.atlas_model.specs.States.{State, live_in, used_in, IsSound}
use Rattle.atlas_model.specs.Steps.{AtlasCall, AtlasReply, Step, Grants, Rearranges}
use Rattle.atlas_model.specs.Steps.AtlasReply.{Changed}
use Rattle.atlas_model.specs.Trees.{Tree, Grant, node_count, IsWellFormed}
use Rattle.atlas_model.proofs.StepLemmas.Outcomes.{by_outcome}
use Rattle.atlas_model.proofs.ChoiceLemmas.RoundedSides.{rounded_positive}
use Rattle.atlas_model.proofs.StepLemmas.RefittedTrees.{IsMovable}
use Rattle.atlas_model.proofs.StepLemmas.SoundSteps.{nodes_positive, fresh_well_formed, live_movable}
use Rattle.atlas_model.proofs.TreeLemmas.TreePlacements.{place_well_formed}
use Rattle.atlas_model.proofs.TreeLemmas.TreeCounts.{place_nodes, place_most, grow_nodes, grow_most, release_nodes}

-- Members of a refit: at most four for each box that is placed.

refit_most : (size : Sides) (o : Options) (limit : ℕ) → AreValid o
    → (order : List Grant) (t : Tree) (list : Rearrangement)
    (new : Tree) → All (IsMovable o) order → IsWellFormed size t → Refits size o limit t order list new
    → node_count new.members ≤ node_count t.members + 4 * length list.changes
refit_most size o limit valid [] t list new movable well h = grind arith
refit_most size o limit valid (g ∷ gs) t list new movable well (inl (f, id, rest, can, unused, room, is, then)) =
    let fitting = can.best.candidate.fitting in
    let here : IsMovable o g = All-head (IsMovable o) g gs movable in
    let pos : IsPositive (refit_sides o g) = rounded_positive o (box_sides g.box) valid here.0 in
    let count : node_count (place size f (refit_sides o g) id t).members ≡ node_count t.members + place_need size f (refit_sides o g) t =
    place_nodes size t f (refit_sides o g) id in
    let most : place_need size f (refit_sides o g) t ≤ 4 = place_most size t f (refit_sides o g) well pos fitting.fits in
    let more : node_count new.members ≤ node_count (place size f (refit_sides o g) id t).members + 4 * length rest.changes =
    refit_most size o limit valid gs (place size f (refit_sides o g) id t) rest new (All-tail (IsMovable o) g gs movable)
    (place_well_formed size t f (refit_sides o g) id well pos fitting.fits unused) then in
    subst (λ l. node_count new.members ≤ node_count t.members + 4 * length l.changes) (sym is) (omega arith)
refit_most size o limit valid (g ∷ gs) t list new movable well (inr (rest, cannot, is, then)) =
    grind (arith, refit_most size o limit valid gs t rest new (All-tail (IsMovable o) g gs movable) well then)

moved_most : (old new : State) (n : Sides) (list : Rearrangement) → IsSound old → Rearranges old n (Changed list) new
    → used_in new ≤ used_in old + 4 * length list.changes
moved_most old new n list sound h =
    let movable : All (IsMovable old.options) h.1 =
    All-permutation (IsMovable old.options) (live_in old) h.1 h.3.permuted (live_movable old sound) in
    let most : node_count h.2.members ≤ 1 + 4 * length list.changes =
    refit_most n old.options old.limit sound.valid h.1 (fresh n) list h.2 movable (fresh_well_formed n h.0) h.4 in
    let some : 1 ≤ used_in old = nodes_positive old.size old.tree sound.well_formed in
    subst (λ s. used_in s ≤ used_in old + 4 * length list.changes) (sym h.5) (omega arith)

-- What one call adds to the members.

abbrev pub adds_of : AtlasCall → AtlasReply → ℕ
adds_of call reply = 4 * grants_of call reply + 3 * growths_of call reply + 4 * moves_of call reply

granted_most : (old new : State) (r : Sides) (f : Box) (g : Grant) → IsSound old → Grants old r f g new
    → used_in new ≤ used_in old + 4
granted_most old new r f g sound h = grind (arith, rounded_positive, place_nodes, place_most)

grown_most : (old : State) (n : Sides) → node_count (grown old.size n old.tree).members ≤ used_in old + 3
grown_most old n = grind (arith, grow_nodes, grow_most)

pub members_added : (old new : State) (call : AtlasCall) (reply : AtlasReply) → IsSound old → Step old call reply new
    → used_in new ≤ used_in old + adds_of call reply
members_added old new call reply sound =
    let some : 1 ≤ used_in old = nodes_positive old.size old.tree sound.well_formed in
    by_outcome old new (λ call reply. used_in new ≤ used_in old + adds_of call reply)
    (λ call reply refused same. subst (λ s. used_in s ≤ used_in old + adds_of call reply) (sym same) (omega arith))
    (λ r f g h. let most : used_in new ≤ used_in old + 4 = granted_most old new r f g sound h in omega arith)
    (λ id at is. let few : node_count (release (only id) old.tree).members ≤ used_in old = release_nodes (only id) old.tree in
    subst (λ s. used_in s ≤ used_in old + 0) (sym is) (omega arith))
    (λ n fit room is. let most : node_count (grown old.size n old.tree).members ≤ used_in old + 3 = grown_most old n in
    subst (λ s. used_in s ≤ used_in old + 3) (sym is) (omega arith))
    (λ is. subst (λ s. used_in s ≤ used_in old + 0) (sym is) (omega arith))
    (λ n o pos valid is. subst (λ s. used_in s ≤ used_in old + 0) (sym is) (omega arith))
    (λ call n list rare h. let most : used_in new ≤ used_in old + 4 * length list.changes = moved_most old new n list sound h in
    omega arith)
    call reply

-- One call more.

pub in_all-more : (count : AtlasCall → AtlasReply → ℕ) (calls : List AtlasCall) (replies : List AtlasReply)
    (call : AtlasCall)
    (reply : AtlasReply) → length calls ≡ length replies
    → in_all count (calls ++ call ∷ []) (replies ++ reply ∷ []) ≡ in_all count calls replies + count call reply
in_all-more count [] [] call reply same = omega arith
in_all-more count [] (r ∷ replies) call reply same = absurd (omega arith)
in_all-more count (c ∷ calls) [] call reply same = absurd (omega arith)
in_all-more count (c ∷ calls) (r ∷ replies) call reply same =
    grind (arith, in_all-more count calls replies call reply (omega arith))

pub turns_within-more : (calls : List AtlasCall) (replies : List AtlasReply) (call : AtlasCall) (reply : AtlasReply)
    → length calls ≡ length replies
    → turns_within (calls ++ call ∷ []) (replies ++ reply ∷ []) ≡ turns_within calls replies + freeings_of call reply + adds_of call reply
turns_within-more calls replies call reply same = grind (arith, in_all-more)
