-- Each step keeps what each atlas keeps.
use Rattle.std.proofs.Common.{rules, ◌≡◌, ℕ, ◌≤◌, ◌<◌, Bool, refl, subst, sym, arith, All}
use Rattle.std.proofs.lemmas.List.Elements.{All-nil, All-filter}
use Rattle.std.proofs.lemmas.List.Sorted.{All-permutation}
use Rattle.atlas_model.specs.Boxes.{Sides, Box, box_sides, Fits, IsPositive, IsNonempty}
use Rattle.atlas_model.specs.Changes.{only, release, grown, place, fresh}
use Rattle.atlas_model.specs.Choice.{Options, AreValid, rounded}
use Rattle.atlas_model.specs.Laws.StepLaws.{StepsKeep}
use Rattle.atlas_model.specs.Refits.{Rearrangement}
use Rattle.atlas_model.specs.States.{State, live_in, used_in, IsSound, started, after_freeing, after_growth}
use Rattle.atlas_model.specs.Steps.{Grants, Rearranges, nodes_with, nodes_grown}
use Rattle.atlas_model.specs.Steps.AtlasReply.{Changed}
use Rattle.atlas_model.specs.Trees.{Members, Tree, Grant, total, node_count, IsWellFormed, IsNormal}
use Rattle.atlas_model.specs.Trees.Members.{End}
use Rattle.atlas_model.proofs.TreeLemmas.BoxLists.{live_in_place}
use Rattle.atlas_model.proofs.ChoiceLemmas.RoundedSides.{rounded_positive}
use Rattle.atlas_model.proofs.StepLemmas.RefittedTrees.{HasAlignedBox, IsMovable, IsRefitted, refitted, place_aligned}
use Rattle.atlas_model.proofs.StepLemmas.Outcomes.{by_outcome}
use Rattle.atlas_model.proofs.TreeLemmas.TreeBasics.{side_positive}
use Rattle.atlas_model.proofs.TreeLemmas.TreePlacements.{place_well_formed, place_normal}
use Rattle.atlas_model.proofs.TreeLemmas.TreeKept.{release_well_formed, release_normal, grown_kept}
use Rattle.atlas_model.proofs.TreeLemmas.TreeCounts.{place_nodes, grow_nodes, release_nodes}
use Rattle.atlas_model.proofs.TreeLemmas.TreeLive.{live_release, live_grown}

some_nodes : (m : Members) → 0 < total m → 1 ≤ node_count m
some_nodes End h = absurd (omega arith)
some_nodes m h = omega arith

pub nodes_positive : (size : Sides) (t : Tree) → IsWellFormed size t → 1 ≤ node_count t.members
nodes_positive size t well = some_nodes t.members (subst (λ k. 0 < k) (sym well.along) (side_positive t.axis size well.nonempty))

pub fresh_well_formed : (n : Sides) → IsPositive n → IsWellFormed n (fresh n)
fresh_well_formed n pos = record { nonempty = pos; along = omega arith; cut = (pos.1, tt); apart = λ id. omega arith }

pub fresh_normal : (n : Sides) → IsNormal (fresh n).members
fresh_normal n = (refl, tt)

pub limit_positive : (s : State) → IsSound s → 1 ≤ s.limit
limit_positive s sound = grind (arith, nodes_positive)

pub started_sound : (s : State) (n : Sides) (o : Options) → IsSound s → IsPositive n → AreValid o
    → IsSound (started n o s.limit)
started_sound s n o sound pos valid = grind (arith, fresh_well_formed, fresh_normal, All-nil, limit_positive)

pub placing_sound : (s : State) (f : Box) (r : Sides) (g : Grant) (new : State) → IsSound s → Grants s r f g new
    → IsSound new
placing_sound s f r g new sound h =
    let fitting = h.takes.pick.best.candidate.fitting in
    let pos : IsPositive (rounded s.options r) = rounded_positive s.options r sound.valid h.takes.positive in
    let count : node_count (place s.size f (rounded s.options r) g.id s.tree).members ≡ nodes_with s r f =
    place_nodes s.size s.tree f (rounded s.options r) g.id in
    subst IsSound (sym h.state)
    (record {
      well_formed = place_well_formed s.size s.tree f (rounded s.options r) g.id sound.well_formed pos fitting.fits h.unused;
      normal = place_normal s.size s.tree f (rounded s.options r) g.id sound.normal;
      valid = sound.valid;
      aligned = place_aligned s.size s.options s.tree f r g.id sound.well_formed fitting.is_free pos fitting.fits sound.aligned;
      counted = omega arith;
      limited = omega (arith, count, h.room, sound.limited);
    })

pub freeing_sound : (s : State) (set : ℕ → Bool) → IsSound s → IsSound (after_freeing s set)
freeing_sound s set sound =
    let few : node_count (release set s.tree).members ≤ used_in s = release_nodes set s.tree in
    record {
      well_formed = release_well_formed s.size set s.tree sound.well_formed;
      normal = release_normal s.size set s.tree sound.well_formed;
      valid = sound.valid;
      aligned = subst (All (HasAlignedBox s.options)) (sym (live_release s.size set s.tree))
          (All-filter _ (HasAlignedBox s.options) (live_in s) sound.aligned);
      counted = omega arith;
      limited = omega (arith, few, sound.counted, sound.limited);
    }

pub growth_sound : (s : State) (n : Sides) → IsSound s → Fits s.size n → nodes_grown s n ≤ s.limit
    → IsSound (after_growth s n)
growth_sound s n sound fit room =
    let kept : IsWellFormed n (grown s.size n s.tree) × IsNormal (grown s.size n s.tree).members =
    grown_kept s.size n s.tree sound.well_formed sound.normal fit in
    let count : node_count (grown s.size n s.tree).members ≡ nodes_grown s n = grow_nodes s.size n s.tree in
    record {
      well_formed = kept.0;
      normal = kept.1;
      valid = sound.valid;
      aligned = subst (All (HasAlignedBox s.options)) (sym (live_grown s.size n s.tree fit)) sound.aligned;
      counted = omega arith;
      limited = omega (arith, count, room, sound.limited);
    }

-- What is live can be placed anew.
sides_positive : (b : Box) → IsNonempty b → IsPositive (box_sides b)
sides_positive b h = (omega (arith, h.0), omega (arith, h.1))

pub live_movable : (s : State) → IsSound s → All (IsMovable s.options) (live_in s)
live_movable s sound k d below = grind (arith, sides_positive, live_in_place)

pub step_refitted : (old new : State) (n : Sides) (list : Rearrangement) → IsSound old
    → (h : Rearranges old n (Changed list) new)
    → IsRefitted n old.options old.limit (fresh n) h.1 list h.2
step_refitted old new n list sound h =
    search (rules, refitted, All-permutation, live_movable, fresh_well_formed, fresh_normal, All-nil, limit_positive)

pub moving_sound : (old new : State) (n : Sides) (list : Rearrangement) → IsSound old
    → Rearranges old n (Changed list) new → IsSound new
moving_sound old new n list sound h =
    let all = step_refitted old new n list sound h in
    subst IsSound (sym h.5)
    (record {
      well_formed = all.well;
      normal = all.normal;
      valid = sound.valid;
      aligned = all.aligned;
      counted = omega arith;
      limited = all.limited;
    })

pub steps_keep : StepsKeep
steps_keep old new call reply sound =
    by_outcome old new (λ call reply. IsSound new)
    (λ call reply refused same. subst IsSound (sym same) sound)
    (λ r f g h. placing_sound old f r g new sound h)
    (λ id at is. subst IsSound (sym is) (freeing_sound old (only id) sound))
    (λ n fit room is. subst IsSound (sym is) (growth_sound old n sound fit room))
    (λ is. subst IsSound (sym is) (started_sound old old.size old.options sound sound.well_formed.nonempty sound.valid))
    (λ n o pos valid is. subst IsSound (sym is) (started_sound old n o sound pos valid))
    (λ call n list rare h. moving_sound old new n list sound h)
    call reply
