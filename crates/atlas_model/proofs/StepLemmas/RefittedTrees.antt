-- What a rearranging keeps, moves and leaves out.
use Rattle.std.proofs.Common.{◌≡◌, ℕ, ◌+◌, ◌≤◌, List, [], ◌∷◌, ◌++◌, map, subst, subst₂, sym, ◌∙◌, arith, inl, inr}
use Rattle.std.proofs.Common.{Contains, IsPermutation, All}
use Rattle.std.proofs.lemmas.List.Elements.{All-nil, All-cons, All-head, All-tail}
use Rattle.std.proofs.lemmas.List.Sorted.{IsPermutation-refl, IsPermutation-sym, IsPermutation-trans}
use Rattle.std.proofs.lemmas.List.Sorted.{IsPermutation-cons, IsPermutation-middle, IsPermutation-append_right}
use Rattle.std.proofs.lemmas.List.Sorted.{All-permutation}
use Rattle.std.specs.List.{count_by}
use Rattle.atlas_model.specs.Boxes.{Position, Sides, Box, box_at, box_sides, Fits, IsPositive}
use Rattle.atlas_model.specs.Changes.{place}
use Rattle.atlas_model.specs.Choice.{Options, AreValid, rounded}
use Rattle.atlas_model.specs.Refits.{Transfer, Rearrangement, refit_sides, refit_nodes, Refits}
use Rattle.atlas_model.specs.States.{IsAligned}
use Rattle.atlas_model.specs.Trees.{Tree, Grant, grant, live, free_boxes, node_count, IsWellFormed, IsNormal}
use Rattle.atlas_model.proofs.ListLemmas.ListCounts.{count_by-cons, permuted_from_counts}
use Rattle.atlas_model.proofs.TreeLemmas.BoxLists.{same_grant, same_grant-itself, same_grant-true}
use Rattle.atlas_model.proofs.ChoiceLemmas.RoundedSides.{rounded_positive, rounded_aligned, rounded_same}
use Rattle.atlas_model.proofs.TreeLemmas.TreeBasics.{one_if}
use Rattle.atlas_model.proofs.TreeLemmas.TreePlacements.{place_well_formed, place_normal, place_live, request_inside}
use Rattle.atlas_model.proofs.TreeLemmas.TreeCounts.{place_nodes}
use Rattle.atlas_model.specs.Laws.TreeLaws.{PlacingsKeepTrees}

pub sides_at : (o : Position) (s : Sides) → box_sides (box_at o s) ≡ s
sides_at o s = grind arith

-- After a placing the grant is live, with all that was.
pub place_permuted : (size : Sides) (t : Tree) (f : Box) (r : Sides) (id : ℕ) → IsWellFormed size t
    → Contains (free_boxes size t) f → IsPositive r → Fits r (box_sides f)
    → IsPermutation (grant id (box_at f.min r) ∷ live size t) (live size (place size f r id t))
place_permuted size t f r id well at pos fit =
    permuted_from_counts same_grant same_grant-itself same_grant-true (grant id (box_at f.min r) ∷ live size t)
    (live size (place size f r id t)) (λ p.
    let a : count_by p (grant id (box_at f.min r) ∷ live size t) ≡ one_if (p (grant id (box_at f.min r))) + count_by p
    (live size t) = count_by-cons p (grant id (box_at f.min r)) (live size t) in
    let b : count_by p (live size (place size f r id t)) ≡ count_by p (live size t) + one_if
    (p (grant id (box_at f.min r))) = place_live size t f r id p well at pos fit in
    omega arith)

abbrev pub HasAlignedBox : Options → Grant → Type 0
HasAlignedBox o g = IsAligned o (box_sides g.box)

pub place_aligned : (size : Sides) (o : Options) (t : Tree) (f : Box) (s : Sides) (id : ℕ) → IsWellFormed size t
    → Contains (free_boxes size t) f → IsPositive (rounded o s) → Fits (rounded o s) (box_sides f)
    → All (HasAlignedBox o) (live size t) → All (HasAlignedBox o) (live size (place size f (rounded o s) id t))
place_aligned size o t f s id well at pos fit all =
    All-permutation (HasAlignedBox o) _ _ (place_permuted size t f (rounded o s) id well at pos fit)
    (All-cons (HasAlignedBox o) _ _ (subst (IsAligned o) (sym (sides_at f.min (rounded o s))) (rounded_aligned o s)) all)

-- The box of a grant that can be placed anew.
abbrev pub IsMovable : Options → Grant → Type 0
IsMovable o g = IsPositive (box_sides g.box) × IsAligned o (box_sides g.box)

abbrev pub HasKeptSides : Transfer → Type 0
HasKeptSides c = box_sides c.new.box ≡ box_sides c.old.box

pub record IsRefitted (size : Sides) (o : Options) (limit : ℕ) (t : Tree) (order : List Grant) (list : Rearrangement)
    (new : Tree) : Type 0 where
  pub well : IsWellFormed size new
  pub normal : IsNormal new.members
  pub aligned : All (HasAlignedBox o) (live size new)
  pub limited : node_count new.members ≤ limit
  pub before : IsPermutation order (map (λ c. c.old) list.changes ++ list.failures)
  pub after : IsPermutation (map (λ c. c.new) list.changes ++ live size t) (live size new)
  pub sides : All HasKeptSides list.changes

pub refitted : (size : Sides) (o : Options) (limit : ℕ) → AreValid o
    → (order : List Grant) (t : Tree) (list : Rearrangement) (new : Tree)
    → All (IsMovable o) order → IsWellFormed size t → IsNormal t.members → All (HasAlignedBox o) (live size t)
    → node_count t.members ≤ limit
    → Refits size o limit t order list new → IsRefitted size o limit t order list new
refitted size o limit valid [] t list new movable well normal aligned limited h =
    subst₂ (λ l n. IsRefitted size o limit t [] l n) (sym h.0) (sym h.1)
    (record {
      well = well;
      normal = normal;
      aligned = aligned;
      limited = limited;
      before = IsPermutation-refl [];
      after = IsPermutation-refl (live size t);
      sides = All-nil HasKeptSides;
    })
refitted size o limit valid (g ∷ gs) t list new movable well normal aligned limited
    (inl (f, id, rest, can, unused, room, is, then)) =
    let fitting = can.best.candidate.fitting in
    let here : IsMovable o g = All-head (IsMovable o) g gs movable in
    let pos : IsPositive (refit_sides o g) = rounded_positive o (box_sides g.box) valid here.0 in
    let same : refit_sides o g ≡ box_sides g.box = rounded_same o (box_sides g.box) valid here.1 in
    let count : node_count (place size f (refit_sides o g) id t).members ≡ refit_nodes size o t g f =
    place_nodes size t f (refit_sides o g) id in
    let more : IsRefitted size o limit (place size f (refit_sides o g) id t) gs rest new =
    refitted size o limit valid gs (place size f (refit_sides o g) id t) rest new (All-tail (IsMovable o) g gs movable)
    (place_well_formed size t f (refit_sides o g) id well pos fitting.fits unused)
    (place_normal size t f (refit_sides o g) id normal)
    (place_aligned size o t f (box_sides g.box) id well fitting.is_free pos fitting.fits aligned) (rw count room) then in
    subst (λ l. IsRefitted size o limit t (g ∷ gs) l new) (sym is)
    (record {
      well = more.well;
      normal = more.normal;
      aligned = more.aligned;
      limited = more.limited;
      before = IsPermutation-cons g gs _ more.before;
      after =
          IsPermutation-trans _ _ _ (IsPermutation-sym _ _
          (IsPermutation-middle (map (λ c. c.new) rest.changes) (grant id (box_at f.min (refit_sides o g))) (live size t)))
          (IsPermutation-trans _ _ _ (IsPermutation-append_right (map (λ c. c.new) rest.changes) _ _
          (place_permuted size t f (refit_sides o g) id well fitting.is_free pos fitting.fits)) more.after);
      sides = All-cons HasKeptSides (record { old = g; new = grant id (box_at f.min (refit_sides o g)) }) rest.changes
          (sides_at f.min (refit_sides o g) ∙ same) more.sides;
    })
refitted size o limit valid (g ∷ gs) t list new movable well normal aligned limited (inr (rest, cannot, is, then)) =
    let more : IsRefitted size o limit t gs rest new =
    refitted size o limit valid gs t rest new (All-tail (IsMovable o) g gs movable) well normal aligned limited then in
    subst (λ l. IsRefitted size o limit t (g ∷ gs) l new) (sym is)
    (record {
      well = more.well;
      normal = more.normal;
      aligned = more.aligned;
      limited = more.limited;
      before = IsPermutation-trans _ _ _ (IsPermutation-cons g gs _ more.before)
          (IsPermutation-sym _ _ (IsPermutation-middle (map (λ c. c.old) rest.changes) g rest.failures));
      after = more.after;
      sides = more.sides;
    })

pub placings_keep_trees : PlacingsKeepTrees
placings_keep_trees size t f r id well fits = record {
  well_formed = place_well_formed size t f r id well fits.positive fits.fits fits.unused;
  normal = place_normal size t f r id;
  live = place_permuted size t f r id well fits.is_free fits.positive fits.fits;
  inside = request_inside f r fits.positive fits.fits;
}
