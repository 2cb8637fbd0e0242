-- A grant is undone by its freeing.
use Rattle.std.proofs.Common.{rules, ◌≡◌, ℕ, ◌+◌, ◌≤◌, ◌==◌, Bool, true, false, cond, refl, ap, ap₂, sym, ◌∙◌, arith}
use Rattle.std.proofs.lemmas.List.Sums.{sum_by-cons, sum_by-append}
use Rattle.std.specs.List.{count_by}
use Rattle.atlas_model.specs.Boxes.{Axis, Position, Sides, Box, other, side, sized, moved, box_at, origin, box_sides}
use Rattle.atlas_model.specs.Boxes.{Fits}
use Rattle.atlas_model.specs.Boxes.Axis.{Horizontal, Vertical}
use Rattle.atlas_model.specs.Changes.{free_before, seq_before, nf, mark, and_id, put, placed, place, release}
use Rattle.atlas_model.specs.Cuts.{Cut}
use Rattle.atlas_model.specs.Cuts.Cut.{Whole}
use Rattle.atlas_model.specs.Trees.{Members, Tree, ids}
use Rattle.atlas_model.specs.Trees.Members.{End, Free, Alloc, Seq}
use Rattle.std.specs.List.{Contains}
use Rattle.atlas_model.proofs.TreeLemmas.TreeBasics.{one_if, same_box-true}
use Rattle.atlas_model.proofs.TreeLemmas.TreeIds.{count-absent}

-- What fits the box of a member is no longer than the member.
pub fits_along : (axis : Axis) (o : Position) (e across : ℕ) (r : Sides)
    → Fits r (box_sides (box_at o (sized axis e across))) → side axis r ≤ e
fits_along Horizontal o e across r h = omega (arith, h.0)
fits_along Vertical o e across r h = omega (arith, h.1)

put-undone : (s : ℕ → Bool) (c : Cut) (axis : Axis) (e across p q id : ℕ) (rest : Members) → s id ≡ true → p ≤ e
    → nf (mark s (put c axis e across p q id rest)) ≡ free_before e (nf (mark s rest))
put-undone s Whole axis e across p q id rest own fit = rw own refl
put-undone s c axis e across p q id rest own fit = grind arith

own_id : (s : ℕ → Bool) (id : ℕ) → and_id s id id ≡ true
own_id s id = grind arith

other_id : (s : ℕ → Bool) (id i : ℕ) → (i == id) ≡ false → and_id s id i ≡ s i
other_id s id i h = grind arith

no_count : (b : Bool) (n : ℕ) → one_if b + n ≡ 0 → b ≡ false
no_count true n h = absurd (omega arith)
no_count false n h = refl

alloc_marked : (a b : Bool) (e id : ℕ) (m m' : Members) → a ≡ b → nf m ≡ nf m'
    → nf (cond a (Free e m) (Alloc id e m)) ≡ nf (cond b (Free e m') (Alloc id e m'))
alloc_marked a true e id m m' same h = rw same (ap (free_before e) h)
alloc_marked a false e id m m' same h = rw same (ap (Alloc id e) h)

placed-undone : (s : ℕ → Bool) (f : Box) (r : Sides) (id : ℕ) → Fits r (box_sides f)
    → (axis : Axis) (o : Position) (across : ℕ) (m : Members) → count_by (λ k. k == id) (ids m) ≡ 0
    → nf (mark (and_id s id) (placed f r id axis o across m)) ≡ nf (mark s m)
placed-undone s f r id fit axis o across End absent = refl
placed-undone s f r id fit axis o across (Free e rest) absent =
    search (rules, placed-undone s f r id fit axis (moved axis o e) across rest absent, put-undone, own_id, fits_along, same_box-true)
placed-undone s f r id fit axis o across (Alloc i e rest) absent =
    let parts : one_if (i == id) + count_by (λ k. k == id) (ids rest) ≡ 0 =
    sym (sum_by-cons (λ k. one_if (k == id)) i (ids rest)) ∙ absent in
    let apart : (i == id) ≡ false = no_count (i == id) (count_by (λ k. k == id) (ids rest)) parts in
    alloc_marked (and_id s id i) (s i) e i (mark (and_id s id) (placed f r id axis (moved axis o e) across rest))
    (mark s rest) (other_id s id i apart) (placed-undone s f r id fit axis (moved axis o e) across rest (omega arith))
placed-undone s f r id fit axis o across (Seq e inner rest) absent =
    let parts : count_by (λ k. k == id) (ids inner) + count_by (λ k. k == id) (ids rest) ≡ 0 =
    sym (sum_by-append (λ k. cond (k == id) 1 0) (ids inner) (ids rest)) ∙ absent in
    ap₂ (seq_before e) (placed-undone s f r id fit (other axis) o e inner (omega arith))
    (placed-undone s f r id fit axis (moved axis o e) across rest (omega arith))

pub grant_undone : (size : Sides) (t : Tree) (f : Box) (r : Sides) (id : ℕ) (s : ℕ → Bool)
    → (Contains (ids t.members) id → ⊥) → Fits r (box_sides f)
    → release (and_id s id) (place size f r id t) ≡ release s t
grant_undone size t f r id s absent fit =
    ap (λ m. record { axis = t.axis; members = m })
    (placed-undone s f r id fit t.axis origin (side (other t.axis) size) t.members (count-absent id (ids t.members) absent))
