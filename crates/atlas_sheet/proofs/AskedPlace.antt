-- One sprite that asks for a place.
use Rattle.std.proofs.Common.{◌≡◌, ◌+◌, ◌-◌, ◌/◌, ◌%◌, ◌≤◌, ℕ, Bool, false, not, ◌&&◌, eqb, List, ◌∷◌, ◌++◌, All, ap, sym, subst, ◌∙◌}
use Rattle.std.proofs.Common.{Option, Some, None, IfSome, is_some, arith}
use Rattle.std.specs.List.{count_by}
use Rattle.std.proofs.Math.Nat.{add-mul-mod_self_right}
use Rattle.std.proofs.lemmas.Bool.{false≢true}
use Rattle.std.proofs.lemmas.Bool.Decides.{nat_tests}
use Rattle.std.proofs.lemmas.List.Elements.{All-cons, All-head, All-tail, All-contains, All-weaker}
use Rattle.guillotiere.specs.declared.Size.{Size}
use Rattle.guillotiere.specs.declared.Rectangle.{Rectangle}
use Rattle.guillotiere.specs.Boxes.{Sides, Box, Axis, IsInside, IsPositive, IsWithin, box_sides, covers}
use Rattle.atlas_model.specs.Boxes.Axis.{Horizontal, Vertical}
use Rattle.atlas_model.specs.Cuts.{cut_axis, split_along, leftover_along}
use Rattle.guillotiere.specs.Choice.{HasNoRoom, Options, rounded, up}
use Rattle.guillotiere.specs.Simple.{SimpleState, SimplyGrants, IsGuarded, is_kept, kept_rest}
use Rattle.guillotiere.proofs.ChoiceLemmas.RoundedSides.{up_least}
use Rattle.guillotiere.proofs.TreeLemmas.TreeBasics.{one_if}
use Rattle.guillotiere.proofs.ListLemmas.ListCounts.{count_by-cons, count_by-append}
use Rattle.atlas_model.proofs.SimpleLemmas.SimpleGrants.{count-none, none-count, kept_le}
use Rattle.atlas_sheet.specs.declared.options.Spacing.{Spacing}
use Rattle.atlas_sheet.specs.Sheets.{FindsPlace, IsOnGrid, asked_sides}

-- A granted box has room for the sides that were asked for.
pub granted_room : (old new : SimpleState) (s : Sides) (box : Box) → IsPositive old.options.alignment
    → SimplyGrants old s box new
    → (box.min.x + s.width ≤ box.max.x) × (box.min.y + s.height ≤ box.max.y)
granted_room old new s box positive grants =
    let a : box.min.x ≡ grants.picked.min.x = ap (λ b. b.min.x) grants.granted in
    let b : box.max.x ≡ grants.picked.min.x + up s.width old.options.alignment.width = ap (λ b. b.max.x) grants.granted in
    let c : box.min.y ≡ grants.picked.min.y = ap (λ b. b.min.y) grants.granted in
    let d : box.max.y ≡ grants.picked.min.y + up s.height old.options.alignment.height = ap (λ b. b.max.y) grants.granted in
    let w : s.width ≤ up s.width old.options.alignment.width = up_least s.width old.options.alignment.width positive.0 in
    let h : s.height ≤ up s.height old.options.alignment.height = up_least s.height old.options.alignment.height positive.1 in
    (omega arith, omega arith)

-- A sprite that asks leaves the options as they are.
pub keeps_options : (spacing : Spacing) (old new : SimpleState) (sprite : Size) (found : Option Rectangle)
    → FindsPlace spacing old sprite found new → new.options ≡ old.options
keeps_options spacing old new sprite None step = ap (λ s. s.options) step.1
keeps_options spacing old new sprite (Some place) step = step.1.options

-- A size that found no place finds none as long as nothing is granted.
pub refused_now : (spacing : Spacing) (old new : SimpleState) (sprite : Size) (found : Option Rectangle)
    (refused : Option Size)
    → FindsPlace spacing old sprite found new → IfSome refused (λ s. (s ≡ sprite) × (found ≡ None))
    → IfSome refused (λ s. HasNoRoom new.free new.options (asked_sides spacing.padding s))
refused_now spacing old new sprite found None step is = tt
refused_now spacing old new sprite None (Some s) step is =
    subst (λ (t : SimpleState). HasNoRoom t.free t.options (asked_sides spacing.padding s)) (sym step.1)
    (subst (λ (z : Size). HasNoRoom old.free old.options (asked_sides spacing.padding z)) (sym is.0) step.0)
refused_now spacing old new sprite (Some place) (Some s) step is = absurd (false≢true (sym (ap is_some is.1)))

pub keeps_positive : (spacing : Spacing) (old new : SimpleState) (sprite : Size) (found : Option Rectangle)
    → FindsPlace spacing old sprite found new → IsPositive old.options.alignment → IsPositive new.options.alignment
keeps_positive spacing old new sprite found step positive =
    subst (λ (o : Options). IsPositive o.alignment) (sym (keeps_options spacing old new sprite found step)) positive

-- Where a box lies in another, it covers no unit square that the other doesn't.
pub covers_inside : (small box : Box) (x y : ℕ) → IsInside small box
    → one_if (covers x y small) ≤ one_if (covers x y box)
covers_inside small box x y inside = grind (arith, nat_tests)

-- A part of a box that is held may be held in its place.
pub shrunk : (s : SimpleState) (box small : Box) (held : List Box) → IsInside small box → IsGuarded s (box ∷ held)
    → IsGuarded s (small ∷ held)
shrunk s box small held inside guarded = record {
  within =
      let whole = All-head (IsWithin s.size) box held guarded.within in
      All-cons (IsWithin s.size) small held (omega arith, omega arith) (All-tail (IsWithin s.size) box held guarded.within);
  disjoint = λ x y.
      let rest = held ++ s.free in
      let all : count_by (covers x y) (box ∷ rest) ≤ 1 = guarded.disjoint x y in
      let a : count_by (covers x y) (box ∷ rest) ≡ one_if (covers x y box) + count_by (covers x y) rest =
      count_by-cons (covers x y) box rest in
      let b : count_by (covers x y) (small ∷ rest) ≡ one_if (covers x y small) + count_by (covers x y) rest =
      count_by-cons (covers x y) small rest in
      let c : one_if (covers x y small) ≤ one_if (covers x y box) = covers_inside small box x y inside in
      let d : count_by (covers x y) (small ∷ rest) ≤ 1 = omega arith in
      d;
}

-- A step by a rounded side stays on multiples.
stays_on : (m n a : ℕ) → m % a ≡ 0 → (m + up n a) % a ≡ 0
stays_on m n a is = add-mul-mod_self_right m ((n + (a - 1)) / a) a ∙ is

-- What is left of a box begins on multiples of the alignment where the box does.
split_on_grid : (axis : Axis) (f : Box) (o : Options) (s : Sides) → IsOnGrid o.alignment f.min →
    IsOnGrid o.alignment (split_along axis f (rounded o s)).min
split_on_grid Horizontal f o s is = (stays_on f.min.x s.width o.alignment.width is.0, is.1)
split_on_grid Vertical f o s is = (is.0, stays_on f.min.y s.height o.alignment.height is.1)

leftover_on_grid : (axis : Axis) (f : Box) (o : Options) (s : Sides) → IsOnGrid o.alignment f.min →
    IsOnGrid o.alignment (leftover_along axis f (rounded o s)).min
leftover_on_grid Horizontal f o s is = (is.0, stays_on f.min.y s.height o.alignment.height is.1)
leftover_on_grid Vertical f o s is = (stays_on f.min.x s.width o.alignment.width is.0, is.1)

-- Whether a box begins elsewhere.
askew : Sides → Box → Bool
askew a b = not (eqb (b.min.x % a.width) 0 && eqb (b.min.y % a.height) 0)

not_askew : (a : Sides) (b : Box) → IsOnGrid a b.min → askew a b ≡ false
unfolding askew
not_askew a b is = grind (arith, nat_tests)

on_grid : (a : Sides) (b : Box) → askew a b ≡ false → IsOnGrid a b.min
unfolding askew
on_grid a b is = grind (arith, nat_tests)

-- All free boxes begin on multiples of the alignment, and so does each box that is granted.
abbrev pub AreOnGrid : Sides → List Box → Type 0
AreOnGrid a boxes = All (λ b. IsOnGrid a b.min) boxes

module _ (old new : SimpleState) (s : Sides) (box : Box) (grants : SimplyGrants old s box new)
    (each : AreOnGrid old.options.alignment old.free) where
  picked_on_grid : IsOnGrid old.options.alignment grants.picked.min
  picked_on_grid =
      All-contains (λ b. IsOnGrid old.options.alignment b.min) old.free grants.picked each grants.pick.best.candidate.fitting.is_free

  pub granted_on_grid : IsOnGrid old.options.alignment box.min
  granted_on_grid = subst (λ b. IsOnGrid old.options.alignment b.min) (sym grants.granted) picked_on_grid

  pub left_on_grid : AreOnGrid old.options.alignment new.free
  left_on_grid =
      let a = old.options.alignment in
      let f = grants.picked in
      let r = rounded old.options s in
      let axis = cut_axis (box_sides f) r in
      let bad : Box → Bool = askew a in
      let kept = kept_rest old.options f r in
      let none : count_by bad old.free ≡ 0 = count-none bad old.free (All-weaker (λ b. IsOnGrid a b.min) (λ b. bad b ≡ false) (not_askew a)
      old.free each) in
      let split : bad (split_along axis f r) ≡ false = not_askew a (split_along axis f r)
      (split_on_grid axis f old.options s picked_on_grid) in
      let leftover : bad (leftover_along axis f r) ≡ false = not_askew a (leftover_along axis f r)
      (leftover_on_grid axis f old.options s picked_on_grid) in
      let x : one_if (bad (split_along axis f r)) ≡ 0 = ap one_if split in
      let y : one_if (bad (leftover_along axis f r)) ≡ 0 = ap one_if leftover in
      let few : count_by bad kept ≤ one_if (bad (split_along axis f r)) + one_if (bad (leftover_along axis f r)) =
      kept_le (is_kept old.options) (split_along axis f r) (leftover_along axis f r) bad in
      let parts : count_by bad (kept ++ old.free) ≡ count_by bad kept + count_by bad old.free = count_by-append bad kept old.free in
      let same : count_by bad (f ∷ new.free) ≡ count_by bad (kept ++ old.free) = grants.free bad in
      let one : count_by bad (f ∷ new.free) ≡ one_if (bad f) + count_by bad new.free = count_by-cons bad f new.free in
      let all : count_by bad new.free ≡ 0 = omega arith in
      All-weaker (λ b. bad b ≡ false) (λ b. IsOnGrid a b.min) (on_grid a) new.free (none-count bad new.free all)
