-- What each simple allocator keeps is kept by a grant, and so are boxes that are held.
use Rattle.std.proofs.Common.{◌≡◌, ℕ, ◌+◌, ◌≤◌, Bool, true, false, cond, ◌&&◌, ◌||◌, ltb, leb, List, [], ◌∷◌, ◌++◌, Option, Some, None}
use Rattle.std.proofs.Common.{Result, Ok, Err, ◌⊎◌, refl, ap, sym, subst, arith, rules}
use Rattle.std.specs.Option.{IfSome}
use Rattle.std.specs.Result.{IfOk}
use Rattle.std.specs.List.{All, count_by, filter}
use Rattle.std.proofs.lemmas.Bool.{leb-true, and_parts}
use Rattle.std.proofs.lemmas.Bool.Decides.{nat_tests}
use Rattle.std.proofs.lemmas.List.Elements.{All-nil, All-cons, All-head, All-tail, All-append, All-contains, All-filter, filter_passes}
use Rattle.std.proofs.lemmas.List.Elements.{All-weaker}
use Rattle.std.proofs.lemmas.List.Sums.{sum_by-cons, sum_by-append}
use Rattle.atlas_model.specs.declared.geometry.Rectangle.{Rectangle}
use Rattle.atlas_model.specs.declared.error.AtlasError.{AtlasError}
use Rattle.atlas_model.specs.Pixels.{box_of}
use Rattle.atlas_model.specs.Boxes.{Sides, Box, Axis, box_at, box_sides, covers, Fits, IsPositive, IsNonempty, IsWithin}
use Rattle.atlas_model.specs.Boxes.Axis.{Horizontal, Vertical}
use Rattle.atlas_model.specs.Cuts.{cut_axis, split_along, leftover_along}
use Rattle.atlas_model.specs.Choice.{Options, AreValid, rounded}
use Rattle.atlas_model.specs.Simple.SimpleAtlasCall.{Allocate}
use Rattle.atlas_model.specs.Simple.{SimpleState, IsSimple, SimplyGrants, IsGuarded, is_kept, kept_rest, simple_start, SimpleStep}
use Rattle.atlas_model.specs.Simple.{simple_answer}

abbrev pub one_if : Bool → ℕ
one_if b = cond b 1 0

-- The parts of a box tile it.

-- A stretch cut in two: whether a place lies in the first part, in the second, in the whole.
AreParts : (first second whole : Bool) → Type 0
AreParts first second whole =
    ((first ≡ true) × (second ≡ false) × (whole ≡ true))
    ⊎ (((first ≡ false) × (second ≡ true) × (whole ≡ true))
    ⊎ ((first ≡ false) × (second ≡ false) × (whole ≡ false)))

abbrev lies : (low high x : ℕ) → Bool
lies low high x = leb low x && ltb x high

parts : (a c b x : ℕ) → a ≤ c → c ≤ b → AreParts (lies a c x) (lies c b x) (lies a b x)
unfolding AreParts
parts a c b x p q = grind (arith, nat_tests)

cells_across : (p1 p2 p q1 q2 q : Bool) → AreParts p1 p2 p → AreParts q1 q2 q
    → one_if (p1 && q1) + (one_if (p2 && q) + one_if (p1 && q2)) ≡ one_if (p && q)
unfolding AreParts
cells_across p1 p2 p q1 q2 q h k = grind arith

cells_down : (p1 p2 p q1 q2 q : Bool) → AreParts p1 p2 p → AreParts q1 q2 q
    → one_if (p1 && q1) + (one_if (p && q2) + one_if (p2 && q1)) ≡ one_if (p && q)
unfolding AreParts
cells_down p1 p2 p q1 q2 q h k = grind arith

-- Of a box that isn't empty and that a request fits, each unit square lies in the granted part, the split or the leftover.
pub squares_of_cut : (axis : Axis) (f : Box) (r : Sides) (x y : ℕ) → IsNonempty f → Fits r (box_sides f)
    → one_if (covers x y (box_at f.min r)) + (one_if (covers x y (split_along axis f r)) + one_if (covers x y (leftover_along axis f r))) ≡
    one_if (covers x y f)
squares_of_cut Horizontal f r x y nonempty fits = search (rules, cells_across, parts)
squares_of_cut Vertical f r x y nonempty fits = search (rules, cells_down, parts)

-- What is kept of a part covers no more than the part.
pub kept_le : (keep : Box → Bool) (a b : Box) (p : Box → Bool)
    → count_by p (filter keep (a ∷ b ∷ [])) ≤ one_if (p a) + one_if (p b)
kept_le keep a b p = grind arith

-- The free boxes and the granted one cover no unit square more often than the free boxes did.
pub grant-squares : (old new : SimpleState) (s : Sides) (box : Box) → IsSimple old → SimplyGrants old s box new
    → (x y : ℕ)
    → one_if (covers x y box) + count_by (covers x y) new.free ≤ count_by (covers x y) old.free
grant-squares old new s box simple grants x y =
    let r = rounded old.options s in
    let f = grants.picked in
    let fitting = grants.pick.best.candidate.fitting in
    let own = All-contains (λ b. IsNonempty b × IsWithin old.size b) old.free f simple.boxes fitting.is_free in
    let axis = cut_axis (box_sides f) r in
    let cut = squares_of_cut axis f r x y own.0 fitting.fits in
    let few = kept_le (is_kept old.options) (split_along axis f r) (leftover_along axis f r) (covers x y) in
    let e : one_if (covers x y box) ≡ one_if (covers x y (box_at f.min r)) = ap (λ b. one_if (covers x y b)) grants.granted in
    omega (
      arith,
      grants.free (covers x y),
      sum_by-cons (λ b. one_if (covers x y b)) f new.free,
      sum_by-append (λ b. one_if (covers x y b)) (kept_rest old.options f r) old.free,
      cut,
      few,
      e,
    )

-- A fact of all boxes, by a count of those that fail it.

pub count-none : (p : Box → Bool) (xs : List Box) → All (λ b. p b ≡ false) xs → count_by p xs ≡ 0
count-none p [] h = refl
count-none p (x ∷ xs) h =
    grind (arith, All-head, sum_by-cons, count-none p xs (All-tail (λ b. p b ≡ false) x xs h), All-tail)

pub none-count : (p : Box → Bool) (xs : List Box) → count_by p xs ≡ 0 → All (λ b. p b ≡ false) xs
none-count p [] e = All-nil (λ b. p b ≡ false)
none-count p (x ∷ xs) e =
    let c = sum_by-cons (λ b. one_if (p b)) x xs in
    All-cons (λ b. p b ≡ false) x xs (zero_if (p x) (omega arith)) (none-count p xs (omega arith))
  where
    zero_if : (b : Bool) → one_if b ≡ 0 → b ≡ false
    zero_if true h = absurd (omega arith)
    zero_if false h = refl

-- A box that is empty or passes the size.
pub misplaced : Sides → Box → Bool
misplaced size b = (leb b.max.x b.min.x || leb b.max.y b.min.y) || (ltb size.width b.max.x || ltb size.height b.max.y)

pub well_placed : (size : Sides) (b : Box) → misplaced size b ≡ false → IsNonempty b × IsWithin size b
unfolding misplaced
well_placed size b h = grind (arith, nat_tests)

pub not_misplaced : (size : Sides) (b : Box) → IsNonempty b × IsWithin size b → misplaced size b ≡ false
unfolding misplaced
not_misplaced size b h = grind (arith, nat_tests)

-- A part that is kept isn't empty and passes no size that its box doesn't.
pub kept-placed : (o : Options) (size : Sides) (axis : Axis) (f : Box) (r : Sides) → AreValid o → IsNonempty f
    → IsWithin size f → Fits r (box_sides f)
    → All (λ b. IsNonempty b × IsWithin size b) (filter (is_kept o) (split_along axis f r ∷ leftover_along axis f r ∷ []))
kept-placed o size axis f r valid nonempty within fits =
    grind (arith, All-cons, All-nil, All-filter, filter_passes, and_parts, leb-true)

grant-boxes : (old new : SimpleState) (s : Sides) (box : Box) → IsSimple old → SimplyGrants old s box new
    → All (λ b. IsNonempty b × IsWithin new.size b) new.free
grant-boxes old new s box simple grants =
    let r = rounded old.options s in
    let f = grants.picked in
    let fitting = grants.pick.best.candidate.fitting in
    let P : Sides → Box → Type 0 = λ size b. IsNonempty b × IsWithin size b in
    let own = All-contains (P old.size) old.free f simple.boxes fitting.is_free in
    let bad = misplaced old.size in
    let kept = kept-placed old.options old.size (cut_axis (box_sides f) r) f r simple.valid own.0 own.1 fitting.fits in
    let before : count_by bad (kept_rest old.options f r ++ old.free) ≡ 0 =
    count-none bad (kept_rest old.options f r ++ old.free)
    (All-weaker (P old.size) (λ b. bad b ≡ false) (not_misplaced old.size) (kept_rest old.options f r ++ old.free)
    (All-append (P old.size) (kept_rest old.options f r) old.free kept simple.boxes)) in
    let after : count_by bad new.free ≡ 0 = omega (arith, grants.free bad, sum_by-cons (λ b. one_if (bad b)) f new.free, before) in
    let here : All (P old.size) new.free = All-weaker (λ b. bad b ≡ false) (P old.size) (well_placed old.size) new.free
    (none-count bad new.free after) in
    subst (λ size. All (P size) new.free) (sym grants.size) here

-- A grant keeps what each simple allocator keeps.
pub grant-simple : (old new : SimpleState) (s : Sides) (box : Box) → IsSimple old → SimplyGrants old s box new
    → IsSimple new
grant-simple old new s box simple grants = record {
  nonempty = subst IsPositive (sym grants.size) simple.nonempty;
  valid = subst AreValid (sym grants.options) simple.valid;
  boxes = grant-boxes old new s box simple grants;
  disjoint = λ x y. omega (arith, simple.disjoint x y, grant-squares old new s box simple grants x y);
}

-- The boxes held and the granted one are held from then on.
pub grant-guarded : (old new : SimpleState) (s : Sides) (box : Box) (held : List Box) → IsSimple old
    → SimplyGrants old s box new
    → IsGuarded old held → IsGuarded new (box ∷ held)
grant-guarded old new s box held simple grants guarded = record {
  within =
      let f = grants.picked in
      let fitting = grants.pick.best.candidate.fitting in
      let own = All-contains (λ b. IsNonempty b × IsWithin old.size b) old.free f simple.boxes fitting.is_free in
      let granted : IsWithin old.size (box_at f.min (rounded old.options s)) =
      (omega (arith, own.0, own.1, fitting.fits), omega (arith, own.0, own.1, fitting.fits)) in
      let now : All (λ b. IsWithin old.size b) (box ∷ held) = All-cons (λ b. IsWithin old.size b) box held
      (subst (IsWithin old.size) (sym grants.granted) granted) guarded.within in
      subst (λ size. All (λ b. IsWithin size b) (box ∷ held)) (sym grants.size) now;
  disjoint = λ x y.
      let g = λ (b : Box). one_if (covers x y b) in
      omega (
        arith,
        guarded.disjoint x y,
        grant-squares old new s box simple grants x y,
        sum_by-append g (box ∷ held) new.free,
        sum_by-cons g box held,
        sum_by-append g held old.free,
      );
}

-- A new allocator.
pub start-simple : (size : Sides) (o : Options) → IsPositive size → AreValid o → IsSimple (simple_start size o)
start-simple size o positive valid = grind (arith, All-cons, All-nil)

-- A request.

pub step-guarded : (old new : SimpleState) (s : Sides) (result : Result (Option Rectangle) AtlasError) (held : List Box)
    → IsSimple old → SimpleStep old (Allocate s) (simple_answer result) new
    → IsGuarded old held
    → IfOk result (λ granted. IfSome granted (λ rectangle. IsGuarded new (box_of rectangle ∷ held)))
step-guarded old new s (Ok (Some rectangle)) held simple step guarded = grant-guarded old new s (box_of rectangle) held simple step guarded
step-guarded old new s (Ok None) held simple step guarded = tt
step-guarded old new s (Err error) held simple step guarded = tt
