-- Sheets that are one step smaller.
use Rattle.std.proofs.Common.{◌≡◌, ◌+◌, ◌*◌, ◌/◌, ◌^◌, ◌<◌, ◌≤◌, ℕ, ℤ, zero, suc, ap, sym, subst, ◌∙◌, inl, inr, arith}
use Rattle.std.proofs.Math.Nat.{mul-le-mul_left}
use Rattle.std.proofs.lemmas.Nat.{pow-add}
use Rattle.guillotiere.specs.declared.Size.{Size}
use Rattle.guillotiere.specs.Boxes.{Sides}
use Rattle.guillotiere.specs.Pixels.{natural}
use Rattle.atlas_sheet.specs.declared.allowed.Allowed.{Allowed}
use Rattle.atlas_sheet.specs.declared.allowed.Allowed.TheVariants as allowed
use Rattle.atlas_sheet.specs.Allowances.{HasHalfOf, HasNoSmaller, IsAllowed, IsNextSmaller, IsPowerOfTwo, IsUsable, least_sides, pixels}

pub fewer_pixels : (a b c d : ℕ) → a < c → b ≤ d → 0 < d → a * b < c * d
fewer_pixels a b c d less le some =
    let x : a * b ≤ a * d = mul-le-mul_left a le in
    let y : d * (a + 1) ≤ d * c = mul-le-mul_left d (omega arith) in
    omega arith

half : (w : ℕ) → IsPowerOfTwo w → 1 < w → IsPowerOfTwo (w / 2)
half w (zero, is) more = absurd (omega arith)
half w (suc k, is) more =
    let twice : 2 ^ (k + 1) ≡ 2 ^ k * 2 = pow-add 2 k 1 in
    let one : 2 ^ suc k ≡ 2 ^ (k + 1) = ap (λ n. 2 ^ n) (omega arith) in
    (k, omega arith)

at_squares : (least greatest : ℤ) (s t : Sides) → IsAllowed (allowed.Squares least greatest) s
    → IsUsable (allowed.Squares least greatest)
    → natural least < s.width → t.width + 1 ≡ s.width → t.height + 1 ≡ s.height
    → IsAllowed (allowed.Squares least greatest) t × (pixels t < pixels s)
at_squares least greatest s t is usable more w h =
    let shape : s.width ≡ s.height = is.shape in
    let room = is.greatest in
    let positive : 0 < natural least = usable.0.0 in
    let same : t.width ≡ t.height = omega arith in (
      record { least = (omega arith, omega arith); greatest = (omega arith, omega arith); shape = same },
      fewer_pixels t.width t.height s.width s.height (omega arith) (omega arith) (omega arith),
    )

pub square_down : (by : Allowed) (least greatest : ℤ) (s t : Sides) → by ≡ allowed.Squares least greatest
    → IsAllowed by s → IsUsable by
    → (least_sides by).width < s.width → t.width + 1 ≡ s.width → t.height + 1 ≡ s.height
    → IsAllowed by t × (pixels t < pixels s)
square_down by least greatest s t e is usable more w h =
    subst (λ b. IsAllowed b t × (pixels t < pixels s)) (sym e)
    (at_squares least greatest s t (subst (λ b. IsAllowed b s) e is) (subst IsUsable e usable)
    (subst (λ b. (least_sides b).width < s.width) e more) w h)

at_heights : (width greatest : ℤ) (s t : Sides) → IsAllowed (allowed.Heights width greatest) s
    → IsUsable (allowed.Heights width greatest)
    → 1 < s.height → t.width ≡ s.width → t.height + 1 ≡ s.height
    → IsAllowed (allowed.Heights width greatest) t × (pixels t < pixels s)
at_heights width greatest s t is usable more w h =
    let least = is.least in
    let room = is.greatest in
    let positive : 0 < natural width = usable.0.0 in
    let less : t.height * t.width < s.height * s.width = fewer_pixels t.height t.width s.height s.width (omega arith) (omega arith)
    (omega arith) in
    (record { least = (omega arith, omega arith); greatest = (omega arith, omega arith); shape = tt }, omega arith)

pub height_down : (by : Allowed) (width greatest : ℤ) (s t : Sides) → by ≡ allowed.Heights width greatest
    → IsAllowed by s → IsUsable by
    → 1 < s.height → t.width ≡ s.width → t.height + 1 ≡ s.height → IsAllowed by t × (pixels t < pixels s)
height_down by width greatest s t e is usable more w h =
    subst (λ b. IsAllowed b t × (pixels t < pixels s)) (sym e)
    (at_heights width greatest s t (subst (λ b. IsAllowed b s) e is) (subst IsUsable e usable) more w h)

width_halved : (greatest : ℤ) (s t : Sides) → IsAllowed (allowed.Powers greatest) s → 1 < s.width
    → t.width ≡ s.width / 2 → t.height ≡ s.height → IsAllowed (allowed.Powers greatest) t × (pixels t < pixels s)
width_halved greatest s t is more w h =
    let least = is.least in
    let room = is.greatest in (
      record {
        least = (omega arith, omega arith);
        greatest = (omega arith, omega arith);
        shape = (subst IsPowerOfTwo (sym w) (half s.width is.shape.0 more), subst IsPowerOfTwo (sym h) is.shape.1);
      },
      fewer_pixels t.width t.height s.width s.height (omega arith) (omega arith) (omega arith),
    )

height_halved : (greatest : ℤ) (s t : Sides) → IsAllowed (allowed.Powers greatest) s → 1 < s.height
    → t.width ≡ s.width → t.height ≡ s.height / 2 → IsAllowed (allowed.Powers greatest) t × (pixels t < pixels s)
height_halved greatest s t is more w h =
    let least = is.least in
    let room = is.greatest in
    let less : t.height * t.width < s.height * s.width = fewer_pixels t.height t.width s.height s.width (omega arith) (omega arith)
    (omega arith) in (
      record {
        least = (omega arith, omega arith);
        greatest = (omega arith, omega arith);
        shape = (subst IsPowerOfTwo (sym w) is.shape.0, subst IsPowerOfTwo (sym h) (half s.height is.shape.1 more));
      },
      omega arith,
    )

at_powers : (greatest : ℤ) (s t : Sides) → IsAllowed (allowed.Powers greatest) s → HasHalfOf t s
    → IsAllowed (allowed.Powers greatest) t × (pixels t < pixels s)
at_powers greatest s t is (inl h) = width_halved greatest s t is h.0 h.2 h.3
at_powers greatest s t is (inr h) = height_halved greatest s t is h.0 h.2 h.3

pub halved : (by : Allowed) (greatest : ℤ) (s t : Sides) → by ≡ allowed.Powers greatest → IsAllowed by s → HasHalfOf t s
    → IsAllowed by t × (pixels t < pixels s)
halved by greatest s t e is half =
    subst (λ b. IsAllowed b t × (pixels t < pixels s)) (sym e) (at_powers greatest s t (subst (λ b. IsAllowed b s) e is) half)

-- Which sheet is one step smaller.

pub squares_next : (by : Allowed) (least greatest : ℤ) (s t : Sides) → by ≡ allowed.Squares least greatest
    → t.height + 1 ≡ s.height → IsNextSmaller by s t
squares_next by least greatest s t e h = subst (λ b. IsNextSmaller b s t) (sym e) h

pub heights_next : (by : Allowed) (width greatest : ℤ) (s t : Sides) → by ≡ allowed.Heights width greatest
    → t.height + 1 ≡ s.height → IsNextSmaller by s t
heights_next by width greatest s t e h = subst (λ b. IsNextSmaller b s t) (sym e) h

pub powers_next : (by : Allowed) (greatest : ℤ) (s t : Sides) → by ≡ allowed.Powers greatest → HasHalfOf t s
    → IsNextSmaller by s t
powers_next by greatest s t e h = subst (λ b. IsNextSmaller b s t) (sym e) h

at_one : (size : Size) (s : Sides) → IsAllowed (allowed.One size) s → HasNoSmaller (allowed.One size) s
at_one size s is t allowed next =
    let a = is.greatest in
    let b = allowed.least in
    absurd (omega (arith, a.1, b.1, next))

pub one_least : (by : Allowed) (size : Size) (s : Sides) → by ≡ allowed.One size → IsAllowed by s → HasNoSmaller by s
one_least by size s e is = subst (λ b. HasNoSmaller b s) (sym e) (at_one size s (subst (λ b. IsAllowed b s) e is))

least_square : (least greatest : ℤ) (s : Sides) → IsAllowed (allowed.Squares least greatest) s → s.width ≤ natural least
    → HasNoSmaller (allowed.Squares least greatest) s
least_square least greatest s is few t allowed next =
    let shape : s.width ≡ s.height = is.shape in
    let b = allowed.least in
    absurd (omega (arith, shape, few, b.1, next))

pub squares_least : (by : Allowed) (least greatest : ℤ) (s : Sides) → by ≡ allowed.Squares least greatest → IsAllowed by s
    → s.width ≤ (least_sides by).width → HasNoSmaller by s
squares_least by least greatest s e is few =
    subst (λ b. HasNoSmaller b s) (sym e)
    (least_square least greatest s (subst (λ b. IsAllowed b s) e is) (subst (λ b. s.width ≤ (least_sides b).width) e few))

least_height : (width greatest : ℤ) (s : Sides) → s.height ≤ 1 → HasNoSmaller (allowed.Heights width greatest) s
least_height width greatest s few t allowed next =
    let b = allowed.least in
    absurd (omega (arith, few, b.1, next))

pub heights_least : (by : Allowed) (width greatest : ℤ) (s : Sides) → by ≡ allowed.Heights width greatest → s.height ≤ 1
    → HasNoSmaller by s
heights_least by width greatest s e few = subst (λ b. HasNoSmaller b s) (sym e) (least_height width greatest s few)

least_power : (greatest : ℤ) (s : Sides) → s.width ≤ 1 → s.height ≤ 1 → HasNoSmaller (allowed.Powers greatest) s
least_power greatest s w h t allowed (inl next) = absurd (omega (arith, w, next.0))
least_power greatest s w h t allowed (inr next) = absurd (omega (arith, h, next.0))

pub powers_least : (by : Allowed) (greatest : ℤ) (s : Sides) → by ≡ allowed.Powers greatest → s.width ≤ 1 → s.height ≤ 1
    → HasNoSmaller by s
powers_least by greatest s e w h = subst (λ b. HasNoSmaller b s) (sym e) (least_power greatest s w h)

-- There is one at most.

halves : (s t u : Sides) → HasHalfOf t s → HasHalfOf u s → t ≡ u
halves s t u (inl a) (inl b) = λ i. record { width = (a.2 ∙ sym b.2) i; height = (a.3 ∙ sym b.3) i }
halves s t u (inl a) (inr b) = absurd (omega (arith, a.1, b.1))
halves s t u (inr a) (inl b) = absurd (omega (arith, a.1, b.1))
halves s t u (inr a) (inr b) = λ i. record { width = (a.2 ∙ sym b.2) i; height = (a.3 ∙ sym b.3) i }

pub next_same : (by : Allowed) (s t u : Sides) → IsAllowed by t → IsAllowed by u → IsNextSmaller by s t
    → IsNextSmaller by s u
    → t ≡ u
next_same (allowed.One size) s t u is also a b =
    let w : t.width ≡ u.width = let x = is.least in let y = is.greatest in let z = also.least in let v = also.greatest in
    omega (arith, x.0, y.0, z.0, v.0) in
    let h : t.height ≡ u.height = omega (arith, a, b) in
    λ i. record { width = w i; height = h i }
next_same (allowed.Squares least greatest) s t u is also a b =
    let x : t.width ≡ t.height = is.shape in
    let y : u.width ≡ u.height = also.shape in
    let h : t.height ≡ u.height = omega (arith, a, b) in
    let w : t.width ≡ u.width = omega (arith, x, y, h) in
    λ i. record { width = w i; height = h i }
next_same (allowed.Powers greatest) s t u is also a b = halves s t u a b
next_same (allowed.Heights width greatest) s t u is also a b =
    let w : t.width ≡ u.width = let x = is.least in let y = is.greatest in let z = also.least in let v = also.greatest in
    omega (arith, x.0, y.0, z.0, v.0) in
    let h : t.height ≡ u.height = omega (arith, a, b) in
    λ i. record { width = w i; height = h i }
