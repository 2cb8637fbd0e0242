-- Smaller and smaller sheets that are tried without guillotine cuts: the last one that was found, and the next smaller.
use Rattle.std.proofs.Common.{◌≡◌, ◌+◌, ◌-◌, ◌*◌, ◌<◌, ◌≤◌, ℕ, true, List, Option, Some, None, IfNone, IfSome, IsSome, MatchOption, is_some}
use Rattle.std.proofs.Common.{ap, inl, inr, sym, subst, arith}
use Rattle.std.proofs.lemmas.Bool.{cases_lt, false≢true}
use Rattle.guillotiere.specs.declared.Size.{Size}
use Rattle.guillotiere.specs.Boxes.{IsPositive, Sides}
use Rattle.guillotiere.specs.Pixels.{natural, sides_of}
use Rattle.atlas_sheet.specs.declared.allowed.Allowed.{Allowed}
use Rattle.atlas_sheet.specs.declared.allowed.Allowed.TheVariants as allowed
use Rattle.atlas_sheet.specs.declared.options.SheetOptions.{SheetOptions}
use Rattle.atlas_sheet.specs.Allowances.{ComesBefore, HasNoSmaller, IsAllowed, IsGreatest, IsNextSmaller, IsRow, IsUsable, nth_sides}
use Rattle.atlas_sheet.specs.Allowances.{pixels, row_length}
use Rattle.atlas_sheet.specs.Dense.{IsLeastDense, LeavesDense, NoneIsDense}
use Rattle.atlas_sheet.proofs.Rows.{before_nth, last_greatest, nth_allowed}
use Rattle.atlas_sheet.proofs.Steps.{fewer_pixels, next_same}

-- A later size of a row has more pixels.
nth_pixels : (by : Allowed) (j k : ℕ) → IsRow by → IsUsable by → j < k
    → pixels (nth_sides by j) < pixels (nth_sides by k)
nth_pixels (allowed.One size) j k row usable less =
    let h = natural size.height in
    let w = natural size.width in
    let more : (h + j) * w < (h + k) * w = fewer_pixels (h + j) w (h + k) w (omega (arith, less)) (omega arith) usable.0.0 in
    omega (arith, more)
nth_pixels (allowed.Squares least greatest) j k row usable less =
    let l = natural least in
    fewer_pixels (l + j) (l + j) (l + k) (l + k) (omega (arith, less)) (omega (arith, less)) (omega (arith, usable.0.0))
nth_pixels (allowed.Powers greatest) j k row usable less = absurd row
nth_pixels (allowed.Heights width greatest) j k row usable less =
    let w = natural width in
    let more : (1 + j) * w < (1 + k) * w = fewer_pixels (1 + j) w (1 + k) w (omega (arith, less)) (omega arith) usable.0.0 in
    omega (arith, more)

nth_below : (by : Allowed) (j k : ℕ) → IsRow by → IsUsable by → pixels (nth_sides by j) < pixels (nth_sides by k) → j < k
nth_below by j k row usable less = elim (cases_lt j k) [
  | inl below ↦ below
  | inr above ↦ elim (cases_lt k j) [
    | inl more ↦ let other = nth_pixels by k j row usable more in absurd (omega (arith, less, other))
    | inr few ↦
        let e : j ≡ k = omega (arith, above, few) in
        let same : pixels (nth_sides by j) ≡ pixels (nth_sides by k) = ap (λ n. pixels (nth_sides by n)) e in
        absurd (omega (arith, less, same))
  ]
]

-- An allowed sheet is one of the row.
allowed_nth : (by : Allowed) (s : Sides) → IsRow by → IsUsable by → IsAllowed by s
    → (k : ℕ) × (k < row_length by) × (s ≡ nth_sides by k)
allowed_nth (allowed.One size) s row usable is =
    let a = is.least in
    let b = is.greatest in
    let w : s.width ≡ natural size.width = omega (arith, a.0, b.0) in
    let h : s.height ≡ natural size.height + 0 = omega (arith, a.1, b.1) in
    (0, omega arith, λ i. record { width = w i; height = h i })
allowed_nth (allowed.Squares least greatest) s row usable is =
    let a = is.least in
    let b = is.greatest in
    let shape : s.width ≡ s.height = is.shape in
    let k = s.height - natural least in
    let h : s.height ≡ natural least + k = omega (arith, a.1) in
    let w : s.width ≡ natural least + k = omega (arith, shape, h) in
    let inside : k < natural greatest + 1 - natural least = omega (arith, a.1, b.1) in
    (k, inside, λ i. record { width = w i; height = h i })
allowed_nth (allowed.Powers greatest) s row usable is = absurd row
allowed_nth (allowed.Heights width greatest) s row usable is =
    let a = is.least in
    let b = is.greatest in
    let w : s.width ≡ natural width = omega (arith, a.0, b.0) in
    let k = s.height - 1 in
    let h : s.height ≡ 1 + k = omega (arith, a.1) in
    let inside : k < natural greatest + 1 - 1 = omega (arith, a.1, b.1) in
    (k, inside, λ i. record { width = w i; height = h i })

row_comes : (by : Allowed) (s sheet : Sides) → IsRow by → IsNextSmaller by sheet s → ComesBefore by s sheet
row_comes (allowed.One size) s sheet row next = next
row_comes (allowed.Squares least greatest) s sheet row next = next
row_comes (allowed.Powers greatest) s sheet row next = absurd row
row_comes (allowed.Heights width greatest) s sheet row next = next

-- A row in which all sizes up to `low` are known to leave a sprite, if they are smaller than the best sheet, and from `high` on none is
-- smaller.
pub record IsDensed {T : Type 0} (size_of : T → Sides) (o : SheetOptions) (sprites : List Size) (low high : ℕ) (best : Option T) : Type 0
  where
    pub order : low ≤ high
    pub within : high ≤ row_length o.allowed
    pub fails : 0 < low → LeavesDense o sprites (nth_sides o.allowed (low - 1))
    pub above : 0 < low → IfSome best (λ b. pixels (nth_sides o.allowed (low - 1)) < pixels (size_of b))
    pub known : MatchOption best (high ≡ row_length o.allowed)
        (λ b. high < row_length o.allowed → pixels (size_of b) ≤ pixels (nth_sides o.allowed high))

pub densed_first : {T : Type 0} (size_of : T → Sides) (o : SheetOptions) (sprites : List Size) (count : ℕ) (best : Option T)
    → count ≡ row_length o.allowed → IsDensed size_of o sprites 0 count best
densed_first {T} size_of o sprites count best is = record {
  order = omega arith;
  within = omega (arith, is);
  fails = λ some. absurd (omega (arith, some));
  above = λ some. absurd (omega (arith, some));
  known = at best;
}
  where
    at : (b : Option T) → MatchOption b (count ≡ row_length o.allowed)
        (λ b. count < row_length o.allowed → pixels (size_of b) ≤ pixels (nth_sides o.allowed count))
    at None = is
    at (Some b) = λ less. absurd (omega (arith, is, less))

module _ {T : Type 0} (size_of : T → Sides) (o : SheetOptions) (sprites : List Size) (low high middle : ℕ) (from : low ≤ middle)
    (to : middle < high)
    (row : IsRow o.allowed) (usable : IsUsable o.allowed) where
  -- The middle one leaves a sprite.
  pub densed_up : (found best next : Option T) → MatchOption found (next ≡ best) (λ t. next ≡ Some t)
      → IfSome found (λ t. size_of t ≡ nth_sides o.allowed middle)
      → IfNone found (IfSome best (λ b. pixels (nth_sides o.allowed middle) < pixels (size_of b)) →
      LeavesDense o sprites (nth_sides o.allowed middle))
      → IfSome next (λ b. pixels (nth_sides o.allowed middle) < pixels (size_of b))
      → IsDensed size_of o sprites low high best → IsDensed size_of o sprites (middle + 1) high next
  densed_up (Some t) best next is at left smaller before =
      let less : pixels (nth_sides o.allowed middle) < pixels (size_of t) =
      subst (λ b. IfSome b (λ b. pixels (nth_sides o.allowed middle) < pixels (size_of b))) is smaller in
      let same : pixels (size_of t) ≡ pixels (nth_sides o.allowed middle) = ap pixels at in
      absurd (omega (arith, less, same))
  densed_up None best next is at left smaller before =
      let less = subst (λ b. IfSome b (λ b. pixels (nth_sides o.allowed middle) < pixels (size_of b))) is smaller in
      let back : middle ≡ middle + 1 - 1 = omega arith in
      subst (IsDensed size_of o sprites (middle + 1) high) (sym is)
      (record {
        order = omega (arith, to);
        within = before.within;
        fails = λ _. subst (λ n. LeavesDense o sprites (nth_sides o.allowed n)) back (left less);
        above = λ _. subst (λ n. IfSome best (λ b. pixels (nth_sides o.allowed n) < pixels (size_of b))) back less;
        known = before.known;
      })

  -- The middle one is no smaller than the best, or was found.
  pub densed_down : (found best next : Option T) → MatchOption found (next ≡ best) (λ t. next ≡ Some t)
      → IfSome found (λ t. size_of t ≡ nth_sides o.allowed middle)
      → (IfSome next (λ b. pixels (nth_sides o.allowed middle) < pixels (size_of b)) → ⊥)
      → IsDensed size_of o sprites low high best → IsDensed size_of o sprites low middle next
  densed_down (Some t) best next is at not before =
      let same : pixels (size_of t) ≡ pixels (nth_sides o.allowed middle) = ap pixels at in
      subst (IsDensed size_of o sprites low middle) (sym is)
      (record {
        order = from;
        within = omega (arith, to, before.within);
        fails = before.fails;
        above = λ some.
            let less = nth_pixels o.allowed (low - 1) middle row usable (omega (arith, some, from)) in
            omega (arith, less, same);
        known = λ _. omega (arith, same);
      })
  densed_down None None next is at not before = absurd (not (subst (λ b. IfSome b
      (λ b. pixels (nth_sides o.allowed middle) < pixels (size_of b))) (sym is) tt))
  densed_down None (Some b) next is at not before =
      subst (IsDensed size_of o sprites low middle) (sym is)
      (record {
        order = from;
        within = omega (arith, to, before.within);
        fails = before.fails;
        above = before.above;
        known = λ _. elim (cases_lt (pixels (nth_sides o.allowed middle)) (pixels (size_of b))) [
          | inl less ↦ absurd (not (subst (λ b. IfSome b (λ b. pixels (nth_sides o.allowed middle) < pixels (size_of b))) (sym is) less))
          | inr more ↦ more
        ];
      })

-- The end of the row.
module _ {T : Type 0} (size_of : T → Sides) (o : SheetOptions) (sprites : List Size) (low high : ℕ) (row : IsRow o.allowed)
    (usable : IsUsable o.allowed)
    (end : high ≤ low) where
  pub densed_least : (best : Option T) → IfSome best (λ b. IsAllowed o.allowed (size_of b)) → IsDensed size_of o sprites low high best
      → IfSome best (λ b. IsLeastDense o sprites (size_of b))
  densed_least None is going = tt
  densed_least (Some b) is going = λ s fits next.
      let here = allowed_nth o.allowed (size_of b) row usable is in
      let j = here.0 in
      let one = before_nth o.allowed j s row fits (subst (ComesBefore o.allowed s) here.2 (row_comes o.allowed s (size_of b) row next)) in
      let same : pixels (size_of b) ≡ pixels (nth_sides o.allowed j) = ap pixels here.2 in
      let some : 0 < j = one.0 in
      let ended : low ≡ high = omega (arith, end, going.order) in
      let below : j ≤ low = elim (cases_lt low j) [
        | inl less ↦
            let room : high < row_length o.allowed = omega (arith, ended, less, here.1) in
            let few : pixels (size_of b) ≤ pixels (nth_sides o.allowed high) = going.known room in
            let more = nth_pixels o.allowed high j row usable (omega (arith, ended, less)) in
            absurd (omega (arith, few, more, same))
        | inr few ↦ few
      ] in
      let begun : 0 < low = omega (arith, some, below) in
      let above : pixels (nth_sides o.allowed (low - 1)) < pixels (size_of b) = going.above begun in
      let past : low - 1 < j = nth_below o.allowed (low - 1) j row usable (omega (arith, above, same)) in
      let at : low ≡ j = omega (arith, below, past, begun) in
      subst (LeavesDense o sprites) (sym one.1) (subst (λ n. LeavesDense o sprites (nth_sides o.allowed (n - 1))) at (going.fails begun))

  pub densed_none : (best : Option T) → 0 < row_length o.allowed → IsDensed size_of o sprites low high best
      → IfNone best (NoneIsDense o sprites)
  densed_none (Some b) some going = tt
  densed_none None some going =
      let last : high ≡ row_length o.allowed = going.known in
      let same : low ≡ row_length o.allowed = omega (arith, end, going.order, last) in (
        nth_sides o.allowed (row_length o.allowed - 1),
        record {
          allowed = nth_allowed o.allowed (row_length o.allowed - 1) row usable (omega (arith, some));
          greatest = λ s is. last_greatest o.allowed s row usable is;
        },
        subst (λ n. LeavesDense o sprites (nth_sides o.allowed (n - 1))) same (going.fails (omega (arith, same, some))),
      )

-- The size that is tried next: the greatest, if none was found, or else the one that is a step smaller.
pub record IsTrying {T : Type 0} (size_of : T → Sides) (o : SheetOptions) (best : Option T) (next : Option Size) : Type 0 where
  pub allowed : IfSome next (λ s. IsAllowed o.allowed (sides_of s))
  pub positive : IfSome next (λ s. IsPositive (sides_of s))
  pub first : IfNone best (IfSome next (λ s. IsGreatest o.allowed (sides_of s)))
  pub some : IfNone best (IsSome next)
  pub step : IfSome best (λ b. MatchOption next (HasNoSmaller o.allowed (size_of b))
      (λ s. IsNextSmaller o.allowed (size_of b) (sides_of s) × (pixels (sides_of s) < pixels (size_of b))))

-- How many pixels are left to be tried.
abbrev pub pixels_left : Option Size → ℕ
pixels_left None = 0
pixels_left (Some s) = pixels (sides_of s) + 1

module _ {T : Type 0} (size_of : T → Sides) (o : SheetOptions) (sprites : List Size) where
  -- It leaves a sprite.

  pub tried_least : (best : Option T) (size : Size) → IsTrying size_of o best (Some size)
      → (IfSome best (λ b. pixels (sides_of size) < pixels (size_of b)) → LeavesDense o sprites (sides_of size))
      → IfSome best (λ b. IsLeastDense o sprites (size_of b))
  tried_least None size trying left = tt
  tried_least (Some b) size trying left = λ s is smaller.
      subst (LeavesDense o sprites) (next_same o.allowed (size_of b) (sides_of size) s trying.allowed is trying.step.0 smaller)
      (left trying.step.1)

  pub tried_none : (best : Option T) (size : Size) → IsTrying size_of o best (Some size)
      → (IfSome best (λ b. pixels (sides_of size) < pixels (size_of b)) → LeavesDense o sprites (sides_of size))
      → IfNone best (NoneIsDense o sprites)
  tried_none None size trying left = (sides_of size, trying.first, left tt)
  tried_none (Some b) size trying left = tt

  -- There is none.

  pub ended_least : (best : Option T) → IsTrying size_of o best None → IfSome best (λ b. IsLeastDense o sprites (size_of b))
  ended_least None trying = tt
  ended_least (Some b) trying = λ s is smaller. absurd (trying.step s is smaller)

  pub ended_none : (best : Option T) → IsTrying size_of o best None → IfNone best (NoneIsDense o sprites)
  ended_none None trying = absurd (false≢true trying.some)
  ended_none (Some b) trying = tt

  -- It was found, and fewer pixels are left.
  pub found_falls : (found : Option T) (size : Size) (next : Option Size) → is_some found ≡ true
      → IfSome found (λ t. size_of t ≡ sides_of size)
      → IsTrying size_of o found next → pixels_left next < pixels_left (Some size)
  found_falls None size next some at trying = absurd (false≢true some)
  found_falls (Some t) size None some at trying = omega arith
  found_falls (Some t) size (Some s) some at trying =
      let same : pixels (size_of t) ≡ pixels (sides_of size) = ap pixels at in
      let less = trying.step.1 in
      omega (arith, same, less)
