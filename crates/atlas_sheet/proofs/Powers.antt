-- Sheets whose sides are powers of two.
use Rattle.std.proofs.Common.{◌≡◌, ◌+◌, ◌-◌, ◌*◌, ◌^◌, ◌<◌, ◌≤◌, ◌⊎◌, ℕ, ℤ, List, Option, Some, None, IfSome, IfNone, false, is_some, ap}
use Rattle.std.proofs.Common.{sym, subst, refl, ◌∙◌, inl, inr, arith}
use Rattle.std.proofs.Math.Pow.{pow_mono}
use Rattle.std.proofs.lemmas.Bool.{cases_lt}
use Rattle.std.proofs.lemmas.Nat.{pow_below, pow_pos, pow-add}
use Rattle.guillotiere.specs.declared.Size.{Size}
use Rattle.guillotiere.specs.Boxes.{Sides}
use Rattle.guillotiere.specs.Pixels.{natural, sides_of}
use Rattle.atlas_sheet.specs.declared.options.Spacing.{Spacing}
use Rattle.atlas_sheet.specs.declared.allowed.Allowed.TheVariants as allowed
use Rattle.atlas_sheet.specs.declared.ways.Way.{Way}
use Rattle.atlas_sheet.specs.Allowances.{IsGreatest, IsShapedBefore, pixels, power_sides}
use Rattle.atlas_sheet.specs.Packings.{ArePacked, Packed, IsLeastFound, IsPowerPacked, NoShapePacks, NoWayPacks, NoneIsFound}
use Rattle.atlas_sheet.proofs.Maybes.{at_none}

-- The exponent of a power that doesn't pass a limit.
exponent : (a most limit : ℕ) → 2 ^ a ≤ limit → limit < 2 * 2 ^ most → a ≤ most
exponent a most limit le less = elim (cases_lt most a) [
  | inl above ↦
      let up : 2 ^ (most + 1) ≤ 2 ^ a = pow_mono (omega arith) in
      let twice : 2 ^ (most + 1) ≡ 2 ^ most * 2 = pow-add 2 most 1 in
      absurd (omega arith)
  | inr below ↦ below
]

pub small_exponent : (a side : ℕ) → 2 ^ a ≤ side → side < 2147483648 → a < 31
small_exponent a side le small = elim (cases_lt a 31) [
  | inl less ↦ less
  | inr more ↦ let up : 2 ^ 31 ≤ 2 ^ a = pow_mono more in let whole : 2147483648 ≤ 2 ^ a = up in absurd (omega arith)
]

-- Fewer pixels: the exponents together are less.
fewer : (a b c d : ℕ) → 2 ^ a * 2 ^ b < 2 ^ c * 2 ^ d → a + b < c + d
fewer a b c d less = elim (cases_lt (a + b) (c + d)) [
  | inl below ↦ below
  | inr above ↦
      let up : 2 ^ (c + d) ≤ 2 ^ (a + b) = pow_mono above in
      let e : 2 ^ (a + b) ≡ 2 ^ a * 2 ^ b = pow-add 2 a b in
      let f : 2 ^ (c + d) ≡ 2 ^ c * 2 ^ d = pow-add 2 c d in
      absurd (omega arith)
]

-- As many pixels: the exponents together are the same.
as_many : (a b c d : ℕ) → 2 ^ a * 2 ^ b ≡ 2 ^ c * 2 ^ d → a + b ≡ c + d
as_many a b c d same =
    let e : 2 ^ (a + b) ≡ 2 ^ a * 2 ^ b = pow-add 2 a b in
    let f : 2 ^ (c + d) ≡ 2 ^ c * 2 ^ d = pow-add 2 c d in
    elim (cases_lt (a + b) (c + d)) [
      | inl below ↦ let up : 2 ^ (a + b) < 2 ^ (c + d) = pow_below (a + b) (c + d) below in absurd (omega arith)
      | inr above ↦ elim (cases_lt (c + d) (a + b)) [
        | inl more ↦ let up : 2 ^ (c + d) < 2 ^ (a + b) = pow_below (c + d) (a + b) more in absurd (omega arith)
        | inr few ↦ omega (arith, above, few)
      ]
    ]

-- A shorter side has the smaller exponent.
exponent_less : (a b : ℕ) → 2 ^ a < 2 ^ b → a < b
exponent_less a b less = elim (cases_lt a b) [
  | inl below ↦ below
  | inr above ↦ let up : 2 ^ b ≤ 2 ^ a = pow_mono above in absurd (omega (arith, less, up))
]

-- The greatest sheet of powers of two.
pub powers_greatest : (most : ℕ) (greatest : ℤ) → 2 ^ most ≤ natural greatest → natural greatest < 2 * 2 ^ most
    → IsGreatest (allowed.Powers greatest) (power_sides most most)
powers_greatest most greatest power next =
    let c : 0 < 2 ^ most = pow_pos most in
    record {
      allowed = record { least = (c, c); greatest = (power, power); shape = ((most, refl), (most, refl)) };
      greatest = λ s is.
          let x = is.shape.0.0 in
          let y = is.shape.1.0 in
          let w : s.width ≡ 2 ^ x = is.shape.0.1 in
          let h : s.height ≡ 2 ^ y = is.shape.1.1 in
          let room = is.greatest in
          let a : 2 ^ x ≤ 2 ^ most = pow_mono (exponent x most (natural greatest) (omega arith) next) in
          let b : 2 ^ y ≤ 2 ^ most = pow_mono (exponent y most (natural greatest) (omega arith) next) in
          (omega arith, omega arith);
    }

module _ (ways : List Way) (most : ℕ) (spacing : Spacing) (sprites : List Size) where
  -- Into no sheet with fewer pixels one of the ways packs all.
  abbrev pub FailsUpTo : (sum : ℕ) → Type 0
  FailsUpTo sum = (j : ℕ) → j < sum → NoShapePacks ways most j spacing sprites

  -- Nor into one that is nearer to a square than those that are left: `half` is half of the exponents together.
  abbrev pub FailsOutside : (sum half flat : ℕ) → Type 0
  FailsOutside sum half flat =
      (wide high : ℕ) → wide + high ≡ sum → wide ≤ most → high ≤ most → half < wide + flat → half < high + flat
      → NoWayPacks ways (power_sides wide high) spacing sprites

  pub up_to_more : (sum : ℕ) → FailsUpTo sum → NoShapePacks ways most sum spacing sprites → FailsUpTo (sum + 1)
  up_to_more sum before here j below = elim (cases_lt j sum) [
    | inl less ↦ before j less
    | inr more ↦ let same : sum ≡ j = omega arith in subst (λ n. NoShapePacks ways most n spacing sprites) same here
  ]

  pub outside_more : (sum half flat less more : ℕ) → flat ≤ half → less ≡ half - flat → more ≡ sum - less
      → FailsOutside sum half flat
      → NoWayPacks ways (power_sides more less) spacing sprites
      → NoWayPacks ways (power_sides less more) spacing sprites
      → FailsOutside sum half (flat + 1)
  outside_more sum half flat less more inside is rest before fails_wide fails_high wide high together w h a b =
      elim (cases_lt half (wide + flat)) [
        | inl wide_in ↦ elim (cases_lt half (high + flat)) [
          | inl high_in ↦ before wide high together w h wide_in high_in
          | inr high_out ↦
              let e : less ≡ high = omega arith in
              let f : more ≡ wide = omega arith in
              subst (λ s. NoWayPacks ways s spacing sprites) (λ i. record { width = 2 ^ f i; height = 2 ^ e i }) fails_wide
        ]
        | inr wide_out ↦
            let e : less ≡ wide = omega arith in
            let f : more ≡ high = omega arith in
            subst (λ s. NoWayPacks ways s spacing sprites) (λ i. record { width = 2 ^ e i; height = 2 ^ f i }) fails_high
      ]

  -- What comes before the next wide one was tried, and before the next high one that wide one too.
  module _ (sum half flat less more : ℕ) (inside : flat ≤ half) (is : less ≡ half - flat) (rest : more ≡ sum - less)
      (halves : half + half ≤ sum) (before : FailsOutside sum half flat) (x y : ℕ) (together : x + y ≡ sum) (w : x ≤ most) (h : y ≤ most)
    where
      nearer_fails : x < more → y < more → NoWayPacks ways (power_sides x y) spacing sprites
      nearer_fails a b = before x y together w h (omega (arith, a, b)) (omega (arith, a, b))

      pub before_wide : IsShapedBefore (power_sides x y) (power_sides more less) → NoWayPacks ways (power_sides x y) spacing sprites
      before_wide (inl nearer) = nearer_fails (exponent_less x more nearer.0) (exponent_less y more nearer.1)
      before_wide (inr (inl nearer)) =
          let a = exponent_less x less nearer.0 in
          let b = exponent_less y less nearer.1 in
          absurd (omega (arith, a, b))
      before_wide (inr (inr turned)) =
          let wide : 2 ^ y < 2 ^ x = turned.2 in
          let long : 2 ^ more < 2 ^ less = omega (arith, turned.0, turned.1, wide) in
          let a = exponent_less more less long in
          absurd (omega (arith, a))

      pub before_high : NoWayPacks ways (power_sides more less) spacing sprites
          → IsShapedBefore (power_sides x y) (power_sides less more)
          → NoWayPacks ways (power_sides x y) spacing sprites
      before_high fails (inl nearer) =
          let a = exponent_less x less nearer.0 in
          let b = exponent_less y less nearer.1 in
          absurd (omega (arith, a, b))
      before_high fails (inr (inl nearer)) = nearer_fails (exponent_less x more nearer.0) (exponent_less y more nearer.1)
      before_high fails (inr (inr turned)) =
          subst (λ s. NoWayPacks ways s spacing sprites) (λ i. record { width = sym turned.0 i; height = sym turned.1 i }) fails

  -- The next ones are too long.
  pub outside_long : (sum half flat less more : ℕ) → less ≡ half - flat → more ≡ sum - less → most < more
      → FailsOutside sum half flat
      → NoShapePacks ways most sum spacing sprites
  outside_long sum half flat less more is rest long before wide high together w h =
      before wide high together w h (omega arith) (omega arith)

  pub outside_all : (sum half flat : ℕ) → half < flat → FailsOutside sum half flat
      → NoShapePacks ways most sum spacing sprites
  outside_all sum half flat end before wide high together w h = before wide high together w h (omega arith) (omega arith)

  -- What a try at a sheet of powers of two says.
  pub shape_packed : {T : Type 0} (size : T → Size) (packed : T → Packed) (found : Option T) (given : Size)
      (sum wide high : ℕ)
      → sides_of given ≡ power_sides wide high → wide + high ≡ sum → wide ≤ most → high ≤ most
      → IfSome found (λ s. size s ≡ given)
      → IfSome found (λ s. ArePacked ways (sides_of given) spacing sprites (packed s))
      → ((x y : ℕ) → x + y ≡ sum → x ≤ most → y ≤ most → IsShapedBefore (power_sides x y) (power_sides wide high)
      → NoWayPacks ways (power_sides x y) spacing sprites)
      → IfSome found (λ s. IsPowerPacked ways most sum spacing sprites (sides_of (size s)) (packed s))
  shape_packed size packed None given sum wide high sides together w h is good first = tt
  shape_packed size packed (Some sheet) given sum wide high sides together w h is good first = record {
    wide = wide;
    high = high;
    together = together;
    inside = (w, h);
    sides = ap sides_of is ∙ sides;
    good = subst (λ s. ArePacked ways (sides_of s) spacing sprites (packed sheet)) (sym is) good;
    first = first;
  }

  pub shape_fails : {T : Type 0} (found : Option T) (given : Size) (wide high : ℕ)
      → sides_of given ≡ power_sides wide high
      → is_some found ≡ false → IfNone found (NoWayPacks ways (sides_of given) spacing sprites)
      → NoWayPacks ways (power_sides wide high) spacing sprites
  shape_fails found given wide high sides empty fails = subst (λ s. NoWayPacks ways s spacing sprites) sides (at_none found empty fails)

  -- What is looked at before a sheet that was found.
  comes_fails : (x y sum : ℕ) (sheet : Sides) (packed : Packed) → FailsUpTo sum
      → IsPowerPacked ways most sum spacing sprites sheet packed → x ≤ most → y ≤ most
      → (pixels (power_sides x y) < pixels sheet) ⊎ ((pixels (power_sides x y) ≡ pixels sheet) × IsShapedBefore (power_sides x y) sheet)
      → NoWayPacks ways (power_sides x y) spacing sprites
  comes_fails x y sum sheet packed before found w h (inl less) =
      let wide = found.wide in
      let high = found.high in
      let there : pixels (power_sides x y) < pixels (power_sides wide high) =
      subst (λ t. pixels (power_sides x y) < pixels t) found.sides less in
      let sum_less : x + y < wide + high = fewer x y wide high there in
      before (x + y) (omega (arith, sum_less, found.together)) x y refl w h
  comes_fails x y sum sheet packed before found w h (inr (same, shaped)) =
      let wide = found.wide in
      let high = found.high in
      let there : pixels (power_sides x y) ≡ pixels (power_sides wide high) = same ∙ ap pixels found.sides in
      let together : x + y ≡ wide + high = as_many x y wide high there in
      found.first x y (together ∙ found.together) w h (subst (IsShapedBefore (power_sides x y)) found.sides shaped)

  module _ (greatest : ℤ) (power : 2 ^ most ≤ natural greatest) (next : natural greatest < 2 * 2 ^ most) where
    pub scan_found : (sum : ℕ) (sheet : Sides) (packed : Packed) → FailsUpTo sum
        → IsPowerPacked ways most sum spacing sprites sheet packed
        → IsLeastFound ways (allowed.Powers greatest) spacing sprites sheet packed
    scan_found sum sheet packed before found =
        let wide = found.wide in
        let high = found.high in
        let a : 2 ^ wide ≤ 2 ^ most = pow_mono found.inside.0 in
        let b : 2 ^ high ≤ 2 ^ most = pow_mono found.inside.1 in
        let c : 0 < 2 ^ wide = pow_pos wide in
        let d : 0 < 2 ^ high = pow_pos high in
        let sw : sheet.width ≡ 2 ^ wide = ap (λ t. t.width) found.sides in
        let sh : sheet.height ≡ 2 ^ high = ap (λ t. t.height) found.sides in
        record {
          allowed = record { least = (omega arith, omega arith); greatest = (omega arith, omega arith); shape = ((wide, sw), (high, sh)) };
          good = found.good;
          least = λ s is comes.
              let x = is.shape.0.0 in
              let y = is.shape.1.0 in
              let w : s.width ≡ 2 ^ x = is.shape.0.1 in
              let h : s.height ≡ 2 ^ y = is.shape.1.1 in
              let at : power_sides x y ≡ s = λ i. record { width = sym w i; height = sym h i } in
              let room = is.greatest in
              subst (λ t. NoWayPacks ways t spacing sprites) at
              (comes_fails x y sum sheet packed before found (exponent x most (natural greatest) (omega arith) next)
              (exponent y most (natural greatest) (omega arith) next)
              (subst (λ t. (pixels t < pixels sheet) ⊎ ((pixels t ≡ pixels sheet) × IsShapedBefore t sheet)) (sym at) comes));
        }

    pub scan_none : (sum : ℕ) → 2 * most < sum → FailsUpTo sum
        → NoneIsFound ways (allowed.Powers greatest) spacing sprites
    scan_none sum end before = record {
      sheet = power_sides most most;
      greatest = powers_greatest most greatest power next;
      fails = before (most + most) (omega arith) most most refl (omega arith) (omega arith);
    }
