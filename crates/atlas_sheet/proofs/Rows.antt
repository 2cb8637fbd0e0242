-- The sizes of a row, each a pixel higher than the one before it.
use Rattle.std.proofs.Common.{◌≡◌, ◌+◌, ◌-◌, ◌<◌, ◌≤◌, ℕ, true, List, Option, Some, None, IfNone, IfSome, MatchOption, is_some, arith}
use Rattle.std.proofs.Common.{sym, subst, refl}
use Rattle.guillotiere.specs.declared.Size.{Size}
use Rattle.guillotiere.specs.Boxes.{Sides, Fits, IsPositive}
use Rattle.guillotiere.specs.Pixels.{natural}
use Rattle.atlas_sheet.specs.declared.options.Spacing.{Spacing}
use Rattle.atlas_sheet.specs.declared.allowed.Allowed.{Allowed}
use Rattle.atlas_sheet.specs.declared.allowed.Allowed.TheVariants as allowed
use Rattle.atlas_sheet.specs.declared.ways.Way.{Way}
use Rattle.atlas_sheet.specs.Allowances.{ComesBefore, IsAllowed, IsRow, IsUsable, nth_sides, row_length}
use Rattle.atlas_sheet.specs.Packings.{ArePacked, Packed, IsLeastFound, NoWayPacks, NoneIsFound}

-- Each of its sizes is allowed.
pub nth_allowed : (by : Allowed) (k : ℕ) → IsRow by → IsUsable by → k < row_length by → IsAllowed by (nth_sides by k)
nth_allowed (allowed.One size) k row usable inside =
    let room : k < natural size.height + 1 - natural size.height = inside in
    record { least = (omega arith, omega arith); greatest = (omega arith, omega arith); shape = tt }
nth_allowed (allowed.Squares least greatest) k row usable inside =
    let room : k < natural greatest + 1 - natural least = inside in
    record { least = (omega arith, omega arith); greatest = (omega arith, omega arith); shape = refl }
nth_allowed (allowed.Powers greatest) k row usable inside = absurd row
nth_allowed (allowed.Heights width greatest) k row usable inside =
    let room : k < natural greatest + 1 - 1 = inside in
    record { least = (omega arith, omega arith); greatest = (omega arith, omega arith); shape = tt }

-- A size that comes before the one at k is the one before it.
pub before_nth : (by : Allowed) (k : ℕ) (s : Sides) → IsRow by → IsAllowed by s → ComesBefore by s (nth_sides by k)
    → (0 < k) × (s ≡ nth_sides by (k - 1))
before_nth (allowed.One size) k s row is before =
    let next : s.height + 1 ≡ natural size.height + k = before in
    let a : s.width ≡ natural size.width = omega arith in
    let b : s.height ≡ natural size.height + (k - 1) = omega arith in
    (omega arith, (λ i. record { width = a i; height = b i }))
before_nth (allowed.Squares least greatest) k s row is before =
    let next : s.height + 1 ≡ natural least + k = before in
    let same : s.width ≡ s.height = is.shape in
    let a : s.width ≡ natural least + (k - 1) = omega arith in
    let b : s.height ≡ natural least + (k - 1) = omega arith in
    (omega arith, (λ i. record { width = a i; height = b i }))
before_nth (allowed.Powers greatest) k s row is before = absurd row
before_nth (allowed.Heights width greatest) k s row is before =
    let next : s.height + 1 ≡ 1 + k = before in
    let a : s.width ≡ natural width = omega arith in
    let b : s.height ≡ 1 + (k - 1) = omega arith in
    (omega arith, (λ i. record { width = a i; height = b i }))

-- No allowed size passes the last one.
pub last_greatest : (by : Allowed) (s : Sides) → IsRow by → IsUsable by → IsAllowed by s
    → Fits s (nth_sides by (row_length by - 1))
last_greatest (allowed.One size) s row usable is = (omega arith, omega arith)
last_greatest (allowed.Squares least greatest) s row usable is = (omega arith, omega arith)
last_greatest (allowed.Powers greatest) s row usable is = absurd row
last_greatest (allowed.Heights width greatest) s row usable is = (omega arith, omega arith)

module _ (ways : List Way) (by : Allowed) (spacing : Spacing) (sprites : List Size) where
  -- None of the ways packs into the size just below the one at `low`.
  abbrev pub FailsBelow : (low : ℕ) → Type 0
  FailsBelow low = 0 < low → NoWayPacks ways (nth_sides by (low - 1)) spacing sprites

  -- Found, and none packs just below.
  pub row_found : IsRow by → IsUsable by → (k : ℕ) (sheet : Sides) (found : Packed) → k < row_length by
      → sheet ≡ nth_sides by k
      → ArePacked ways sheet spacing sprites found → FailsBelow k → IsLeastFound ways by spacing sprites sheet found
  row_found row usable k sheet found inside at packed fails = record {
    allowed = subst (IsAllowed by) (sym at) (nth_allowed by k row usable inside);
    good = packed;
    least = λ s is before.
        let one = before_nth by k s row is (subst (ComesBefore by s) at before) in
        subst (λ t. NoWayPacks ways t spacing sprites) (sym one.1) (fails one.0);
  }

  -- Nothing found, and none packs at the end.
  pub row_none : IsRow by → IsUsable by → (low : ℕ) → 0 < row_length by → low ≡ row_length by → FailsBelow low
      → NoneIsFound ways by spacing sprites
  row_none row usable low some end fails = record {
    sheet = nth_sides by (row_length by - 1);
    greatest = record {
      allowed = nth_allowed by (row_length by - 1) row usable (omega arith);
      greatest = λ s is. last_greatest by s row usable is;
    };
    fails = subst (λ n. NoWayPacks ways (nth_sides by (n - 1)) spacing sprites) end (fails (omega arith));
  }

-- Of a row of `count` sizes, in which all up to `low` and the best one at `high` are known.
pub record IsSearched {T : Type 0} (sides : T → Sides) (packed : T → Packed) (ways : List Way) (by : Allowed) (spacing : Spacing)
    (sprites : List Size) (count low high : ℕ) (best : Option T) : Type 0 where
  pub order : low ≤ high
  pub within : high ≤ count
  pub fails : FailsBelow ways by spacing sprites low
  pub known : MatchOption best (high ≡ count) (λ sheet. (high < count) × (sides sheet ≡ nth_sides by high)
      × ArePacked ways (sides sheet) spacing sprites (packed sheet))

module _ {T : Type 0} (sides : T → Sides) (packed : T → Packed) (ways : List Way) (by : Allowed) (spacing : Spacing)
    (sprites : List Size) (count low high middle : ℕ) (found : Option T) (from : low ≤ middle) (to : middle < high) where
  pub went_down : (best : Option T) → IsSearched sides packed ways by spacing sprites count low high best
      → is_some found ≡ true
      → IfSome found (λ sheet. sides sheet ≡ nth_sides by middle)
      → IfSome found (λ sheet. ArePacked ways (sides sheet) spacing sprites (packed sheet))
      → IsSearched sides packed ways by spacing sprites count low middle found
  went_down best before is at good =
      let within : high ≤ count = before.within in
      record {
        order = from;
        within = omega arith;
        fails = before.fails;
        known = here found is at good (omega arith);
      }
    where
      here : (f : Option T) → is_some f ≡ true → IfSome f (λ sheet. sides sheet ≡ nth_sides by middle)
          → IfSome f (λ sheet. ArePacked ways (sides sheet) spacing sprites (packed sheet)) → middle < count
          → MatchOption f (middle ≡ count) (λ sheet. (middle < count) × (sides sheet ≡ nth_sides by middle) ×
          ArePacked ways (sides sheet) spacing sprites (packed sheet))
      here None e a p inside = cc
      here (Some x) e a p inside = (inside, a, p)

  pub went_up : (best : Option T) → IsSearched sides packed ways by spacing sprites count low high best
      → NoWayPacks ways (nth_sides by middle) spacing sprites
      → IsSearched sides packed ways by spacing sprites count (middle + 1) high best
  went_up best before fails = record {
    order = omega arith;
    within = before.within;
    fails = λ _. subst (λ n. NoWayPacks ways (nth_sides by n) spacing sprites) back fails;
    known = before.known;
  }
    where
      back : middle ≡ middle + 1 - 1
      back = omega arith

-- The end of a search.
module _ {T : Type 0} (sides : T → Sides) (packed : T → Packed) (ways : List Way) (by : Allowed) (spacing : Spacing)
    (sprites : List Size) (low high : ℕ) (row : IsRow by) (usable : IsUsable by) (some : 0 < row_length by) (end : high ≤ low) where
  pub ended_found : (best : Option T) → IsSearched sides packed ways by spacing sprites (row_length by) low high best
      → IfSome best (λ sheet. IsLeastFound ways by spacing sprites (sides sheet) (packed sheet))
  ended_found None going = tt
  ended_found (Some sheet) going =
      let same : low ≡ high = omega arith in
      row_found ways by spacing sprites row usable high (sides sheet) (packed sheet) going.known.0 going.known.1 going.known.2
      (subst (FailsBelow ways by spacing sprites) same going.fails)

  pub ended_none : (best : Option T) → IsSearched sides packed ways by spacing sprites (row_length by) low high best
      → IfNone best (NoneIsFound ways by spacing sprites)
  ended_none None going =
      let last : high ≡ row_length by = going.known in
      row_none ways by spacing sprites row usable low some (omega arith) going.fails
  ended_none (Some sheet) going = tt

-- An allowed sheet isn't empty.
pub allowed_positive : (by : Allowed) (sheet : Sides) → IsUsable by → IsAllowed by sheet → IsPositive sheet
allowed_positive by sheet usable is =
    let least = is.least in
    (omega (arith, least.0, usable.0.0), omega (arith, least.1, usable.0.1))
