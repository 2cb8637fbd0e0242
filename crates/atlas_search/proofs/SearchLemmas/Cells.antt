-- Cells and their halves.
use Rattle.std.proofs.Common.{◌≡◌, ◌≢◌, ℕ, ◌+◌, ◌-◌, ◌*◌, ◌/◌, ◌<◌, ◌≤◌, ◌⊎◌, Bool, true, false, inl, inr, refl, ap, sym, ◌∙◌, arith}
use Rattle.std.proofs.lemmas.Bool.{and_parts, eqb-true, eqb-false, ltb-true, ltb-false}
use Rattle.atlas_search.specs.declared.cells.Cell.{Cell}
use Rattle.atlas_model.specs.Boxes.{Sides, IsPositive}
use Rattle.atlas_search.specs.Forks.{HasHalves, IsCell, IsIn, IsSplit, cell_of, end_of, first_of, half, high, high_by, is_before_end}
use Rattle.atlas_search.specs.Forks.{is_beyond, is_cut_wide, low, low_by, middle}

-- How many sides a cell has.
abbrev pub breadth : Cell → ℕ
breadth c = (c.right - c.left) + (c.bottom - c.top)

middle-more : (first end : ℕ) → 0 < first → 1 < end - first → first < middle first end
middle-more first end some more = omega (arith, some, more)

middle-less : (first end : ℕ) → 0 < first → 1 < end - first → middle first end < end
middle-less first end some more = omega (arith, some, more)

middle-least : (first end : ℕ) → first ≤ middle first end
middle-least first end = omega arith

middle-most : (first end : ℕ) → first ≤ end → middle first end ≤ end
middle-most first end l = omega (arith, l)

-- A cell is divided by a side that has more than one value.
pub cut-wide : (c : Cell) → is_cut_wide c ≡ true → IsSplit c → 1 < c.right - c.left
unfolding is_cut_wide
cut-wide c e split = grind (arith, ltb-true, eqb-true)

pub cut-high : (c : Cell) → is_cut_wide c ≡ false → IsSplit c → 1 < c.bottom - c.top
unfolding is_cut_wide
cut-high c e split = grind (arith, ltb-false, eqb-true, eqb-false)

low-is_cell : (b : Bool) (c : Cell) → IsCell c → IsSplit c → is_cut_wide c ≡ b → IsCell (low_by b c)
low-is_cell true c is split e =
    let more = cut-wide c e split in
    record {
      left = is.left;
      right = omega (arith, middle-less c.left c.right is.left more, is.right);
      wide = middle-more c.left c.right is.left more;
      top = is.top;
      bottom = is.bottom;
      high = is.high;
    }
low-is_cell false c is split e =
    let more = cut-high c e split in
    record {
      left = is.left;
      right = is.right;
      wide = is.wide;
      top = is.top;
      bottom = omega (arith, middle-less c.top c.bottom is.top more, is.bottom);
      high = middle-more c.top c.bottom is.top more;
    }

high-is_cell : (b : Bool) (c : Cell) → IsCell c → IsSplit c → is_cut_wide c ≡ b → IsCell (high_by b c)
high-is_cell true c is split e =
    let more = cut-wide c e split in
    record {
      left = omega (arith, middle-more c.left c.right is.left more);
      right = is.right;
      wide = middle-less c.left c.right is.left more;
      top = is.top;
      bottom = is.bottom;
      high = is.high;
    }
high-is_cell false c is split e =
    let more = cut-high c e split in
    record {
      left = is.left;
      right = is.right;
      wide = is.wide;
      top = omega (arith, middle-more c.top c.bottom is.top more);
      bottom = is.bottom;
      high = middle-less c.top c.bottom is.top more;
    }

pub low-cell : (c : Cell) → IsCell c → IsSplit c → IsCell (low c)
low-cell c is split = low-is_cell (is_cut_wide c) c is split refl

pub high-cell : (c : Cell) → IsCell c → IsSplit c → IsCell (high c)
high-cell c is split = high-is_cell (is_cut_wide c) c is split refl

low-breadth : (b : Bool) (c : Cell) → IsCell c → IsSplit c → is_cut_wide c ≡ b → breadth (low_by b c) < breadth c
low-breadth true c is split e = omega (
  arith,
  middle-less c.left c.right is.left (cut-wide c e split),
  middle-more c.left c.right is.left (cut-wide c e split),
)
low-breadth false c is split e = omega (
  arith,
  middle-less c.top c.bottom is.top (cut-high c e split),
  middle-more c.top c.bottom is.top (cut-high c e split),
)

high-breadth : (b : Bool) (c : Cell) → IsCell c → IsSplit c → is_cut_wide c ≡ b → breadth (high_by b c) < breadth c
high-breadth true c is split e = omega (
  arith,
  middle-less c.left c.right is.left (cut-wide c e split),
  middle-more c.left c.right is.left (cut-wide c e split),
)
high-breadth false c is split e = omega (
  arith,
  middle-less c.top c.bottom is.top (cut-high c e split),
  middle-more c.top c.bottom is.top (cut-high c e split),
)

pub low-less : (c : Cell) → IsCell c → IsSplit c → breadth (low c) < breadth c
low-less c is split = low-breadth (is_cut_wide c) c is split refl

pub high-less : (c : Cell) → IsCell c → IsSplit c → breadth (high c) < breadth c
high-less c is split = high-breadth (is_cut_wide c) c is split refl

-- Sizes of the halves are sizes of the cell.
low-is_within : (b : Bool) (c : Cell) (s : Sides) → IsCell c → IsIn s (low_by b c) → IsIn s c
low-is_within true c s is h = record {
  left = h.left;
  right = omega (arith, h.right, middle-most c.left c.right (omega (arith, is.wide)));
  top = h.top;
  bottom = h.bottom;
}
low-is_within false c s is h = record {
  left = h.left;
  right = h.right;
  top = h.top;
  bottom =
      omega (arith, h.bottom, middle-most c.top c.bottom (omega (arith, is.high)));
}

high-is_within : (b : Bool) (c : Cell) (s : Sides) → IsIn s (high_by b c) → IsIn s c
high-is_within true c s h = record {
  left = omega (arith, h.left, middle-least c.left c.right);
  right = h.right;
  top = h.top;
  bottom =
      h.bottom;
}
high-is_within false c s h = record {
  left = h.left;
  right = h.right;
  top = omega (arith, h.top, middle-least c.top c.bottom);
  bottom =
      h.bottom;
}

pub low-within : (c : Cell) (s : Sides) → IsCell c → IsIn s (low c) → IsIn s c
low-within c s is h = low-is_within (is_cut_wide c) c s is h

pub high-within : (c : Cell) (s : Sides) → IsIn s (high c) → IsIn s c
high-within c s h = high-is_within (is_cut_wide c) c s h

-- What is divided by width, or by height, as the cell is.
pub by-cut : (c : Cell) (b : Bool) → (b ≡ true → is_cut_wide c ≡ true) → (b ≡ false → is_cut_wide c ≡ false) → b ≡ is_cut_wide c
by-cut c true wide tall = sym (wide refl)
by-cut c false wide tall = sym (tall refl)

pub halves-of : (c : Cell) (b : Bool) (l h : Cell) → b ≡ is_cut_wide c → l ≡ low_by b c → h ≡ high_by b c → HasHalves c l h
halves-of c b l h is low high = (low ∙ ap (λ k. low_by k c) is, high ∙ ap (λ k. high_by k c) is)

-- A half has fewer sides.
pub half-less : (b : Bool) (c : Cell) → IsCell c → IsSplit c → breadth (half b c) < breadth c
half-less true = low-less
half-less false = high-less

-- A cell with two sizes has more than one.
pub two-sizes : (c : Cell) (s t : Sides) → IsIn s c → IsIn t c → s ≢ t → IsSplit c
two-sizes c s t a b ne = grind arith

-- The cell of a size.
first-least : (n : ℕ) → first_of n ≤ n
unfolding first_of
first-least n = grind (arith, ltb-true, ltb-false)

end-more : (n : ℕ) → n ≤ 2147483647 → n < end_of n
unfolding end_of
end-more n l = grind (arith, ltb-true, ltb-false)

first-some : (n : ℕ) → 0 < n → 0 < first_of n
unfolding first_of
first-some n l = grind (arith, ltb-true, ltb-false)

end-most : (n : ℕ) → end_of n ≤ 2147483648
unfolding end_of
end-most n = grind (arith, ltb-true, ltb-false)

pub cell-has : (s : Sides) → s.width ≤ 2147483647 → s.height ≤ 2147483647 → IsIn s (cell_of s)
cell-has s w h = record { left = first-least s.width; right = end-more s.width w; top = first-least s.height; bottom = end-more s.height h }

pub cell-is : (s : Sides) → IsPositive s → s.width ≤ 2147483647 → s.height ≤ 2147483647 → IsCell (cell_of s)
cell-is s p w h = record {
  left = first-some s.width p.0;
  right = end-most s.width;
  wide = omega (arith, first-least s.width, end-more s.width w);
  top = first-some s.height p.1;
  bottom = end-most s.height;
  high = omega (arith, first-least s.height, end-more s.height h);
}

-- ---- what the code reads

-- The step of a side, by where it is.
pub step-16 : (n : ℕ) → n < 16 → (first_of n ≡ n) × (end_of n ≡ n + 1)
unfolding first_of end_of
step-16 n l = (grind (arith, ltb-true, ltb-false), grind (arith, ltb-true, ltb-false))

pub step-64 : (n : ℕ) → 16 ≤ n → n < 64 → (first_of n ≡ n / 2 * 2) × (end_of n ≡ n / 2 * 2 + 2)
unfolding first_of end_of
step-64 n a l = (grind (arith, ltb-true, ltb-false), grind (arith, ltb-true, ltb-false))

pub step-128 : (n : ℕ) → 64 ≤ n → n < 128 → (first_of n ≡ n / 8 * 8) × (end_of n ≡ n / 8 * 8 + 8)
unfolding first_of end_of
step-128 n a l = (grind (arith, ltb-true, ltb-false), grind (arith, ltb-true, ltb-false))

pub step-256 : (n : ℕ) → 128 ≤ n → n < 256 → (first_of n ≡ n / 64 * 64) × (end_of n ≡ n / 64 * 64 + 64)
unfolding first_of end_of
step-256 n a l = (grind (arith, ltb-true, ltb-false), grind (arith, ltb-true, ltb-false))

pub step-more : (n : ℕ) → 256 ≤ n → (first_of n ≡ 256) × (end_of n ≡ 2147483648)
unfolding first_of end_of
step-more n a = (grind (arith, ltb-true, ltb-false), grind (arith, ltb-true, ltb-false))

pub is-cut-wide : (c : Cell) → (c.right - c.left ≡ 2) ⊎ ((c.bottom - c.top ≢ 2) × (c.bottom - c.top ≤ c.right - c.left))
    → is_cut_wide c ≡ true
unfolding is_cut_wide
is-cut-wide c w = grind (arith, ltb-false, eqb-true, eqb-false)

pub not-cut-wide : (c : Cell) → c.right - c.left ≢ 2 → (c.bottom - c.top ≡ 2) ⊎ (c.right - c.left < c.bottom - c.top)
    → is_cut_wide c ≡ false
unfolding is_cut_wide
not-cut-wide c n narrow = grind (arith, ltb-true, eqb-true, eqb-false)

-- What isn't before an end is beyond it.
pub past-end : (is_wide : Bool) (s : Sides) (c : Cell) → is_before_end is_wide s c ≡ false
    → (c.right ≤ s.width) ⊎ (c.bottom ≤ s.height)
past-end true s c past = inl (ltb-false s.width c.right past)
past-end false s c past = inr (ltb-false s.height c.bottom past)

pub both-beyond : (s : Sides) (more : ℕ) (c : Cell) → is_beyond s more c ≡ true
    → (s.width + more < c.left) × (s.height + more < c.top)
both-beyond s more c beyond =
    let p = and_parts _ _ beyond in (ltb-true (s.width + more) c.left p.0, ltb-true (s.height + more) c.top p.1)
