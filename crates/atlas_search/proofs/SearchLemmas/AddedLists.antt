-- What a search knows once it was shown lists of a table.
use Rattle.std.proofs.Common.{◌≡◌, ℕ, ◌+◌, ◌*◌, ◌<◌, ◌⊎◌, true, not, List, ◌++◌, refl, ap, sym, subst, inl, inr, append_assoc, arith}
use Rattle.std.specs.List.{Contains}
use Rattle.std.proofs.lemmas.Bool.{ne_eqb}
use Rattle.std.proofs.lemmas.List.Elements.{Contains-append_left, Contains-append_right, Contains-append_cases}
use Rattle.atlas_search.specs.declared.bands.Place.{Place}
use Rattle.atlas_search.specs.declared.best.Best.{Best}
use Rattle.atlas_search.specs.declared.link.Link.{Link}
use Rattle.atlas_search.specs.Bands.{band_of, list_of, number_of}
use Rattle.atlas_search.specs.Bests.{HasSeen}
use Rattle.atlas_model.specs.Boxes.{Sides, IsPositive}
use Rattle.atlas_model.specs.Choice.{Options}
use Rattle.atlas_search.specs.Heaps.{Heap, members, tag_of}
use Rattle.atlas_search.specs.Items.{Item, item_at, item_sides, shown_item, shown_items}
use Rattle.atlas_search.specs.Numbers.{no_slot, occurs}
use Rattle.atlas_search.specs.Lookups.{AreAfter, AreBelow, AreLarger, AreListed, HasAdded, HasShownTo, IsItemBelow}
use Rattle.atlas_search.specs.Searches.{Shown}
use Rattle.atlas_search.specs.Tables.{head_of, is_used_at}
use Rattle.atlas_search.specs.Showing.{IsListShowable}
use Rattle.atlas_search.proofs.SearchLemmas.BandLaws.{band_below, band_of-less}
use Rattle.atlas_search.proofs.SearchLemmas.Heaps.{listed-some}
use Rattle.atlas_search.proofs.SearchLemmas.ShownItems.{append-none, shown_items-has, shown_items-in}

-- Nothing was shown.
pub added-none : (o : Options) (es : List Item) (end : ℕ) (r : Sides) (s : Best)
    → HasAdded o es end r (λ i j. ⊥) s s
added-none o es end r s = grind (arith, append-none)

-- Fewer lists.
pub added-of : (o : Options) (es : List Item) (end : ℕ) (r : Sides) (V W : ℕ → ℕ → Type 0)
    (s t : Best)
    → ((i j : ℕ) → W i j → V i j) → HasAdded o es end r V s t → HasAdded o es end r W s t
added-of o es end r V W s t to h = grind arith

module _ (o : Options) (es : List Item) (end : ℕ) (r : Sides) where
  -- Lists are shown after others.
  pub added-then : (V W : ℕ → ℕ → Type 0) (s t u : Best) → HasAdded o es end r V s t
      → HasAdded o es end r W t u
      → HasAdded o es end r (λ i j. V i j ⊎ W i j) s u
  added-then V W s t u a b =
      record {
        more = a.more ++ b.more;
        of_lists = λ c h. elim (Contains-append_cases a.more b.more c h) [ inl x ↦ a.of_lists c x | inr x ↦ b.of_lists c x ];
        each = λ i free v. elim v [
          | inl x ↦ Contains-append_left a.more b.more _ (a.each i free x)
          | inr x ↦ Contains-append_right a.more b.more _ (b.each i free x)
        ];
        seen = λ is_large shown h.
            subst (λ (list : List Shown). HasSeen u is_large r list) (append_assoc shown a.more b.more)
            (b.seen is_large (shown ++ a.more) (a.seen is_large shown h));
      }

  module _ (heads : List Link) (a : AreListed o heads es) where
    -- The band of the sides of an entry.
    abbrev pub row_at : ℕ → ℕ
    row_at i = band_of o (item_sides (item_at es i)).width

    abbrev pub column_at : ℕ → ℕ
    column_at i = band_of o (item_sides (item_at es i)).height

    pub positive-at : (i : ℕ) → (item_at es i).is_free ≡ true → IsPositive (item_sides (item_at es i))
    positive-at i free = let e = (a.exact i free).nonempty in (omega (arith, e.0), omega (arith, e.1))

    list-below : (row column : ℕ) → row < 52 → column < 52 → 52 * row + column < 2704
    list-below row column h k = omega arith

    -- A list with an entry isn't empty.
    pub used-at : (i : ℕ) → (item_at es i).is_free ≡ true → is_used_at heads (52 * row_at i + column_at i) ≡ true
    used-at i free =
        let k = 52 * row_at i + column_at i in
        let below = list-below (row_at i) (column_at i) (band_below o _) (band_below o _) in
        ap not (ne_eqb (head_of heads k).number no_slot
        (listed-some es k (head_of heads k).number (a.free_lists k) i (omega (arith, a.short)) (a.lists k below) (a.each i free)))

    -- What holds of the lists that aren't empty.
    pub added-weaker : (V W : ℕ → ℕ → Type 0) (s t : Best)
        → ((i j : ℕ) → i < 52 → j < 52 → is_used_at heads (52 * i + j) ≡ true → W i j → V i j)
        → HasAdded o es end r V s t → HasAdded o es end r W s t
    added-weaker V W s t to h =
        record {
          more = h.more;
          of_lists = h.of_lists;
          each = λ i free w. h.each i free (to _ _ (band_below o _) (band_below o _) (used-at i free) w);
          seen = h.seen;
        }

    module _ (place : Place) (lr : place.row < 52) (lc : place.column < 52) where
      number-below : number_of place < 2704
      number-below = list-below place.row place.column lr lc

      -- The bands of an entry of the list.
      pub bands-of_list : (i : ℕ) → list_of o (item_sides (item_at es i)) ≡ number_of place
          → (row_at i ≡ place.row) × (column_at i ≡ place.column)
      bands-of_list i e = grind (arith, band_below)

      -- The list as a heap.
      pub showable : (h : Heap) × IsListShowable es (head_of heads (number_of place)).number h
          × ((i : ℕ) → occurs i (members h) ≡ occurs i (a.free_lists (number_of place)))
      showable =
          let list = a.lists (number_of place) number-below in (
            list.0,
            record {
              short = a.short;
              up = tag_of (number_of place);
              heap = list.1;
              once = λ i. omega (arith, a.once (number_of place) i number-below, list.2 i);
              exact = λ i h. a.exact i (a.own (number_of place) i number-below (omega (arith, h, list.2 i))).0;
              sorted = list.3;
            },
            list.2,
          )

      module _ (w : AreBelow end place.row place.column) (xs : List ℕ) (same : (i : ℕ) →
          occurs i xs ≡ occurs i (a.free_lists (number_of place))) where
        of_list : (c : Shown) → Contains (shown_items es xs) c
            → ((item_at es c.at).is_free ≡ true) × (c ≡ shown_item es c.at) × IsItemBelow o es end c.at
        of_list c h =
            let t = shown_items-in es xs c h in
            let own = a.own (number_of place) t.0 number-below (omega (arith, same t.0, t.1)) in
            let e = bands-of_list t.0 own.1 in
            let P : Shown → Type 0 = λ d. ((item_at es d.at).is_free ≡ true) × (d ≡ shown_item es d.at) × IsItemBelow o es end d.at in
            subst P (sym t.2) (own.0, refl, (omega (arith, e.0, w.0), omega (arith, e.1, w.1)))

        has-each : (i : ℕ) → (item_at es i).is_free ≡ true → (row_at i ≡ place.row) × (column_at i ≡ place.column)
            → Contains (shown_items es xs) (shown_item es i)
        has-each i free e = grind (arith, shown_items-has)

        -- Its entries are larger than a request where the place comes after the bands of its sides.
        pub all-larger : AreAfter o r place.row place.column → AreLarger es r xs
        all-larger after i has =
            let own = a.own (number_of place) i number-below (omega (arith, same i, has)) in
            let e = bands-of_list i own.1 in
            let s = item_sides (item_at es i) in
            (band_of-less o r.width s.width (omega (arith, e.0, after.0)), band_of-less o r.height s.height (omega (arith, e.1, after.1)))

        -- The list was shown.
        pub added-list : (s t : Best) → HasShownTo es r xs s t
            → HasAdded o es end r (λ i j. (i ≡ place.row) × (j ≡ place.column)) s t
        added-list s t seen =
            record { more = shown_items es xs; of_lists = of_list; each = has-each; seen = seen }

-- Nothing that is in question was shown.
pub added-nothing : (o : Options) (es : List Item) (end : ℕ) (r : Sides) (W : ℕ → ℕ → Type 0)
    (s : Best)
    → ((i j : ℕ) → W i j → ⊥) → HasAdded o es end r W s s
added-nothing o es end r W s never = added-of o es end r (λ i j. ⊥) W s s never (added-none o es end r s)

-- A list more.
pub added-next : (o : Options) (es : List Item) (end : ℕ) (r : Sides) (V U W : ℕ → ℕ → Type 0)
    (s t u : Best)
    → ((i j : ℕ) → W i j → V i j ⊎ U i j) → HasAdded o es end r V s t → HasAdded o es end r U t u
    → HasAdded o es end r W s u
added-next o es end r V U W s t u to a b =
    added-of o es end r (λ i j. V i j ⊎ U i j) W s u to (added-then o es end r V U s t u a b)
