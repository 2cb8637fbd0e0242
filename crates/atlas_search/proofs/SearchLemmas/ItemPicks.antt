-- The best free entry of the lowest class with one that the request fits is the pick.
use Rattle.std.proofs.Common.{ℕ, ◌<◌, [], ◌≤◌, ◌≡◌, ◌≢◌, ◌==◌, List, length, map, get_or, refl, sym, ap, ◌∙◌, arith, true, subst, inl, inr}
use Rattle.std.specs.Prelude.{Contains}
use Rattle.std.proofs.lemmas.Bool.{cases_lt, true≢false}
use Rattle.std.proofs.lemmas.List.{get_or_past, length-map}
use Rattle.atlas_search.specs.declared.best.Best.{Best}
use Rattle.atlas_search.specs.declared.best.Found.{Found}
use Rattle.atlas_search.specs.declared.link.Link.{Link}
use Rattle.atlas_model.specs.declared.geometry.Rectangle.{Rectangle}
use Rattle.atlas_model.specs.Boxes.{Sides, Box, Fits, box_sides}
use Rattle.atlas_model.specs.Choice.{Options, class_of, IsFitting, IsPick}
use Rattle.atlas_search.specs.Bests.{HasSeen}
use Rattle.atlas_search.specs.Items.{Item, item_at, item_box, item_sides, no_item, shown_item}
use Rattle.atlas_search.specs.Lookups.{HasFound, HasSearched, IsBestBelow, FitsItemsFrom, AreFreeItems, AreListed, IsEndAfter, IsItemBelow}
use Rattle.atlas_search.specs.Bands.{band_of}
use Rattle.atlas_model.specs.Pixels.{box_of}
use Rattle.atlas_search.specs.Ranks.{no_rank}
use Rattle.atlas_search.specs.Searches.{Shown, shown_at, FitsOnlyFrom, AreOfClass, IsBestShown}
use Rattle.atlas_search.proofs.SearchLemmas.BandLaws.{band_below}
use Rattle.atlas_search.proofs.SearchLemmas.Heaps.{item-read}
use Rattle.atlas_search.proofs.SearchLemmas.Windows.{below-class, class-below, class-from}
use Rattle.atlas_search.proofs.SearchLemmas.Picks.{pick_of_class}

-- A free entry is one of the list.
pub free-inside : {E : Type 0} (item : E → Item) (xs : List E) (i : ℕ) → (item_at (map item xs) i).is_free ≡ true
    → i < length xs
free-inside item xs i free =
    elim (cases_lt i (length xs)) [
      | inl l ↦ l
      | inr past ↦
          let none = get_or_past (map item xs) i no_item (omega (arith, past, length-map xs item)) in
          absurd (true≢false (sym free ∙ ap (λ (e : Item). e.is_free) none))
    ]

-- The rectangle that is read of a free entry.
pub area-read : {E : Type 0} (item : E → Item) (xs : List E) (i : ℕ) (x : E) (a : Rectangle)
    → (item_at (map item xs) i).is_free ≡ true → x ≡ get_or xs i x → a ≡ (item x).area → a ≡ (item_at (map item xs) i).area
area-read item xs i x a free read area =
    area ∙ ap (λ (e : Item). e.area) (item-read item xs i x (free-inside item xs i free) read)

module _ (o : Options) (es : List Item) (r : Sides) where
  -- No row and no column is left.
  pub none-from : (least : ℕ) → 52 ≤ least → FitsItemsFrom o es least r → (i : ℕ) → (item_at es i).is_free ≡ true
      → Fits r (item_sides (item_at es i)) → ⊥
  none-from least l from i free fits =
      elim (from i free fits) [
        | inl h ↦ omega (arith, h, l, band_below o (item_sides (item_at es i)).width)
        | inr h ↦ omega (arith, h, l, band_below o (item_sides (item_at es i)).height)
      ]

  pub no_room-of_items : ((i : ℕ) → (item_at es i).is_free ≡ true → Fits r (item_sides (item_at es i)) → ⊥)
      → (free : List Box) → AreFreeItems es free → (b : Box) → IsFitting free r b → ⊥
  no_room-of_items none free all b fitting =
      let at = all.of_item b fitting.is_free in
      none at.0 at.1 (subst (λ (x : Box). Fits r (box_sides x)) (sym at.2) fitting.fits)

  none-shown : (end : ℕ) (search : Best) → HasSearched o es end r search
      → search.rank ≡ no_rank
      → (i : ℕ) → (item_at es i).is_free ≡ true → IsItemBelow o es end i → Fits r (item_sides (item_at es i)) → ⊥
  none-shown end search h e i free below fits = grind arith

  -- Where none before `end` is fitted, those that are reach it.
  pub none-found : (end : ℕ) (search : Best) → HasSearched o es end r search
      → search.rank ≡ no_rank → FitsItemsFrom o es end r
  none-found end search h e i free fits =
      let row = band_of o (item_sides (item_at es i)).width in
      let column = band_of o (item_sides (item_at es i)).height in
      elim (cases_lt row end) [
        | inl l ↦ elim (cases_lt column end) [ inl l' ↦ absurd (none-shown end search h e i free (l, l') fits) | inr g ↦ inr g ]
        | inr g ↦ inl g
      ]

  -- It still knows of none.
  pub seen-nothing : (end : ℕ) (search : Best) → HasSearched o es end r search
      → search.rank ≡ no_rank
      → HasSeen search (class_of o r == 2) r []
  seen-nothing end best h e =
      record { positive = h.seen.positive; size = h.seen.size; large = h.seen.large; best = inl (e, λ c has fits. omega (arith, has.1)) }

  pub best-found : (end : ℕ) (search : Best) (at : Link) (a : Rectangle) → HasSearched o es end r search → at ≡ search.at
      → search.rank ≢ no_rank → a ≡ (item_at es at.number).area → IsBestBelow o es end r (record { rectangle = a; at = at })
  best-found end s at a h e ne read =
      elim h.seen.best [
        | inl n ↦ absurd (ne n.0)
        | inr k ↦
            let number : s.at.number ≡ at.number = ap (λ (l : Link). l.number) (sym e) in
            let shown = h.are_shown.of_lists _ k.1.best.is_shown in
            let is : shown_at k.1.box s.at.number ≡ shown_at (box_of a) at.number =
            shown.1 ∙ ap (shown_item es) number ∙ ap (λ (x : Rectangle). shown_at (box_of x) at.number) (sym read) in
            record {
              shown = h.shown;
              are_shown = h.are_shown;
              best = subst (λ (b : Shown). IsBestShown (class_of o r == 2) r h.shown b) is k.1.best;
              standing = record { free = subst (λ n. (item_at es n).is_free ≡ true) number shown.0; area = sym read };
            }
      ]

  -- What is read of an entry that was found.
  module _ (end : ℕ) (at : Link) (f : HasFound o es end r at) where
    pub found-read : (a : Rectangle) → a ≡ (item_at es at.number).area → IsBestBelow o es end r (record { rectangle = a; at = at })
    found-read a read = best-found end f.search at a f.searched f.is_at f.some read

    pub found-free : (item_at es at.number).is_free ≡ true
    found-free = (found-read _ refl).standing.free

  pub pick-of_items : (heads : List Link) (a : AreListed o heads es) (least end : ℕ) (found : Found)
      → IsEndAfter o least end → FitsItemsFrom o es least r
      → IsBestBelow o es end r found → (free : List Box) → AreFreeItems es free
      → IsPick free o r (box_of found.rectangle)
  pick-of_items heads a least end found is from b free all =
      let class = is.class in
      let fits_at : (c : Box) (i : ℕ) → item_box (item_at es i) ≡ c → Fits r (box_sides c) → Fits r (item_sides (item_at es i)) =
      (λ c i e h. subst (λ (x : Box). Fits r (box_sides x)) (sym e) h) in
      let only : FitsOnlyFrom class free o r = (λ c fitting.
      let at = all.of_item c fitting.is_free in
      subst (λ (x : Box). class ≤ class_of o (box_sides x)) at.2
      (class-from o heads es r a class least is.few is.begins from at.0 at.1 (fits_at c at.0 at.2 fitting.fits))) in
      let of : AreOfClass class free o r b.shown = record {
        of_class = λ c h.
            let at = b.are_shown.of_lists c h in
            let e : c.box ≡ item_box (item_at es c.at) = ap (λ (s : Shown). s.box) at.1 in (
              subst (λ (x : Box). Contains free x) (sym e) (all.of_box c.at at.0),
              subst (λ (x : Box). class_of o (box_sides x) ≤ class) (sym e)
                  (class-below o heads es r a class end c.at is.few is.ends at.0 at.2),
            );
        each = λ c fitting ec.
            let at = all.of_item c fitting.is_free in
            let same_class : class_of o (item_sides (item_at es at.0)) ≡ class = ap (λ (x : Box). class_of o (box_sides x)) at.2 ∙ ec in
            let below = below-class o heads es r a class end at.0 is.ends at.1 same_class in (
              at.0,
              subst (λ (x : Box). Contains b.shown (shown_at x at.0)) at.2
                  (b.are_shown.each at.0 at.1 below (fits_at c at.0 at.2 fitting.fits)),
            );
      } in
      pick_of_class class free o r b.shown (shown_at (box_of found.rectangle) found.at.number) only of b.best
