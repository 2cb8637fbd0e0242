-- The first box of a list, and what a request fits without a search.
use Rattle.std.proofs.Common.{◌≡◌, ℕ, ◌+◌, ◌*◌, ◌<◌, List, length, map, get_or, true, ap, sym, ◌∙◌, subst, inl, inr, arith}
use Rattle.std.proofs.lemmas.Bool.{cases_lt, true≢false}
use Rattle.std.proofs.lemmas.List.{length-map}
use Rattle.atlas_search.specs.declared.bands.Place.{Place}
use Rattle.atlas_search.specs.declared.link.Link.{Link}
use Rattle.atlas_model.specs.declared.geometry.Rectangle.{Rectangle}
use Rattle.atlas_search.specs.Bands.{band_of, list_of}
use Rattle.atlas_model.specs.Boxes.{Box, Sides, Fits, box_sides}
use Rattle.atlas_model.specs.Choice.{IsFitting, Options}
use Rattle.atlas_model.specs.Pixels.{box_of}
use Rattle.atlas_search.specs.Heaps.{Heap, members, tag_of}
use Rattle.atlas_search.specs.Items.{Item, item_at, item_box, item_sides}
use Rattle.atlas_search.specs.Lookups.{AreFreeItems, AreListed, IsUsedBeyond}
use Rattle.atlas_search.specs.Numbers.{occurs}
use Rattle.atlas_search.specs.Rectangles.{IsSolid}
use Rattle.atlas_search.specs.Tables.{head_of, is_used_at}
use Rattle.atlas_search.proofs.Occurrences.{same-self}
use Rattle.atlas_search.proofs.SearchLemmas.AddedLists.{bands-of_list}
use Rattle.atlas_search.proofs.SearchLemmas.BandLaws.{band_mono}
use Rattle.atlas_search.proofs.SearchLemmas.Heaps.{occurs-top, top-of}
use Rattle.atlas_search.proofs.SearchLemmas.ItemPicks.{area-read}
use Rattle.atlas_search.proofs.SearchLemmas.TableHeads.{no_slot-is}

module _ (o : Options) (heads : List Link) (es : List Item) (a : AreListed o heads es) where
  abbrev first : ℕ → ℕ
  first k = (head_of heads k).number

  -- A list begins with an entry.
  pub first-inside : (k : ℕ) → k < 2704 → is_used_at heads k ≡ true → first k < length es
  first-inside k below used =
      let list = a.lists k below in
      (top-of es (tag_of k) (first k) list.0 list.1 (λ none. true≢false (sym used ∙ no_slot-is (head_of heads k) none))).inside

  -- That entry is free, and has a size of the list.
  pub first-free : (k : ℕ) → k < 2704 → first k < length es
      → ((item_at es (first k)).is_free ≡ true) × (list_of o (item_sides (item_at es (first k))) ≡ k)
  first-free k below inside =
      let list = a.lists k below in
      let top = top-of es (tag_of k) (first k) list.0 list.1 (λ none. omega (arith, none, inside, a.short)) in
      a.own k (first k) below (omega (
        arith,
        list.2 (first k),
        ap (λ (h : Heap). occurs (first k) (members h)) top.is,
        occurs-top (first k) (first k) top.left top.right,
        same-self (first k),
      ))

  module _ (r : Sides) (free : List Box) (are : AreFreeItems es free) where
    pub entry-fits : (i : ℕ) → (item_at es i).is_free ≡ true → Fits r (item_sides (item_at es i)) → (b : Box) × IsFitting free r b
    entry-fits i is_free fits = (item_box (item_at es i), record { is_free = are.of_box i is_free; fits = fits })

    -- A box of a list to the right and below is longer on both sides.
    pub beyond-fits : (own : Place) → own.row ≡ band_of o r.width → own.column ≡ band_of o r.height → IsUsedBeyond heads own
        → (b : Box) × IsFitting free r b
    beyond-fits own er ec beyond =
        let k = 52 * beyond.i + beyond.j in
        let below : k < 2704 = omega (arith, beyond.row, beyond.column) in
        let f = first-free k below (first-inside k below beyond.used) in
        let place : Place = record { row = beyond.i; column = beyond.j } in
        let s = item_sides (item_at es (first k)) in
        let bands = bands-of_list o es 0 r heads a place beyond.row beyond.column (first k) f.1 in
        entry-fits (first k) f.0 (
          elim (cases_lt s.width r.width) [
            | inl l ↦ absurd (omega (arith, band_mono o s.width r.width (omega (arith, l)), bands.0, er, beyond.below))
            | inr g ↦ g
          ],
          elim (cases_lt s.height r.height) [
            | inl l ↦ absurd (omega (arith, band_mono o s.height r.height (omega (arith, l)), bands.1, ec, beyond.right))
            | inr g ↦ g
          ],
        )

-- What is read of the first box of a list.
module _ (o : Options) (heads : List Link) {E : Type 0} (item : E → Item) (xs : List E) (a : AreListed o heads (map item xs))
    (k : ℕ) (below : k < 2704) (top : Link) (is : top ≡ head_of heads k) (inside : top.number < length xs) (x : E) (area : Rectangle)
    (read : x ≡ get_or xs top.number x) (area_is : area ≡ (item x).area) where
  number : top.number ≡ (head_of heads k).number
  number = ap (λ (l : Link). l.number) is

  is_free : (item_at (map item xs) top.number).is_free ≡ true
  is_free =
      subst (λ n. (item_at (map item xs) n).is_free ≡ true) (sym number)
      (first-free o heads (map item xs) a k below (omega (arith, number, inside, length-map xs item))).0

  same : area ≡ (item_at (map item xs) top.number).area
  same = area-read item xs top.number x area is_free read area_is

  pub first-solid : IsSolid area
  first-solid = subst IsSolid (sym same) (a.exact top.number is_free)

  pub first-fits : (r : Sides) → Fits r (box_sides (box_of area)) → (free : List Box) → AreFreeItems (map item xs) free
      → (b : Box) × IsFitting free r b
  first-fits r fits free are =
      entry-fits o heads (map item xs) a r free are top.number is_free
      (subst (λ (q : Rectangle). Fits r (box_sides (box_of q))) same fits)
