-- What a search knows once it was shown the lists of the first few slots.
use Rattle.std.proofs.Common.{ℕ, ◌≡◌, ◌+◌, ◌*◌, ◌/◌, ◌%◌, ◌<◌, ◌≤◌, ◌==◌, inl, inr, Bool, true, false, ◌&&◌, []}
use Rattle.std.proofs.Common.{List, length, nat_le, max, min, refl, ap, subst, ◌∙◌, arith}
use Rattle.std.proofs.lemmas.Bool.{cases_eq, cases_lt}
use Rattle.atlas_model.specs.Boxes.{IsPositive, Sides}
use Rattle.atlas_model.specs.Choice.{AreValid, Options, class_of}
use Rattle.atlas_search.specs.declared.best.Best.{Best}
use Rattle.atlas_search.specs.declared.bands.Place.{Place}
use Rattle.atlas_search.specs.declared.link.Link.{Link}
use Rattle.atlas_search.specs.declared.masks.Mask.{Mask}
use Rattle.atlas_search.specs.Bands.{band_of, start_of}
use Rattle.atlas_search.specs.Bests.{HasSeen}
use Rattle.atlas_search.specs.Items.{Item}
use Rattle.atlas_search.specs.Lookups.{AreBelow, AreListed, FitsItemsFrom, HasAdded, HasSearched}
use Rattle.atlas_search.specs.Masks.{has}
use Rattle.atlas_search.specs.Tables.{head_of, is_used_at}
use Rattle.atlas_search.proofs.SearchLemmas.AddedLists.{added-next, added-nothing, added-of, added-weaker}
use Rattle.atlas_search.proofs.SearchLemmas.FirstBoxes.{first-inside}
use Rattle.atlas_search.proofs.SearchLemmas.Windows.{fits-reaching, large-law}

-- Lists before a row and a column whose first slot has a number below k.
abbrev pub IsAmong : (heads : List Link) → (end k : ℕ) → ℕ → ℕ → Type 0
IsAmong heads end k i j = AreBelow end i j × ((head_of heads (52 * i + j)).number < k)

module _ (o : Options) (es : List Item) (end : ℕ) (r : Sides) (heads : List Link) (a : AreListed o heads es) (few : end ≤ 52) where
  pub few-begin : (s : Best) → HasAdded o es end r (IsAmong heads end 0) s s
  few-begin s = added-nothing o es end r (IsAmong heads end 0) s (λ i j w. omega (arith, w.1))

  module _ (k list : ℕ) (only : (m : ℕ) → m < 2704 → (head_of heads m).number ≡ k → list ≡ m) (s t u : Best)
      (before : HasAdded o es end r (IsAmong heads end k) s t) where
    -- A list with slot k.
    here : (i j : ℕ) → AreBelow end i j → (head_of heads (52 * i + j)).number ≡ k → list ≡ 52 * i + j
    here i j below is = only (52 * i + j) (omega (arith, below.0, below.1, few)) is

    pub few-shown : HasAdded o es end r (λ i j. (i ≡ list / 52) × (j ≡ list % 52)) t u
        → HasAdded o es end r (IsAmong heads end (k + 1)) s u
    few-shown shown =
        added-next o es end r (IsAmong heads end k) (λ i j. (i ≡ list / 52) × (j ≡ list % 52)) (IsAmong heads end (k + 1)) s t u
        (λ i j w. elim (cases_eq (head_of heads (52 * i + j)).number k) [
          | inl e ↦
              let is = here i j w.0 e in inr (omega (arith, is, w.0.1, few), omega (arith, is, w.0.1, few))
          | inr ne ↦ inl (w.0, omega (arith, w.1, ne))
        ]) before shown

    pub few-passed : ((list / 52 < end) → (list % 52 < end) → ⊥) → HasAdded o es end r (IsAmong heads end (k + 1)) s t
    few-passed never =
        added-of o es end r (IsAmong heads end k) (IsAmong heads end (k + 1)) s t
        (λ i j w. elim (cases_eq (head_of heads (52 * i + j)).number k) [
          | inl e ↦
              let is = here i j w.0 e in
              absurd (never (omega (arith, is, w.0.0, w.0.1, few)) (omega (arith, is, w.0.1, few)))
          | inr ne ↦ (w.0, omega (arith, w.1, ne))
        ]) before

  pub few-end : ((k : ℕ) → is_used_at heads k ≡ true → (head_of heads k).number < 8) → (n k : ℕ) → n ≡ min 8 (length es) → n ≤ k
      → (s t : Best) → HasAdded o es end r (IsAmong heads end k) s t → HasAdded o es end r (AreBelow end) s t
  few-end slots n k least past s t added =
      added-weaker o es end r heads a (IsAmong heads end k) (AreBelow end) s t
      (λ i j hi hj used w.
      (w, omega (arith, slots (52 * i + j) used, first-inside o heads es a (52 * i + j) (omega (arith, hi, hj)) used, least, past))) added

-- A search that was shown all lists before a row and a column.
pub searched-few : (o : Options) (es : List Item) (end : ℕ) (r : Sides) (s t : Best)
    → HasSeen s (class_of o r == 2) r [] → HasAdded o es end r (AreBelow end) s t → HasSearched o es end r t
searched-few o es end r s t begun added = record {
  shown = added.more;
  are_shown = record { of_lists = added.of_lists; each = λ i free below fits. added.each i free below };
  seen = added.seen (class_of o r == 2) [] begun;
}

-- The same of a search that begins, whose size is large where its greater band is one of large sizes.
pub few-searched : (o : Options) (es : List Item) (end : ℕ) (r : Sides) (row column greater large : ℕ) (s t : Best)
    → AreValid o → IsPositive r → row ≡ band_of o r.width → column ≡ band_of o r.height → greater ≡ max row column
    → large ≡ start_of o 2 → HasSeen s (nat_le large greater) r [] → HasAdded o es end r (AreBelow end) s t
    → HasSearched o es end r t
few-searched o es end r row column greater large s t valid positive er ec eg el begun added =
    searched-few o es end r s t
    (subst (λ (b : Bool). HasSeen s b r []) (large-law o r row column greater large valid positive er ec eg el) begun) added

-- What a request fits stands in the greater of its own row and column, or after it.
pub fits-far : (o : Options) (heads : List Link) (es : List Item) (r : Sides) → AreListed o heads es → (own : Place)
    → own.row ≡ band_of o r.width → own.column ≡ band_of o r.height → (far : ℕ) → far ≡ max own.row own.column
    → FitsItemsFrom o es far r
fits-far o heads es r a own er ec far is =
    fits-reaching o heads es r a own er ec far
    (λ i j hi hj li lj used. elim (cases_lt own.row own.column) [
      | inl l ↦ inr (omega (arith, l, is, lj))
      | inr g ↦ inl (omega (arith, g, is, li))
    ])

-- Where a search goes on, the table has grown.
pub grown-of : (is_grown : Bool) (n : ℕ) → (is_grown ≡ false → 52 ≤ n) → n < 52 → is_grown ≡ true
grown-of true n few l = refl
grown-of false n few l = absurd (omega (arith, few refl, l))

pub from-none : (old new : Mask) (k : ℕ) → ((j : ℕ) → has new j ≡ (has old j && nat_le k j)) → ((j : ℕ) → has old j ≡ false)
    → (j : ℕ) → has new j ≡ false
from-none old new k keeps none j = keeps j ∙ ap (λ b. b && nat_le k j) (none j)
