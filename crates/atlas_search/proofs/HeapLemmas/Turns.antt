-- The turns of a hanging, where `next` is what is right below the entry.
use Rattle.std.proofs.Common.{◌≡◌, ◌≢◌, ℕ, ◌+◌, ◌<◌, List, length, sym, subst}
use Rattle.atlas_model.specs.Choice.{ComesFirst}
use Rattle.atlas_search.specs.Numbers.{no_slot}
use Rattle.atlas_search.specs.Rectangles.{IsSolid}
use Rattle.atlas_search.specs.HeapCalls.{AreSeparate, IsHungLeft, IsRelinked, IsMelded}
use Rattle.atlas_search.specs.Heaps.{Heap}
use Rattle.atlas_search.specs.Items.{Item, item_at, item_box}
use Rattle.atlas_search.proofs.HeapLemmas.Hanging.{IsHanging, hanging-ends, hanging-passes, hanging-takes, next-inside}
use Rattle.atlas_search.proofs.HeapLemmas.Hanging.{next-solid, swap-hangs}
use Rattle.atlas_search.proofs.HeapLemmas.Spines.{falls-passing, falls-taking, spine}

module _ (es fs gs : List Item) (up top under part : ℕ) (g h : Heap) (above rest next : ℕ) (a : AreSeparate es up top g under part h)
    (s : IsHanging es fs up top g h above rest) (is_next : next ≡ (item_at fs above).right) where
  pub turn-inside : next ≢ no_slot → next < length fs
  turn-inside = subst (λ n. n ≢ no_slot → n < length fs) (sym is_next) (next-inside es fs gs up top g h above rest a.short a.once s)

  pub turn-solid : next ≢ no_slot → IsSolid (item_at fs next).area
  turn-solid = subst (λ n. n ≢ no_slot → IsSolid (item_at fs n).area) (sym is_next)
      (next-solid es fs gs up top g h above rest a.short a.once s a.exact)

  pub turn-swaps : next ≢ no_slot → IsRelinked fs gs above (item_at fs above).up (item_at fs above).right (item_at fs above).left
      → IsHungLeft fs gs above next
  turn-swaps = subst (λ n. n ≢ no_slot → IsRelinked fs gs above (item_at fs above).up (item_at fs above).right (item_at fs above).left
      → IsHungLeft fs gs above n) (sym is_next) (swap-hangs es fs gs up top g h above rest a.short a.once s)

  pub turn-ends : next ≡ no_slot → IsHungLeft fs gs above rest → IsMelded es gs up top g h
  turn-ends = subst (λ n. n ≡ no_slot → IsHungLeft fs gs above rest → IsMelded es gs up top g h) (sym is_next)
      (hanging-ends es fs gs up top g h above rest a.short a.once s)

  pub turn-takes : next ≢ no_slot → ComesFirst (item_box (item_at fs rest)) (item_box (item_at fs next))
      → IsHungLeft fs gs above rest → IsHanging es gs up top g h rest next
  turn-takes = subst (λ n. n ≢ no_slot → ComesFirst (item_box (item_at fs rest)) (item_box (item_at fs n))
      → IsHungLeft fs gs above rest → IsHanging es gs up top g h rest n) (sym is_next)
      (hanging-takes es fs gs up top g h above rest a.short a.once s)

  pub turn-passes : next ≢ no_slot → ComesFirst (item_box (item_at fs next)) (item_box (item_at fs rest))
      → IsHungLeft fs gs above next → IsHanging es gs up top g h next rest
  turn-passes = subst (λ n. n ≢ no_slot → ComesFirst (item_box (item_at fs n)) (item_box (item_at fs rest))
      → IsHungLeft fs gs above n → IsHanging es gs up top g h n rest) (sym is_next)
      (hanging-passes es fs gs up top g h above rest a.short a.once s)

  pub turn-falls-taking : next ≢ no_slot → IsHungLeft fs gs above rest
      → spine gs (length gs) rest + spine gs (length gs) next < spine fs (length fs) above + spine fs (length fs) rest
  turn-falls-taking = subst (λ n. n ≢ no_slot → IsHungLeft fs gs above rest
      → spine gs (length gs) rest + spine gs (length gs) n < spine fs (length fs) above + spine fs (length fs) rest) (sym is_next)
      (falls-taking es fs gs up top g h above rest a.short a.once s)

  pub turn-falls-passing : next ≢ no_slot → IsHungLeft fs gs above next
      → spine gs (length gs) next + spine gs (length gs) rest < spine fs (length fs) above + spine fs (length fs) rest
  turn-falls-passing = subst (λ n. n ≢ no_slot → IsHungLeft fs gs above n
      → spine gs (length gs) n + spine gs (length gs) rest < spine fs (length fs) above + spine fs (length fs) rest) (sym is_next)
      (falls-passing es fs gs up top g h above rest a.short a.once s)
