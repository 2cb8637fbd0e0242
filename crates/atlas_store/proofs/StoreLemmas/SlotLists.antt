-- The slots as entries of lists, in the words of the search.
use Rattle.std.proofs.Common.{ℕ, ◌<◌, ◌≡◌, List, [], ◌∷◌, length, map, true, zero, suc, refl, sym, ap, subst, ◌∙◌, arith}
use Rattle.std.specs.Prelude.{Contains, Option, Some, None, IfSome}
use Rattle.std.proofs.lemmas.List.{length-map}
use Rattle.atlas_store.specs.declared.slots.Slot.{Slot}
use Rattle.atlas_search.specs.Bands.{list_of}
use Rattle.atlas_model.specs.Boxes.{Box, box_sides}
use Rattle.atlas_model.specs.Choice.{Options}
use Rattle.atlas_model.specs.Pixels.{box_of}
use Rattle.atlas_search.specs.Items.{Item, item_at, item_sides}
use Rattle.atlas_search.specs.Rectangles.{IsSolid}
use Rattle.atlas_store.specs.Slots.Lists.{IsLinked, is_free, node_sides}
use Rattle.atlas_search.specs.Numbers.{occurs}
use Rattle.atlas_search.specs.Lookups.{AreListed, AreFreeItems}
use Rattle.atlas_store.specs.Slots.Picks.{slot_item, item_of, IsFreeSlot, IsSearchable, AreFreeBoxes}
use Rattle.atlas_store.specs.Slots.{nodes, rings, node_at, ring_at}
use Rattle.atlas_search.specs.Tables.{head_of}
use Rattle.atlas_search.specs.declared.link.Link.{Link}
use Rattle.atlas_search.specs.Forks.{IsListed}
use Rattle.atlas_store.proofs.SlotLemmas.Entries.{entries-of}
use Rattle.atlas_store.proofs.StoreLemmas.FiledSlots.{listed-own, listed-list, listed-kind, listed-one, free_kind}

-- The entries of slots.
abbrev pub items : List Slot → List Item
items slots = map slot_item slots

pub item-is : (slots : List Slot) (i : ℕ)
    → item_at (items slots) i ≡ item_of (node_at (nodes slots) i) (ring_at (rings slots) i)
item-is [] i = refl
item-is (s ∷ slots) zero = refl
item-is (s ∷ slots) (suc i) = item-is slots i

pub free-item : (slots : List Slot) (i : ℕ) → IsFreeSlot (nodes slots) i → (item_at (items slots) i).is_free ≡ true
free-item slots i free = ap (λ (e : Item). e.is_free) (item-is slots i) ∙ ap is_free free

pub item-free : (slots : List Slot) (i : ℕ) → (item_at (items slots) i).is_free ≡ true → IsFreeSlot (nodes slots) i
item-free slots i free = free_kind (node_at (nodes slots) i).kind (sym (ap (λ (e : Item). e.is_free) (item-is slots i)) ∙ free)

pub area-is : (slots : List Slot) (i : ℕ) → (item_at (items slots) i).area ≡ (node_at (nodes slots) i).area
area-is slots i = ap (λ (e : Item). e.area) (item-is slots i)

pub sides-is : (slots : List Slot) (i : ℕ) → item_sides (item_at (items slots) i) ≡ node_sides (node_at (nodes slots) i)
sides-is slots i = ap (λ r. box_sides (box_of r)) (area-is slots i)

pub items-length : (slots : List Slot) → length (items slots) ≡ length slots
items-length slots = length-map slots slot_item

listed-of : (slots : List Slot) (k : ℕ) (first : Link) (xs : List ℕ) → IsLinked (nodes slots) (rings slots) k first xs
    → IsListed (items slots) k first.number xs
unfolding IsLinked
listed-of slots k first xs h = subst (λ es. IsListed es k first.number xs) (entries-of slots) h

-- Slots that can be searched are entries that stand in their lists.
pub listed-slots : (o : Options) (slots : List Slot) (heads : List Link) → IsSearchable o slots heads
    → AreListed o heads (items slots)
listed-slots o slots heads s =
    let ns = nodes slots in
    record {
      free_lists = s.places.free_lists;
      valid = s.valid;
      short = omega (arith, s.short, length-map slots slot_item);
      lists = λ k l. listed-of slots k (head_of heads k) (s.places.free_lists k) ((s.filed.free k l).links);
      own = λ k i l h. (
        free-item slots i (listed-kind o ns (rings slots) heads s.unused s.places s.filed k i l h),
        ap (list_of o) (sides-is slots i) ∙ sym (listed-list o ns (rings slots) heads s.unused s.places s.filed k i l h),
      );
      each = λ i free.
          let one = listed-one o ns (rings slots) heads s.unused s.places s.filed i (item-free slots i free) (s.all_listed i) in
          subst (λ k. 0 < occurs i (s.places.free_lists k)) (ap (list_of o) (sym (sides-is slots i))) (omega arith);
      once = λ k i l. (listed-own o ns (rings slots) heads s.unused s.places s.filed k l).once i;
      exact = λ i free. subst IsSolid (sym (area-is slots i)) (s.exact i (item-free slots i free));
    }

-- The boxes of free slots are those of free entries.
pub free-items : (slots : List Slot) (free : List Box) → AreFreeBoxes (nodes slots) free
    → AreFreeItems (items slots) free
free-items slots free a =
    record {
      of_item = λ b h.
          let t = a.of_slot b h in
          (t.0, free-item slots t.0 t.1, ap box_of (area-is slots t.0) ∙ t.2);
      of_box = λ i f. subst (Contains free) (ap box_of (sym (area-is slots i))) (a.of_box i (item-free slots i f));
    }

pub IfSome_both : {X : Type 0} {P Q R : X → Type 0} (x : Option X) → IfSome x P → IfSome x Q
    → ((y : X) → P y → Q y → R y) → IfSome x R
IfSome_both None p q f = p
IfSome_both (Some y) p q f = f y p q
