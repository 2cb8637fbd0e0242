-- Slots' nodes and rings as entries.
use Rattle.std.proofs.Common.{ℕ, ◌<◌, ◌≡◌, List, [], ◌∷◌, length, map, zero, suc, refl, ap, arith}
use Rattle.atlas_search.specs.Items.{item_at}
use Rattle.atlas_store.specs.declared.slots.Slot.{Slot}
use Rattle.atlas_store.specs.declared.slots.Node.{Node}
use Rattle.atlas_store.specs.declared.slots.Ring.{Ring}
use Rattle.atlas_store.specs.Slots.{nodes, rings, node_at, ring_at}
use Rattle.atlas_store.specs.Slots.Entries.{entries, item_of, slot_item}

pub entries-length : (ns : List Node) (rs : List Ring) → length (entries ns rs) ≡ length rs
entries-length ns [] = refl
entries-length [] (r ∷ rs) = omega (arith, entries-length [] rs)
entries-length (n ∷ ns) (r ∷ rs) = omega (arith, entries-length ns rs)

pub entry-is : (ns : List Node) (rs : List Ring) (i : ℕ) → i < length rs
    → item_at (entries ns rs) i ≡ item_of (node_at ns i) (ring_at rs i)
entry-is ns [] i l = absurd (omega (arith, l))
entry-is [] (r ∷ rs) zero l = refl
entry-is [] (r ∷ rs) (suc i) l = entry-is [] rs i (omega (arith, l))
entry-is (n ∷ ns) (r ∷ rs) zero l = refl
entry-is (n ∷ ns) (r ∷ rs) (suc i) l = entry-is ns rs i (omega (arith, l))

pub entries-of : (slots : List Slot) → entries (nodes slots) (rings slots) ≡ map slot_item slots
entries-of [] = refl
entries-of (s ∷ slots) = ap (λ es. slot_item s ∷ es) (entries-of slots)
