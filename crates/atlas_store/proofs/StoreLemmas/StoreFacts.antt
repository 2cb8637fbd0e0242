-- What a call on slots tells of the store whose slots they are.
use Rattle.std.proofs.Common.{ℕ, ◌+◌, ◌≤◌, ◌≡◌, List, [], ◌∷◌, ◌++◌, sym, ap, ◌∙◌, arith, length, length-set, set, subst, vec_capacity}
use Rattle.std.proofs.Common.{vec_len}
use Rattle.std.proofs.lemmas.List.{length_push, with_items_is}
use Rattle.std.specs.Vec.{with_items}
use Rattle.atlas_store.specs.declared.store.Store.{Store}
use Rattle.atlas_store.specs.declared.slots.Slot.{Slot}
use Rattle.atlas_store.specs.declared.slots.Node.{Node}
use Rattle.atlas_store.specs.Slots.{nodes}
use Rattle.atlas_search.specs.Numbers.{no_slot}
use Rattle.atlas_store.specs.Stored.{Holding, HoldsWith}
use Rattle.atlas_store.specs.Store.Holdings.{shelf_of, HasSlotsFor, KeepsRoom, after_take}
use Rattle.atlas_store.proofs.StoreLemmas.StoreSteps.{AreSlots, length-nodes, length-rings, some-front}
use Rattle.atlas_store.proofs.StoreLemmas.StoreTakes.{rest-length}

-- The slots that a store has once a call on them is done.
pub are-slots : {A : Type 0} (s : Store A) {given mid : List Slot} → given ≡ s.slots.items
    → length given ≡ vec_len s.slots
    → length mid ≡ length given → AreSlots s.slots.items given mid (with_items s.slots mid).items
are-slots s {given} {mid} value len long = grind (arith, with_items_is)

-- A relation of the slots that the call was given and left is one of the store's slots before and after.
pub across-call : (R : List Slot → List Slot → Type 0) {own old mid new : List Slot} → AreSlots own old mid new
    → R old mid → R own new
across-call R {own} {old} {mid} {new} s r = subst (λ x. R x new) s.given (subst (R old) (sym s.left) r)

pub slots-room : {A : Type 0} (old new : Store A) {given mid : List Slot}
    → AreSlots old.slots.items given mid new.slots.items
    → vec_capacity new.slots ≡ vec_capacity old.slots → new.options ≡ old.options → KeepsRoom old new
slots-room old new s room options = grind arith

-- A slot is taken: an unused one, or else a new one.
module _ {A : Type 0} (old new : Store A) (i : ℕ) (n : Node) (slot : Slot) where
  taken-length : ((old.unused.number ≡ no_slot → ⊥) → nodes new.slots.items ≡ set (nodes old.slots.items) i n)
      → (old.unused.number ≡ no_slot → ⊥) → length new.slots.items ≡ length old.slots.items
  taken-length again ne = grind (arith, length-set, length-nodes)

  pushed-length : (old.unused.number ≡ no_slot → new.slots.items ≡ old.slots.items ++ slot ∷ [])
      → old.unused.number ≡ no_slot
      → length new.slots.items ≡ length old.slots.items + 1
  pushed-length fresh e = ap (λ s. length s) (fresh e) ∙ length_push old.slots.items slot

  pub taken-longer : ((old.unused.number ≡ no_slot → ⊥) → nodes new.slots.items ≡ set (nodes old.slots.items) i n)
      → (old.unused.number ≡ no_slot → new.slots.items ≡ old.slots.items ++ slot ∷ [])
      → length old.slots.items ≤ length new.slots.items
  taken-longer again fresh = grind (arith, pushed-length, taken-length)

  -- One slot fewer can be taken then.
  pub taken-room : (h : Holding) (claimed : ℕ → ℕ) (m : ℕ) → HoldsWith claimed (shelf_of old) h
      → ((old.unused.number ≡ no_slot → ⊥) → nodes new.slots.items ≡ set (nodes old.slots.items) i n)
      → (old.unused.number ≡ no_slot → new.slots.items ≡ old.slots.items ++ slot ∷ [])
      → vec_capacity new.slots ≡ vec_capacity old.slots → HasSlotsFor (m + 1) old h → HasSlotsFor m new (after_take h)
  taken-room h claimed m holds again fresh room slots =
      grind (arith, rest-length, pushed-length, some-front, length-rings, taken-length)
