-- Slots that were taken once, where the calls of the store change other parts of them.
use Rattle.std.proofs.Common.{arith, ℕ, ◌≡◌, List, [], ◌∷◌, length, ap, ◌∙◌, subst, sym}
use Rattle.std.proofs.lemmas.Bool.{cases_lt}
use Rattle.std.proofs.lemmas.List.{get_or_past}
use Rattle.std.proofs.lemmas.List.Elements.{All-from_get_or, All-get_or}
use Rattle.atlas_search.specs.declared.link.Link.{Link}
use Rattle.atlas_store.specs.declared.store.Store.{Store}
use Rattle.atlas_store.specs.declared.slots.Node.{Node}
use Rattle.atlas_store.specs.declared.slots.Slot.{Slot}
use Rattle.atlas_model.specs.declared.geometry.Size.{Size}
use Rattle.atlas_store.specs.Generations.{AreFirstGenerations}
use Rattle.atlas_store.specs.Slots.{nodes, node_at, blank_node, AreTakenOnce}
use Rattle.atlas_search.specs.Numbers.{no_slot}
use Rattle.atlas_store.specs.Store.Holdings.{OnlyTakes}
use Rattle.atlas_store.specs.Store.Starts.{one_free_slot}
use Rattle.atlas_store.specs.Stored.{AtlasValue, Shelf}

-- Each slot keeps its generation.
pub once-kept : {ns ms : List Node} {u : Link} → ((k : ℕ) → (node_at ms k).generation ≡ (node_at ns k).generation)
    → AreTakenOnce ns u → AreTakenOnce ms u
once-kept {ns} {ms} {u} same f = record { none = f.none; generations = λ k. same k ∙ f.generations k }

pub once-same : {ns ms : List Node} {u : Link} → ms ≡ ns → AreTakenOnce ns u → AreTakenOnce ms u
once-same {ns} {ms} {u} same = once-kept (λ k. ap (λ (xs : List Node). (node_at xs k).generation) same)

pub once-shelf : (v w : Shelf) → w ≡ v → AreTakenOnce (nodes v.slots) v.unused → AreTakenOnce (nodes w.slots) w.unused
once-shelf v w same = subst (λ (s : Shelf). AreTakenOnce (nodes s.slots) s.unused) (sym same)

-- Calls that only take slots, one after another.
pub only-takes : {A : Type 0} {a b c : Store A} → OnlyTakes a b → OnlyTakes b c → OnlyTakes a c
only-takes {A} {a} {b} {c} x y = grind arith

-- An atlas of one free slot.
whole-first : (size : Size) (k : ℕ) → (node_at (nodes (one_free_slot size ∷ [])) k).generation ≡ 0
whole-first size k = grind arith

pub once-whole : {slots : List Slot} {u : Link} (size : Size) → slots ≡ one_free_slot size ∷ [] → u.number ≡ no_slot
    → AreTakenOnce (nodes slots) u
once-whole {slots} {u} size whole none = record {
  none = none;
  generations = λ k. ap (λ (xs : List Slot). (node_at (nodes xs) k).generation) whole ∙ whole-first size k;
}

-- What an atlas stores was taken once where its slots are in their first generations.
pub once-first : (v : AtlasValue) → AreTakenOnce (nodes v.stored.shelf.slots) v.stored.shelf.unused
    → AreFirstGenerations v
once-first v f =
    let P : Node → Type 0 = λ n. n.generation ≡ 0 in
    record {
      first = All-from_get_or P (nodes v.stored.shelf.slots) blank_node (λ i _. f.generations i);
      used = f.none;
    }

pub first-once : (v : AtlasValue) → AreFirstGenerations v
    → AreTakenOnce (nodes v.stored.shelf.slots) v.stored.shelf.unused
first-once v f =
    let ns = nodes v.stored.shelf.slots in
    let P : Node → Type 0 = λ n. n.generation ≡ 0 in
    record {
      none = f.used;
      generations = λ i. grind (arith, cases_lt i (length ns), All-get_or P ns i blank_node, get_or_past ns i blank_node);
    }
