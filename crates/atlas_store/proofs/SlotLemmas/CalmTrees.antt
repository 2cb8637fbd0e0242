-- A normal tree is calm, and marking leaves it calm but for the marked leaf.
use Rattle.std.proofs.Common.{rules, ℕ, ◌+◌, ◌<◌, ◌≤◌, ◌≡◌, List, refl, sym, ap, ◌∙◌, ◌⊎◌, inr, arith, length, true, false}
use Rattle.std.proofs.lemmas.Bool.{cases_eq, true≢false}
use Rattle.atlas_store.specs.declared.slots.Node.{Node}
use Rattle.atlas_store.specs.declared.slots.NodeKind.TheVariants as kind
use Rattle.atlas_store.specs.Slots.{node_at}
use Rattle.atlas_search.specs.Numbers.{no_slot}
use Rattle.atlas_model.specs.Trees as tree
use Rattle.atlas_model.specs.Trees.{Members, begins_free, is_idle, IsNormal}
use Rattle.atlas_model.specs.Changes.{mark, only}
use Rattle.atlas_store.specs.Slots.Numbered.{Numbered, tally, first_slot, erase, id_of, marked, End, Free, Alloc, Seq}
use Rattle.atlas_store.specs.Slots.Standing.{Sequence, Standing, Stands, inside}
use Rattle.atlas_store.specs.Slots.Calm.{IsCalmAt, IsCalmBut, NoneEmpty}
use Rattle.atlas_store.proofs.SlotLemmas.Frames.{same-ne, used-le, IsWritten, split_pos, ne-from_same}
use Rattle.atlas_store.proofs.SlotLemmas.JoinWrites.{none-unused, used-inside}
use Rattle.atlas_store.proofs.SlotLemmas.Normal.{erase-marked}

kind-begins : (ns : List Node) (s : Sequence) (b p : ℕ) (n : Numbered) → (node_at ns no_slot).kind ≡ kind.Unused
    → Standing ns s b p n → (node_at ns (first_slot n)).kind ≡ kind.Free → begins_free (erase n) ≡ true
kind-begins ns s b p End u h f = absurd (let x = u in cc)
kind-begins ns s b p (Free j e rest) u h f = refl
kind-begins ns s b p n u h f = absurd (let x = h.0.kind in cc)

idle-alone : (j e : ℕ) (rest : Numbered) → tally no_slot rest ≡ 0 → first_slot rest ≡ no_slot
    → is_idle (erase (Free j e rest)) ≡ true
idle-alone j e End z q = refl
idle-alone j e rest z q = absurd (ne-from_same no_slot _ (omega arith) q)

not-Free-calm : (ns : List Node) (k : ℕ) → ((node_at ns k).kind ≡ kind.Free → ⊥) → IsCalmAt ns k
not-Free-calm ns k never = record { apart = λ f g. absurd (never f); nested = λ f b a. absurd (never f) }

pub calm-from_normal : (ns : List Node) (s : Sequence) (b p : ℕ) (n : Numbered)
    → (node_at ns no_slot).kind ≡ kind.Unused → tally no_slot n ≡ 0
    → (b ≡ no_slot → (s.parent ≡ no_slot) ⊎ (is_idle (erase n) ≡ false)) → IsNormal (erase n) → Standing ns s b p n
    → (k : ℕ) → 0 < tally k n → IsCalmAt ns k
calm-from_normal ns s b p End u z alone normal h k l = absurd (omega arith)
calm-from_normal ns s b p (Free j e rest) u z alone normal h k l =
    grind (arith, true≢false, kind-begins, idle-alone, calm-from_normal ns s j (p + e) rest u (omega arith), ne-from_same, same-ne)
calm-from_normal ns s b p (Alloc j g e rest) u z alone normal h k l =
    grind (arith, not-Free-calm, calm-from_normal ns s j (p + e) rest u (omega arith), ne-from_same, same-ne)
calm-from_normal ns s b p (Seq j e inner rest) u z alone normal h k l =
    search (
      rules,
      split_pos,
      same-ne,
      not-Free-calm,
      calm-from_normal ns (inside s j p e) no_slot s.start inner u (omega arith) (λ _. inr normal.0) normal.1 h.2 k,
      calm-from_normal ns s j (p + e) rest u (omega arith) (λ q. absurd (ne-from_same no_slot j (omega arith) q)) normal.2 h.3 k,
    )

pub calm-marked : (ns ms : List Node) (i : ℕ) (n : Node) → IsWritten ns ms i n → ((k : ℕ) → IsCalmAt ns k)
    → IsCalmBut ms i
calm-marked ns ms i n w calm =
    record {
      apart = λ k ki f g. grind (
        arith,
        w.others k ki,
        cases_eq (node_at ms k).next.number i,
        w.others (node_at ms k).next.number,
        (calm k).apart,
      );
      nested = λ k ki f b a. grind (arith, w.others k ki, (calm k).nested);
    }

-- The slots of a normal tree are calm.
pub calm-Stands : (ns : List Node) (s : Sequence) (n : Numbered) → length ns < no_slot → s.parent ≡ no_slot
    → Stands ns s n → IsNormal (erase n) → (k : ℕ) → IsCalmAt ns k
calm-Stands ns s n short top h normal k = grind (arith, none-unused ns short, calm-from_normal ns s no_slot 0 n)

-- A normal tree has no empty sequence.
pub full-from_normal : (m : Members) → IsNormal m → NoneEmpty m
full-from_normal tree.End h = tt
full-from_normal (tree.Free e rest) h = full-from_normal rest h.1
full-from_normal (tree.Alloc id e rest) h = full-from_normal rest h
full-from_normal (tree.Seq e inner rest) h =
    ((λ q. true≢false (ap is_idle (sym q) ∙ h.0)), full-from_normal inner h.1, full-from_normal rest h.2)

-- To mark the leaf at a slot of the tree is to mark the leaf with its id.
pub erase-marked_at : (ns : List Node) (i : ℕ) (s : Sequence) (n : Numbered) → length ns ≤ 16777216 → i < length ns
    → Stands ns s n → erase (marked i n) ≡ mark (only (id_of i (node_at ns i).generation)) (erase n)
erase-marked_at ns i s n few li h = grind (arith, used-inside, erase-marked, used-le)
