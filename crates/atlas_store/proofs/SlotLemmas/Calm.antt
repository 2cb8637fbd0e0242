-- Slots that are calm hold a normal tree, and the steps of a freeing end there.
use Rattle.std.proofs.Common.{ℕ, ◌+◌, ◌<◌, ◌≡◌, List, refl, sym, ◌∙◌, ◌⊎◌, arith, true, false}
use Rattle.std.proofs.lemmas.Bool.{true≢false, false_from_ne_true}
use Rattle.atlas_store.specs.declared.slots.Node.{Node}
use Rattle.atlas_store.specs.declared.slots.NodeKind.TheVariants as kind
use Rattle.atlas_store.specs.Slots.{node_at, use_count}
use Rattle.atlas_search.specs.Numbers.{no_slot}
use Rattle.atlas_model.specs.Trees as tree
use Rattle.atlas_model.specs.Trees.{begins_free, is_idle, IsNormal}
use Rattle.atlas_store.specs.Slots.Numbered.{Numbered, tally, first_slot, erase, End, Free, Alloc, Seq}
use Rattle.atlas_store.specs.Slots.Standing.{Sequence, Standing, Stands, inside}
use Rattle.atlas_store.specs.Slots.Calm.{IsCalmAt, IsCalmBut, NoneEmpty}
use Rattle.atlas_store.proofs.SlotLemmas.Frames.{same-self, ne-from_same}
use Rattle.atlas_store.proofs.SlotLemmas.Suffixes.{suffix-at}
use Rattle.atlas_store.proofs.SlotLemmas.Joins.{IsJoinOf}
use Rattle.atlas_store.proofs.SlotLemmas.Lifts.{IsLiftOf}

begins-kind : (ns : List Node) (s : Sequence) (b p : ℕ) (n : Numbered) → Standing ns s b p n
    → begins_free (erase n) ≡ true → (node_at ns (first_slot n)).kind ≡ kind.Free
begins-kind ns s b p (Free j e rest) h f = h.0.kind
begins-kind ns s b p n h f = absurd (true≢false (sym f))

-- A nested sequence of calm members is not idle.
not-idle : (ns : List Node) (s : Sequence) (p : ℕ) (n : Numbered) → (s.parent ≡ no_slot → ⊥) → (erase n ≡ tree.End → ⊥)
    → ((k : ℕ) → 0 < tally k n → IsCalmAt ns k) → Standing ns s no_slot p n → is_idle (erase n) ≡ false
not-idle ns s p End np ne calm h = absurd (ne refl)
not-idle ns s p (Free j e End) np ne calm h =
    absurd (np (sym h.0.parent ∙ (calm j (omega (arith, same-self j))).nested h.0.kind h.0.previous h.0.next))
not-idle ns s p n np ne calm h = refl

pub normal-from_calm : (ns : List Node) (s : Sequence) (b p : ℕ) (n : Numbered) → tally no_slot n ≡ 0
    → NoneEmpty (erase n) → ((k : ℕ) → 0 < tally k n → IsCalmAt ns k) → Standing ns s b p n → IsNormal (erase n)
normal-from_calm ns s b p End none full calm h = tt
normal-from_calm ns s b p (Free j e rest) none full calm h =
    grind (
      arith,
      false_from_ne_true (begins_free (erase rest)),
      same-self j,
      begins-kind ns s j (p + e) rest h.2,
      normal-from_calm ns s j (p + e) rest (omega arith) full,
    )
normal-from_calm ns s b p (Alloc j g e rest) none full calm h =
    normal-from_calm ns s j (p + e) rest (omega arith) full (λ k l. calm k (omega arith)) h.3
normal-from_calm ns s b p (Seq j e inner rest) none full calm h =
    grind (
      arith,
      not-idle ns (inside s j p e) s.start inner,
      ne-from_same no_slot j (omega arith),
      normal-from_calm ns (inside s j p e) no_slot s.start inner (omega arith) full.1,
      normal-from_calm ns s j (p + e) rest (omega arith) full.2,
    )

-- What comes next has this one before it.
back : (ns : List Node) (s : Sequence) (b p : ℕ) (n : Numbered) → Standing ns s b p n → (first_slot n ≡ no_slot → ⊥)
    → (node_at ns (first_slot n)).previous.number ≡ b
back ns s b p End h ne = absurd (ne refl)
back ns s b p n h ne = h.0.previous

back_first : (ns : List Node) (s : Sequence) (b p k j : ℕ) (n : Numbered) → Standing ns s b p n → first_slot n ≡ k
    → 0 < tally k n → (node_at ns k).next.number ≡ j → (j ≡ no_slot → ⊥) → (node_at ns j).previous.number ≡ k
back_first ns s b p k j End h f l e ne = absurd (omega arith)
back_first ns s b p k j n h f l e ne = grind (arith, back)

pub back-link : (ns : List Node) (s : Sequence) (n : Numbered) (k j : ℕ) → Stands ns s n
    → 0 < use_count (node_at ns k).kind → (node_at ns k).next.number ≡ j → (j ≡ no_slot → ⊥)
    → (node_at ns j).previous.number ≡ k
back-link ns s n k j h l e ne =
    grind (arith, suffix-at ns k s no_slot 0 n h.standing (rw (h.numbered k) l), back_first ns)

-- Where `at` is calm towards both sides, all is calm.
pub calm-all : (ns : List Node) (s : Sequence) (n : Numbered) (at : ℕ) → (node_at ns no_slot).kind ≡ kind.Unused
    → Stands ns s n → IsCalmBut ns at → IsCalmAt ns at → ((node_at ns at).kind ≡ kind.Free)
    → ((node_at ns (node_at ns at).previous.number).kind ≡ kind.Free → ⊥) → (k : ℕ) → IsCalmAt ns k
calm-all ns s n at u h but here free before k = grind (arith, back-link)

free_used : (ns : List Node) (k : ℕ) → (node_at ns k).kind ≡ kind.Free → (node_at ns k).kind ≡ kind.Unused → ⊥
free_used ns k f u = cc

-- A join keeps the calm of all but the joined leaf.
pub calm-joined : (ns ms : List Node) (i j a at : ℕ) → IsJoinOf ns ms i j a → (at ≡ i) ⊎ (at ≡ j) → IsCalmBut ns at
    → IsCalmBut ms i
calm-joined ns ms i j a at w which but = grind (arith, free_used)

-- So does a lift.
pub calm-lifted : (ns ms : List Node) (c k0 : ℕ) → IsLiftOf ns ms c k0 → IsCalmBut ns k0 → IsCalmBut ms c
calm-lifted ns ms c k0 w but = grind (arith, free_used)
