-- What changes nothing of a tree.
use Rattle.std.proofs.Common.{ℕ, ◌+◌, ◌<◌, ◌≤◌, ◌≡◌, ◌⊎◌, List, refl, ap, arith, inl, inr, length, set, get_or-set_other, get_or-set_same}
use Rattle.std.proofs.lemmas.Bool.{cases_lt, cases_eq}
use Rattle.std.proofs.lemmas.List.{get_or_past}
use Rattle.atlas_store.specs.declared.slots.Node.{Node}
use Rattle.atlas_store.specs.declared.slots.NodeKind.{NodeKind}
use Rattle.atlas_store.specs.Slots.{node_at, blank_node, use_count, KeepsUse}
use Rattle.atlas_search.specs.Numbers.{no_slot}
use Rattle.atlas_store.specs.Slots.Numbered.{Numbered, tally, End, Free, Alloc, Seq}
use Rattle.atlas_store.specs.Slots.Standing.{Sequence, Standing, inside}
pub use Rattle.atlas_search.proofs.Occurrences.{same-self, same-ne, ne-from_same}

pub split_pos : (a b : ℕ) → 0 < a + b → (0 < a) ⊎ (0 < b)
split_pos a b l = grind arith

pub ne-from_count : (i j : ℕ) (n : Numbered) → tally i n ≡ 0 → 0 < tally j n → j ≡ i → ⊥
ne-from_count i j n z l e = absurd (omega (arith, ap (λ x. tally x n) e))

-- One of two numbers.
pub one_of : (a b : ℕ) → a + b ≡ 1 → ((a ≡ 1) × (b ≡ 0)) ⊎ ((a ≡ 0) × (b ≡ 1))
one_of a b e = elim (cases_eq a 0) [ inl z ↦ inr (z, omega arith) | inr n ↦ inl (omega arith, omega arith) ]

pub used-le : (k : NodeKind) → use_count k ≤ 1
used-le k = grind arith

-- A slot past the end is unused.
pub past-unused : (ns : List Node) (i : ℕ) → length ns ≤ i → use_count (node_at ns i).kind ≡ 0
past-unused ns i l = ap (λ (n : Node). use_count n.kind) (get_or_past ns i blank_node l)

pub used-inside : (ns : List Node) (i : ℕ) → 0 < use_count (node_at ns i).kind → i < length ns
used-inside ns i u = elim (cases_lt i (length ns)) [ inl l ↦ l | inr l ↦ absurd (omega (arith, past-unused ns i l)) ]

-- What a write to one place leaves.
pub record IsWritten (ns ms : List Node) (i : ℕ) (n : Node) : Type 0 where
  pub there : node_at ms i ≡ n
  pub others : (j : ℕ) → (j ≡ i → ⊥) → node_at ms j ≡ node_at ns j

pub IsWritten-set : (ns : List Node) (i : ℕ) (n : Node) → i < length ns → IsWritten ns (set ns i n) i n
IsWritten-set ns i n h = grind (arith, get_or-set_same, get_or-set_other)

-- A tree stands where the nodes of its slots are the same.
pub Standing-same : (ns ms : List Node) (s : Sequence) (before p : ℕ) (n : Numbered)
    → ((j : ℕ) → 0 < tally j n → node_at ms j ≡ node_at ns j) → Standing ns s before p n → Standing ms s before p n
Standing-same ns ms s before p End same_at h = tt
Standing-same ns ms s before p (Free i e rest) same_at h =
    grind (arith, same-self, Standing-same ns ms s i (p + e) rest (λ j l. same_at j (omega arith)) h.2)
Standing-same ns ms s before p (Alloc i g e rest) same_at h =
    grind (arith, same-self, Standing-same ns ms s i (p + e) rest (λ j l. same_at j (omega arith)) h.3)
Standing-same ns ms s before p (Seq i e inner rest) same_at h =
    grind (arith, same-self, Standing-same ns ms (inside s i p e) no_slot s.start inner, Standing-same ns ms s i (p + e) rest)

pub IsWritten-by : (ns ms : List Node) (i : ℕ) (m n : Node) → ms ≡ set ns i m → m ≡ n → i < length ns
    → IsWritten ns ms i n
IsWritten-by ns ms i m n e q h = rw (e, q) (IsWritten-set ns i n h)

-- An equal node has the same use.
pub keeps-same : (old new : Node) → new ≡ old → KeepsUse old new
keeps-same old new e = rw e (record { kind = refl; area = refl; generation = refl })
