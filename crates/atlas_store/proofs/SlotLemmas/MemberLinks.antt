-- The links of a member lead to members.
use Rattle.std.proofs.Common.{ℕ, ◌<◌, ◌≤◌, ◌≡◌, List, refl, ◌⊎◌, inl, inr, arith}
use Rattle.atlas_store.specs.declared.slots.Node.{Node}
use Rattle.atlas_store.specs.Slots.{node_at}
use Rattle.atlas_search.specs.Numbers.{no_slot}
use Rattle.atlas_store.specs.Slots.Numbered.{Numbered, tally, first_slot, End}
use Rattle.atlas_store.specs.Slots.Standing.{Sequence, Standing}
use Rattle.atlas_store.proofs.SlotLemmas.Frames.{same-self, ne-from_same}
use Rattle.atlas_store.proofs.SlotLemmas.Suffixes.{suffix-at}

abbrev pub IsNone : ℕ → Type 0
IsNone i = i ≡ no_slot

-- A member of n, or none.
abbrev pub IsIn : ℕ → Numbered → Type 0
IsIn i n = IsNone i ⊎ (0 < tally i n)

pub first-in : (n : Numbered) → IsIn (first_slot n) n
first-in End = inl refl
first-in n = inr (omega (arith, same-self))

pub in-wider : (i : ℕ) (m n : Numbered) → (tally i m ≤ tally i n) → IsIn i m → IsIn i n
in-wider i m n l (inl e) = inl e
in-wider i m n l (inr h) = inr (omega arith)

-- What follows the first member is in the rest.
next-head : (ns : List Node) (i : ℕ) (s : Sequence) (b p : ℕ) (m : Numbered) → first_slot m ≡ i → 0 < tally i m
    → Standing ns s b p m → IsIn (node_at ns i).next.number m
next-head ns i s b p End e l h = absurd (omega arith)
next-head ns i s b p m e l h = grind (arith, in-wider, first-in)

pub next-in : (ns : List Node) (i : ℕ) (s : Sequence) (before p : ℕ) (n : Numbered) → Standing ns s before p n
    → 0 < tally i n → IsIn (node_at ns i).next.number n
next-in ns i s before p n h l = grind (arith, suffix-at ns i s before p n h l, in-wider, next-head ns i)

-- What begins at no slot is empty.
pub begins-none : (n : Numbered) → first_slot n ≡ no_slot → tally no_slot n ≡ 0 → n ≡ End
begins-none End e none = refl
begins-none n e none = absurd (ne-from_same no_slot _ (omega arith) e)
