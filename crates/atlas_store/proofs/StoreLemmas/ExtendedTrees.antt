-- Trees whose top sequence is extended: what the extents add up to, and which slot comes last.
use Rattle.std.proofs.Common.{ℕ, ◌+◌, ◌<◌, ◌≤◌, ◌≡◌, refl, arith}
use Rattle.atlas_model.specs.Trees.{IsCut, total}
use Rattle.atlas_store.specs.Slots.Numbered.{Numbered, erase, tally}
use Rattle.atlas_search.specs.Numbers.{no_slot}
use Rattle.atlas_store.specs.Slots.Growing.{last_slot, with_free_after, lengthened_by, stretched, appended}
use Rattle.atlas_store.proofs.SlotLemmas.ReadTrees.{HasMember}
use Rattle.atlas_store.proofs.SlotLemmas.Extensions.{extended-keeps, last-later}

-- The last member, if it is free, is longer.

pub total-stretched : (d : ℕ) (n : Numbered) → total (erase (stretched d n)) ≤ total (erase n) + d
total-stretched d =
    extended-keeps (lengthened_by d) (λ m n. total (erase n) ≤ total (erase m) + d) (grind arith) (grind arith)

pub cut-stretched : (d across : ℕ) (n : Numbered) → IsCut across (erase n) → IsCut across (erase (stretched d n))
cut-stretched d across =
    extended-keeps (lengthened_by d) (λ m n. IsCut across (erase m) → IsCut across (erase n)) (grind arith) (grind arith)

-- A free member comes last.

pub total-appended : (k d : ℕ) (n : Numbered) → total (erase (appended k d n)) ≡ total (erase n) + d
total-appended k d =
    extended-keeps (with_free_after k d) (λ m n. total (erase n) ≡ total (erase m) + d) (grind arith) (grind arith)

pub cut-appended : (k d across : ℕ) (n : Numbered) → 0 < d → IsCut across (erase n)
    → IsCut across (erase (appended k d n))
cut-appended k d across =
    extended-keeps (with_free_after k d) (λ m n. 0 < d → IsCut across (erase m) → IsCut across (erase n)) (grind arith)
    (grind arith)

-- The last member of some is one of them.
pub last-member : (n : Numbered) → HasMember n → 0 < tally (last_slot n) n
last-member n some = last-later (last_slot n) no_slot n some refl
