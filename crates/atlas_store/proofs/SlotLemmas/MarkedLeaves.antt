-- Marking an allocated leaf free.
use Rattle.std.proofs.Common.{ℕ, ◌≤◌, ◌≡◌, List, refl, ◌∙◌, inl, inr, arith}
use Rattle.std.proofs.lemmas.Bool.{cases_eq}
use Rattle.atlas_store.specs.declared.slots.Node.{Node}
use Rattle.atlas_store.specs.declared.slots.NodeKind.TheVariants as kind
use Rattle.atlas_store.specs.Slots.{node_at, use_count}
use Rattle.atlas_search.specs.Numbers.{no_slot, same}
use Rattle.atlas_store.specs.Slots.Numbered.{Numbered, weigh, tally, numbers, first_slot, marked, is_alloc_at}
use Rattle.atlas_store.specs.Slots.Standing.{Sequence, Stands}
use Rattle.atlas_store.proofs.SlotLemmas.Frames.{IsWritten, Standing-same, same-self, used-le, ne-from_count}
use Rattle.atlas_store.proofs.SlotLemmas.Weights.{places-le, alloc_place}
use Rattle.atlas_store.proofs.SlotLemmas.Edits.{IsEdit, Standing-edited, marking, alloc_here, first-edited, edited-absent, weigh-same}
use Rattle.atlas_store.proofs.SlotLemmas.Edits.{other-slot}

pub first-marked : (i : ℕ) (n : Numbered) → first_slot (marked i n) ≡ first_slot n
first-marked i = first-edited (is_alloc_at i) marking (grind arith) 0

weigh-marked : (w : ℕ → ℕ) (i : ℕ) (n : Numbered) → weigh w (marked i n) ≡ weigh w n
weigh-marked w i = weigh-same (is_alloc_at i) marking w (grind arith) 0

pub numbers-marked : (i : ℕ) (n : Numbered) → numbers (marked i n) ≡ numbers n
numbers-marked i n = weigh-marked (λ _. 1) i n

pub marked-absent : (i : ℕ) (n : Numbered) → tally i n ≡ 0 → marked i n ≡ n
marked-absent i n z = edited-absent (is_alloc_at i) marking refl 0 n (omega
    (arith, places-le (is_alloc_at i) i (alloc_here i (λ m. first_slot m ≡ i) (λ g e rest. refl)) n))

module _ (ns ms : List Node) (i : ℕ) (w : IsWritten ns ms i (record (node_at ns i) { kind = kind.Free }))
    (was : (node_at ns i).kind ≡ kind.Alloc) where
  freed : (n : Numbered) → ((x : ℕ) → tally x n ≤ 1) → IsEdit ns ms (is_alloc_at i) marking n
  freed n once = grind (arith, alloc_here i, marking, Standing-same ns ms, ne-from_count i, same-self i, other-slot, places-le)

  used_same : (k : ℕ) → use_count (node_at ns k).kind ≡ use_count (node_at ms k).kind
  used_same k = elim (cases_eq k i) [ inl e ↦ rw (e, w.there, was) refl | inr ne ↦ rw (w.others k ne) refl ]

  pub Stands-marked : (s : Sequence) (n : Numbered) → Stands ns s n → Stands ms s (marked i n)
  Stands-marked s n h =
      let once : (x : ℕ) → tally x n ≤ 1 = λ k. omega (arith, h.numbered k, used-le (node_at ns k).kind) in
      record {
        standing = Standing-edited ns ms (is_alloc_at i) marking n (freed n once) s no_slot 0 n (λ x. omega arith)
            (alloc_place ns i s n was h) h.standing;
        numbered = λ k. weigh-marked (same k) i n ∙ h.numbered k ∙ used_same k;
      }
