-- The steps of a freeing, seen from the whole tree.
use Rattle.std.proofs.Common.{rules, ℕ, ◌+◌, ◌<◌, ◌≤◌, ◌≡◌, List, ap, ◌∙◌, ◌⊎◌, inl, inr, arith, length, Bool}
use Rattle.atlas_store.specs.declared.slots.Node.{Node}
use Rattle.atlas_store.specs.declared.slots.NodeKind.TheVariants as kind
use Rattle.atlas_store.specs.Slots.{node_at, use_count}
use Rattle.atlas_search.specs.Numbers.{no_slot}
use Rattle.atlas_model.specs.Trees as tree
use Rattle.atlas_model.specs.Trees.{IsNormal}
use Rattle.atlas_store.specs.Slots.Numbered.{Numbered, tally, first_slot, erase, marked, joined, lifted, is_free_at, is_alloc_at}
use Rattle.atlas_store.specs.Slots.Numbered.{is_seq_at, End, Free, Alloc, Seq}
use Rattle.atlas_store.specs.Slots.Standing.{Sequence, Standing, Stands, IsWhole, IsSlot}
use Rattle.atlas_store.proofs.SlotLemmas.JoinWrites.{used-inside, none-unused, not-none}
use Rattle.atlas_store.proofs.SlotLemmas.Frames.{same-self, same-ne, split_pos}
use Rattle.atlas_store.proofs.SlotLemmas.MemberLinks.{next-in}
use Rattle.atlas_store.proofs.SlotLemmas.Edits.{IsCarried, edited-keeps, joining, lifting, marking}
use Rattle.atlas_store.proofs.SlotLemmas.Calm.{calm-all, normal-from_calm}
use Rattle.atlas_store.specs.Slots.Calm.{IsCalmAt, IsCalmBut, NoneEmpty}

-- The slots stand for the whole tree n, whose top sequence is s; `at` is free, and all else is calm.
pub record IsSettlingTree (ns : List Node) (s : Sequence) (n : Numbered) (at : ℕ) : Type 0 where
  pub top : s.parent ≡ no_slot
  pub stands : Stands ns s n
  pub full : NoneEmpty (erase n)
  pub free : (node_at ns at).kind ≡ kind.Free
  pub calm : IsCalmBut ns at

-- An edit that leaves no sequence empty.
abbrev IsFuller : (across : ℕ) → (old new : Numbered) → Type 0
IsFuller a m n = (erase n ≡ tree.End → erase m ≡ tree.End) × (NoneEmpty (erase m) → NoneEmpty (erase n))

full-kept : (is : Numbered → Bool) → IsCarried is IsFuller
full-kept is = grind arith

pub full-joined : (i : ℕ) (n : Numbered) → NoneEmpty (erase n) → NoneEmpty (erase (joined i n))
full-joined i n = (edited-keeps (is_free_at i) joining IsFuller (full-kept _) (grind arith) 0 n).1

pub full-lifted : (i : ℕ) (n : Numbered) → NoneEmpty (erase n) → NoneEmpty (erase (lifted i n))
full-lifted i n = (edited-keeps (is_seq_at i) lifting IsFuller (full-kept _) (grind arith) 0 n).1

pub full-marked : (i : ℕ) (n : Numbered) → NoneEmpty (erase n) → NoneEmpty (erase (marked i n))
full-marked i n = (edited-keeps (is_alloc_at i) marking IsFuller (full-kept _) (grind arith) 0 n).1

-- What a slot says of the slot before it.
abbrev pub IsBackLinked : List Node → ℕ → ℕ → Numbered → Type 0
IsBackLinked ns b k n =
    ((k ≡ first_slot n) × ((node_at ns k).previous.number ≡ b)) ⊎ (((node_at ns k).previous.number ≡ no_slot) ⊎
    ((0 < tally (node_at ns k).previous.number n) × ((node_at ns (node_at ns k).previous.number).next.number ≡ k)))

before_wider : (ns : List Node) (b j k : ℕ) (m n : Numbered) → (node_at ns j).next.number ≡ first_slot m → 0 < tally j n
    → ((x : ℕ) → tally x m ≤ tally x n) → IsBackLinked ns j k m → IsBackLinked ns b k n
before_wider ns b j k m n e l w (inl (x, y)) = grind arith
before_wider ns b j k m n e l w (inr (inl y)) = inr (inl y)
before_wider ns b j k m n e l w (inr (inr (x, y))) = inr (inr (omega (arith, w (node_at ns k).previous.number), y))

inner_wider : (ns : List Node) (b k : ℕ) (m n : Numbered) → ((x : ℕ) → tally x m ≤ tally x n)
    → IsBackLinked ns no_slot k m
    → IsBackLinked ns b k n
inner_wider ns b k m n w h = grind arith

pub before-in : (ns : List Node) (k : ℕ) (s : Sequence) (b p : ℕ) (n : Numbered) → Standing ns s b p n → 0 < tally k n
    → IsBackLinked ns b k n
before-in ns k s b p End h l = absurd (omega arith)
before-in ns k s b p (Free j e rest) h l =
    grind (arith, before_wider, same-self, before-in ns k s j (p + e) rest h.2, same-ne)
before-in ns k s b p (Alloc j g e rest) h l =
    grind (arith, before_wider, same-self, before-in ns k s j (p + e) rest h.3, same-ne)
before-in ns k s b p (Seq j e inner rest) h l =
    search (
      rules,
      split_pos,
      same-ne,
      same-self,
      inner_wider,
      before_wider,
      before-in ns k _ _ _ inner h.2,
      before-in ns k s j (p + e) rest h.3,
    )

-- The slot before is a slot or none, and a free one leads here.
pub previous-slot : (ns : List Node) (k m : ℕ) (x : ℕ) → length ns < no_slot → IsWhole ns
    → (node_at ns k).kind ≡ kind.Free → x ≡ (node_at ns k).previous.number → m ≡ length ns → IsSlot m x
previous-slot ns k m x short t f ex em = grind (arith, before-in ns k t.0 no_slot 0 t.1, used-inside ns)

pub previous-leads : (ns : List Node) (k : ℕ) → length ns < no_slot → IsWhole ns → (node_at ns k).kind ≡ kind.Free
    → (node_at ns (node_at ns k).previous.number).kind ≡ kind.Free
    → (node_at ns (node_at ns k).previous.number).next.number ≡ k
previous-leads ns k short t f g = grind (arith, not-none ns, none-unused ns short, before-in ns k t.0 no_slot 0 t.1)

pub next-slot : (ns : List Node) (k m x : ℕ) → IsWhole ns → (node_at ns k).kind ≡ kind.Free
    → x ≡ (node_at ns k).next.number → m ≡ length ns → IsSlot m x
next-slot ns k m x t f ex em =
    let h = t.3 in
    let here : 0 < tally k t.1 = rw (h.numbered k, f) (omega arith) in
    rw (ex, em) (elim (next-in ns k t.0 no_slot 0 t.1 h.standing here) [
      | inl y ↦ inl y
      | inr y ↦ inr
          (used-inside ns _ (rw (← h.numbered (node_at ns k).next.number) y))
    ])

-- Where neither neighbour is free and the leaf isn't alone in a container, the tree is normal.
pub settled : (ns : List Node) (k : ℕ) (s : Sequence) (n : Numbered) → length ns < no_slot → IsSettlingTree ns s n k
    → ((node_at ns (node_at ns k).next.number).kind ≡ kind.Free → ⊥)
    → ((node_at ns (node_at ns k).previous.number).kind ≡ kind.Free → ⊥)
    → ((node_at ns k).previous.number ≡ no_slot → (node_at ns k).next.number ≡ no_slot → (node_at ns k).parent.number ≡ no_slot)
    → IsNormal (erase n)
settled ns k s n short w nn np alone =
    let u = none-unused ns short in
    let here : IsCalmAt ns k = record { apart = λ _ g. nn g; nested = λ _ b a. alone b a } in
    let calm = calm-all ns s n k u w.stands w.calm here w.free np in
    let none : tally no_slot n ≡ 0 = w.stands.numbered no_slot ∙ ap use_count u in
    normal-from_calm ns s no_slot 0 n none w.full (λ x _. calm x) w.stands.standing
