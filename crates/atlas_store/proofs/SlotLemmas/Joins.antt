-- Two free neighbours become one.
use Rattle.std.proofs.Common.{ℕ, ◌+◌, ◌<◌, ◌≤◌, ◌≡◌, List, refl, sym, ap, ◌∙◌, arith}
use Rattle.atlas_store.specs.declared.slots.Node.{Node}
use Rattle.atlas_model.specs.Pixels.{rectangle_of}
use Rattle.atlas_store.specs.declared.slots.NodeKind.TheVariants as kind
use Rattle.atlas_store.specs.Slots.{node_at, use_count, KeepsUse}
use Rattle.atlas_search.specs.Numbers.{no_slot, same}
use Rattle.atlas_store.specs.Slots.Numbered.{Numbered, tally, first_slot, joined, grown_by, is_free_at, End, Free, Alloc, Seq}
use Rattle.atlas_store.specs.Slots.Standing.{Sequence, Standing, Stands, member_box}
use Rattle.atlas_store.proofs.SlotLemmas.Frames.{same-self, same-ne, Standing-same, used-le, ne-from_count}
use Rattle.atlas_store.proofs.SlotLemmas.MemberLinks.{IsNone, IsIn, next-in}
use Rattle.atlas_store.proofs.SlotLemmas.Weights.{free-in, free_place}
use Rattle.atlas_store.proofs.SlotLemmas.Edits.{IsEdit, Standing-edited, joining, free_here, first-edited, weigh-edited, other-slot}

-- The first_slot of m follows another slot now, and the rest of m is the same.
pub Standing-before : (ns ms : List Node) (i : ℕ) (s : Sequence) (before p : ℕ) (m : Numbered)
    → (0 < tally (first_slot m) m → node_at ms (first_slot m) ≡ record (node_at ns (first_slot m)) { previous = record { number = i } })
    → ((k : ℕ) → (k ≡ first_slot m → ⊥) → 0 < tally k m → node_at ms k ≡ node_at ns k) → tally (first_slot m) m ≤ 1
    → Standing ns s before p m → Standing ms s i p m
Standing-before ns ms i s before p End moved others one h = tt
Standing-before ns ms i s before p (Free k e rest) moved others one h =
    grind (arith, same-self, Standing-same, ne-from_count)
Standing-before ns ms i s before p (Alloc k g e rest) moved others one h =
    grind (arith, same-self, Standing-same, ne-from_count)
Standing-before ns ms i s before p (Seq k e inner rest) moved others one h =
    grind (arith, same-self, Standing-same, ne-from_count)

-- The box of two neighbours.
box-joined : (s : Sequence) (p e d : ℕ)
    → record (rectangle_of (member_box s p e)) { max = (rectangle_of (member_box s (p + e) d)).max } ≡ rectangle_of (member_box s p (e + d))
box-joined s p e d = grind arith

pub first-joined : (i : ℕ) (n : Numbered) → first_slot (joined i n) ≡ first_slot n
first-joined i = first-edited (is_free_at i) joining (grind arith) 0

-- The nodes ms are ns after the free leaf i took in the free leaf j, which a follows.
pub record IsJoinOf (ns ms : List Node) (i j a : ℕ) : Type 0 where
  pub ends : (node_at ns no_slot).kind ≡ kind.Unused
  pub free : (node_at ns i).kind ≡ kind.Free
  pub next : (node_at ns i).next.number ≡ j
  pub next_free : (node_at ns j).kind ≡ kind.Free
  pub after : (node_at ns j).next.number ≡ a
  pub this : node_at ms i ≡ record
      (node_at ns i) { next = (node_at ns j).next; area = record (node_at ns i).area { max = (node_at ns j).area.max } }
  pub apart : j ≡ i → ⊥
  pub gone : (node_at ms j).kind ≡ kind.Unused
  pub given : node_at ms j ≡ record (node_at ns j) { kind = kind.Unused }
  pub moved : (a ≡ no_slot → ⊥) → node_at ms a ≡ record (node_at ns a) { previous = record { number = i } }
  pub stays : a ≡ no_slot → node_at ms a ≡ node_at ns a
  pub others : (k : ℕ) → (k ≡ i → ⊥) → (k ≡ j → ⊥) → (k ≡ a → ⊥) → node_at ms k ≡ node_at ns k

module _ (ns ms : List Node) (i j a : ℕ) (w : IsJoinOf ns ms i j a) where
  not_none : IsNone j → ⊥
  not_none e = let k = w.next_free in let l : (node_at ns j).kind ≡ kind.Unused = rw (e, w.ends) refl in cc

  -- What follows i in rest is j, free.
  abbrev IsNextFree : Numbered → Type 0
  IsNextFree rest = (d : ℕ) × (tail : Numbered) × (rest ≡ Free j d tail)

  next_is : (s : Sequence) (b q : ℕ) (rest : Numbered) → first_slot rest ≡ j → Standing ns s b q rest → IsNextFree rest
  next_is s b q End e h = absurd (not_none (sym e))
  next_is s b q (Free k d tail) e h = (d, tail, ap (λ x. Free x d tail) e)
  next_is s b q rest e h = let f = h.0.kind in let l : (node_at ns (first_slot rest)).kind ≡ kind.Free = rw (e, w.next_free) refl in cc

  -- Where i is, j is too, and a, if there is one.
  next_in : (s : Sequence) (b q : ℕ) (n : Numbered) → Standing ns s b q n → 0 < tally i n → 0 < tally j n
  next_in s b q n h l = grind (arith, next-in, not_none)

  after_in : (s : Sequence) (b q : ℕ) (n : Numbered) → Standing ns s b q n → 0 < tally i n → IsIn a n
  after_in s b q n h l = rw w.after at (next-in ns j s b q n h (next_in s b q n h l))

  -- At i itself.
  at_head : (s : Sequence) (b p e : ℕ) (rest : Numbered) → IsNextFree rest → ((k : ℕ) → same k i + tally k rest ≤ 1)
      → same no_slot i + tally no_slot rest ≡ 0 → Standing ns s b p (Free i e rest)
      → Standing ms s b p (grown_by i e rest)
  at_head s b p e rest f once none h =
      let h2 : Standing ns s b p (Free i e (Free j f.0 f.1)) = rw f.2 at h in
      rw f.2 (grind (arith, box-joined, Standing-before ns ms i s j, same-self, same-ne, ne-from_count, rw f.2 at once, rw f.2 at none, h2))

  next_free : (s : Sequence) (b p e : ℕ) (rest : Numbered) → Standing ns s b p (Free i e rest) → IsNextFree rest
  next_free s b p e rest h = next_is s i (p + e) rest (sym h.0.next ∙ w.next) h.2

  taken_in : (n : Numbered) → ((x : ℕ) → tally x n ≤ 1) → tally no_slot n ≡ 0 → IsEdit ns ms (is_free_at i) joining n
  taken_in n once none =
      record {
        never = refl;
        once = once;
        first = grind arith;
        here = λ s b p. free_here i _ (λ e rest h less. grind (arith, at_head s b p e rest, next_free s b p e rest h));
        beside = λ s b p v h one. grind (arith, free-in i v one, next_in s b p v h, after_in s b p v h, other-slot, ne-from_count no_slot);
      }

  -- The slot j alone leaves the tree.
  pub tallies-joined : (s : Sequence) (n : Numbered) → Stands ns s n → (x : ℕ)
      → tally x (joined i n) + same x j ≡ tally x n
  tallies-joined s n h x =
      let all = weigh-edited (is_free_at i) joining ns (same x) (same x j) 0 refl (λ s b p. free_here i _ (grind (arith, next_free s b p)))
      s no_slot 0 n h.standing (free_place ns i s n w.free h) in omega (arith, all)

  used_after : (x : ℕ) → use_count (node_at ms x).kind + same x j ≡ use_count (node_at ns x).kind
  used_after x = grind (arith, same-self, same-ne)

  pub Stands-joined : (s : Sequence) (n : Numbered) → Stands ns s n → Stands ms s (joined i n)
  Stands-joined s n h =
      let once : (k : ℕ) → tally k n ≤ 1 = λ k. omega (arith, h.numbered k, used-le (node_at ns k).kind) in
      let none : tally no_slot n ≡ 0 = h.numbered no_slot ∙ ap use_count w.ends in
      record {
        standing = Standing-edited ns ms (is_free_at i) joining n (taken_in n once none) s no_slot 0 n (λ x. omega arith)
            (free_place ns i s n w.free h) h.standing;
        numbered = λ x. omega (arith, tallies-joined s n h x, used_after x, h.numbered x);
      }

  -- A join changes the use of no other slot.
  pub joined-use : (k : ℕ) → (k ≡ i → ⊥) → (k ≡ j → ⊥) → KeepsUse (node_at ns k) (node_at ms k)
  joined-use k ki kj = grind arith
