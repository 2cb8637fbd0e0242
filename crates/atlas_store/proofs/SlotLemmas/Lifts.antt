-- A lone free child takes the place of its container.
use Rattle.std.proofs.Common.{ℕ, ◌+◌, ◌<◌, ◌≤◌, ◌≡◌, List, refl, sym, ap, ◌∙◌, ◌⊎◌, inl, inr, arith}
use Rattle.std.proofs.lemmas.Bool.{cases_eq, eqb-false}
use Rattle.atlas_store.specs.declared.slots.Node.{Node}
use Rattle.atlas_store.specs.declared.slots.NodeKind.TheVariants as kind
use Rattle.atlas_store.specs.Slots.{node_at}
use Rattle.atlas_search.specs.Numbers.{no_slot, same}
use Rattle.atlas_store.specs.Slots.Numbered.{Numbered, tally, first_slot, lifted, is_seq_at, End, Free, Alloc, Seq}
use Rattle.atlas_store.specs.Slots.Standing.{Sequence, Standing, Stands, inside}
use Rattle.atlas_store.proofs.SlotLemmas.Frames.{same-self, same-ne, Standing-same, used-le, split_pos, ne-from_count, ne-from_same}
use Rattle.atlas_store.proofs.SlotLemmas.MemberLinks.{begins-none}
use Rattle.atlas_store.proofs.SlotLemmas.Edits.{lifting, seq_here, first-edited, edited-keeps}

wider : (x p : ℕ) (m n : Numbered) → tally x m ≤ tally x n → (x ≡ p) ⊎ (0 < tally x m) → (x ≡ p) ⊎ (0 < tally x n)
wider x p m n l (inl e) = inl e
wider x p m n l (inr h) = inr (omega arith)

-- A member's parent holds the sequence, or is a member itself.
pub parent-in : (ns : List Node) (k : ℕ) (s : Sequence) (b p : ℕ) (n : Numbered) → Standing ns s b p n → 0 < tally k n
    → ((node_at ns k).parent.number ≡ s.parent) ⊎ (0 < tally (node_at ns k).parent.number n)
parent-in ns k s b p End h l = absurd (omega arith)
parent-in ns k s b p (Free j e rest) h l =
    elim (cases_eq k j) [
      | inl x ↦ inl (rw x h.0.parent)
      | inr ne ↦ wider (node_at ns k).parent.number s.parent rest (Free j e rest) (omega arith)
          (parent-in ns k s j (p + e) rest h.2 (omega (arith, same-ne k j ne)))
    ]
parent-in ns k s b p (Alloc j g e rest) h l =
    elim (cases_eq k j) [
      | inl x ↦ inl (rw x h.0.parent)
      | inr ne ↦ wider (node_at ns k).parent.number s.parent rest (Alloc j g e rest) (omega arith)
          (parent-in ns k s j (p + e) rest h.3 (omega (arith, same-ne k j ne)))
    ]
parent-in ns k s b p (Seq j e inner rest) h l =
    elim (cases_eq k j) [
      | inl x ↦ inl (rw x h.0.parent)
      | inr ne ↦ elim (split_pos (tally k inner) (tally k rest) (omega (arith, same-ne k j ne))) [
        | inl y ↦ elim (parent-in ns k (inside s j p e) no_slot s.start inner h.2 y) [
          | inl x ↦ inr (omega (arith, same-self j, ap (λ v. same v j) x))
          | inr z ↦ inr (omega arith)
        ]
        | inr y ↦ wider (node_at ns k).parent.number s.parent rest (Seq j e inner rest) (omega arith)
            (parent-in ns k s j (p + e) rest h.3 y)
      ]
    ]

first-previous : (ns : List Node) (k : ℕ) (s : Sequence) (b q : ℕ) (n : Numbered) → Standing ns s b q n → 0 < tally k n
    → (node_at ns (first_slot n)).previous.number ≡ b
first-previous ns k s b q End h l = absurd (omega arith)
first-previous ns k s b q n h l = h.0.previous

-- A member of c that follows none comes first in the sequence of c, in which c is not.
module _ (ns : List Node) (c k : ℕ) (parent : (node_at ns k).parent.number ≡ c) (previous : (node_at ns k).previous.number ≡ no_slot) where
  not_after : (s : Sequence) (j q : ℕ) (rest : Numbered) → same no_slot j ≡ 0 → k ≡ first_slot rest → 0 < tally k rest
      → Standing ns s j q rest → ⊥
  not_after s j q rest z e l h =
      ne-from_same no_slot j z (sym (first-previous ns k s j q rest h l) ∙ ap (λ v. (node_at ns v).previous.number) (sym e) ∙ previous)

  not_inside : (s : Sequence) (j q : ℕ) (inner : Numbered) → s.parent ≡ j → same c j ≡ 0 → tally c inner ≡ 0
      → 0 < tally k inner → Standing ns s no_slot q inner → ⊥
  not_inside s j q inner held z none l h = elim (parent-in ns k s no_slot q inner h l) [
    | inl x ↦ ne-from_same c j z (sym held ∙ sym x ∙ parent)
    | inr y ↦ absurd (omega (arith, none, rw parent at y))
  ]

  pub head-is_first : (s : Sequence) (b q : ℕ) (n : Numbered) → tally no_slot n ≡ 0 → tally c n ≡ 0 → 0 < tally k n
      → Standing ns s b q n → k ≡ first_slot n
  head-is_first s b q End none zc l h = absurd (omega arith)
  head-is_first s b q (Free j e rest) none zc l h = elim (cases_eq k j) [
    | inl x ↦ x
    | inr ne ↦
        let y : 0 < tally k rest = omega (arith, same-ne k j ne) in
        absurd (not_after s j (q + e) rest (omega arith) (head-is_first s j (q + e) rest (omega arith) (omega arith) y h.2) y h.2)
  ]
  head-is_first s b q (Alloc j g e rest) none zc l h = elim (cases_eq k j) [
    | inl x ↦ x
    | inr ne ↦
        let y : 0 < tally k rest = omega (arith, same-ne k j ne) in
        absurd (not_after s j (q + e) rest (omega arith) (head-is_first s j (q + e) rest (omega arith) (omega arith) y h.3) y h.3)
  ]
  head-is_first s b q (Seq j e inner rest) none zc l h = elim (cases_eq k j) [
    | inl x ↦ x
    | inr ne ↦ elim (split_pos (tally k inner) (tally k rest) (omega (arith, same-ne k j ne))) [
      | inl y ↦ absurd (not_inside (inside s j q e) j s.start inner refl (omega arith) (omega arith) y h.2)
      | inr y ↦ absurd (not_after s j (q + e) rest (omega arith) (head-is_first s j (q + e) rest (omega arith) (omega arith) y h.3) y h.3)
    ]
  ]

pub first-lifted : (i : ℕ) (n : Numbered) → first_slot (lifted i n) ≡ first_slot n
first-lifted i = first-edited (is_seq_at i) lifting (grind arith) 0

-- The nodes ms are ns after the lone free child k gave its place to c.
pub record IsLiftOf (ns ms : List Node) (c k : ℕ) : Type 0 where
  pub ends : (node_at ns no_slot).kind ≡ kind.Unused
  pub free : (node_at ns k).kind ≡ kind.Free
  pub parent : (node_at ns k).parent.number ≡ c
  pub alone_before : (node_at ns k).previous.number ≡ no_slot
  pub alone_after : (node_at ns k).next.number ≡ no_slot
  pub nested : c ≡ no_slot → ⊥
  pub outer : node_at ms c ≡ record (node_at ns c) { kind = kind.Free }
  pub apart : c ≡ k → ⊥
  pub container : (node_at ns c).kind ≡ kind.Container
  pub gone : (node_at ms k).kind ≡ kind.Unused
  pub given : node_at ms k ≡ record (node_at ns k) { kind = kind.Unused }
  pub others : (x : ℕ) → (x ≡ c → ⊥) → (x ≡ k → ⊥) → node_at ms x ≡ node_at ns x

module _ (ns ms : List Node) (c k : ℕ) (w : IsLiftOf ns ms c k) where
  -- In c there is the child alone.
  first_here : (s : Sequence) (b q : ℕ) (n : Numbered) → tally no_slot n ≡ 0 → tally c n ≡ 0 → 0 < tally k n
      → Standing ns s b q n → k ≡ first_slot n
  first_here = head-is_first ns c k w.parent w.alone_before

  lone : (s : Sequence) (b q : ℕ) (n : Numbered) → tally no_slot n ≡ 0 → tally c n ≡ 0 → 0 < tally k n
      → Standing ns s b q n → (d : ℕ) × (n ≡ Free k d End)
  lone s b q End none zc l h = absurd (omega arith)
  lone s b q (Free j d rest) none zc l h =
      let at : k ≡ j = first_here s b q (Free j d rest) none zc l h in
      let ends = sym h.0.next ∙ ap (λ v. (node_at ns v).next.number) (sym at) ∙ w.alone_after in
      (d, ap (Free j d) (begins-none rest ends (omega arith)) ∙ ap (λ v. Free v d End) (sym at))
  lone s b q (Alloc j g d rest) none zc l h =
      let e = ap (λ v. (node_at ns v).kind) (first_here s b q (Alloc j g d rest) none zc l h) in
      absurd (let z : kind.Free ≡ kind.Alloc = sym w.free ∙ e ∙ h.0.kind in cc)
  lone s b q (Seq j d inner rest) none zc l h =
      let e = ap (λ v. (node_at ns v).kind) (first_here s b q (Seq j d inner rest) none zc l h) in
      absurd (let z : kind.Free ≡ kind.Container = sym w.free ∙ e ∙ h.0.kind in cc)

  -- Where k is, c is, but for the sequence of c itself.
  container_in : (s : Sequence) (b q : ℕ) (n : Numbered) → (s.parent ≡ c → ⊥) → Standing ns s b q n → 0 < tally k n
      → 0 < tally c n
  container_in s b q n np h l = elim (parent-in ns k s b q n h l) [ inl x ↦ absurd (np (sym x ∙ w.parent)) | inr y ↦ (rw w.parent at y) ]

  beside : (j : ℕ) (m : Numbered) → ((x : ℕ) → same x j + tally x m ≤ 1) → 0 < tally c m → 0 < tally k m
      → node_at ms j ≡ node_at ns j
  beside j m once lc lk = w.others j (ne-from_same c j (omega (arith, once c))) (ne-from_same k j (omega (arith, once k)))

  -- k is no member of a sequence that c doesn't hold.
  outside : (s : Sequence) (j : ℕ) → (s.parent ≡ c → ⊥) → (node_at ns j).parent.number ≡ s.parent → k ≡ j → ⊥
  outside s j np held e = np (sym held ∙ ap (λ v. (node_at ns v).parent.number) (sym e) ∙ w.parent)

  stays_outside : (s : Sequence) (b q : ℕ) (n : Numbered) → tally c n ≡ 0 → tally k n ≡ 0 → Standing ns s b q n
      → Standing ms s b q n
  stays_outside s b q n zc zk = Standing-same ns ms s b q n (λ v l. w.others v (ne-from_count c v n zc l) (ne-from_count k v n zk l))

  -- Where c isn't, nothing changes; where k is, the tree stands, and the slot k alone leaves it.
  abbrev IsLift : (across : ℕ) → (old new : Numbered) → Type 0
  IsLift a m u =
      (tally c m ≡ 0 → u ≡ m)
      × (first_slot u ≡ first_slot m)
      × ((s : Sequence) (b p : ℕ) → ((x : ℕ) → tally x m ≤ 1) → tally no_slot m ≡ 0 → (s.parent ≡ c → ⊥) → 0 < tally k m
      → Standing ns s b p m → Standing ms s b p u × ((x : ℕ) → tally x u + same x k ≡ tally x m))

  lifts : (n : Numbered) → IsLift 0 n (lifted c n)
  lifts n =
      edited-keeps (is_seq_at c) lifting IsLift (record {
        ends = grind arith;
        free = λ a j e m u no f. (
          λ z. ap (Free j e) (f.0 (omega arith)),
          refl,
          λ s b p once none np l h.
              let lk : 0 < tally k m = omega (arith, same-ne k j (outside s j np h.0.parent)) in
              let same_at = beside j m once (container_in s j (p + e) m np h.2 lk) lk in
              let after = f.2 s j (p + e) (λ x. omega (arith, once x)) (omega arith) np lk h.2 in
              ((rw (same_at, f.1) h.0, rw same_at h.1, after.0), λ x. omega (arith, after.1 x)),
        );
        alloc = λ a j g e m u no f. (
          λ z. ap (Alloc j g e) (f.0 (omega arith)),
          refl,
          λ s b p once none np l h.
              let lk : 0 < tally k m = omega (arith, same-ne k j (outside s j np h.0.parent)) in
              let same_at = beside j m once (container_in s j (p + e) m np h.3 lk) lk in
              let after = f.2 s j (p + e) (λ x. omega (arith, once x)) (omega arith) np lk h.3 in
              ((rw (same_at, f.1) h.0, rw same_at h.1, rw same_at h.2, after.0), λ x. omega (arith, after.1 x)),
        );
        seq = λ a j e x y m u no f g. (
          λ z. ap (λ v. Seq j e v u) (f.0 (omega arith)) ∙ ap (Seq j e x) (g.0 (omega arith)),
          refl,
          λ s b p once none np l h.
              let nj : c ≡ j → ⊥ = eqb-false c j no in
              let t = inside s j p e in
              elim (split_pos (tally k x) (tally k m) (omega (arith, same-ne k j (outside s j np h.0.parent)))) [
                | inl lk ↦
                    let lc = container_in t no_slot s.start x (λ q. nj (sym q)) h.2 lk in
                    let same_at = beside j x (λ v. omega (arith, once v)) lc lk in
                    let within = f.2 t no_slot s.start (λ v. omega (arith, once v)) (omega arith) (λ q. nj (sym q)) lk h.2 in
                    let same_rest : u ≡ m = g.0 (omega (arith, once c, lc)) in
                    let stays = stays_outside s j (p + e) m (omega (arith, once c, lc)) (omega (arith, once k, lk)) h.3 in (
                      (rw (same_at, g.1) h.0, rw same_at h.1, within.0, rw same_rest stays),
                      λ v. omega (arith, within.1 v, ap (tally v) same_rest),
                    )
                | inr lk ↦
                    let lc = container_in s j (p + e) m np h.3 lk in
                    let same_at = beside j m (λ v. omega (arith, once v)) lc lk in
                    let after = g.2 s j (p + e) (λ v. omega (arith, once v)) (omega arith) np lk h.3 in
                    let same_inner : y ≡ x = f.0 (omega (arith, once c, lc)) in
                    let stays = stays_outside t no_slot s.start x (omega (arith, once c, lc)) (omega (arith, once k, lk)) h.2 in (
                      (rw (same_at, g.1) h.0, rw same_at h.1, rw same_inner stays, after.0),
                      λ v. omega (arith, after.1 v, ap (tally v) same_inner),
                    )
              ],
        );
      }) (λ a. seq_here c (λ m. IsLift a m (lifting a m)) (λ e inner rest. (
        grind (arith, same-self),
        grind arith,
        λ s b p once none np l h.
            let lk : 0 < tally k inner = grind (arith, same-ne k c, same-self c, container_in s c (p + e) rest) in
            let o = lone (inside s c p e) no_slot s.start inner (omega (arith, none)) (omega (arith, once c, same-self c)) lk h.2 in
            rw o.1 (grind (arith, w.outer, Standing-same ns ms)),
      ))) 0 n

  pub Stands-lifted : (s : Sequence) (n : Numbered) → s.parent ≡ no_slot → Stands ns s n
      → (node_at ns c).kind ≡ kind.Container → Stands ms s (lifted c n)
  Stands-lifted s n top h box = grind (arith, lifts n, used-le, same-self k, same-ne)
