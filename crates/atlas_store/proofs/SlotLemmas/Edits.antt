-- What holds of every edit of a numbered tree, by one walk over the tree.
use Rattle.std.proofs.Common.{ℕ, ◌+◌, ◌<◌, ◌≤◌, ◌≡◌, Bool, true, false, cond, List, refl, sym, subst, inl, inr, arith}
use Rattle.std.proofs.lemmas.Bool.{cond_both, eqb-true, true≢false}
use Rattle.atlas_store.specs.declared.slots.Node.{Node}
use Rattle.atlas_store.specs.Slots.{node_at}
use Rattle.atlas_search.specs.Numbers.{no_slot, same}
use Rattle.atlas_store.specs.Slots.Numbered.{Numbered, weigh, tally, first_slot, edited_in, on_free, on_alloc, on_seq, grown_by, lifted_to}
use Rattle.atlas_store.specs.Slots.Numbered.{is_free_at, is_alloc_at, is_seq_at, End, Free, Alloc, Seq}
use Rattle.atlas_store.specs.Slots.Standing.{Sequence, Standing, inside}
use Rattle.atlas_store.proofs.SlotLemmas.Frames.{same-self, one_of, ne-from_count, Standing-same}
use Rattle.atlas_store.proofs.SlotLemmas.Weights.{places, places-some, not_here}

-- What the edits make of the members from their place on, in a sequence that spans `across`.

abbrev pub joining : (across : ℕ) → Numbered → Numbered
joining across = on_free grown_by

abbrev pub marking : (across : ℕ) → Numbered → Numbered
marking across = on_alloc (λ j g e rest. Free j e rest)

abbrev pub lifting : (across : ℕ) → Numbered → Numbered
lifting across = on_seq lifted_to

-- What holds of each member that is looked for.

pub free_here : (i : ℕ) (P : Numbered → Type 0) → ((e : ℕ) (rest : Numbered) → P (Free i e rest)) → (m : Numbered)
    → is_free_at i m ≡ true → P m
free_here i P p (Free j e rest) t = subst (λ k. P (Free k e rest)) (eqb-true i j t) (p e rest)
free_here i P p m t = absurd (true≢false (sym t))

pub alloc_here : (i : ℕ) (P : Numbered → Type 0) → ((g e : ℕ) (rest : Numbered) → P (Alloc i g e rest)) → (m : Numbered)
    → is_alloc_at i m ≡ true → P m
alloc_here i P p (Alloc j g e rest) t = subst (λ k. P (Alloc k g e rest)) (eqb-true i j t) (p g e rest)
alloc_here i P p m t = absurd (true≢false (sym t))

pub seq_here : (i : ℕ) (P : Numbered → Type 0) → ((e : ℕ) (inner rest : Numbered) → P (Seq i e inner rest))
    → (m : Numbered) → is_seq_at i m ≡ true → P m
seq_here i P p (Seq j e inner rest) t = subst (λ k. P (Seq k e inner rest)) (eqb-true i j t) (p e inner rest)
seq_here i P p m t = absurd (true≢false (sym t))

-- A relation between a tree and the edited one, in a sequence that spans `across`, which holds further where it holds
-- after a member that isn't looked for.
pub record IsCarried (is : Numbered → Bool) (R : (across : ℕ) → (old new : Numbered) → Type 0) : Type 0 where
  pub ends : (a : ℕ) → R a End End
  pub free : (a i e : ℕ) (m n : Numbered) → is (Free i e m) ≡ false → R a m n → R a (Free i e m) (Free i e n)
  pub alloc : (a i g e : ℕ) (m n : Numbered) → is (Alloc i g e m) ≡ false → R a m n
      → R a (Alloc i g e m) (Alloc i g e n)
  pub seq : (a i e : ℕ) (k l m n : Numbered) → is (Seq i e k m) ≡ false → R e k l → R a m n
      → R a (Seq i e k m) (Seq i e l n)

module _ (is : Numbered → Bool) (change : ℕ → Numbered → Numbered) where
  module _ (R : (across : ℕ) → (old new : Numbered) → Type 0) (kept : IsCarried is R)
      (here : (a : ℕ) (m : Numbered) → is m ≡ true → R a m (change a m)) where
    choice : (a : ℕ) (m v : Numbered) → (is m ≡ false → R a m v) → R a m (cond (is m) (change a m) v)
    choice a m v other = cond_both (is m) (change a m) v (λ x. R a m x) (here a m) other

    -- The walk.
    pub edited-keeps : (a : ℕ) (n : Numbered) → R a n (edited_in is change (change a) n)
    edited-keeps a End = choice a End End (λ _. kept.ends a)
    edited-keeps a (Free i e rest) = grind (arith, choice, edited-keeps a rest)
    edited-keeps a (Alloc i g e rest) = grind (arith, choice, edited-keeps a rest)
    edited-keeps a (Seq i e inner rest) = grind (arith, choice, edited-keeps e inner, edited-keeps a rest)

  -- The first member keeps its slot.
  pub first-edited : ((a : ℕ) (m : Numbered) → is m ≡ true → first_slot (change a m) ≡ first_slot m)
      → (a : ℕ) (n : Numbered) → first_slot (edited_in is change (change a) n) ≡ first_slot n
  first-edited here = grind (arith, edited-keeps)

  -- Nothing happens where no member is looked for.
  pub edited-absent : is End ≡ false → (a : ℕ) (n : Numbered) → places is n ≡ 0 → edited_in is change (change a) n ≡ n
  edited-absent never =
      edited-keeps (λ a m n. places is m ≡ 0 → n ≡ m) (grind arith) (grind (arith, places-some is never))

  -- A change that keeps what the slots weigh.
  pub weigh-same : (w : ℕ → ℕ) → ((a : ℕ) (m : Numbered) → is m ≡ true → weigh w (change a m) ≡ weigh w m)
      → (a : ℕ) (n : Numbered) → weigh w (edited_in is change (change a) n) ≡ weigh w n
  weigh-same w here = edited-keeps (λ a m n. weigh w n ≡ weigh w m) (grind arith) here

  -- A change at the only place adds y to what the slots weigh, and takes x away.
  module _ (ns : List Node) (w : ℕ → ℕ) (x y : ℕ) (never : is End ≡ false)
      (here : (s : Sequence) (b p : ℕ) (m : Numbered) → is m ≡ true → Standing ns s b p m → weigh w (change s.width m) + x ≡ weigh w m + y)
    where
      pub weigh-edited : (s : Sequence) (b p : ℕ) (n : Numbered) → Standing ns s b p n → places is n ≡ 1
          → weigh w (edited_in is change (change s.width) n) + x ≡ weigh w n + y
      weigh-edited s b p n h one =
          (edited-keeps (λ a m v. (places is m ≡ 0 → v ≡ m)
          × ((s : Sequence) (b p : ℕ) → a ≡ s.width → Standing ns s b p m → places is m ≡ 1 → weigh w v + x ≡ weigh w m + y))
          (grind (arith, one_of, not_here)) (grind (arith, places-some is never)) s.width n).1 s b p refl h one

-- Of the tree n one place changes: there the nodes ms hold what becomes of the members from the place on, and the slots
-- outside of a part with the place stay.
pub record IsEdit (ns ms : List Node) (is : Numbered → Bool) (change : ℕ → Numbered → Numbered) (n : Numbered) : Type 0
  where
    pub never : is End ≡ false
    pub once : (x : ℕ) → tally x n ≤ 1
    pub first : (a : ℕ) (m : Numbered) → is m ≡ true → first_slot (change a m) ≡ first_slot m
    pub here : (s : Sequence) (b p : ℕ) (m : Numbered) → is m ≡ true → Standing ns s b p m
        → ((x : ℕ) → tally x m ≤ tally x n) → Standing ms s b p (change s.width m)
    pub beside : (s : Sequence) (b p : ℕ) (v : Numbered) → Standing ns s b p v → places is v ≡ 1 → (x : ℕ)
        → tally x v ≡ 0 → 0 < tally x n → node_at ms x ≡ node_at ns x

module _ (ns ms : List Node) (is : Numbered → Bool) (change : ℕ → Numbered → Numbered) (n : Numbered)
    (w : IsEdit ns ms is change n) where
  -- The slot j of a member beside the place stays.
  head_stays : (s : Sequence) (b p j : ℕ) (v : Numbered) → Standing ns s b p v → places is v ≡ 1
      → ((x : ℕ) → same x j + tally x v ≤ tally x n) → node_at ms j ≡ node_at ns j
  head_stays s b p j v h one less = grind (arith, w.beside, w.once j, same-self)

  -- A part beside it stands.
  part_stays : (s : Sequence) (b p : ℕ) (v : Numbered) (t : Sequence) (c q : ℕ) (u : Numbered) → Standing ns s b p v
      → places is v ≡ 1 → ((x : ℕ) → tally x v + tally x u ≤ tally x n) → Standing ns t c q u → Standing ms t c q u
  part_stays s b p v t c q u h one less k = grind (arith, Standing-same, w.beside, w.once)

  -- Where the place isn't, nothing changes, and where it is, what stood stands changed.
  abbrev IsEditedTo : (across : ℕ) → (old new : Numbered) → Type 0
  IsEditedTo a m u =
      (places is m ≡ 0 → u ≡ m)
      × (first_slot u ≡ first_slot m)
      × ((s : Sequence) (b p : ℕ) → a ≡ s.width → ((x : ℕ) → tally x m ≤ tally x n) → places is m ≡ 1
      → Standing ns s b p m → Standing ms s b p u)

  pub Standing-edited : (s : Sequence) (b p : ℕ) (v : Numbered) → ((x : ℕ) → tally x v ≤ tally x n) → places is v ≡ 1
      → Standing ns s b p v → Standing ms s b p (edited_in is change (change s.width) v)
  Standing-edited s b p v =
      (edited-keeps is change IsEditedTo (record {
        ends = grind arith;
        free = grind (arith, not_here, head_stays);
        alloc = grind (arith, not_here, head_stays);
        seq = λ a j e k l m u no f g. (
          grind arith,
          refl,
          λ s b p wide less one h.
              let t = inside s j p e in
              elim (one_of (places is k) (places is m) (not_here _ _ _ no one)) [
                | inl z ↦ grind (arith, head_stays t no_slot s.start j k, part_stays t no_slot s.start k s j (p + e) m)
                | inr z ↦ grind (arith, head_stays s j (p + e) j m, part_stays s j (p + e) m t no_slot s.start k)
              ],
        );
      }) (grind (arith, places-some, w.never, w.first, w.here)) s.width v).2 s b p refl

-- Another slot than i, where i is a member and the other isn't.
pub other-slot : (x i : ℕ) (m : Numbered) → tally x m ≡ 0 → 0 < tally i m → x ≡ i → ⊥
other-slot x i m z l e = ne-from_count x i m z l (sym e)
