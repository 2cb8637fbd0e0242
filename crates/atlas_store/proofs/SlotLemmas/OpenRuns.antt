-- The tree in which the open members are free, and its free boxes.
use Rattle.std.proofs.Common.{ℕ, ◌+◌, ◌<◌, ◌≡◌, ◌⊎◌, inl, inr, Bool, true, false, refl, sym, ap, ap₂, subst, ◌∙◌, arith}
use Rattle.std.proofs.Common.{List, Contains}
use Rattle.std.proofs.lemmas.Bool.{cases_Bool, and_cases, and_parts, true≢false}
use Rattle.std.proofs.lemmas.List.Elements.{Contains-append_left, Contains-append_right}
use Rattle.atlas_model.specs.Boxes.{Box, other, moved}
use Rattle.atlas_model.specs.Changes.{free_before, seq_before, nf, mark}
use Rattle.atlas_model.specs.Trees as tree
use Rattle.atlas_model.specs.Trees.{Members, IsCut, total, is_idle, begins_free}
use Rattle.atlas_model.proofs.TreeLemmas.TreeBasics.{free_among, free_among-seq}
use Rattle.atlas_model.proofs.TreeLemmas.TreeIds.{Contains-first, Contains-later}
use Rattle.atlas_model.proofs.TreeLemmas.TreeNormal.{free_before-twice}
use Rattle.atlas_store.specs.Slots.Numbered.{Numbered, erase, id_of, End, Free, Alloc, Seq}
use Rattle.atlas_store.specs.Slots.Standing.{Sequence, inside, member_box, spot}
use Rattle.atlas_store.specs.Slots.Rehearsing.{all_open, Shows, opened, run_length, IsRunIn}
use Rattle.atlas_store.proofs.SlotLemmas.Spots.{moved-spot, spot-other}

alone : {d e : ℕ} → d ≡ e → tree.Free d tree.End ≡ tree.Free e tree.End
alone h = ap (λ k. tree.Free k tree.End) h

-- Open members are one free extent.
free_before-open : (o : ℕ → Bool) (e : ℕ) (n : Numbered) → all_open o n ≡ true
    → free_before e (nf (opened o n)) ≡ tree.Free (e + total (erase n)) tree.End
free_before-open o e End h = alone (omega arith)
free_before-open o e (Free i d rest) h =
    free_before-twice e d (nf (opened o rest)) ∙ free_before-open o (e + d) rest (and_parts _ _ h).1 ∙ alone (omega arith)
free_before-open o e (Alloc i g d rest) h =
    let x = and_parts (o i) (all_open o rest) h in
    rw x.0 (free_before-twice e d (nf (opened o rest)) ∙ free_before-open o (e + d) rest x.1 ∙ alone (omega arith))
free_before-open o e (Seq i d inner rest) h =
    let x = and_parts (o i) (all_open o rest) h in
    rw x.0 (free_before-twice e d (nf (opened o rest)) ∙ free_before-open o (e + d) rest x.1 ∙ alone (omega arith))

pub nf-open : (o : ℕ → Bool) (n : Numbered) → all_open o n ≡ true → 0 < total (erase n)
    → nf (opened o n) ≡ tree.Free (total (erase n)) tree.End
nf-open o End h l = absurd (omega arith)
nf-open o (Free i d rest) h l = free_before-open o d rest (and_parts _ _ h).1
nf-open o (Alloc i g d rest) h l = let x = and_parts (o i) (all_open o rest) h in rw x.0 (free_before-open o d rest x.1)
nf-open o (Seq i d inner rest) h l = let x = and_parts (o i) (all_open o rest) h in rw x.0 (free_before-open o d rest x.1)

-- It is the tree in which what is shown is free.
pub opened-marked : (o set : ℕ → Bool) (across : ℕ) (n : Numbered) → 0 < across → IsCut across (erase n) → Shows o set n
    → nf (opened o n) ≡ nf (mark set (erase n))
opened-marked o set across End l cut f = refl
opened-marked o set across (Free i e rest) l cut f =
    ap (free_before e) (opened-marked o set across rest l cut.1 f.1)
opened-marked o set across (Alloc i g e rest) l cut f =
    let x = opened-marked o set across rest l cut.1 f.1 in
    elim (cases_Bool (set (id_of i g))) [
      | inl t ↦ rw (f.0, t) (ap (free_before e) x)
      | inr t ↦ rw (f.0, t) (ap (tree.Alloc (id_of i g) e) x)
    ]
opened-marked o set across (Seq i e inner rest) l cut f =
    let x = opened-marked o set e inner cut.0 cut.2 f.1 in
    let y = opened-marked o set across rest l cut.3 f.2 in
    elim (cases_Bool (all_open o inner)) [
      | inl t ↦
          let z = nf-open o inner t (omega arith) in
          rw (f.0, t) (ap (free_before e) y ∙ ap (λ m. seq_before e m (nf (mark set (erase rest)))) (sym z ∙ x))
      | inr t ↦ rw (f.0, t) (ap₂ (seq_before e) x y)
    ]

-- A sequence with a member that isn't open isn't one free extent.

idle-free_before : (e : ℕ) (m : Members) → is_idle m ≡ false → is_idle (free_before e m) ≡ false
idle-free_before e tree.End h = absurd (true≢false h)
idle-free_before e (tree.Free d tree.End) h = absurd (true≢false h)
idle-free_before e (tree.Free d m) h = h
idle-free_before e m h = refl

seq_before-busy : (e : ℕ) (inner m : Members) → is_idle inner ≡ false → seq_before e inner m ≡ tree.Seq e inner m
seq_before-busy e (tree.Free d tree.End) m h = absurd (true≢false h)
seq_before-busy e inner m h = refl

closed-busy : (o set : ℕ → Bool) (n : Numbered) → Shows o set n → all_open o n ≡ false → is_idle (nf (opened o n)) ≡ false
closed-busy o set End f h = absurd (true≢false h)
closed-busy o set (Free i e rest) f h =
    elim (and_cases _ _ h) [
      | inl x ↦ absurd (true≢false (sym f.0 ∙ x))
      | inr x ↦ idle-free_before e _ (closed-busy o set rest f.1 x)
    ]
closed-busy o set (Alloc i g e rest) f h =
    elim (cases_Bool (o i)) [
      | inl t ↦ elim (and_cases _ _ h) [
        | inl x ↦ absurd (true≢false (sym t ∙ x))
        | inr x ↦ rw t (idle-free_before e _ (closed-busy o set rest f.1 x))
      ]
      | inr t ↦ rw t refl
    ]
closed-busy o set (Seq i e inner rest) f h =
    elim (cases_Bool (o i)) [
      | inl t ↦ elim (and_cases _ _ h) [
        | inl x ↦ absurd (true≢false (sym t ∙ x))
        | inr x ↦ rw t (idle-free_before e _ (closed-busy o set rest f.2 x))
      ]
      | inr t ↦
          let x = closed-busy o set inner f.1 (sym f.0 ∙ t) in
          rw (t, seq_before-busy e _ (nf (opened o rest)) x) refl
    ]

-- A container that isn't open keeps its place.
seq-kept : (o set : ℕ → Bool) (i e : ℕ) (inner rest : Numbered) → Shows o set (Seq i e inner rest) → o i ≡ false
    → nf (opened o (Seq i e inner rest)) ≡ tree.Seq e (nf (opened o inner)) (nf (opened o rest))
seq-kept o set i e inner rest f t =
    rw t (seq_before-busy e _ (nf (opened o rest)) (closed-busy o set inner f.1 (sym f.0 ∙ t)))

-- A free extent takes in the run that follows it.
pub run-begins : (o set : ℕ → Bool) (e : ℕ) (n : Numbered) → Shows o set n
    → (m : Members) × (free_before e (nf (opened o n)) ≡ tree.Free (e + run_length o n) m)
run-begins o set e End f = (tree.End, alone (omega arith))
run-begins o set e (Free i d rest) f =
    let x = run-begins o set (e + d) rest f.1 in
    (x.0, rw f.0 (free_before-twice e d (nf (opened o rest)) ∙ x.1 ∙ ap (λ k. tree.Free k x.0) (omega arith)))
run-begins o set e (Alloc i g d rest) f =
    let x = run-begins o set (e + d) rest f.1 in
    elim (cases_Bool (o i)) [
      | inl t ↦ (x.0, rw t (free_before-twice e d (nf (opened o rest)) ∙ x.1 ∙ ap (λ k. tree.Free k x.0) (omega arith)))
      | inr t ↦ let m = tree.Alloc (id_of i g) d (nf (opened o rest)) in (m, rw t (ap (λ k. tree.Free k m) (omega arith)))
    ]
run-begins o set e (Seq i d inner rest) f =
    let x = run-begins o set (e + d) rest f.2 in
    elim (cases_Bool (o i)) [
      | inl t ↦ (x.0, rw t (free_before-twice e d (nf (opened o rest)) ∙ x.1 ∙ ap (λ k. tree.Free k x.0) (omega arith)))
      | inr t ↦
          let k = seq-kept o set i d inner rest f t in
          let m = tree.Seq d (nf (opened o inner)) (nf (opened o rest)) in
          (m, ap (free_before e) k ∙ rw t (ap (λ k. tree.Free k m) (omega arith)))
    ]

-- The free boxes of members of s from p on.
abbrev pub free_from : Sequence → (p : ℕ) → Members → List Box
free_from s p m = free_among s.axis (spot s.axis p s.start) s.width m

carried : (s : Sequence) (p : ℕ) (box : Box) (m k : Members) → m ≡ k → Contains (free_from s p k) box
    → Contains (free_from s p m) box
carried s p box m k e h = subst (λ x. Contains (free_from s p x) box) (sym e) h

module _ (s : Sequence) (p e : ℕ) (box : Box) where
  on : (m : Members) → Contains (free_from s (p + e) m) box
      → Contains (free_among s.axis (moved s.axis (spot s.axis p s.start) e) s.width m) box
  on m at = subst (λ q. Contains (free_among s.axis q s.width m) box) (sym (moved-spot s.axis p s.start e)) at

  after_free : (m : Members) → Contains (free_from s (p + e) m) box → Contains (free_from s p (tree.Free e m)) box
  after_free m at = Contains-later _ _ box (on m at)

  after_alloc : (id : ℕ) (m : Members) → Contains (free_from s (p + e) m) box
      → Contains (free_from s p (tree.Alloc id e m)) box
  after_alloc id m at = on m at

  after_seq : (inner m : Members) → Contains (free_from s (p + e) m) box
      → Contains (free_from s p (tree.Seq e inner m)) box
  after_seq inner m at =
      let parts = free_among-seq s.axis (spot s.axis p s.start) s.width e inner m in
      subst (λ l. Contains l box) (sym parts) (Contains-append_right _ _ box (on m at))

  within : (i : ℕ) (inner m : Members) → Contains (free_from (inside s i p e) s.start inner) box
      → Contains (free_from s p (tree.Seq e inner m)) box
  within i inner m at =
      let there = subst (λ q. Contains (free_among (other s.axis) q e inner) box) (spot-other s.axis p s.start) at in
      let parts = free_among-seq s.axis (spot s.axis p s.start) s.width e inner m in
      subst (λ l. Contains l box) (sym parts) (Contains-append_left _ _ box there)

begins_with : (s : Sequence) (p e : ℕ) (m : Members) → Contains (free_from s p (tree.Free e m)) (member_box s p e)
begins_with s p e m = Contains-first _ _

-- A run of the members from p on is a free box: where no open member comes before them, and where a free extent d does.
abbrev HasRuns : (o : ℕ → Bool) → Box → Sequence → (p : ℕ) → Numbered → Type 0
HasRuns o box s p n =
    (IsRunIn o box false s p n → Contains (free_from s p (nf (opened o n))) box)
    × ((d q : ℕ) → p + d ≡ q → IsRunIn o box true s q n → Contains (free_from s p (free_before d (nf (opened o n)))) box)

module _ (o set : ℕ → Bool) (box : Box) (s : Sequence) (p e : ℕ) (rest : Numbered) (f : Shows o set rest)
    (more : (q : ℕ) → HasRuns o box s q rest) where
  -- The first of them is open.
  first_open : (m : Members) → m ≡ free_before e (nf (opened o rest))
      → (box ≡ member_box s p (e + run_length o rest)) ⊎ IsRunIn o box true s (p + e) rest
      → Contains (free_from s p m) box
  first_open m is (inl q) =
      let x = run-begins o set e rest f in
      let k = tree.Free (e + run_length o rest) x.0 in
      let here = begins_with s p (e + run_length o rest) x.0 in
      carried s p box m k (is ∙ x.1) (subst (Contains (free_from s p k)) (sym q) here)
  first_open m is (inr h) = subst (λ k. Contains (free_from s p k) box) (sym is) ((more p).1 e (p + e) refl h)

  next_open : (m : Members) → m ≡ free_before e (nf (opened o rest)) → (d q : ℕ) → p + d ≡ q
      → IsRunIn o box true s (q + e) rest → Contains (free_from s p (free_before d m)) box
  next_open m is d q at h =
      let k = nf (opened o rest) in
      let both = ap (free_before d) is ∙ free_before-twice d e k in
      carried s p box (free_before d m) (free_before (d + e) k) both ((more p).1 (d + e) (q + e) (omega arith) h)

  -- It is an allocated leaf.
  after_closed : (id : ℕ) → IsRunIn o box false s (p + e) rest
      → Contains (free_from s p (tree.Alloc id e (nf (opened o rest)))) box
  after_closed id h = after_alloc s p e box id (nf (opened o rest)) ((more (p + e)).0 h)

free_before-closed : (e : ℕ) (m : Members) → begins_free m ≡ false → free_before e m ≡ tree.Free e m
free_before-closed e (tree.Free k rest) h = absurd (true≢false h)
free_before-closed e m h = refl

-- A free extent before members that don't begin with one.
after_extent : (s : Sequence) (p d q : ℕ) (box : Box) (m k : Members) → p + d ≡ q → m ≡ k → begins_free k ≡ false
    → Contains (free_from s q k) box → Contains (free_from s p (free_before d m)) box
after_extent s p d q box m k at is apart h =
    let there = subst (λ x. Contains (free_from s x k) box) (sym at) h in
    let before = ap (free_before d) is ∙ free_before-closed d k apart in
    carried s p box (free_before d m) (tree.Free d k) before (after_free s p d box k there)

-- Whether an open one comes before is known.
turned : (o : ℕ → Bool) (box : Box) (s : Sequence) (q : ℕ) (n : Numbered) (a b : Bool) → a ≡ b
    → IsRunIn o box a s q n → IsRunIn o box b s q n
turned o box s q n a b t x = subst (λ c. IsRunIn o box c s q n) t x

runs-free : (o set : ℕ → Bool) (box : Box) (s : Sequence) (p : ℕ) (n : Numbered) → Shows o set n → HasRuns o box s p n
runs-free o set box s p End f = ((λ h. absurd h), (λ d q at h. absurd h))
runs-free o set box s p (Free i e rest) f =
    let more : (q : ℕ) → HasRuns o box s q rest = λ q. runs-free o set box s q rest f.1 in
    let length : run_length o (Free i e rest) ≡ e + run_length o rest = rw f.0 refl in
    let turn = (λ (q : ℕ). turned o box s q rest (o i) true f.0) in (
      (λ h. elim h [
        | inl x ↦ first_open o set box s p e rest f.1 more _ refl (inl (x.2 ∙ ap (member_box s p) length))
        | inr x ↦ first_open o set box s p e rest f.1 more _ refl (inr (turn (p + e) x))
      ]),
      (λ d q at h. elim h [
        | inl x ↦ absurd (true≢false x.0)
        | inr x ↦ next_open o set box s p e rest f.1 more _ refl d q at (turn (q + e) x)
      ]),
    )
runs-free o set box s p (Alloc i g e rest) f =
    let more : (q : ℕ) → HasRuns o box s q rest = λ q. runs-free o set box s q rest f.1 in
    let turn = (λ (b : Bool) (t : o i ≡ b) (q : ℕ). turned o box s q rest (o i) b t) in
    elim (cases_Bool (o i)) [
      | inl t ↦
          let is : nf (opened o (Alloc i g e rest)) ≡ free_before e (nf (opened o rest)) = rw t refl in
          let length : run_length o (Alloc i g e rest) ≡ e + run_length o rest = rw t refl in (
            (λ h. elim h [
              | inl x ↦ first_open o set box s p e rest f.1 more _ is (inl (x.2 ∙ ap (member_box s p) length))
              | inr x ↦ first_open o set box s p e rest f.1 more _ is (inr (turn true t (p + e) x))
            ]),
            (λ d q at h. elim h [
              | inl x ↦ absurd (true≢false x.0)
              | inr x ↦ next_open o set box s p e rest f.1 more _ is d q at (turn true t (q + e) x)
            ]),
          )
      | inr t ↦
          let m = tree.Alloc (id_of i g) e (nf (opened o rest)) in
          let is : nf (opened o (Alloc i g e rest)) ≡ m = rw t refl in
          let past = (λ (q : ℕ). after_closed o set box s q e rest f.1 more (id_of i g)) in (
            (λ h. elim h [
              | inl x ↦ absurd (true≢false (sym x.1 ∙ t))
              | inr x ↦ carried s p box _ m is (past p (turn false t (p + e) x))
            ]),
            (λ d q at h. elim h [
              | inl x ↦ absurd (true≢false x.0)
              | inr x ↦ after_extent s p d q box _ m at is refl (past q (turn false t (q + e) x))
            ]),
          )
    ]
runs-free o set box s p (Seq i e inner rest) f =
    let more : (q : ℕ) → HasRuns o box s q rest = λ q. runs-free o set box s q rest f.2 in
    let turn = (λ (b : Bool) (t : o i ≡ b) (q : ℕ). turned o box s q rest (o i) b t) in
    elim (cases_Bool (o i)) [
      | inl t ↦
          let is : nf (opened o (Seq i e inner rest)) ≡ free_before e (nf (opened o rest)) = rw t refl in
          let length : run_length o (Seq i e inner rest) ≡ e + run_length o rest = rw t refl in (
            (λ h. elim h [
              | inl x ↦ first_open o set box s p e rest f.2 more _ is (inl (x.2 ∙ ap (member_box s p) length))
              | inr (inl x) ↦ absurd (true≢false (sym t ∙ x.0))
              | inr (inr x) ↦ first_open o set box s p e rest f.2 more _ is (inr (turn true t (p + e) x))
            ]),
            (λ d q at h. elim h [
              | inl x ↦ absurd (true≢false x.0)
              | inr (inl x) ↦ absurd (true≢false (sym t ∙ x.0))
              | inr (inr x) ↦ next_open o set box s p e rest f.2 more _ is d q at (turn true t (q + e) x)
            ]),
          )
      | inr t ↦
          let m = nf (opened o inner) in
          let k = nf (opened o rest) in
          let is = seq-kept o set i e inner rest f t in
          let inmost = (λ (q : ℕ). (runs-free o set box (inside s i q e) s.start inner f.1).0) in
          let deep = (λ (q : ℕ) (x : IsRunIn o box false (inside s i q e) s.start inner). within s q e box i m k (inmost q x)) in
          let past = (λ (q : ℕ) (x : IsRunIn o box (o i) s (q + e) rest). after_seq s q e box m k
          ((more (q + e)).0 (turn false t (q + e) x))) in (
            (λ h. carried s p box _ (tree.Seq e m k) is (elim h [
              | inl x ↦ absurd (true≢false (sym x.1 ∙ t))
              | inr (inl x) ↦ deep p x.1
              | inr (inr x) ↦ past p x
            ])),
            (λ d q at h. after_extent s p d q box _ (tree.Seq e m k) at is refl (elim h [
              | inl x ↦ absurd (true≢false x.0)
              | inr (inl x) ↦ deep q x.1
              | inr (inr x) ↦ past q x
            ])),
          )
    ]

-- A longest run of open members is a free box.
pub run-free : (o set : ℕ → Bool) (box : Box) (s : Sequence) (p : ℕ) (n : Numbered) → Shows o set n
    → IsRunIn o box false s p n → Contains (free_from s p (nf (opened o n))) box
run-free o set box s p n f h = (runs-free o set box s p n f).0 h
