-- What the calls on slots make of extents: they stay positive, and add up as before.
use Rattle.std.proofs.Common.{ℕ, ◌+◌, ◌<◌, ◌≡◌, List, refl, sym, subst, arith, Bool}
use Rattle.atlas_store.specs.declared.slots.Node.{Node}
use Rattle.atlas_store.specs.declared.slots.placing.Parts.{Parts}
use Rattle.atlas_store.specs.declared.slots.placing.Plan.{Plan}
use Rattle.atlas_store.specs.declared.slots.placing.Plan.TheVariants as plan
use Rattle.atlas_model.specs.Trees.{IsCut, total}
use Rattle.atlas_store.specs.Slots.{node_at}
use Rattle.atlas_search.specs.Numbers.{no_slot}
use Rattle.atlas_store.specs.Slots.Numbered.{Numbered, erase, first_slot, marked, joined, lifted, is_free_at, is_alloc_at, is_seq_at, Free}
use Rattle.atlas_store.specs.Slots.Placing.{across_of, planned, put_by, putting, IsFeasible}
use Rattle.atlas_store.specs.Slots.Standing.{Sequence, Standing, inside}
use Rattle.atlas_store.specs.Slots.Reading.{extent_of}
use Rattle.atlas_store.proofs.SlotLemmas.PlannedLeaves.{IsLeafIn, extent-is, across-is}
use Rattle.atlas_store.proofs.SlotLemmas.Edits.{IsCarried, edited-keeps, joining, marking, lifting, free_here}

-- The edited members fill the same sequence.
abbrev pub IsRecut : (across : ℕ) → (old new : Numbered) → Type 0
IsRecut across old new =
    (total (erase new) ≡ total (erase old)) × (0 < across → IsCut across (erase old) → IsCut across (erase new))

recut-kept : (is : Numbered → Bool) → IsCarried is IsRecut
recut-kept is = grind arith

pub recut-marked : (i across : ℕ) (n : Numbered) → IsRecut across n (marked i n)
recut-marked i = edited-keeps (is_alloc_at i) marking IsRecut (recut-kept _) (grind arith)

pub recut-joined : (i across : ℕ) (n : Numbered) → IsRecut across n (joined i n)
recut-joined i = edited-keeps (is_free_at i) joining IsRecut (recut-kept _) (grind arith)

pub recut-lifted : (i across : ℕ) (n : Numbered) → IsRecut across n (lifted i n)
recut-lifted i = edited-keeps (is_seq_at i) lifting IsRecut (recut-kept _) (grind arith)

-- What a plan puts in the place of a leaf.
recut_put : (p : Plan) (t : Parts) (g across i e : ℕ) (rest : Numbered) → IsFeasible p e across
    → IsRecut across (Free i e rest) (put_by p t g across i e rest)
recut_put plan.Whole t g across i e rest f = (refl, λ _ c. c)
recut_put (plan.StripAlong p) t g across i e rest f = (omega (arith, f.1), λ _ c. (f.0, (omega (arith, f.1), c.1)))
recut_put (plan.CornerAlong p q) t g across i e rest f = (
  omega (arith, f.1),
  λ _ c. (f.0, omega (arith, f.3), (f.2, (omega (arith, f.3), tt)), (omega (arith, f.1), c.1)),
)
recut_put (plan.StripAcross q) t g across i e rest f =
    (refl, λ _ c. (c.0, omega (arith, f.1), (f.0, (omega (arith, f.1), tt)), c.1))
recut_put (plan.CornerAcross p q) t g across i e rest f = (
  refl,
  λ _ c. (
    c.0,
    omega (arith, f.3),
    (f.2, omega (arith, f.1), (f.0, (omega (arith, f.1), tt)), (omega (arith, f.3), tt)),
    c.1,
  ),
)

feasible_here : (p : Plan) (leaf : Node) (s : Sequence) (b a q e : ℕ) → IsFeasible p (extent_of leaf) (across_of leaf)
    → IsLeafIn leaf s b a q e → IsFeasible p e s.width
feasible_here p leaf s b a q e f l =
    subst (λ w. IsFeasible p e w) (across-is leaf s b a q e l)
    (subst (λ x. IsFeasible p x (across_of leaf)) (extent-is leaf s b a q e l) f)

-- Where a plan is feasible in the leaf of slot i.
pub recut-planned : (p : Plan) (t : Parts) (i g : ℕ) (ns : List Node)
    → IsFeasible p (extent_of (node_at ns i)) (across_of (node_at ns i)) → (s : Sequence) (b q : ℕ) (n : Numbered)
    → Standing ns s b q n → IsRecut s.width n (planned p t i g s.width n)
recut-planned p t i g ns f s b q n st =
    edited-keeps (is_free_at i) (putting p t g) (λ a m n. (s : Sequence) (b q : ℕ) → a ≡ s.width → Standing ns s b q m
    → IsRecut a m n) (record {
      ends = λ a s b q _ _. (recut-kept (is_free_at i)).ends a;
      free = λ a j e m n no h s b q w st. (recut-kept (is_free_at i)).free a j e m n no (h s j (q + e) w st.2);
      alloc = λ a j g e m n no h s b q w st. (recut-kept (is_free_at i)).alloc a j g e m n no (h s j (q + e) w st.3);
      seq = λ a j e x y m n no g h s b q w st. (recut-kept (is_free_at i)).seq a j e x y m n no
          (g (inside s j q e) no_slot s.start refl st.2) (h s j (q + e) w st.3);
    }) (λ a. free_here i (λ m. (s : Sequence) (b q : ℕ) → a ≡ s.width → Standing ns s b q m
    → IsRecut a m (putting p t g a m)) (λ e rest s b q w st.
    recut_put p t g a i e rest (subst (λ v. IsFeasible p e v) (sym w)
    (feasible_here p (node_at ns i) s b (first_slot rest) q e f (record { link = st.0; area = st.1 }))))) s.width n s
    b q refl st
