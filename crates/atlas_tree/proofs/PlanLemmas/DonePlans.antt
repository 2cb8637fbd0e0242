-- A plan is carried out, and what it leaves free is listed.
use Rattle.std.proofs.Common.{ℕ, ◌<◌, ◌≤◌, ◌≡◌, List, [], ◌∷◌, length, false, refl, sym, ap, subst, ◌∙◌, inl, inr, arith}
use Rattle.std.proofs.lemmas.Bool.{cases_eq}
use Rattle.atlas_store.specs.declared.store.Store.{Store}
use Rattle.atlas_store.specs.declared.slots.NodeKind.TheVariants as kind
use Rattle.atlas_store.specs.declared.slots.placing.Parts.{Parts}
use Rattle.atlas_store.specs.declared.slots.placing.Plan.{Plan}
use Rattle.atlas_store.specs.declared.slots.placing.Plan.TheVariants as plan
use Rattle.atlas_store.specs.Slots.{nodes, node_at}
use Rattle.atlas_search.specs.Numbers.{occurs, same}
use Rattle.atlas_store.specs.Slots.Placing.{granted_by, left_by, marks_of, planned}
use Rattle.atlas_store.specs.Stored.{Holding, Holds}
use Rattle.atlas_store.specs.Store.Holdings.{
  shelf_of,
  node_in,
  IsDetachedLeaf,
  with_detached,
  with_free_lists,
  with_unused_list,
  after_place,
}
use Rattle.atlas_store.specs.Store.StoreCalls.{IsLeafPlaced, CanCarryOut, ListsLeaf}
use Rattle.atlas_tree.specs.Plans.Planning.{IsPlanDone, IsPlanned}
use Rattle.atlas_store.proofs.SlotLemmas.Frames.{same-self}
use Rattle.atlas_store.proofs.SlotLemmas.PlannedLeaves.{unmarked}
use Rattle.atlas_store.proofs.StoreLemmas.FiledSlots.{with_mark-same, with_mark-other}

-- The detached slots are ks, each that of a free leaf.
pub record AreUnlisted {A : Type 0} (v : Store A) (ks : List ℕ) (h : Holding) : Type 0 where
  pub holds : Holds (shelf_of v) h
  pub free : (k : ℕ) → 0 < occurs k ks → (node_in (shelf_of v) k).kind ≡ kind.Free
  pub detached : (i : ℕ) → h.detached i ≡ marks_of ks i
  pub once : (k : ℕ) → occurs k ks ≤ 1

pub unlisted-leaf : {A : Type 0} {v : Store A} {k : ℕ} {ks : List ℕ} {h : Holding} → AreUnlisted v (k ∷ ks) h
    → IsDetachedLeaf (shelf_of v) k h
unlisted-leaf {A} {v} {k} {ks} {h} w = record {
  holds = w.holds;
  kind = w.free k (omega (arith, same-self k));
  detached = w.detached k ∙ with_mark-same (marks_of ks) k _;
}

-- The first of them is listed.
pub listed-next : {A : Type 0} {v v' : Store A} {k : ℕ} {ks : List ℕ} {h : Holding} → AreUnlisted v (k ∷ ks) h
    → ListsLeaf v v' k
    → (free_lists : ℕ → List ℕ) × AreUnlisted v' ks (with_detached k false (with_free_lists free_lists h))
listed-next {A} {v} {v'} {k} {ks} {h} w l =
    let got = l.kept h (unlisted-leaf w) in (
      got.0,
      record {
        holds = got.1;
        free = λ i some. ap (λ ns. (node_at ns i).kind) l.nodes ∙ w.free i (omega (arith, some));
        detached = λ i. elim (cases_eq i k) [
          | inl e ↦
              let none : occurs k ks ≡ 0 = omega (arith, w.once k, same-self k) in
              ap (with_detached k false h).detached e ∙ with_mark-same h.detached k false ∙ sym (unmarked k ks none)
              ∙ ap (marks_of ks) (sym e)
          | inr ne ↦ with_mark-other h.detached k false i ne ∙ w.detached i ∙ with_mark-other (marks_of ks) k _ i ne
        ];
        once = λ i. omega (arith, w.once i);
      },
    )

module _ {A : Type 0} {old mid : Store A} {at : ℕ} {p : Plan} {t : Parts} (w : IsLeafPlaced old mid at p t)
    {h : Holding} (ready : CanCarryOut old at p h) where
  abbrev pub placed_holding : Holding
  placed_holding = with_unused_list (w.kept h ready).0
      (after_place p t at (node_in (shelf_of mid) (granted_by p t at)).generation h)

  -- Before what is left free is listed.
  pub unlisted-parts : AreUnlisted mid (left_by p t) placed_holding
  unlisted-parts = record { holds = (w.kept h ready).1; free = w.left; detached = λ i. refl; once = w.apart }

  -- And afterwards.
  pub planned-end : (new : Store A) (h' : Holding) → nodes new.slots.items ≡ nodes mid.slots.items
      → AreUnlisted new [] h'
      → h'.tree ≡ placed_holding.tree → h'.sequence ≡ h.sequence → h'.unused_list ≡ placed_holding.unused_list
      → (h' : Holding) × IsPlanned (shelf_of new) at (granted_by p t at) p h h'
  planned-end new h' same u tree sequence unused_list = (
    h',
    record {
      holds = u.holds;
      listed = λ i _. u.detached i;
      parts = t;
      tree =
          tree ∙ ap (λ ns. planned p t at (node_at ns (granted_by p t at)).generation h.sequence.width h.tree)
          (sym same);
      is = refl;
      sequence = sequence;
      granted = ap (λ ns. (node_at ns (granted_by p t at)).kind) same ∙ w.granted;
      unused_list = ap (λ xs. length xs) unused_list ∙ (w.kept h ready).2;
    },
  )

-- The leaf is granted whole.
pub whole-done : {A : Type 0} {old new : Store A} {at : ℕ} {p : Plan} {t : Parts} → p ≡ plan.Whole
    → IsLeafPlaced old new at p t → IsPlanDone old new at at p
whole-done {A} {old} {new} {at} {p} {t} e =
    subst (λ p. IsLeafPlaced old new at p t → IsPlanDone old new at at p) (sym e)
    (λ w. record {
      kept = λ h ready. planned-end w ready new (placed_holding w ready) refl (unlisted-parts w ready) refl refl refl;
      takes = w.takes;
    })
