-- A slot is taken and put to use at once.
use Rattle.std.proofs.Common.{ℕ, ◌+◌, ◌-◌, ◌≤◌, ◌≡◌, [], ◌∷◌, List, refl, sym, ap, subst, ◌∙◌, inl, inr, arith, length}
use Rattle.std.proofs.lemmas.Bool.{cases_eq, cases_lt}
use Rattle.atlas_store.specs.declared.store.Store.{Store}
use Rattle.atlas_store.specs.declared.slots.Node.{Node}
use Rattle.atlas_store.specs.declared.slots.placing.Parts.{Parts}
use Rattle.atlas_store.specs.declared.slots.placing.Plan.{Plan}
use Rattle.atlas_store.specs.declared.slots.placing.Plan.TheVariants as plan
use Rattle.atlas_store.specs.Slots.{nodes}
use Rattle.atlas_store.specs.Slots.Placing.{across_of, slots_of, taken_by, CanPlace, IsFeasible}
use Rattle.atlas_store.specs.Slots.Reading.{extent_of}
use Rattle.atlas_store.specs.Slots.Links.{with_count, tail_of}
use Rattle.atlas_search.specs.Numbers.{occurs, same}
use Rattle.atlas_store.specs.Stored.{Holding, Holds, HoldsWith}
use Rattle.atlas_store.specs.Store.Holdings.{shelf_of, node_in, HasSlotsFor, KeepsRoom, with_unused_list}
use Rattle.atlas_store.specs.Store.StoreCalls.{AreSlotsTaken, CanCarryOut, IsSlotTaken, IsUnusedSlot, TakesSlots}
use Rattle.atlas_store.proofs.SlotLemmas.Frames.{same-self, same-ne}
use Rattle.atlas_store.proofs.StoreLemmas.FiledSlots.{with_count-same, with_count-other}
use Rattle.atlas_store.proofs.StoreLemmas.StoreSteps.{holds-claimed, length-nodes, length-rings}
use Rattle.atlas_store.proofs.StoreLemmas.TakenOnce.{only-takes}

-- As many slots can be taken as before.
pub slots-kept : {A : Type 0} (old new : Store A) (n : ℕ) (h : Holding) → KeepsRoom old new
    → HasSlotsFor n old h → HasSlotsFor n new h
slots-kept old new n h r slots = grind arith

-- A list that loses its first.
pub rest-length : (xs : List ℕ) → length (tail_of xs) ≡ length xs - 1
rest-length [] = refl
rest-length (x ∷ xs) = omega arith

-- Slots are taken one after another.

-- Fewer slots are there too.
pub fewer-slots : {A : Type 0} (m n : ℕ) (v : Store A) (h : Holding) → m ≤ n → HasSlotsFor n v h → HasSlotsFor m v h
fewer-slots m n v h l s = elim s [ inl a ↦ inl (omega arith) | inr b ↦ inr (omega (arith, b.0), omega (arith, b.1)) ]

pub none-taken : {A : Type 0} (v : Store A) → AreSlotsTaken v v []
none-taken v = record {
  taken = λ h n holds room. (h.unused_list, holds, fewer-slots n (n + 0) v h (omega arith) room, omega arith);
  was_unused = λ k l. absurd (omega (arith, l));
  fresh = λ k l. absurd (omega (arith, l));
  others = λ j z. refl;
  takes = record { options = refl; capacity = refl; turns = refl; once = λ f. f };
}

-- Another one can be taken.
pub ready-taken : {A : Type 0} {v0 v : Store A} {ks : List ℕ} (m : ℕ) → AreSlotsTaken v0 v ks → 1 + length ks ≤ m
    → (h : Holding) → Holds (shelf_of v0) h → HasSlotsFor m v0 h
    → (h : Holding) × (claimed : ℕ → ℕ) × HoldsWith claimed (shelf_of v) h × HasSlotsFor 1 v h
ready-taken {A} {v0} {v} {ks} m w l h holds room =
    let got = w.taken h 1 holds (fewer-slots (1 + length ks) m v0 h l room) in
    (with_unused_list got.0 h, λ i. occurs i ks, got.1, got.2)

pub more-taken : {A : Type 0} {v0 v v' : Store A} {k : ℕ} {ks : List ℕ} (m : ℕ) → AreSlotsTaken v0 v ks
    → 1 + length ks ≤ m
    → (h : Holding) → Holds (shelf_of v0) h → HasSlotsFor m v0 h → IsSlotTaken v v' k → AreSlotsTaken v0 v' (k ∷ ks)
more-taken {A} {v0} {v} {v'} {k} {ks} m w l h0 holds0 room0 step =
    let unclaimed : occurs k ks ≡ 0 = elim (cases_lt 0 (occurs k ks)) [
      | inl some ↦
          let r = ready-taken m w l h0 holds0 room0 in
          let got = w.taken h0 1 holds0 (fewer-slots (1 + length ks) m v0 h0 l room0) in
          absurd (step.apart (with_unused_list got.0 h0) (λ i. occurs i ks) k got.1 some (w.fresh k some).inside refl)
      | inr z ↦ omega (arith, z)
    ] in
    record {
      taken = λ h n holds room.
          let got = w.taken h (n + 1) holds (fewer-slots (n + 1 + length ks) (n + length (k ∷ ks)) v0 h (omega arith)
          room) in
          let now = step.taken (with_unused_list got.0 h) (λ i. occurs i ks) got.1 in (
            tail_of got.0,
            holds-claimed (with_count (λ i. occurs i ks) k 1) (λ i. occurs i (k ∷ ks)) (shelf_of v')
                (with_unused_list (tail_of got.0) h)
                (λ i. grind (arith, cases_eq i k, same-self k, same-ne i k, with_count-same, with_count-other)) now,
            step.slots (with_unused_list got.0 h) (λ i. occurs i ks) n got.1 got.2,
            omega (arith, rest-length got.0, got.3),
          );
      was_unused = λ i l. elim (cases_eq i k) [
        | inl e ↦ ap (λ x. (node_in (shelf_of v0) x).kind) e ∙ ap (λ (n : Node). n.kind) (sym (w.others k unclaimed))
            ∙ step.was_unused
        | inr ne ↦ w.was_unused i (omega (arith, l, same-ne i k ne))
      ];
      fresh = λ i l. elim (cases_eq i k) [
        | inl e ↦ subst (λ x. IsUnusedSlot v' x) (sym e) step.fresh
        | inr ne ↦
            let was = w.fresh i (omega (arith, l, same-ne i k ne)) in
            record {
              unused = ap (λ (n : Node). n.kind) (step.others i ne)
                  ∙ was.unused;
              inside = omega (arith, was.inside, step.longer);
            }
      ];
      others = λ j z. step.others j (λ e. absurd (omega (arith, z, ap (same j) e, same-self j)))
          ∙ w.others j (omega (arith, z));
      takes = only-takes w.takes step.takes;
    }

-- One is, of so many; or two are: k, and then c.
pub one-taken : {A : Type 0} {v0 v : Store A} {k : ℕ} (m : ℕ) (h : Holding) → Holds (shelf_of v0) h
    → HasSlotsFor (m + 1) v0 h → IsSlotTaken v0 v k → AreSlotsTaken v0 v (k ∷ [])
one-taken {A} {v0} m h holds room step = more-taken (m + 1) (none-taken v0) (omega arith) h holds room step

pub two-taken : {A : Type 0} {v0 v1 v : Store A} {k c : ℕ} (h : Holding) → Holds (shelf_of v0) h → HasSlotsFor 2 v0 h
    → IsSlotTaken v0 v1 k → IsSlotTaken v1 v c → AreSlotsTaken v0 v (c ∷ k ∷ [])
two-taken h holds room first second =
    more-taken 2 (one-taken 1 h holds room first) (omega arith) h holds room second

-- Each was taken once.
pub taken-once : {A : Type 0} {old mid : Store A} {ks : List ℕ} {h : Holding} → AreSlotsTaken old mid ks
    → HoldsWith (λ i. occurs i ks) (shelf_of mid) h → (i : ℕ) → occurs i ks ≤ 1
taken-once {A} {old} {mid} {ks} {h} took holds i = elim (cases_lt 0 (occurs i ks)) [
  | inl l ↦ omega (arith, holds.filed.each i (omega (arith, (took.fresh i l).inside, length-rings mid.slots.items)))
  | inr z ↦ omega (arith, z)
]

-- They are put to use by one write.
pub takes-slots : {A : Type 0} (old mid new : Store A) (ks : List ℕ) (before : Holding → Type 0)
    (after : Holding → Holding) → AreSlotsTaken old mid ks → KeepsRoom mid new
    → ((h : Holding) → before h → Holds (shelf_of old) h)
    → ((h : Holding) (unused_list : List ℕ) → before h
    → HoldsWith (λ i. occurs i ks) (shelf_of mid) (with_unused_list unused_list h)
    → Holds (shelf_of new) (with_unused_list unused_list (after h)))
    → TakesSlots old new (length ks) before after
takes-slots old mid new ks before after took room held written h n b slots =
    let got = took.taken h n (held h b) slots in
    (got.0, written h got.0 b got.1, slots-kept mid new n (with_unused_list got.0 h) room got.2, got.3)

-- The same where the slots are those of a plan.
abbrev pub HasSlotsOf : {A : Type 0} → Plan → Store A → Type 0
HasSlotsOf p v = (h : Holding) × Holds (shelf_of v) h × HasSlotsFor (slots_of p) v h

pub take-next : {A : Type 0} {v0 v : Store A} {ks : List ℕ} {p q : Plan} → p ≡ q → AreSlotsTaken v0 v ks
    → 1 + length ks ≤ slots_of q
    → HasSlotsOf p v0 → (h : Holding) × (claimed : ℕ → ℕ) × HoldsWith claimed (shelf_of v) h × HasSlotsFor 1 v h
take-next {A} {v0} {v} {ks} {p} {q} e w l r =
    let have : HasSlotsOf q v0 = subst (λ p. HasSlotsOf p v0) e r in ready-taken (slots_of q) w l have.0 have.1 have.2

pub took-next : {A : Type 0} {v0 v v' : Store A} {k : ℕ} {ks : List ℕ} {p q : Plan} → p ≡ q → AreSlotsTaken v0 v ks
    → 1 + length ks ≤ slots_of q → HasSlotsOf p v0 → IsSlotTaken v v' k → AreSlotsTaken v0 v' (k ∷ ks)
took-next {A} {v0} {v} {v'} {k} {ks} {p} {q} e w l r step =
    let have : HasSlotsOf q v0 = subst (λ p. HasSlotsOf p v0) e r in more-taken (slots_of q) w l have.0 have.1 have.2
    step

pub taken-as : {A : Type 0} {v v' : Store A} {p q : Plan} (t : Parts) → p ≡ q → AreSlotsTaken v v' (taken_by q t)
    → AreSlotsTaken v v' (taken_by p t)
taken-as {A} {v} {v'} t e w = subst (λ p. AreSlotsTaken v v' (taken_by p t)) (sym e) w

pub taken-number : (p : Plan) (t : Parts) → length (taken_by p t) ≡ slots_of p
taken-number plan.Whole t = refl
taken-number (plan.StripAlong p) t = refl
taken-number (plan.CornerAlong p q) t = refl
taken-number (plan.StripAcross q) t = refl
taken-number (plan.CornerAcross p q) t = refl

-- A plan can be carried out in the slots that were taken for it.
module _ {A : Type 0} {old mid : Store A} (at : ℕ) (p : Plan) (t : Parts)
    (taken : AreSlotsTaken old mid (taken_by p t)) (h : Holding)
    (ready : CanCarryOut old at p h) where
  pub held-taken : (unused_list : List ℕ) × HoldsWith (λ i. occurs i (taken_by p t)) (shelf_of mid)
      (with_unused_list unused_list h)
      × HasSlotsFor 0 mid (with_unused_list unused_list h)
      × (length unused_list ≡ length h.unused_list - length (taken_by p t))
  held-taken =
      let all : slots_of p ≡ 0 + length (taken_by p t) = omega (arith, taken-number p t) in
      taken.taken h 0 ready.leaf.holds (subst (λ n. HasSlotsFor n old h) all ready.slots)

  leaf_same : node_in (shelf_of mid) at ≡ node_in (shelf_of old) at
  leaf_same = taken.others at (elim (cases_lt 0 (occurs at (taken_by p t))) [
    | inl l ↦ let free = ready.leaf.kind in let unused = taken.was_unused at l in cc
    | inr z ↦ omega (arith, z)
  ])

  pub can-taken : CanPlace (nodes mid.slots.items) at p t
  can-taken = record {
    free = ap (λ (n : Node). n.kind) leaf_same ∙ ready.leaf.kind;
    feasible = subst (λ n. IsFeasible p (extent_of n) (across_of n)) (sym leaf_same) ready.feasible;
    unused = λ i l. (taken.fresh i l).unused;
    inside = λ i l. omega (arith, (taken.fresh i l).inside, length-nodes mid.slots.items);
    once = taken-once taken held-taken.1;
  }
