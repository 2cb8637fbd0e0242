-- The list of unused slots, as far as it was gone through.
use Rattle.std.proofs.Common.{ℕ, ◌+◌, ◌<◌, ◌≤◌, ◌≡◌, ◌≢◌, Bool, true, false, List, [], ◌∷◌, ◌++◌, refl, sym, ap, ◌∙◌}
use Rattle.std.proofs.Common.{inl, inr, arith, zero, suc}
use Rattle.std.proofs.Common.{length, map, set, slice_index_or, get_or-set_other, get_or-set_same, subst}
use Rattle.std.proofs.lemmas.Bool.{cases_eq, cases_lt}
use Rattle.std.proofs.lemmas.List.{get_or_past}
use Rattle.atlas_image.specs.Unused.{AreUnmarked, IsMarkedLine, IsTakenFrom, count_of, is_unused, is_unused_kind, mark_count}
use Rattle.atlas_search.specs.Numbers.{front, no_slot, occurs, same}
use Rattle.atlas_store.specs.declared.slots.Node.{Node}
use Rattle.atlas_store.specs.declared.slots.NodeKind.{NodeKind}
use Rattle.atlas_store.specs.declared.slots.NodeKind.TheVariants as kind
use Rattle.atlas_store.specs.Slots.{node_at, use_count}
use Rattle.atlas_store.specs.Store.Restoring.{IsUnusedLine, NodeLine}
use Rattle.atlas_search.proofs.Occurrences.{length-distinct}
use Rattle.atlas_store.proofs.SlotLemmas.Frames.{same-self, same-ne}

-- From slot a the links lead through xs to b.
abbrev pub Leads : List Node → (a : ℕ) → List ℕ → (b : ℕ) → Type 0
Leads ns a [] b = a ≡ b
Leads ns a (x ∷ xs) b = (a ≡ x) × (x < length ns) × Leads ns (node_at ns x).next.number xs b

pub leads-more : (ns : List Node) (a : ℕ) (xs : List ℕ) (b : ℕ) → Leads ns a xs b → b < length ns
    → Leads ns a (xs ++ b ∷ []) (node_at ns b).next.number
leads-more ns a [] b h l = (h, l, refl)
leads-more ns a (x ∷ xs) b h l = (h.0, h.1, leads-more ns (node_at ns x).next.number xs b h.2 l)

pub leads-begins : (ns : List Node) (a : ℕ) (xs : List ℕ) → Leads ns a xs no_slot → a ≡ front xs
leads-begins ns a [] h = h
leads-begins ns a (x ∷ xs) h = h.0

pub leads-line : (ns : List Node) (a : ℕ) (xs : List ℕ) → Leads ns a xs no_slot → NodeLine ns xs
leads-line ns a [] h = tt
leads-line ns a (x ∷ xs) h =
    (h.1, leads-begins ns (node_at ns x).next.number xs h.2, leads-line ns (node_at ns x).next.number xs h.2)

occurs_more : (k b : ℕ) (xs : List ℕ) → occurs k (xs ++ b ∷ []) ≡ occurs k xs + same k b
occurs_more k b [] = omega arith
occurs_more k b (x ∷ xs) = omega (arith, occurs_more k b xs)

-- The list so far, where the loop stands at slot b.
pub record IsTakenTo (ns : List Node) (old new : List Bool) (a : ℕ) (xs : List ℕ) (b : ℕ) : Type 0 where
  pub leads : Leads ns a xs b
  pub taken : (i : ℕ) → occurs i xs + mark_count new i ≡ mark_count old i

pub taken-none : (ns : List Node) (marks : List Bool) (a : ℕ) → IsTakenTo ns marks marks a [] a
taken-none ns marks a = record { leads = refl; taken = λ i. omega arith }

mark_other : (marks : List Bool) (b k : ℕ) → k ≢ b → mark_count (set marks b false) k ≡ mark_count marks k
mark_other marks b k ne = ap count_of (get_or-set_other marks b k false false ne)

mark_same : (marks : List Bool) (b : ℕ) → b < length marks → mark_count (set marks b false) b ≡ 0
mark_same marks b l = ap count_of (get_or-set_same marks b false false l)

module _ (ns : List Node) (old new : List Bool) (a : ℕ) (xs : List ℕ) (b : ℕ) (h : IsTakenTo ns old new a xs b)
    (long : length new ≡ length ns) where
  pub taken-more : b < length ns → mark_count new b ≡ 1
      → IsTakenTo ns old (set new b false) a (xs ++ b ∷ []) (node_at ns b).next.number
  taken-more l one =
      record {
        leads = leads-more ns a xs b h.leads l;
        taken = λ k. elim (cases_eq k b) [
          | inl e ↦ omega (
            arith,
            occurs_more k b xs,
            h.taken k,
            ap (λ v. same v b) e,
            same-self b,
            ap (mark_count (set new b false)) e,
            mark_same new b (omega arith),
            ap (mark_count new) e,
            one,
          )
          | inr ne ↦ omega (arith, occurs_more k b xs, h.taken k, same-ne k b ne, mark_other new b k ne)
        ];
      }

  pub taken-all : b ≡ no_slot → IsTakenFrom ns old new a xs
  taken-all e =
      let leads : Leads ns a xs no_slot = subst (Leads ns a xs) e h.leads in
      record { line = leads-line ns a xs leads; begins = leads-begins ns a xs leads; taken = h.taken }

kind_once : (k : NodeKind) → count_of (is_unused_kind k) + use_count k ≡ 1
kind_once kind.Container = refl
kind_once kind.Alloc = refl
kind_once kind.Free = refl
kind_once kind.Unused = refl

-- A slot is marked or used.
marks-use : (ns : List Node) (k : ℕ) → k < length ns → mark_count (map is_unused ns) k + use_count (node_at ns k).kind ≡ 1
marks-use [] k l = absurd (omega arith)
marks-use (n ∷ ns) zero l = kind_once n.kind
marks-use (n ∷ ns) (suc k) l = marks-use ns k (omega arith)

-- Where no mark is left, the list has each unused slot once.
pub unused-line : (ns : List Node) (new : List Bool) (a : ℕ) (xs : List ℕ) → length new ≡ length ns
    → IsTakenFrom ns (map is_unused ns) new a xs → AreUnmarked new → IsUnusedLine ns a xs
unused-line ns new a xs long h none = record {
  line = h.line;
  begins = h.begins;
  each = λ i l. omega (arith, h.taken i, none i (omega arith), marks-use ns i l);
}

-- The other way round: the list zs, of which ys is left where the loop stands at slot b.
pub record IsStillMarked (ns : List Node) (old new : List Bool) (zs ys : List ℕ) (b steps : ℕ) : Type 0 where
  pub line : NodeLine ns ys
  pub begins : b ≡ front ys
  pub taken : (i : ℕ) → occurs i ys + mark_count old i ≡ occurs i zs + mark_count new i
  pub few : (i : ℕ) → occurs i ys ≤ mark_count new i
  pub count : length ys + steps ≡ length zs

count_le : (b : Bool) → count_of b ≤ 1
count_le true = omega arith
count_le false = omega arith

mark_past : (marks : List Bool) (i : ℕ) → length marks ≤ i → mark_count marks i ≡ 0
mark_past marks i l = ap count_of (get_or_past marks i false l)

marked_inside : (marks : List Bool) (i : ℕ) → 0 < mark_count marks i → i < length marks
marked_inside marks i l = elim (cases_lt i (length marks)) [ inl m ↦ m | inr m ↦ absurd (omega (arith, l, mark_past marks i m)) ]

pub still-all : (ns : List Node) (marks : List Bool) (first : ℕ) (zs : List ℕ) → IsMarkedLine ns marks first zs
    → IsStillMarked ns marks marks zs zs first 0
still-all ns marks first zs h =
    record { line = h.line; begins = h.begins; taken = λ i. refl; few = h.marked; count = omega arith }

-- The slot where the loop stands is marked.
pub still-marked : (ns : List Node) (old new : List Bool) (zs ys : List ℕ) (b steps : ℕ)
    → IsStillMarked ns old new zs ys b steps → b ≢ no_slot → 0 < mark_count new b
still-marked ns old new zs [] b steps h ne = absurd (ne h.begins)
still-marked ns old new zs (x ∷ ys) b steps h ne =
    omega (arith, h.few x, same-self x, ap (mark_count new) h.begins)

pub still-inside : (ns : List Node) (old new : List Bool) (zs ys : List ℕ) (b steps : ℕ)
    → IsStillMarked ns old new zs ys b steps → b ≢ no_slot → b < length new
still-inside ns old new zs ys b steps h ne = marked_inside new b (still-marked ns old new zs ys b steps h ne)

pub still-more : (ns : List Node) (old new : List Bool) (zs ys : List ℕ) (b steps : ℕ)
    → IsStillMarked ns old new zs ys b steps → b ≢ no_slot
    → (rest : List ℕ) × IsStillMarked ns old (set new b false) zs rest (node_at ns b).next.number (steps + 1)
still-more ns old new zs [] b steps h ne = absurd (ne h.begins)
still-more ns old new zs (x ∷ ys) b steps h ne =
    let inside = still-inside ns old new zs (x ∷ ys) b steps h ne in
    let marked = still-marked ns old new zs (x ∷ ys) b steps h ne in
    let most : mark_count new b ≤ 1 = count_le (slice_index_or new b false) in
    let gone = mark_same new b inside in (
      ys,
      record {
        line = h.line.2;
        begins = ap (λ v. (node_at ns v).next.number) h.begins ∙ h.line.1;
        taken = λ k. elim (cases_eq k b) [
          | inl e ↦
              let z : mark_count (set new b false) k ≡ 0 = ap (mark_count (set new b false)) e ∙ gone in
              let o : mark_count new k ≡ mark_count new b = ap (mark_count new) e in
              let one : same k x ≡ 1 = ap (same k) (sym h.begins ∙ sym e) ∙ same-self k in
              omega (arith, h.taken k, z, o, one, most, marked)
          | inr ne ↦
              let z : same k x ≡ 0 = same-ne k x (λ e. ne (e ∙ sym h.begins)) in
              omega (arith, h.taken k, z, mark_other new b k ne)
        ];
        few = λ k. elim (cases_eq k b) [
          | inl e ↦
              let o : mark_count new k ≡ mark_count new b = ap (mark_count new) e in
              let one : same k x ≡ 1 = ap (same k) (sym h.begins ∙ sym e) ∙ same-self k in
              omega (arith, h.few k, o, one, most)
          | inr ne ↦ omega (arith, h.few k, mark_other new b k ne)
        ];
        count = omega (arith, h.count);
      },
    )

-- Where the loop stands at no slot, all of the list is taken.
pub still-ends : (ns : List Node) (old new : List Bool) (first : ℕ) (zs ys : List ℕ) (b steps : ℕ)
    → IsMarkedLine ns old first zs → IsStillMarked ns old new zs ys b steps → length ns < no_slot → b ≡ no_slot
    → IsTakenFrom ns old new first zs
still-ends ns old new first zs [] b steps m h short e =
    record { line = m.line; begins = m.begins; taken = λ i. omega (arith, h.taken i) }
still-ends ns old new first zs (x ∷ ys) b steps m h short e =
    let i : x < length ns = h.line.0 in
    let f : b ≡ x = h.begins in
    absurd (omega arith)

marked_short : (ns : List Node) (marks : List Bool) (first : ℕ) (zs : List ℕ) → IsMarkedLine ns marks first zs
    → length zs ≤ length marks
marked_short ns marks first zs h =
    length-distinct (length marks) zs (λ k. omega (arith, h.marked k, count_le (slice_index_or marks k false)))
    (λ k l. marked_inside marks k (omega (arith, h.marked k, l)))

empty : (xs : List ℕ) → length xs ≡ 0 → front xs ≡ no_slot
empty [] e = refl
empty (x ∷ xs) e = absurd (omega arith)

-- After so many steps there is nothing left of it.
pub still-over : (ns : List Node) (old new : List Bool) (first : ℕ) (zs ys : List ℕ) (b steps : ℕ)
    → IsMarkedLine ns old first zs → IsStillMarked ns old new zs ys b steps → length old ≤ steps → b ≡ no_slot
still-over ns old new first zs ys b steps m h l =
    h.begins ∙ empty ys (omega (arith, h.count, marked_short ns old first zs m))

line_inside : (ns : List Node) (xs : List ℕ) (k : ℕ) → NodeLine ns xs → 0 < occurs k xs → k < length ns
line_inside ns [] k h l = absurd (omega arith)
line_inside ns (x ∷ xs) k h l = elim (cases_eq k x) [
  | inl e ↦ subst (λ v. v < length ns) (sym e) h.0
  | inr ne ↦ line_inside ns xs k h.2 (omega (arith, same-ne k x ne))
]

-- The list of unused slots goes through marked ones.
pub unused-marked : (ns : List Node) (a : ℕ) (xs : List ℕ) → IsUnusedLine ns a xs → IsMarkedLine ns (map is_unused ns) a xs
unused-marked ns a xs h = record {
  line = h.line;
  begins = h.begins;
  marked = λ i. elim (cases_lt 0 (occurs i xs)) [
    | inl l ↦
        let k = line_inside ns xs i h.line l in
        omega (arith, h.each i k, marks-use ns i k)
    | inr z ↦ omega arith
  ];
}

-- Where all of it is taken, no mark is left.
pub unused-unmarked : (ns : List Node) (new : List Bool) (a : ℕ) (xs : List ℕ) → length new ≡ length ns
    → IsUnusedLine ns a xs → IsTakenFrom ns (map is_unused ns) new a xs → AreUnmarked new
unused-unmarked ns new a xs long h t =
    λ i l.
    let k : i < length ns = omega arith in
    omega (arith, h.each i k, marks-use ns i k, t.taken i)
