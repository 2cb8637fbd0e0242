-- The mark of an order: the entry from which on all are blank.
use Rattle.std.proofs.Common.{ℕ, ◌≡◌, ◌==◌, ◌<◌, inl, inr, Bool, false, eqb, length, set}
use Rattle.std.proofs.Common.{slice_get, List, [], ◌∷◌, ◌++◌, Option, Some, refl}
use Rattle.std.proofs.Common.{sym, ap, ◌∙◌, subst}
use Rattle.std.specs.Option.{option_map_or}
use Rattle.std.specs.Prelude.{unwrap_or}
use Rattle.std.proofs.lemmas.{Bool.Decides.{eqb_tells}}
use Rattle.std.proofs.lemmas.Map.Keys.{IsDistinct-head, IsDistinct-tail}
use Rattle.std.specs.HashMap.{HashMap}
use Rattle.std.specs.List.{AllByRecursion, IsDistinct}
use Rattle.atlas_model.specs.declared.geometry.Rectangle.{Rectangle}
use Rattle.atlas_search.specs.Numbers.{front, no_slot, without}
use Rattle.atlas_entries.specs.declared.entries.Entry.{Entry}
use Rattle.atlas_entries.specs.Entries.{entry_at, is_blank, moved, no_page, numbers, touched, without_number, AreBlank, EndsBlank}
use Rattle.atlas_entries.specs.Entries.{IsBeforeBlanks, IsNumber}
use Rattle.atlas_entries.specs.Orders.{newest_of, oldest_of, IsEntry, IsFreshNumber, Order}
use Rattle.atlas_entries.specs.Tables.{numbered, AreKept}
use Rattle.atlas_entries.proofs.KeptEntries.{joined-is, moved-is, touched-is}
use Rattle.atlas_entries.proofs.EntryLemmas.{entry_at-numbered, numbered-stored, numbered-without, numbers-numbered, IsDistinct-from_once}
use Rattle.atlas_entries.proofs.AppendedLists.{append-none, each-right}

-- The first of a list, or the number of no entry.
pub front-or : (ns : List ℕ) → front ns ≡ unwrap_or (newest_of ns) no_slot
front-or [] = refl
front-or (n ∷ ns) = refl

-- What the first of a list leaves.
pub first-left : (n : ℕ) (newer older : List ℕ) → n ≡ front older → (n ≡ no_slot → ⊥)
    → (rest : List ℕ) × (newer ++ older ≡ newer ++ n ∷ rest) × (without n older ≡ rest)
first-left n newer [] first some = absurd (some first)
first-left n newer (x ∷ older) first some = elim (eqb_tells n x) [
  | inl same ↦ (older, ap (λ (k : ℕ). newer ++ k ∷ older) (sym same.1), rw same.0 refl)
  | inr apart ↦ absurd (apart.1 first)
]

module _ {K : Type 0} where
  numbers-both : (xs ys : List (ℕ × Entry K)) → numbers (xs ++ ys) ≡ numbers xs ++ numbers ys
  numbers-both [] ys = refl
  numbers-both (x ∷ xs) ys = ap (λ ns. x.0 ∷ ns) (numbers-both xs ys)

  without-apart : (n : ℕ) (es : List (ℕ × Entry K)) → AllByRecursion (λ y. eqb n y ≡ false) (numbers es)
      → without_number n es ≡ es
  without-apart n [] apart = refl
  without-apart n (x ∷ es) apart = let here = apart.0 in rw here (ap (λ ys. x ∷ ys) (without-apart n es apart.1))

  -- An entry that is gone from a list is gone from both of its parts.
  without-both : (n : ℕ) (xs ys : List (ℕ × Entry K)) → IsDistinct eqb (numbers (xs ++ ys))
      → without_number n (xs ++ ys) ≡ without_number n xs ++ without_number n ys
  without-both n [] ys apart = refl
  without-both n (x ∷ xs) ys apart = elim (eqb_tells n x.0) [
    | inl same ↦
        let all = IsDistinct-head eqb x.0 (numbers (xs ++ ys)) apart in
        let rest = each-right (λ y. eqb x.0 y ≡ false) (numbers xs) (numbers ys) (rw (numbers-both xs ys) at all) in
        let own = subst (λ m. AllByRecursion (λ y. eqb m y ≡ false) (numbers ys)) (sym same.1) rest in
        rw same.0 (ap (λ zs. xs ++ zs) (sym (without-apart n ys own)))
    | inr other ↦ rw other.0 (ap (λ zs. x ∷ zs) (without-both n xs ys (IsDistinct-tail eqb x.0 (numbers (xs ++ ys)) apart)))
  ]

  numbers-without : (n : ℕ) (es : List (ℕ × Entry K)) → numbers (without_number n es) ≡ without n (numbers es)
  numbers-without n [] = refl
  numbers-without n (x ∷ es) = elim (eqb_tells n x.0) [
    | inl same ↦ rw same.0 refl
    | inr other ↦ rw other.0 (ap (λ ns. x.0 ∷ ns) (numbers-without n es))
  ]

  blank-without : (n : ℕ) (es : List (ℕ × Entry K)) → AreBlank es → AreBlank (without_number n es)
  blank-without n [] all = tt
  blank-without n (x ∷ es) all = elim (eqb_tells n x.0) [
    | inl same ↦ rw same.0 all.1
    | inr other ↦ rw other.0 (all.0, blank-without n es all.1)
  ]

  -- An entry goes.
  pub mark-without : (n : ℕ) (es : List (ℕ × Entry K)) (mark next : ℕ) → IsDistinct eqb (numbers es)
      → EndsBlank mark es
      → ((newer older : List ℕ) → numbers es ≡ newer ++ older → mark ≡ front older → next ≡ front (without n older))
      → EndsBlank next (without_number n es)
  mark-without n es mark next apart m leaves = record {
    newer = without_number n m.newer;
    older = without_number n m.older;
    was = ap (without_number n) m.was ∙ without-both n m.newer m.older (rw m.was at apart);
    first = leaves (numbers m.newer) (numbers m.older) (ap numbers m.was ∙ numbers-both m.newer m.older) m.first
        ∙ sym (ap front (numbers-without n m.older));
    blank = blank-without n m.older m.blank;
  }

  -- An entry comes in front of all.
  pub mark-joined : (x : ℕ × Entry K) (es : List (ℕ × Entry K)) (mark : ℕ) → EndsBlank mark es
      → EndsBlank mark (x ∷ es)
  mark-joined x es mark m = record {
    newer = x ∷ m.newer;
    older = m.older;
    was = ap (λ ys. x ∷ ys) m.was;
    first = m.first;
    blank = m.blank;
  }

  -- One is used: it goes, and comes in front of all.
  pub mark-touched : (n frame : ℕ) (e : Entry K) (es : List (ℕ × Entry K)) (mark : ℕ) → entry_at n es ≡ Some e
      → EndsBlank mark (without_number n es) → EndsBlank mark (touched n frame es)
  mark-touched n frame e es mark at m =
      subst (λ o. EndsBlank mark (option_map_or (λ (x : Entry K). (n, record x { frame = frame }) ∷ without_number n es) o es)) (sym at)
      (mark-joined (n, record e { frame = frame }) (without_number n es) mark m)

  module _ (n page id : ℕ) (rectangle : Rectangle) where
    moved-numbers : (es : List (ℕ × Entry K)) → numbers (moved n page id rectangle es) ≡ numbers es
    moved-numbers [] = refl
    moved-numbers (x ∷ es) = elim (eqb_tells n x.0) [
      | inl same ↦ rw same.0 refl
      | inr other ↦ rw other.0 (ap (λ ns. x.0 ∷ ns) (moved-numbers es))
    ]

    module _ (items : List (Entry K)) (r : Entry K) (at : slice_get items n ≡ Some r) (lies : is_blank r ≡ (page == no_page)) where
      moved-blank : (es : List (ℕ × Entry K)) → AreBlank es → AllByRecursion (λ x. slice_get items x.0 ≡ Some x.1) es
          → AreBlank (moved n page id rectangle es)
      moved-blank [] all stored = tt
      moved-blank (x ∷ es) all stored = elim (eqb_tells n x.0) [
        | inl same ↦
            let here : Some x.1 ≡ Some r = sym stored.0 ∙ ap (slice_get items) (sym same.1) ∙ at in
            let it : x.1 ≡ r = cc in
            rw same.0 (sym lies ∙ ap is_blank (sym it) ∙ all.0, all.1)
        | inr other ↦ rw other.0 (all.0, moved-blank es all.1 stored.1)
      ]

      -- An entry has another rectangle.
      pub mark-moved : (newer older : List (ℕ × Entry K)) (mark : ℕ) → mark ≡ front (numbers older)
          → AreBlank older → AllByRecursion (λ x. slice_get items x.0 ≡ Some x.1) older
          → EndsBlank mark (moved n page id rectangle (newer ++ older))
      mark-moved [] older mark first blank stored = record {
        newer = [];
        older = moved n page id rectangle older;
        was = refl;
        first = first ∙ sym (ap front (moved-numbers older));
        blank = moved-blank older blank stored;
      }
      mark-moved (x ∷ newer) older mark first blank stored = elim (eqb_tells n x.0) [
        | inl same ↦ rw same.0 (record {
          newer = (x.0, record x.1 { page = page; id = id; rectangle = rectangle }) ∷ newer;
          older = older;
          was = refl;
          first = first;
          blank = blank;
        })
        | inr other ↦ rw other.0
            (mark-joined x (moved n page id rectangle (newer ++ older)) mark (mark-moved newer older mark first blank stored))
      ]

  -- With no mark the oldest comes next.
  pub unmarked : (es : List (ℕ × Entry K)) (next : Option ℕ) → next ≡ oldest_of (numbers es) → IsBeforeBlanks next es
  unmarked es next is = record { newer = es; older = []; was = sym (append-none es); last = is; blank = tt }

  first-of : (n : ℕ) (es : List (ℕ × Entry K)) → n ≡ front (numbers es) → (n ≡ no_slot → ⊥)
      → (rest : List ℕ) × (numbers es ≡ n ∷ rest)
  first-of n [] is some = absurd (some is)
  first-of n (x ∷ es) is some = (numbers es, ap (λ (m : ℕ). m ∷ numbers es) (sym is))

  -- And otherwise the one that is newer than the mark.
  pub marked : (n : ℕ) (es : List (ℕ × Entry K)) (next : Option ℕ) → EndsBlank n es → (n ≡ no_slot → ⊥)
      → ((newer older : List ℕ) → numbers es ≡ newer ++ n ∷ older → next ≡ oldest_of newer) → IsBeforeBlanks next es
  marked n es next m some newer =
      let w = first-of n m.older m.first some in
      record {
        newer = m.newer;
        older = m.older;
        was = m.was;
        last = newer (numbers m.newer) w.0
            (ap numbers m.was ∙ numbers-both m.newer m.older ∙ ap (λ ns. numbers m.newer ++ ns) w.1);
        blank = m.blank;
      }

  there : (n : ℕ) (xs ys : List (ℕ × Entry K)) → n ≡ front (numbers ys) → (n ≡ no_slot → ⊥) → IsNumber n (xs ++ ys)
  there n [] [] is some = absurd (some is)
  there n [] (y ∷ ys) is some = elim (eqb_tells n y.0) [
    | inl same ↦ rw same.0 refl
    | inr other ↦ absurd (other.1 is)
  ]
  there n (x ∷ xs) ys is some = elim (eqb_tells n x.0) [
    | inl same ↦ rw same.0 refl
    | inr other ↦ rw other.0 (there n xs ys is some)
  ]

  -- The mark is an entry.
  pub marked-number : (n : ℕ) (es : List (ℕ × Entry K)) → EndsBlank n es → (n ≡ no_slot → ⊥) → IsNumber n es
  marked-number n es m some = subst (λ xs. IsNumber n xs) (sym m.was) (there n m.newer m.older m.first some)

-- What the marks of stored entries become.
module _ {K S : Type 0} (eq : K → K → Bool) (map : HashMap K ℕ S) (order : Order) (items : List (Entry K)) (h : AreKept eq map order items)
    (mark : ℕ) (m : EndsBlank mark (numbered items order.entries)) where
  numbers-es : numbers (numbered items order.entries) ≡ order.entries
  numbers-es = numbers-numbered items order.entries h.inside

  module _ (n : ℕ) (l : IsEntry n order) (next : ℕ) (leaves : (newer older : List ℕ) → order.entries ≡ newer ++ older → mark ≡ front older →
      next ≡ front (without n older)) where
    left : EndsBlank next (without_number n (numbered items order.entries))
    left =
        mark-without n (numbered items order.entries) mark next
        (subst (IsDistinct eqb) (sym numbers-es) (IsDistinct-from_once order.entries h.once)) m
        (λ newer older is. leaves newer older (sym numbers-es ∙ is))

    pub mark-gone : EndsBlank next (numbered items (without n order.entries))
    mark-gone = subst (EndsBlank next) (sym (numbered-without items n order.entries h.inside)) left

    pub mark-used : (frame : ℕ) (r : Entry K) → slice_get items n ≡ Some r
        → EndsBlank next (numbered (set items n (record r { frame = frame })) (n ∷ without n order.entries))
    mark-used frame r at =
        subst (EndsBlank next) (sym (touched-is eq map order items h n frame r l at))
        (mark-touched n frame r (numbered items order.entries) next (entry_at-numbered items n order.entries h.inside l ∙ at) left)

  pub mark-placed : (n page id : ℕ) (rectangle : Rectangle) (r : Entry K) → IsEntry n order → slice_get items n ≡ Some r
      → is_blank r ≡ (page == no_page)
      → EndsBlank mark (numbered (set items n (record r { page = page; id = id; rectangle = rectangle })) order.entries)
  mark-placed n page id rectangle r l at lies =
      let stored = each-right (λ x. slice_get items x.0 ≡ Some x.1) m.newer m.older
      (subst (AllByRecursion (λ x. slice_get items x.0 ≡ Some x.1)) m.was (numbered-stored items order.entries)) in
      subst (EndsBlank mark) (sym (moved-is eq map order items h n page id rectangle r l at))
      (subst (λ xs. EndsBlank mark (moved n page id rectangle xs)) (sym m.was)
      (mark-moved n page id rectangle items r at lies m.newer m.older mark m.first m.blank stored))

  pub mark-new : (n : ℕ) (e : Entry K) (stored : List (Entry K)) → IsFreshNumber n order → slice_get stored n ≡ Some e
      → ((k : ℕ) → (k ≡ n → ⊥) → k < length items → slice_get stored k ≡ slice_get items k)
      → EndsBlank mark (numbered stored (n ∷ order.entries))
  mark-new n e stored fresh at others =
      subst (EndsBlank mark) (sym (joined-is eq map order items h n e stored fresh at others))
      (mark-joined (n, e) (numbered items order.entries) mark m)
