-- The heads of a table that stores none, and of one that does.
use Rattle.std.proofs.Common.{◌≡◌, ◌≢◌, ℕ, zero, suc, ◌+◌, ◌-◌, ◌<◌, ◌≤◌, ◌⊎◌, inl, inr, List, [], ◌∷◌, ◌++◌, length}
use Rattle.std.proofs.Common.{take, drop, slice_index_or, slice_set, replicate}
use Rattle.std.proofs.Common.{true, false, refl, ap, sym, ◌∙◌, subst, arith}
use Rattle.std.proofs.lemmas.List.{drop_all, drop_more, length-set, length-replicate, set_past}
use Rattle.std.proofs.lemmas.Bool.{cases_eq, cases_lt, true≢false}
use Rattle.std.proofs.Math.ListN.{get_or-eq_default}
use Rattle.atlas_search.specs.declared.link.Link.{Link}
use Rattle.atlas_search.specs.Numbers.{no_slot, occurs}
use Rattle.atlas_search.specs.declared.masks.Mask.{Mask}
use Rattle.atlas_search.specs.Forks.{IsListed}
use Rattle.atlas_search.specs.Heaps.{Heap, IsHeap, members, tag_of}
use Rattle.atlas_search.specs.Items.{Item}
use Rattle.atlas_search.proofs.Occurrences.{same-self}
use Rattle.atlas_search.proofs.SearchLemmas.Heaps.{top-of}
use Rattle.atlas_search.specs.Tables.{no_link, head_of, heads_from, heads_in, is_stored, is_used_at, AreStored, CanHold, IsTable}
use Rattle.atlas_search.proofs.SearchLemmas.TableHeads.{head_of-same, head_of-other, head_of-blank, is_slot, no_slot-is}
use Rattle.atlas_search.proofs.SearchLemmas.TableHeads.{read-head, used-blank}

abbrev pub link_to : ℕ → Link
link_to i = record { number = i }

-- None of these is the list k.
abbrev pub IsNone : (ks : List ℕ) → (k : ℕ) → Type 0
IsNone ks k = (n : ℕ) → n < length ks → slice_index_or ks n 0 ≢ k

-- Of these the one at n is the first that is the list k.
pub record IsFirst (ks : List ℕ) (k n : ℕ) : Type 0 where
  pub inside : n < length ks
  pub is : slice_index_or ks n 0 ≡ k
  pub before : (m : ℕ) → m < n → slice_index_or ks m 0 ≢ k

none-later : (x k : ℕ) (ks : List ℕ) → x ≢ k → IsNone ks k → IsNone (x ∷ ks) k
none-later x k ks ne none zero l = ne
none-later x k ks ne none (suc n) l = none n (omega (arith, l))

before-later : (x k : ℕ) (ks : List ℕ) (n : ℕ) → x ≢ k → IsFirst ks k n
    → (m : ℕ) → m < suc n → slice_index_or (x ∷ ks) m 0 ≢ k
before-later x k ks n ne is zero l = ne
before-later x k ks n ne is (suc m) l = is.before m (omega (arith, l))

pub first-or_none : (ks : List ℕ) (k : ℕ) → IsNone ks k ⊎ ((n : ℕ) × IsFirst ks k n)
first-or_none [] k = inl (λ n l. absurd (omega (arith, l)))
first-or_none (x ∷ ks) k = elim (cases_eq x k) [
  | inl e ↦ inr (0, record { inside = omega arith; is = e; before = λ m l. absurd (omega (arith, l)) })
  | inr ne ↦ elim (first-or_none ks k) [
    | inl none ↦ inl (none-later x k ks ne none)
    | inr some ↦
        inr (suc some.0, record { inside = omega (arith, some.1.inside); is = some.1.is; before = before-later x k ks some.0 ne some.1 })
  ]
]

pub from-long : (ks : List ℕ) (i : ℕ) → length (heads_from ks i) ≡ 2704
from-long [] i = length-replicate 2704 no_link
from-long (k ∷ ks) i = length-set (heads_from ks (i + 1)) k (link_to i) ∙ from-long ks (i + 1)

pub from-none : (ks : List ℕ) (i k : ℕ) → IsNone ks k → head_of (heads_from ks i) k ≡ no_link
from-none [] i k none = head_of-blank k
from-none (x ∷ ks) i k none =
    head_of-other (heads_from ks (i + 1)) x (link_to i) k (λ e. none 0 (omega arith) (sym e))
    ∙ from-none ks (i + 1) k (λ n l. none (suc n) (omega (arith, l)))

pub from-first : (ks : List ℕ) (i k n : ℕ) → k < 2704 → IsFirst ks k n → head_of (heads_from ks i) k ≡ link_to (i + n)
from-first [] i k n below is = absurd (omega (arith, is.inside))
from-first (x ∷ ks) i k zero below is =
    ap (head_of (heads_from (x ∷ ks) i)) (sym is.is)
    ∙ head_of-same (heads_from ks (i + 1)) x (link_to i) (omega (arith, is.is, below, from-long ks (i + 1)))
    ∙ ap link_to (omega arith)
from-first (x ∷ ks) i k (suc n) below is =
    head_of-other (heads_from ks (i + 1)) x (link_to i) k (λ e. is.before 0 (omega arith) (sym e))
    ∙ from-first ks (i + 1) k n below
    (record { inside = omega (arith, is.inside); is = is.is; before = λ m l. is.before (suc m) (omega (arith, l)) })
    ∙ ap link_to (omega arith)

pub few-first : (ks : List ℕ) (k n : ℕ) → k < 2704 → IsFirst ks k n → head_of (heads_from ks 0) k ≡ link_to n
few-first ks k n below is = from-first ks 0 k n below is ∙ ap link_to (omega arith)

-- Slot i comes first in the list that stands at i, if in any.
pub from-of : (ks : List ℕ) (k i : ℕ) → length ks ≡ 8 → k < 2704 → (head_of (heads_from ks 0) k).number ≡ i → i < 8
    → slice_index_or ks i 0 ≡ k
from-of ks k i long below is few = elim (first-or_none ks k) [
  | inl none ↦ absurd (omega (arith, is, few, ap (λ (l : Link). l.number) (from-none ks 0 k none)))
  | inr some ↦
      ap (λ n. slice_index_or ks n 0) (sym is ∙ ap (λ (l : Link). l.number) (few-first ks k some.0 below some.1)) ∙ some.1.is
]

-- None but the first few come first.
pub from-few : (ks : List ℕ) (k : ℕ) → length ks ≡ 8 → k < 2704
    → ((head_of (heads_from ks 0) k).number ≡ no_slot) ⊎ ((head_of (heads_from ks 0) k).number < 8)
from-few ks k long below = elim (first-or_none ks k) [
  | inl none ↦ inl (ap (λ (l : Link). l.number) (from-none ks 0 k none))
  | inr some ↦ inr (omega (arith, ap (λ (l : Link). l.number) (few-first ks k some.0 below some.1), some.1.inside, long))
]

head-past : (heads : List Link) (k : ℕ) → length heads ≡ 2704 → 2704 ≤ k → head_of heads k ≡ no_link
unfolding head_of
head-past heads k long past = get_or-eq_default heads no_link (omega (arith, long, past))

-- List k begins with a slot, or none, from then on.
module _ (old new : List ℕ) (k : ℕ) (first : Link) (long : length old ≡ 8) (longer : length new ≡ 8) (below : k < 2704)
    (can : CanHold (heads_from old 0) k first)
    (here : (n : ℕ) → n < 8 → n ≡ first.number → slice_index_or new n 0 ≡ k)
    (gone : (n : ℕ) → n < 8 → n ≢ first.number → slice_index_or old n 0 ≡ k → slice_index_or new n 0 ≡ 2704)
    (kept : (n : ℕ) → n < 8 → n ≢ first.number → slice_index_or old n 0 ≢ k → slice_index_or new n 0 ≡ slice_index_or old n 0) where
  -- Where it stands for k afterwards, it is the slot.
  own : (n : ℕ) → n < 8 → n ≢ first.number → slice_index_or new n 0 ≢ k
  own n l ne e = elim (cases_eq (slice_index_or old n 0) k) [
    | inl was ↦ omega (arith, below, e, gone n l ne was)
    | inr apart ↦ apart (sym (kept n l ne apart) ∙ e)
  ]

  pub few-here : head_of (heads_from new 0) k ≡ first
  few-here = elim can [
    | inl none ↦
        from-none new 0 k (λ n l. own n (omega (arith, l, longer)) (λ e. omega (arith, e, none, l, longer)))
        ∙ ap link_to (sym none)
    | inr some ↦ few-first new k first.number below (record {
      inside = omega (arith, some.0, longer);
      is = here first.number some.0 refl;
      before = λ m l. own m (omega (arith, l, some.0)) (λ e. omega (arith, e, l));
    })
  ]

  -- Another list.
  module _ (j : ℕ) (apart : j ≢ k) where
    other : (n : ℕ) → n < 8 → slice_index_or old n 0 ≢ j → slice_index_or new n 0 ≡ j → 2704 ≤ j
    other n l ne e = elim (cases_eq n first.number) [
      | inl h ↦ absurd (apart (sym e ∙ here n l h))
      | inr h ↦ elim (cases_eq (slice_index_or old n 0) k) [
        | inl was ↦ omega (arith, e, gone n l h was)
        | inr differ ↦ absurd (ne (sym (kept n l h differ) ∙ e))
      ]
    ]

    inside : j < 2704 → head_of (heads_from new 0) j ≡ head_of (heads_from old 0) j
    inside l = elim (first-or_none old j) [
      | inl none ↦
          from-none new 0 j (λ n m e. omega (arith, l, other n (omega (arith, m, longer)) (none n (omega (arith, m, longer, long))) e))
          ∙ sym (from-none old 0 j none)
      | inr some ↦
          let n = some.0 in
          let is = some.1 in
          let few : n < 8 = omega (arith, is.inside, long) in
          let was : head_of (heads_from old 0) j ≡ link_to n = few-first old j n l is in
          let differ : n ≢ first.number = λ e. elim can [
            | inl none ↦ omega (arith, none, e, few)
            | inr can ↦ can.1 j l apart (was ∙ ap link_to e)
          ] in
          few-first new j n l (record {
            inside = omega (arith, few, longer);
            is = kept n few differ (λ e. apart (sym is.is ∙ e)) ∙ is.is;
            before = λ m h e. omega (arith, l, other m (omega (arith, h, few)) (is.before m h) e);
          })
          ∙ sym was
    ]

    pub few-other : head_of (heads_from new 0) j ≡ head_of (heads_from old 0) j
    few-other = elim (cases_lt j 2704) [
      | inl l ↦ inside l
      | inr past ↦ head-past (heads_from new 0) j (from-long new 0) past ∙ sym (head-past (heads_from old 0) j (from-long old 0) past)
    ]

-- Heads that are stored for the first time: slot after slot, from the last on.
pub written-begin : (ks : List ℕ) → length ks ≡ 8 → heads_from (drop 8 ks) 8 ≡ replicate 2704 no_link
written-begin ks long = ap (λ xs. heads_from xs 8) (drop_all 8 ks (omega (arith, long)))

rest-from : (ks : List ℕ) (i : ℕ) → length ks ≡ 8 → i ≤ 8 → 0 < i
    → drop (i - 1) ks ≡ slice_index_or ks (i - 1) 0 ∷ drop i ks
rest-from ks i long few some =
    drop_more ks (i - 1) 0 (omega (arith, long, few, some))
    ∙ ap (λ n. slice_index_or ks (i - 1) 0 ∷ drop n ks) (omega (arith, some))

pub written-next : (ks : List ℕ) (i : ℕ) (heads : List Link) → length ks ≡ 8 → i ≤ 8 → 0 < i → heads ≡ heads_from (drop i ks) i
    → slice_set heads (slice_index_or ks (i - 1) 0) (link_to (i - 1)) ≡ heads_from (drop (i - 1) ks) (i - 1)
written-next ks i heads long few some is =
    ap (λ hs. slice_set hs (slice_index_or ks (i - 1) 0) (link_to (i - 1)))
    (is ∙ ap (λ n. heads_from (drop i ks) n) (omega (arith, some)))
    ∙ sym (ap (λ xs. heads_from xs (i - 1)) (rest-from ks i long few some))

pub passed-next : (ks : List ℕ) (i : ℕ) (heads : List Link) → length ks ≡ 8 → i ≤ 8 → 0 < i → heads ≡ heads_from (drop i ks) i
    → 2704 ≤ slice_index_or ks (i - 1) 0 → heads ≡ heads_from (drop (i - 1) ks) (i - 1)
passed-next ks i heads long few some is past =
    sym (set_past heads (slice_index_or ks (i - 1) 0) (link_to (i - 1))
    (omega (arith, past, ap (λ hs. length hs) is, from-long (drop i ks) i)))
    ∙ written-next ks i heads long few some is

none-next : (ks : List ℕ) (i : ℕ) → heads_from (2704 ∷ ks) i ≡ heads_from ks (i + 1)
none-next ks i = set_past (heads_from ks (i + 1)) 2704 (link_to i) (omega (arith, from-long ks (i + 1)))

-- No slot comes first in a list.
abbrev pub few_none : List ℕ
few_none = 2704 ∷ 2704 ∷ 2704 ∷ 2704 ∷ 2704 ∷ 2704 ∷ 2704 ∷ 2704 ∷ []

blank-from : heads_from few_none 0 ≡ replicate 2704 no_link
blank-from =
    none-next (2704 ∷ 2704 ∷ 2704 ∷ 2704 ∷ 2704 ∷ 2704 ∷ 2704 ∷ []) 0 ∙ none-next (2704 ∷ 2704 ∷ 2704 ∷ 2704 ∷ 2704 ∷ 2704 ∷ []) 1
    ∙ none-next (2704 ∷ 2704 ∷ 2704 ∷ 2704 ∷ 2704 ∷ []) 2 ∙ none-next (2704 ∷ 2704 ∷ 2704 ∷ 2704 ∷ []) 3
    ∙ none-next (2704 ∷ 2704 ∷ 2704 ∷ []) 4 ∙ none-next (2704 ∷ 2704 ∷ []) 5 ∙ none-next (2704 ∷ []) 6 ∙ none-next [] 7

pub few-blank : (stored : List Link) → stored ≡ [] → (k : ℕ) → is_used_at (heads_in stored few_none) k ≡ false
few-blank [] e k = ap (λ hs. is_used_at hs k) blank-from ∙ used-blank k
few-blank (h ∷ hs) e k = absurd (omega (arith, ap (λ xs. length xs) e))

pub few-slots : (stored : List Link) (only : List ℕ) → length only ≡ 8 → is_stored stored ≡ false
    → (k : ℕ) → is_used_at (heads_in stored only) k ≡ true → (head_of (heads_in stored only) k).number < 8
few-slots [] only long e k used = elim (cases_lt k 2704) [
  | inl l ↦ elim (from-few only k long l) [
    | inl none ↦ absurd (true≢false (sym used ∙ no_slot-is (head_of (heads_from only 0) k) none))
    | inr few ↦ few
  ]
  | inr past ↦ absurd (true≢false (sym used ∙ ap is_slot (head-past (heads_from only 0) k (from-long only 0) past)))
]
few-slots (h ∷ hs) only long e k used = absurd (true≢false e)

-- Heads are stored, or none are.
pub stored-heads : (stored : List Link) (only : List ℕ) → 0 < length stored → heads_in stored only ≡ stored
stored-heads [] only some = absurd (omega (arith, some))
stored-heads (h ∷ hs) only some = refl

pub some-stored : (stored : List Link) (marks : List (List Mask)) (emptied : ℕ) → AreStored stored marks emptied → 0 < length stored
    → (m : List Mask) × (marks ≡ m ∷ []) × IsTable stored m emptied
some-stored [] marks emptied are some = absurd (omega (arith, some))
some-stored (h ∷ hs) [] emptied are some = absurd are
some-stored (h ∷ hs) (m ∷ ms) emptied are some = (m, ap (λ xs. m ∷ xs) are.0, are.1)

pub read-stored : (stored : List Link) (only : List ℕ) (k : ℕ) (e : Link) → k < length stored → e ≡ slice_index_or stored k e
    → e ≡ head_of (heads_in stored only) k
read-stored stored only k e l read =
    read-head stored k e l read ∙ ap (λ hs. head_of hs k) (sym (stored-heads stored only (omega (arith, l))))

-- A head is written where heads are stored.
module _ (old new : List Link) (only : List ℕ) (k : ℕ) (first : Link) (l : k < length old) (is : new ≡ slice_set old k first) where
  longer : 0 < length new
  longer = omega (arith, l, ap (λ hs. length hs) is, length-set old k first)

  pub stored-here : head_of (heads_in new only) k ≡ first
  stored-here = ap (λ hs. head_of hs k) (stored-heads new only longer ∙ is) ∙ head_of-same old k first l

  pub stored-other : (j : ℕ) → j ≢ k → head_of (heads_in new only) j ≡ head_of (heads_in old only) j
  stored-other j ne =
      ap (λ hs. head_of hs j) (stored-heads new only longer ∙ is) ∙ head_of-other old k first j ne
      ∙ ap (λ hs. head_of hs j) (sym (stored-heads old only (omega (arith, l))))

-- Marks are stored with heads.
pub stored-again : (heads : List Link) (m : List Mask) (emptied : ℕ) → IsTable heads m emptied → AreStored heads (m ∷ []) emptied
stored-again [] m emptied is = absurd (omega (arith, is.count))
stored-again (h ∷ hs) m emptied is = (refl, is)

pub no-heads : (stored : List Link) (marks : List (List Mask)) (emptied : ℕ) → AreStored stored marks emptied → marks ≡ []
    → stored ≡ []
no-heads [] marks emptied are e = refl
no-heads (h ∷ hs) [] emptied are e = absurd are
no-heads (h ∷ hs) (m ∷ ms) emptied are e = absurd (omega (arith, ap (λ xs. length xs) e))

module _ (old : List Link) (marks : List (List Mask)) (emptied : ℕ) (are : AreStored old marks emptied) (some : 0 < length old) where
  stored : (m : List Mask) × (marks ≡ m ∷ []) × IsTable old m emptied
  stored = some-stored old marks emptied are some

  pub own-marks : (r : List Mask) → r ≡ slice_index_or marks 0 r → IsTable old r emptied
  own-marks r read =
      subst (λ m. IsTable old m emptied) (sym (read ∙ ap (λ ms. slice_index_or ms 0 r) stored.1)) stored.2

  pub one-mark : length marks ≡ 1
  one-mark = ap (λ ms. length ms) stored.1

  pub set-marks : (new : List Link) (m : List Mask) (emptied' : ℕ) → IsTable new m emptied'
      → AreStored new (slice_set marks 0 m) emptied'
  set-marks new m emptied' is =
      subst (λ ms. AreStored new ms emptied') (sym (ap (λ ms. slice_set ms 0 m) stored.1)) (stored-again new m emptied' is)

  pub kept-marks : (new : List Link) (emptied' : ℕ) → ((m : List Mask) → IsTable old m emptied → IsTable new m emptied')
      → AreStored new marks emptied'
  kept-marks new emptied' step =
      subst (λ ms. AreStored new ms emptied') (sym stored.1) (stored-again new stored.0 emptied' (step stored.0 stored.2))

  pub long-heads : length old ≡ 2704
  long-heads = stored.2.count

pub filled : (old new : List Link) (n : ℕ) → old ≡ [] → n ≡ length old → new ≡ take 2704 old ++ replicate (2704 - n) no_link
    → new ≡ replicate 2704 no_link
filled [] new n none e is = is ∙ ap (λ m. replicate (2704 - m) no_link) e
filled (h ∷ hs) new n none e is = absurd (omega (arith, ap (λ xs. length xs) none))

pub none-long : {X : Type 0} (xs : List X) (n : ℕ) → n ≡ length xs → n ≡ 0 → xs ≡ []
none-long [] n e z = refl
none-long (x ∷ xs) n e z = absurd (omega (arith, e, z))

pub some-is : (heads : List Link) (only : List ℕ) → heads ≡ heads_from only 0 → is_stored heads ≡ true
some-is [] only e = absurd (omega (arith, ap (λ hs. length hs) e, from-long only 0))
some-is (h ∷ hs) only e = refl

-- The list that slot i comes first in, where no heads are stored.
pub list-of : (stored : List Link) (only : List ℕ) → length only ≡ 8 → is_stored stored ≡ false → (i : ℕ) → i < 8
    → (k : ℕ) → k < 2704 → (head_of (heads_in stored only) k).number ≡ i → slice_index_or only i 0 ≡ k
list-of [] only long e i few k below is = from-of only k i long below is few
list-of (h ∷ hs) only long e i few k below is = absurd (true≢false e)

pub is-some : (heads : List Link) → is_stored heads ≡ true → 0 < length heads
is-some [] e = absurd (true≢false (sym e))
is-some (h ∷ hs) e = omega arith

-- What a heap of few entries begins with can be held, where only list m can have it.
pub holds : (es : List Item) (heads : List Link) (m : ℕ) (first : Link) (fs : List Item) (up : ℕ) (h : Heap) → length es ≤ 8
    → length fs ≡ length es → IsHeap fs up first.number h
    → ((j : ℕ) → j < 2704 → (xs : List ℕ) × IsListed es j (head_of heads j).number xs × (0 < occurs first.number xs → j ≡ m))
    → CanHold heads m first
holds es heads m first fs up h few long is lists = elim (cases_eq first.number no_slot) [
  | inl none ↦ inl none
  | inr some ↦ inr (
    omega (arith, (top-of fs up first.number h is some).inside, long, few),
    λ j below ne same.
        let list = lists j below in
        let number : (head_of heads j).number ≡ first.number = ap (λ (l : Link). l.number) same in
        let a = (head_of heads j).number in
        let top = top-of es (tag_of j) a list.1.0 list.1.1 (λ e. some (sym number ∙ e)) in
        let on : 0 < occurs a list.0 =
        omega (arith, list.1.2 a, ap (λ (g : Heap). occurs a (members g)) top.is, same-self a) in
        ne (list.2 (subst (λ n. 0 < occurs n list.0) number on)),
  )
]
