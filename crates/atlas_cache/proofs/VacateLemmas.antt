-- A walk from the least recently used entry over those that are shown as gone.
use Rattle.std.proofs.Common.{ℕ, ◌+◌, ◌≤◌, ◌<◌, ◌≡◌, ◌||◌, true, false, eqb, ltb, Bool, List, [], ◌∷◌, ◌++◌, length, Option, None}
use Rattle.std.proofs.Common.{Some, refl, sym, ap, subst, ◌∙◌, arith, append_assoc}
use Rattle.std.proofs.Common.{inl, inr}
use Rattle.std.proofs.Math.Bool.{and-false, and-true, or_comm}
use Rattle.std.proofs.lemmas.{Bool.{cases_Bool}}
use Rattle.std.proofs.lemmas.Bool.Decides.{eqb_tells}
use Rattle.std.specs.List.{AllByRecursion, IsDistinct}
use Rattle.std.proofs.lemmas.Bool.{lt-ltb, eqb-true}
use Rattle.guillotiere.specs.declared.Size.{Size}
use Rattle.guillotiere.specs.Changes.{and_id}
use Rattle.guillotiere.specs.Stored.{AtlasValue}
use Rattle.atlas_entries.specs.declared.entries.Entry.{Entry}
use Rattle.atlas_cache.specs.Caches.{entries_of, has_id, holders, FramesFall, HoldsEntries}
use Rattle.atlas_cache.specs.Vacating.{idle_on, ids_on, HasNoRoomWithout}
use Rattle.atlas_entries.specs.Entries.{entry_at, is_blank, lying, no_page, numbers, IsNumber}
use Rattle.atlas_entries.specs.Orders.{oldest_of}
use Rattle.atlas_cache.proofs.BlankLemmas.{lying-append, lying-here}
use Rattle.atlas_cache.proofs.HoldingLemmas.{holders-append}
use Rattle.atlas_cache.proofs.ListLemmas.{falls-all}
use Rattle.atlas_cache.proofs.PassLemmas.{last-counted, last-of, Last, no-last}
use Rattle.atlas_cache.proofs.WalkLemmas.{at-number, entries-append, numbers-append, no-length}

-- Whether numbers are equal doesn't depend on their order.
pub eqb-sym : (a b : ℕ) → eqb a b ≡ eqb b a
eqb-sym a b = elim (eqb_tells a b) [
  | inl same ↦ rw same.1 refl
  | inr other ↦ elim (eqb_tells b a) [
    | inl back ↦ absurd (other.1 (sym back.1))
    | inr neither ↦ other.0 ∙ sym neither.0
  ]
]

ltb-not : (a b : ℕ) → (a < b → ⊥) → ltb a b ≡ false
ltb-not a b not = grind (arith, not)

module _ {K : Type 0} where
  -- The entries up to one are still to be looked at; these were used before it.
  pub record Walked (es older : List (ℕ × Entry K)) (last : Option ℕ) (count : ℕ) : Type 0 where
    pub newer : List (ℕ × Entry K)
    pub was : es ≡ newer ++ older
    pub next : last ≡ oldest_of (numbers newer)
    pub counted : length newer + count ≤ length es

  append-nothing : (xs : List (ℕ × Entry K)) → xs ≡ xs ++ []
  append-nothing [] = refl
  append-nothing (x ∷ xs) = ap (λ ys. x ∷ ys) (append-nothing xs)

  pub none-walked : (es : List (ℕ × Entry K)) (next : Option ℕ) → next ≡ oldest_of (numbers es) → Walked es [] next 0
  none-walked es next is = record { newer = es; was = append-nothing es; next = is; counted = omega arith }

  -- The same, with the entry that is looked at.
  pub record IsLookedAt (es older : List (ℕ × Entry K)) (n : ℕ) (e : Entry K) (count : ℕ) : Type 0 where
    pub newer : List (ℕ × Entry K)
    pub was : es ≡ newer ++ (n, e) ∷ older
    pub counted : length newer + (count + 1) ≤ length es

  whole : (es older : List (ℕ × Entry K)) (n count : ℕ) (p : Walked es older (Some n) count) (l : Last n p.newer)
      → es ≡ l.rest ++ (n, l.entry) ∷ older
  whole es older n count p l =
      p.was ∙ ap (λ xs. xs ++ older) l.was ∙ append_assoc l.rest ((n, l.entry) ∷ []) older

  found : (es older : List (ℕ × Entry K)) (n count : ℕ) (p : Walked es older (Some n) count) (l : Last n p.newer)
      → IsDistinct eqb (numbers es) → entry_at n es ≡ Some l.entry
  found es older n count p l apart =
      let is = whole es older n count p l in
      ap (entry_at n) is ∙ at-number l.rest n l.entry older (rw is at apart)

  pub walked-number : (es older : List (ℕ × Entry K)) (n count : ℕ) → Walked es older (Some n) count
      → IsDistinct eqb (numbers es) → IsNumber n es
  walked-number es older n count p apart =
      let there = found es older n count p (last-of n p.newer p.next) apart in rw there refl

  pub looked-at : (es older : List (ℕ × Entry K)) (n : ℕ) (e : Entry K) (count : ℕ) → Walked es older (Some n) count
      → IsDistinct eqb (numbers es) → entry_at n es ≡ Some e → IsLookedAt es older n e count
  looked-at es older n e count p apart at =
      let l = last-of n p.newer p.next in
      let one : Some e ≡ Some l.entry = sym at ∙ found es older n count p l apart in
      let same : l.entry ≡ e = cc in
      let counted = p.counted in
      record {
        newer = l.rest;
        was = whole es older n count p l ∙ ap (λ (f : Entry K). l.rest ++ (n, f) ∷ older) same;
        counted = omega (arith, counted, last-counted p.newer l.rest (n, l.entry) l.was);
      }

  pub looked-numbers_at : (es older : List (ℕ × Entry K)) (n : ℕ) (e : Entry K) (count : ℕ)
      (l : IsLookedAt es older n e count) → numbers es ≡ numbers l.newer ++ n ∷ numbers older
  looked-numbers_at es older n e count l = ap numbers l.was ∙ numbers-append l.newer (n, e) older

  pub walked-one : (es older : List (ℕ × Entry K)) (n : ℕ) (e : Entry K) (next : Option ℕ) (count : ℕ)
      (l : IsLookedAt es older n e count) → next ≡ oldest_of (numbers l.newer)
      → Walked es ((n, e) ∷ older) next (count + 1)
  walked-one es older n e next count l is = record { newer = l.newer; was = l.was; next = is; counted = l.counted }

  -- Where none is left, all were looked at.
  pub walked-none : (es older : List (ℕ × Entry K)) (count : ℕ) → Walked es older None count → es ≡ older
  walked-none es older count p = p.was ∙ ap (λ xs. xs ++ older) (no-last p.newer p.next)

  pub walked-all : (es older : List (ℕ × Entry K)) (next : Option ℕ) (count : ℕ) → Walked es older next count
      → length es ≤ count → es ≡ older
  walked-all es older next count p le =
      let counted = p.counted in
      p.was ∙ ap (λ xs. xs ++ older) (no-length p.newer (omega (arith, counted, le)))

  -- The ids of a page that are shown as freed.

  pub ids-more : (page : ℕ) (e : Entry K) (es : List (Entry K)) → e.page ≡ page
      → and_id (ids_on page es) e.id ≡ ids_on page (e ∷ es)
  ids-more page e es same = λ i k. at_each k i
    where
      at_each : (k : ℕ) → and_id (ids_on page es) e.id k ≡ ids_on page (e ∷ es) k
      at_each k = elim (eqb_tells e.page page) [
        | inl here ↦ rw (here.0, eqb-sym k e.id) (or_comm (ids_on page es k) (eqb e.id k))
        | inr other ↦ absurd (other.1 same)
      ]

  pub ids-other : (page : ℕ) (e : Entry K) (es : List (Entry K)) → eqb e.page page ≡ false
      → ids_on page es ≡ ids_on page (e ∷ es)
  ids-other page e es other = λ i k. at_each k i
    where
      at_each : (k : ℕ) → ids_on page es k ≡ ids_on page (e ∷ es) k
      at_each k = rw other refl

  ids-held : (page id : ℕ) (es : List (Entry K)) → (page ≡ no_page → ⊥) → ids_on page es id ≡ true
      → 0 < holders page id (lying es)
  ids-held page id [] lies held = absurd (let no : false ≡ true = held in cc)
  ids-held page id (e ∷ es) lies held = elim (cases_Bool (has_id page id e)) [
    | inl it ↦ elim (cases_Bool (is_blank e)) [
      | inl blank ↦ absurd (lies (has-page page id e it (eqb-true e.page no_page blank)))
      | inr on ↦ rw (on, it) (omega arith)
    ]
    | inr other ↦
        let rest = ids-held page id es lies (rw other at held) in
        elim (cases_Bool (is_blank e)) [
          | inl blank ↦ rw blank rest
          | inr on ↦ rw (on, other) (omega (arith, rest))
        ]
  ]
    where
      has-page : (page id : ℕ) (e : Entry K) → has_id page id e ≡ true → e.page ≡ no_page → page ≡ no_page
      has-page page id e it blank = elim (eqb_tells e.page page) [
        | inl same ↦ sym same.1 ∙ blank
        | inr differ ↦ absurd (let no = rw differ.0 at it in let t : false ≡ true = no in cc)
      ]

  -- An id isn't shown before its entry is.
  pub id-fresh : (pages : List AtlasValue) (newer older : List (Entry K)) (e : Entry K)
      → HoldsEntries pages (lying (newer ++ e ∷ older)) → is_blank e ≡ false
      → ids_on e.page older e.id ≡ false
  id-fresh pages newer older e held lies = elim (cases_Bool (ids_on e.page older e.id)) [
    | inl twice ↦
        absurd (let some = ids-held e.page e.id older (not-blank e lies) twice in
        let once = held.once e.page e.id in
        let all = holders-append e.page e.id (lying newer) (e ∷ lying older) in
        let is : lying (newer ++ e ∷ older) ≡ lying newer ++ e ∷ lying older =
        lying-append newer (e ∷ older) ∙ ap (λ ys. lying newer ++ ys) (lying-here e older lies) in
        let one = rw is at once in
        let own = has-own e in
        let more = rw own at all in
        omega (arith, some, one, more))
    | inr once ↦ once
  ]
    where
      not-blank : (e : Entry K) → is_blank e ≡ false → e.page ≡ no_page → ⊥
      not-blank e lies is = elim (eqb_tells e.page no_page) [
        | inl same ↦ let t : false ≡ true = sym lies ∙ same.0 in cc
        | inr differ ↦ differ.1 is
      ]

      has-own : (e : Entry K) → has_id e.page e.id e ≡ true
      has-own e = elim (eqb_tells e.page e.page) [
        | inl page ↦ elim (eqb_tells e.id e.id) [
          | inl id ↦ rw (page.0, id.0) refl
          | inr differ ↦ absurd (differ.1 refl)
        ]
        | inr differ ↦ absurd (differ.1 refl)
      ]

  -- The entries that a frame didn't use.

  idle-unused : (frame page : ℕ) (es : List (Entry K)) → AllByRecursion (λ e. e.frame < frame) es → (k : ℕ)
      → ids_on page es k ≡ idle_on frame page es k
  idle-unused frame page [] unused k = refl
  idle-unused frame page (e ∷ es) unused k =
      rw (lt-ltb e.frame frame unused.0, and-true (has_id page k e)) (ap (λ b. has_id page k e || b)
      (idle-unused frame page es unused.1 k))

  -- Of entries that begin with those which a frame used the others are idle.
  idle-rest : (frame page : ℕ) (newer older : List (Entry K)) → AllByRecursion (λ e. e.frame ≡ frame) newer
      → AllByRecursion (λ e. e.frame < frame) older → (k : ℕ)
      → ids_on page older k ≡ idle_on frame page (newer ++ older) k
  idle-rest frame page [] older used unused k = idle-unused frame page older unused k
  idle-rest frame page (e ∷ newer) older used unused k =
      rw (ltb-not e.frame frame (λ less. omega (arith, less, used.0)), and-false (has_id page k e))
      (idle-rest frame page newer older used.1 unused k)

  pub idle-are : (frame page : ℕ) (newer older : List (Entry K)) → AllByRecursion (λ e. e.frame ≡ frame) newer
      → AllByRecursion (λ e. e.frame < frame) older
      → ids_on page older ≡ idle_on frame page (newer ++ older)
  idle-are frame page newer older used unused = λ i k. idle-rest frame page newer older used unused k i

  -- Where the entries that were shown are all, or all that the frame didn't use, there still is no room without those.
  pub crowded-all : (asked : Size) (pages : List AtlasValue) (frame page : ℕ) (es older : List (ℕ × Entry K)) → es ≡ older
      → AllByRecursion (λ e. e.frame < frame) (entries_of older)
      → HasNoRoomWithout asked pages page (ids_on page (entries_of older))
      → HasNoRoomWithout asked pages page (idle_on frame page (entries_of es))
  crowded-all asked pages frame page es older same unused none =
      rw same (subst (λ (ids : ℕ → Bool). HasNoRoomWithout asked pages page ids) (idle-are frame page [] (entries_of older) tt unused) none)

  pub looked-entries : (es older : List (ℕ × Entry K)) (n : ℕ) (e : Entry K) (count : ℕ)
      (l : IsLookedAt es older n e count) → entries_of es ≡ entries_of l.newer ++ e ∷ entries_of older
  looked-entries es older n e count l = ap entries_of l.was ∙ entries-append l.newer (n, e) older

  falls-front : (frame : ℕ) (xs : List (Entry K)) (e : Entry K) (ys : List (Entry K)) → FramesFall frame (xs ++ e ∷ ys)
      → FramesFall frame (xs ++ e ∷ [])
  falls-front frame [] e ys falls = (falls.0, tt)
  falls-front frame (x ∷ xs) e ys falls = (falls.0, falls-front x.frame xs e ys falls.1)

  pub crowded-here : (asked : Size) (pages : List AtlasValue) (frame page : ℕ) (es older : List (ℕ × Entry K)) (n : ℕ)
      (e : Entry K) (count : ℕ) (l : IsLookedAt es older n e count) → FramesFall frame (entries_of es) → e.frame ≡ frame
      → AllByRecursion (λ x. x.frame < frame) (entries_of older)
      → HasNoRoomWithout asked pages page (ids_on page (entries_of older))
      → HasNoRoomWithout asked pages page (idle_on frame page (entries_of es))
  crowded-here asked pages frame page es older n e count l falls same unused none =
      let is = looked-entries es older n e count l in
      let front = falls-front frame (entries_of l.newer) e (entries_of older) (rw is at falls) in
      let used = falls-all frame frame (entries_of l.newer) e front (omega arith) same in
      let split : entries_of l.newer ++ e ∷ entries_of older ≡ (entries_of l.newer ++ e ∷ []) ++ entries_of older =
      sym (append_assoc (entries_of l.newer) (e ∷ []) (entries_of older)) in
      rw (is, split)
      (subst (λ (ids : ℕ → Bool). HasNoRoomWithout asked pages page ids)
      (idle-are frame page (entries_of l.newer ++ e ∷ []) (entries_of older) used unused) none)

  pub page-lies : (pages : List AtlasValue) (page : ℕ) (e : Entry K) → page < length pages → length pages ≤ no_page
      → e.page ≡ page → is_blank e ≡ false
  page-lies pages page e within few same = elim (eqb_tells e.page no_page) [
    | inl blank ↦ absurd (omega (arith, within, few, same, blank.1))
    | inr differ ↦ differ.0
  ]

  -- The id of an entry that is looked at isn't shown yet.
  pub entry-fresh : (pages : List AtlasValue) (es older : List (ℕ × Entry K)) (n : ℕ) (e : Entry K) (count : ℕ)
      (l : IsLookedAt es older n e count) → HoldsEntries pages (lying (entries_of es)) → is_blank e ≡ false
      → ids_on e.page (entries_of older) e.id ≡ false
  entry-fresh pages es older n e count l held lies =
      let is = looked-entries es older n e count l in
      id-fresh pages (entries_of l.newer) (entries_of older) e (rw is at held) lies
