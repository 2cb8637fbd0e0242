-- Entries that are settled one by one where a page is placed anew.
use Rattle.std.proofs.Common.{ℕ, ℤ, ◌+◌, ◌≤◌, ◌≡◌, inl, inr, false, eqb, List, [], ◌∷◌, ◌++◌, Option, None, Some, refl, sym, ap, ◌∙◌}
use Rattle.std.proofs.Common.{append_assoc, arith, length}
use Rattle.std.proofs.lemmas.{Bool.Decides.{eqb_tells}}
use Rattle.std.proofs.lemmas.Bool.{eq-eqb, ne_eqb}
use Rattle.std.proofs.lemmas.Map.Keys.{IsDistinct-head, IsDistinct-tail}
use Rattle.std.specs.List.{cons_option, filter_map, AllByRecursion, IsDistinct}
use Rattle.guillotiere.specs.declared.Change.{Change}
use Rattle.guillotiere.specs.declared.Rectangle.{Rectangle}
use Rattle.atlas_cache.specs.declared.changes.CacheChange.{CacheChange}
use Rattle.atlas_entries.specs.declared.entries.Entry.{Entry}
use Rattle.atlas_cache.specs.Caches.{entries_of, AreBordered, IsBordered}
use Rattle.atlas_entries.specs.Entries.{entry_at, moved, numbers, without_number, IsNumber}
use Rattle.atlas_entries.specs.Orders.{newest_of}
use Rattle.atlas_cache.specs.Relocating.{become, numbered_as, renewed_by, told_as, told_of}
use Rattle.atlas_entries.proofs.AppendedLists.{append-none, each-here}
use Rattle.atlas_cache.proofs.WalkLemmas.{at-number, entries-append, numbers-append, no-first, no-length}

module _ {X Y : Type 0} (f : X → Option Y) where
  pub filter_map-last : (xs : List X) (x : X) → filter_map f (xs ++ x ∷ []) ≡ filter_map f xs ++ cons_option (f x) []
  filter_map-last [] x = refl
  filter_map-last (y ∷ xs) x = by_option (f y) (filter_map-last xs x)
    where
      by_option : (o : Option Y) → filter_map f (xs ++ x ∷ []) ≡ filter_map f xs ++ cons_option (f x) []
          → cons_option o (filter_map f (xs ++ x ∷ [])) ≡ cons_option o (filter_map f xs) ++ cons_option (f x) []
      by_option None rest = rest
      by_option (Some z) rest = ap (λ zs. z ∷ zs) rest

  pub filter_map-each : (P : Y → Type 0) (xs : List X) (x : X) (ys : List X) (y : Y) → f x ≡ Some y
      → AllByRecursion P (filter_map f (xs ++ x ∷ ys)) → P y
  filter_map-each P [] x ys y is all = let here = rw is at all in here.0
  filter_map-each P (z ∷ xs) x ys y is all = filter_map-each P xs x ys y is (by_option (f z) all)
    where
      by_option : (o : Option Y) → AllByRecursion P (cons_option o (filter_map f (xs ++ x ∷ ys)))
          → AllByRecursion P (filter_map f (xs ++ x ∷ ys))
      by_option None h = h
      by_option (Some w) h = h.1

cons-append : {Y : Type 0} (xs : List Y) (o : Option Y) (ys : List Y)
    → (xs ++ cons_option o []) ++ ys ≡ xs ++ cons_option o ys
cons-append xs None ys = ap (λ zs. zs ++ ys) (append-none xs)
cons-append xs (Some y) ys = append_assoc xs (y ∷ []) ys

module _ {K : Type 0} where
  pub moved-at : (n page id : ℕ) (r : Rectangle) (e : Entry K) (xs ys : List (ℕ × Entry K))
      → IsDistinct eqb (numbers (xs ++ (n, e) ∷ ys))
      → moved n page id r (xs ++ (n, e) ∷ ys) ≡ xs ++ (n, record e { page = page; id = id; rectangle = r }) ∷ ys
  moved-at n page id r e [] ys apart = elim (eqb_tells n n) [
    | inl same ↦ rw same.0 refl
    | inr other ↦ absurd (other.1 refl)
  ]
  moved-at n page id r e (x ∷ xs) ys apart = elim (eqb_tells n x.0) [
    | inl same ↦
        let all = IsDistinct-head eqb x.0 (numbers (xs ++ (n, e) ∷ ys)) apart in
        let here = each-here (λ y. eqb x.0 y ≡ false) (numbers xs) n (numbers ys) (rw (numbers-append xs (n, e) ys) at all) in
        absurd (let self = rw same.1 at same.0 in let differs = rw same.1 at here in cc)
    | inr other ↦
        let rest = IsDistinct-tail eqb x.0 (numbers (xs ++ (n, e) ∷ ys)) apart in
        rw other.0 (ap (λ zs. x ∷ zs) (moved-at n page id r e xs ys rest))
  ]

  pub without-at : (n : ℕ) (e : Entry K) (xs ys : List (ℕ × Entry K)) → IsDistinct eqb (numbers (xs ++ (n, e) ∷ ys))
      → without_number n (xs ++ (n, e) ∷ ys) ≡ xs ++ ys
  without-at n e [] ys apart = elim (eqb_tells n n) [
    | inl same ↦ rw same.0 refl
    | inr other ↦ absurd (other.1 refl)
  ]
  without-at n e (x ∷ xs) ys apart = elim (eqb_tells n x.0) [
    | inl same ↦
        let all = IsDistinct-head eqb x.0 (numbers (xs ++ (n, e) ∷ ys)) apart in
        let here = each-here (λ y. eqb x.0 y ≡ false) (numbers xs) n (numbers ys) (rw (numbers-append xs (n, e) ys) at all) in
        absurd (let self = rw same.1 at same.0 in let differs = rw same.1 at here in cc)
    | inr other ↦ rw other.0 (ap (λ zs. x ∷ zs) (without-at n e xs ys (IsDistinct-tail eqb x.0 (numbers (xs ++ (n, e) ∷ ys)) apart)))
  ]

  module _ (padding : ℤ) (page : ℕ) (cs : List Change) where
    -- What an entry with its number has become.
    abbrev pub settled : ℕ × Entry K → Option (ℕ × Entry K)
    settled x = numbered_as x.0 (become page (renewed_by cs) x.1)

    settled-entries : (xs : List (ℕ × Entry K))
        → entries_of (filter_map settled xs) ≡ filter_map (become page (renewed_by cs)) (entries_of xs)
    settled-entries [] = refl
    settled-entries (x ∷ xs) = by_option (become page (renewed_by cs) x.1) (settled-entries xs)
      where
        by_option : (o : Option (Entry K))
            → entries_of (filter_map settled xs) ≡ filter_map (become page (renewed_by cs)) (entries_of xs)
            → entries_of (cons_option (numbered_as x.0 o) (filter_map settled xs))
            ≡ cons_option o (filter_map (become page (renewed_by cs)) (entries_of xs))
        by_option None rest = rest
        by_option (Some e) rest = ap (λ es. e ∷ es) rest

    -- The entries up to one are settled, and from it on all is as it was.
    pub record Walked (all now : List (ℕ × Entry K)) (first : Option ℕ) (passed : ℕ) (before after : List (CacheChange K)) (spare : ℕ) :
        Type 0 where
      pub done : List (ℕ × Entry K)
      pub rest : List (ℕ × Entry K)
      pub was : all ≡ done ++ rest
      pub is : now ≡ filter_map settled done ++ rest
      pub next : first ≡ newest_of (numbers rest)
      pub count : length rest + passed ≡ length all
      pub told : after ≡ before ++ filter_map (told_of padding page (renewed_by cs)) (entries_of done)
      pub room : length rest ≤ spare

    pub none-walked : (was : List (ℕ × Entry K)) (next : Option ℕ) (before : List (CacheChange K)) (spare : ℕ)
        → next ≡ newest_of (numbers was)
        → length was ≤ spare → Walked was was next 0 before before spare
    none-walked was next before spare first room = record {
      done = [];
      rest = was;
      was = refl;
      is = refl;
      next = first;
      count = omega arith;
      told = sym (append-none before);
      room = room;
    }

    -- All are settled.
    pub record Finished (all now : List (ℕ × Entry K)) (before after : List (CacheChange K)) : Type 0 where
      pub entries : entries_of now ≡ filter_map (become page (renewed_by cs)) (entries_of all)
      pub told : after ≡ before ++ filter_map (told_of padding page (renewed_by cs)) (entries_of all)

    finished : (was now done rest : List (ℕ × Entry K)) (before after : List (CacheChange K)) → rest ≡ []
        → was ≡ done ++ rest
        → now ≡ filter_map settled done ++ rest
        → after ≡ before ++ filter_map (told_of padding page (renewed_by cs)) (entries_of done)
        → Finished was now before after
    finished was now done rest before after none was_is now_is told =
        let all : was ≡ done = was_is ∙ ap (λ r. done ++ r) none ∙ append-none done in
        record {
          entries = ap entries_of (now_is ∙ ap (λ r. filter_map settled done ++ r) none ∙ append-none (filter_map settled done))
              ∙ settled-entries done ∙ ap (λ xs. filter_map (become page (renewed_by cs)) (entries_of xs)) (sym all);
          told = rw all told;
        }

    pub walked-none : (was now : List (ℕ × Entry K)) (count : ℕ) (before after : List (CacheChange K)) (spare : ℕ)
        → Walked was now None count before after spare → Finished was now before after
    walked-none was now count before after spare w =
        finished was now w.done w.rest before after (no-first w.rest w.next) w.was w.is w.told

    pub walked-all : (was now : List (ℕ × Entry K)) (next : Option ℕ) (count : ℕ) (before after : List (CacheChange K))
        (spare : ℕ)
        → Walked was now next count before after spare → length was ≤ count → Finished was now before after
    walked-all was now next count before after spare w le =
        finished was now w.done w.rest before after (no-length w.rest (omega (arith, w.count, le))) w.was w.is w.told

    -- The same, with the entry that comes next.
    pub record Ahead (all now : List (ℕ × Entry K)) (n : ℕ) (e : Entry K) (passed : ℕ) (before after : List (CacheChange K)) (spare : ℕ) :
        Type 0 where
      pub done : List (ℕ × Entry K)
      pub rest : List (ℕ × Entry K)
      pub was : all ≡ done ++ (n, e) ∷ rest
      pub is : now ≡ filter_map settled done ++ (n, e) ∷ rest
      pub count : length rest + (passed + 1) ≡ length all
      pub told : after ≡ before ++ filter_map (told_of padding page (renewed_by cs)) (entries_of done)
      pub room : length rest + 1 ≤ spare

    pub ahead : (was now : List (ℕ × Entry K)) (n : ℕ) (e : Entry K) (count : ℕ) (before after : List (CacheChange K))
        (spare : ℕ)
        → Walked was now (Some n) count before after spare → IsDistinct eqb (numbers now) → entry_at n now ≡ Some e
        → Ahead was now n e count before after spare
    ahead was now n e count before after spare w apart at = go w.rest w.was w.is w.next w.count w.room
      where
        go : (rest : List (ℕ × Entry K)) → was ≡ w.done ++ rest → now ≡ filter_map settled w.done ++ rest
            → Some n ≡ newest_of (numbers rest) → length rest + count ≡ length was → length rest ≤ spare
            → Ahead was now n e count before after spare
        go [] was_is now_is next counted room = absurd (let some : Some n ≡ None = next in cc)
        go (x ∷ rest) was_is now_is next counted room =
            let num : x.0 ≡ n = (let h : Some n ≡ Some x.0 = next in cc) in
            let there = at-number (filter_map settled w.done) x.0 x.1 rest (rw now_is at apart) in
            let found : entry_at x.0 now ≡ Some x.1 = ap (entry_at x.0) now_is ∙ there in
            let one : Some e ≡ Some x.1 = sym at ∙ ap (λ (m : ℕ). entry_at m now) (sym num) ∙ found in
            let same : x.1 ≡ e = cc in
            let pair : (x.0, x.1) ≡ (n, e) = ap (λ (m : ℕ). (m, x.1)) num ∙ ap (λ (f : Entry K). (n, f)) same in
            record {
              done = w.done;
              rest = rest;
              was = was_is ∙ ap (λ y. w.done ++ y ∷ rest) pair;
              is = now_is ∙ ap (λ y. filter_map settled w.done ++ y ∷ rest) pair;
              count = omega (arith, counted);
              told = w.told;
              room = omega (arith, room);
            }

    -- An entry is settled.
    pub walked-on : (was now new : List (ℕ × Entry K)) (n : ℕ) (e : Entry K) (next : Option ℕ) (count : ℕ)
        (before after later : List (CacheChange K)) (spare left : ℕ)
        → (a : Ahead was now n e count before after spare)
        → new ≡ filter_map settled a.done ++ cons_option (settled (n, e)) a.rest
        → later ≡ after ++ cons_option (told_of padding page (renewed_by cs) e) []
        → next ≡ newest_of (numbers a.rest) → length a.rest ≤ left
        → Walked was new next (count + 1) before later left
    walked-on was now new n e next count before after later spare left a new_is later_is first room =
        let x : ℕ × Entry K = (n, e) in
        let tell = told_of padding page (renewed_by cs) in
        record {
          done = a.done ++ x ∷ [];
          rest = a.rest;
          was = a.was ∙ sym (append_assoc a.done (x ∷ []) a.rest);
          is = new_is ∙ sym (cons-append (filter_map settled a.done) (settled x) a.rest)
              ∙ ap (λ zs. zs ++ a.rest) (sym (filter_map-last settled a.done x));
          next = first;
          count = a.count;
          told = later_is ∙ ap (λ zs. zs ++ cons_option (tell e) []) a.told
              ∙ append_assoc before (filter_map tell (entries_of a.done)) (cons_option (tell e) [])
              ∙ ap (λ zs. before ++ zs) (sym (filter_map-last tell (entries_of a.done) e) ∙
              ap (filter_map tell) (sym (entries-append a.done x [])));
          room = room;
        }

    -- An entry of the page is settled; another one stays.
    module _ (was now new : List (ℕ × Entry K)) (n : ℕ) (e : Entry K) (next : Option ℕ) (count : ℕ)
        (before after later : List (CacheChange K)) (spare left : ℕ) (a : Ahead was now n e count before after spare)
        (first : next ≡ newest_of (numbers a.rest)) (room : length a.rest ≤ left) where
      pub walked-here : e.page ≡ page
          → new ≡ filter_map settled a.done ++ cons_option (numbered_as n (renewed_by cs e)) a.rest
          → later ≡ after ++ told_as padding e (renewed_by cs e) ∷ []
          → Walked was new next (count + 1) before later left
      walked-here here new_is later_is =
          let is = eq-eqb e.page page here in
          walked-on was now new n e next count before after later spare left a (rw is new_is) (rw is later_is) first room

      pub walked-past : (e.page ≡ page → ⊥) → new ≡ now → later ≡ after
          → Walked was new next (count + 1) before later left
      walked-past other new_is later_is =
          let is = ne_eqb e.page page other in
          walked-on was now new n e next count before after later spare left a (rw is (new_is ∙ a.is))
          (rw is (later_is ∙ sym (append-none after))) first room

    module _ (was now : List (ℕ × Entry K)) (n : ℕ) (e : Entry K) (count : ℕ) (before after : List (CacheChange K)) (spare : ℕ)
        (a : Ahead was now n e count before after spare) where
      pub bordered-was : AreBordered padding (entries_of was) → IsBordered padding e
      bordered-was all =
          each-here (IsBordered padding) (entries_of a.done) e (entries_of a.rest)
          (rw (a.was, entries-append a.done (n, e) a.rest) at all)

      pub bordered-is : e.page ≡ page → AreBordered padding (filter_map (become page (renewed_by cs)) (entries_of was))
          → (f : Entry K) → renewed_by cs e ≡ Some f → IsBordered padding f
      bordered-is here all f is =
          let at = eq-eqb e.page page here in
          filter_map-each (become page (renewed_by cs)) (IsBordered padding) (entries_of a.done) e
          (entries_of a.rest) f (rw at is) (rw (a.was, entries-append a.done (n, e) a.rest) at all)

    pub next-number : (was now : List (ℕ × Entry K)) (n : ℕ) (count : ℕ) (before after : List (CacheChange K))
        (spare : ℕ)
        → Walked was now (Some n) count before after spare → IsDistinct eqb (numbers now) → IsNumber n now
    next-number was now n count before after spare w apart = go w.rest w.is w.next
      where
        go : (rest : List (ℕ × Entry K)) → now ≡ filter_map settled w.done ++ rest → Some n ≡ newest_of (numbers rest)
            → IsNumber n now
        go [] now_is next = absurd (let some : Some n ≡ None = next in cc)
        go (x ∷ rest) now_is next =
            let num : x.0 ≡ n = (let h : Some n ≡ Some x.0 = next in cc) in
            let there = at-number (filter_map settled w.done) x.0 x.1 rest (rw now_is at apart) in
            let found : entry_at n now ≡ Some x.1 = ap (λ (m : ℕ). entry_at m now) (sym num) ∙ ap (entry_at x.0) now_is ∙ there in
            rw found refl
