-- The rectangles of a page's entries, gathered in the order of use, name what is live on the page.
use Rattle.std.proofs.Common.{ℕ, ℤ, ◌+◌, ◌≤◌, ◌≡◌, ◌==◌, inl, inr, Bool, true, false, cond, eqb, List, [], ◌∷◌, ◌++◌, All, Option, None}
use Rattle.std.proofs.Common.{Some, option_map, refl, sym, ap, subst, ◌∙◌, append_assoc, arith, length}
use Rattle.std.specs.List.{cons_option, count_by, filter_map, find, AllByRecursion, IsDistinct}
use Rattle.std.proofs.lemmas.{Bool.Decides.{eqb_tells}}
use Rattle.std.proofs.lemmas.Bool.{cases_Bool, eq-eqb, eqb-true, ne_eqb}
use Rattle.std.proofs.lemmas.List.Elements.{All-cons, All-nil}
use Rattle.std.proofs.lemmas.Option.{same_Some}
use Rattle.guillotiere.specs.declared.Allocation.{Allocation}
use Rattle.guillotiere.specs.declared.Rectangle.{Rectangle}
use Rattle.guillotiere.specs.Pages.{rectangle_on}
use Rattle.guillotiere.specs.Refits.Refitted.{HasExactRectangle}
use Rattle.guillotiere.specs.Stored.{AtlasValue}
use Rattle.guillotiere.proofs.ListLemmas.CallerLemmas.{uncounted-find}
use Rattle.guillotiere.proofs.ListLemmas.ListCounts.{count_by-cons}
use Rattle.atlas_entries.specs.declared.entries.Entry.{Entry}
use Rattle.atlas_cache.specs.Caches.{entries_of, holders, AreBordered, HoldsEntries}
use Rattle.atlas_entries.specs.Entries.{entry_at, is_blank, lying, no_page, numbers, IsNumber}
use Rattle.atlas_entries.specs.Orders.{newest_of}
use Rattle.atlas_cache.specs.Relocating.{held_of, held_on}
use Rattle.atlas_cache.specs.Repacking.{NamesPage}
use Rattle.atlas_cache.proofs.HoldingLemmas.{IsLiveOn}
use Rattle.atlas_entries.proofs.AppendedLists.{append-none}
use Rattle.atlas_cache.proofs.RelocateLemmas.{filter_map-last}
use Rattle.atlas_cache.proofs.WalkLemmas.{at-number, entries-append, no-first, no-length}

module _ {K : Type 0} (page : ℕ) where
  abbrev as_held : Entry K → Allocation
  as_held e = record { id = e.id; rectangle = e.rectangle }

  -- The entries up to one are gathered.
  pub record Gathered (all : List (ℕ × Entry K)) (first : Option ℕ) (passed : ℕ) (held : List Allocation) : Type 0 where
    pub done : List (ℕ × Entry K)
    pub rest : List (ℕ × Entry K)
    pub was : all ≡ done ++ rest
    pub next : first ≡ newest_of (numbers rest)
    pub count : length rest + passed ≡ length all
    pub told : held ≡ held_on page (entries_of done)

  pub none-gathered : (all : List (ℕ × Entry K)) (next : Option ℕ) (held : List Allocation) → held ≡ []
      → next ≡ newest_of (numbers all)
      → Gathered all next 0 held
  none-gathered all next held empty first =
      record { done = []; rest = all; was = refl; next = first; count = omega arith; told = empty }

  finished : (all done rest : List (ℕ × Entry K)) (held : List Allocation) → rest ≡ [] → all ≡ done ++ rest
      → held ≡ held_on page (entries_of done) → held ≡ held_on page (entries_of all)
  finished all done rest held none is told =
      let whole : all ≡ done = is ∙ ap (λ r. done ++ r) none ∙ append-none done in rw whole told

  pub gathered-none : (all : List (ℕ × Entry K)) (passed : ℕ) (held : List Allocation) → Gathered all None passed held
      → held ≡ held_on page (entries_of all)
  gathered-none all passed held w = finished all w.done w.rest held (no-first w.rest w.next) w.was w.told

  pub gathered-all : (all : List (ℕ × Entry K)) (next : Option ℕ) (passed : ℕ) (held : List Allocation)
      → Gathered all next passed held
      → length all ≤ passed → held ≡ held_on page (entries_of all)
  gathered-all all next passed held w le = finished all w.done w.rest held (no-length w.rest (omega (arith, w.count, le))) w.was w.told

  -- The same, with the entry that comes next.
  pub record Coming (all : List (ℕ × Entry K)) (n : ℕ) (e : Entry K) (passed : ℕ) (held : List Allocation) : Type 0 where
    pub done : List (ℕ × Entry K)
    pub rest : List (ℕ × Entry K)
    pub was : all ≡ done ++ (n, e) ∷ rest
    pub count : length rest + (passed + 1) ≡ length all
    pub told : held ≡ held_on page (entries_of done)

  module _ (all : List (ℕ × Entry K)) (n passed : ℕ) (held : List Allocation) (w : Gathered all (Some n) passed held)
      (apart : IsDistinct eqb (numbers all)) where
    found-next : (rest : List (ℕ × Entry K)) → all ≡ w.done ++ rest → Some n ≡ newest_of (numbers rest)
        → (e : Entry K) × (entry_at n all ≡ Some e) × (later : List (ℕ × Entry K)) × (rest ≡ (n, e) ∷ later)
    found-next [] is next = absurd (let some : Some n ≡ None = next in cc)
    found-next (x ∷ rest) is next =
        let num : x.0 ≡ n = (let h : Some n ≡ Some x.0 = next in cc) in
        let there = at-number w.done x.0 x.1 rest (rw is at apart) in (
          x.1,
          ap (λ (m : ℕ). entry_at m all) (sym num) ∙ ap (entry_at x.0) is ∙ there,
          rest,
          ap (λ (m : ℕ). (m, x.1) ∷ rest) num,
        )

    pub coming-number : IsNumber n all
    coming-number = let at = found-next w.rest w.was w.next in rw at.1 refl

    pub coming : (e : Entry K) → entry_at n all ≡ Some e → Coming all n e passed held
    coming e here =
        let at = found-next w.rest w.was w.next in
        let same : at.0 ≡ e = same_Some at.0 e (sym at.1 ∙ here) in
        let rest_is : w.rest ≡ (n, e) ∷ at.2 = at.3 ∙ ap (λ (f : Entry K). (n, f) ∷ at.2) same in
        record {
          done = w.done;
          rest = at.2;
          was = w.was ∙ ap (λ r. w.done ++ r) rest_is;
          count = omega (arith, w.count, ap length rest_is);
          told = w.told;
        }

  module _ (all : List (ℕ × Entry K)) (n : ℕ) (e : Entry K) (next : Option ℕ) (passed : ℕ) (held later : List Allocation)
      (w : Coming all n e passed held) (first : next ≡ newest_of (numbers w.rest)) where
    gathered-on : later ≡ held ++ cons_option (held_of page e) [] → Gathered all next (passed + 1) later
    gathered-on is = record {
      done = w.done ++ (n, e) ∷ [];
      rest = w.rest;
      was = w.was ∙ sym (append_assoc w.done ((n, e) ∷ []) w.rest);
      next = first;
      count = w.count;
      told = is ∙ ap (λ hs. hs ++ cons_option (held_of page e) []) w.told
          ∙ sym (filter_map-last (held_of page) (entries_of w.done) e)
          ∙ ap (filter_map (held_of page)) (sym (entries-append w.done (n, e) []));
    }

    pub gathered-here : e.page ≡ page → later ≡ held ++ as_held e ∷ [] → Gathered all next (passed + 1) later
    gathered-here here is = let at = eq-eqb e.page page here in gathered-on (rw at is)

    pub gathered-past : (e.page ≡ page → ⊥) → later ≡ held → Gathered all next (passed + 1) later
    gathered-past other is = let off = ne_eqb e.page page other in gathered-on (rw off (is ∙ sym (append-none held)))

  -- What is found by an id among the rectangles of a page's entries is live there.
  found-live : (pages : List AtlasValue) (id : ℕ) (a : Allocation) (es : List (Entry K))
      → AllByRecursion (IsLiveOn pages) es
      → find (λ b. b.id == id) (held_on page es) ≡ Some a → rectangle_on pages page id ≡ Some a.rectangle
  found-live pages id a [] live is = absurd (let none : None ≡ Some a = is in cc)
  found-live pages id a (e ∷ es) live is = elim (eqb_tells e.page page) [
    | inl here ↦ elim (eqb_tells e.id id) [
      | inl same ↦
          let at = rw (here.0, same.0) at is in
          let one : as_held e ≡ a = same_Some (as_held e) a at in
          rw (here.1, same.1, ap (λ (b : Allocation). b.rectangle) one) at live.0
      | inr other ↦ let at = rw (here.0, other.0) at is in found-live pages id a es live.1 at
    ]
    | inr other ↦ let at = rw other.0 at is in found-live pages id a es live.1 at
  ]

  counted-held : (id : ℕ) (es : List (Entry K)) → count_by (λ (a : Allocation). a.id == id) (held_on page es) ≡ holders page id es
  counted-held id [] = refl
  counted-held id (e ∷ es) = elim (eqb_tells e.page page) [
    | inl here ↦ rw here.0 (by_id (e.id == id) refl (counted-held id es))
    | inr other ↦ rw other.0 (omega (arith, counted-held id es))
  ]
    where
      by_id : (b : Bool) → (e.id == id) ≡ b → count_by (λ (a : Allocation). a.id == id) (held_on page es) ≡ holders page id es
          → count_by (λ (a : Allocation). a.id == id) (as_held e ∷ held_on page es) ≡ (cond (e.id == id) 1 0) + holders page id es
      by_id true is rest =
          let one = rw is at (count_by-cons (λ (a : Allocation). a.id == id) (as_held e) (held_on page es)) in
          rw is (omega (arith, rest, one))
      by_id false is rest =
          let one = rw is at (count_by-cons (λ (a : Allocation). a.id == id) (as_held e) (held_on page es)) in
          rw is (omega (arith, rest, one))

  -- The gathered rectangles name what is live on the page.
  all-name : (pages : List AtlasValue) (es : List (Entry K)) → HoldsEntries pages es
      → NamesPage pages page (held_on page es)
  all-name pages es held = record {
    told = λ id. by_found id (find (λ a. a.id == id) (held_on page es)) refl (rectangle_on pages page id) refl;
    once = λ id. omega (arith, counted-held id es, held.once page id);
  }
    where
      by_found : (id : ℕ) (o : Option Allocation) → find (λ a. a.id == id) (held_on page es) ≡ o → (r : Option Rectangle)
          → rectangle_on pages page id ≡ r → rectangle_on pages page id ≡ option_map (λ (a : Allocation). a.rectangle) o
      by_found id (Some a) found r is = found-live pages id a es held.live found
      by_found id None found None is = is
      by_found id None found (Some r) is =
          absurd (omega (
            arith,
            held.known page id r is,
            counted-held id es,
            uncounted-find (λ (a : Allocation). a.id == id) (held_on page es) found,
          ))

  -- Blank entries lie on no page.
  held-lying : (page ≡ no_page → ⊥) → (es : List (Entry K)) → held_on page (lying es) ≡ held_on page es
  held-lying off [] = refl
  held-lying off (e ∷ es) = elim (cases_Bool (is_blank e)) [
    | inl blank ↦
        let past : (e.page == page) ≡ false = ne_eqb e.page page (λ q. off (sym q ∙ eqb-true e.page no_page blank)) in
        rw (blank, past) (held-lying off es)
    | inr lies ↦ rw lies (ap (cons_option (held_of page e)) (held-lying off es))
  ]

  pub entries-name : (pages : List AtlasValue) (es : List (Entry K)) → (page ≡ no_page → ⊥)
      → HoldsEntries pages (lying es)
      → NamesPage pages page (held_on page es)
  entries-name pages es off held = subst (λ hs. NamesPage pages page hs) (held-lying off es) (all-name pages (lying es) held)

  -- And each has the coordinates of a box.
  pub entries-exact : (padding : ℤ) (es : List (Entry K)) → (page ≡ no_page → ⊥) → AreBordered padding es
      → All HasExactRectangle (held_on page es)
  entries-exact padding [] off all = All-nil HasExactRectangle
  entries-exact padding (e ∷ es) off all = elim (eqb_tells e.page page) [
    | inl here ↦
        let lies : is_blank e ≡ false = ne_eqb e.page no_page (λ q. off (sym here.1 ∙ q)) in
        rw here.0 (All-cons HasExactRectangle (as_held e) (held_on page es) (all.0.large lies).exact (entries-exact padding es off all.1))
    | inr other ↦ rw other.0 (entries-exact padding es off all.1)
  ]
