-- What a page's repacking makes of what a cache keeps.
use Rattle.std.proofs.Common.{ℕ, ℤ, ◌+◌, ◌<◌, ◌≤◌, ◌≡◌, ◌==◌, inl, inr, Bool, true, false, cond, List, [], ◌∷◌, ◌++◌, map, Option, None}
use Rattle.std.proofs.Common.{Some, option_map, Contains, length, refl, sym, ap, ◌∙◌, arith}
use Rattle.std.specs.List.{cons_option, count_by, filter_map, find, AllByRecursion}
use Rattle.std.proofs.lemmas.{Bool.Decides.{eqb_tells}}
use Rattle.std.proofs.lemmas.Bool.{cases_Bool, eq-eqb, ne_eqb, eqb-true}
use Rattle.std.proofs.lemmas.List.Elements.{All-contains}
use Rattle.std.proofs.lemmas.Option.{same_Some}
use Rattle.std.specs.Option.{option_and_then}
use Rattle.guillotiere.specs.declared.Allocation.{Allocation}
use Rattle.guillotiere.specs.declared.Change.{Change}
use Rattle.guillotiere.specs.declared.ChangeList.{ChangeList}
use Rattle.guillotiere.specs.declared.Rectangle.{Rectangle}
use Rattle.guillotiere.specs.Boxes.{Sides}
use Rattle.guillotiere.specs.Callers.{rectangle_in}
use Rattle.guillotiere.specs.Pages.{rectangle_on}
use Rattle.guillotiere.specs.Rearranging.{IsExactChange, KeepsSides}
use Rattle.guillotiere.specs.Stored.{AtlasValue, state_of}
use Rattle.guillotiere.proofs.ListLemmas.CallerLemmas.{count_by-map, find-counted_once, Contains-find}
use Rattle.guillotiere.proofs.ListLemmas.ListCounts.{count_by-append, counted_once}
use Rattle.atlas_entries.specs.declared.entries.Entry.{Entry}
use Rattle.atlas_cache.specs.Asking.{IsBorderedBy}
use Rattle.atlas_cache.specs.Caches.{entries_of, holders, AreBordered, FramesFall, HoldsEntries}
use Rattle.atlas_entries.specs.Entries.{is_blank, lying, no_page}
use Rattle.atlas_cache.specs.Relocating.{become, renewed_by}
use Rattle.atlas_cache.specs.Repacking.{RepacksPage}
use Rattle.atlas_entries.proofs.EntryLemmas.{option_is}
use Rattle.atlas_cache.proofs.HoldingLemmas.{id_cases, IsLiveOn}
use Rattle.atlas_cache.proofs.ListLemmas.{falls-later, length-listed}

find-new : (cs : List Change) (id : ℕ) → find (λ a. a.id == id) (map (λ c. c.new) cs) ≡ option_map (λ c. c.new)
    (find (λ c. c.new.id == id) cs)
find-new [] id = refl
find-new (c ∷ cs) id = by_test (c.new.id == id) (find-new cs id)
  where
    by_test : (b : Bool) → find (λ a. a.id == id) (map (λ c. c.new) cs) ≡ option_map (λ c. c.new) (find (λ c. c.new.id == id) cs)
        → cond b (Some c.new) (find (λ a. a.id == id) (map (λ c. c.new) cs)) ≡ option_map (λ (d : Change). d.new)
        (cond b (Some c) (find (λ c. c.new.id == id) cs))
    by_test true rest = refl
    by_test false rest = rest

find-old : (cs : List Change) (fs : List Allocation) (id : ℕ) (c : Change) → find (λ c. c.old.id == id) cs ≡ Some c
    → find (λ a. a.id == id) (map (λ c. c.old) cs ++ fs) ≡ Some c.old
find-old [] fs id c is = absurd (let none : None ≡ Some c = is in cc)
find-old (d ∷ cs) fs id c is = elim (eqb_tells d.old.id id) [
  | inl same ↦ let here = rw same.0 at is in rw same.0 (ap (λ (x : Change). Some x.old) (same_Some d c here))
  | inr other ↦ let there = rw other.0 at is in rw other.0 (find-old cs fs id c there)
]

abbrev old_is : ℕ → Change → Bool
old_is id c = c.old.id == id

abbrev new_is : ℕ → Change → Bool
new_is id c = c.new.id == id

module _ {A : Type 0} (old new : List AtlasValue) (page : ℕ) (list : ChangeList A) (does : RepacksPage old new page list) where
  abbrev cs : List Change
  cs = list.changes.items

  pub old_once : (id : ℕ) → count_by (old_is id) cs ≤ 1
  old_once id = omega (
    arith,
    does.tells.once_before id,
    count_by-append (λ (a : Allocation). a.id == id) (map (λ (c : Change). c.old) cs) list.failures.items,
    count_by-map (λ (c : Change). c.old) (λ (a : Allocation). a.id == id) cs,
  )

  new_once : (id : ℕ) → count_by (new_is id) cs ≤ 1
  new_once id = omega (arith, does.tells.once_after id, count_by-map (λ (c : Change). c.new) (λ (a : Allocation). a.id == id) cs)

  found_new : (c : Change) → Contains cs c → find (new_is c.new.id) cs ≡ Some c
  found_new c at = find-counted_once (new_is c.new.id) cs c (new_once c.new.id) at (eq-eqb c.new.id c.new.id refl)

  found_old : (c : Change) → Contains cs c → find (old_is c.old.id) cs ≡ Some c
  found_old c at = find-counted_once (old_is c.old.id) cs c (old_once c.old.id) at (eq-eqb c.old.id c.old.id refl)

  live_new : (c : Change) → Contains cs c → rectangle_on new page c.new.id ≡ Some c.new.rectangle
  live_new c at =
      does.tells.after c.new.id
      ∙ ap (option_map (λ (a : Allocation). a.rectangle)) (find-new cs c.new.id ∙ ap (option_map (λ (d : Change). d.new)) (found_new c at))

  pub was_old : (id : ℕ) (c : Change) → find (old_is id) cs ≡ Some c → rectangle_on old page id ≡ Some c.old.rectangle
  was_old id c is =
      does.tells.before id ∙ ap (option_map (λ (a : Allocation). a.rectangle)) (find-old cs list.failures.items id c is)

  module _ {K : Type 0} where
    abbrev becomes : Entry K → Option (Entry K)
    becomes e = become page (renewed_by cs) e

    all_live : (es : List (Entry K)) → AllByRecursion (IsLiveOn old) es
        → AllByRecursion (IsLiveOn new) (filter_map becomes es)
    all_live [] live = tt
    all_live (e ∷ es) live = elim (eqb_tells e.page page) [
      | inl here ↦ rw here.0 (by_option here.1 (find (old_is e.id) cs) refl (all_live es live.1))
      | inr other ↦ rw other.0 (
        ap (λ o. option_and_then (λ s. rectangle_in (state_of s) e.id) o) (does.others e.page other.1) ∙ live.0,
        all_live es live.1,
      )
    ]
      where
        by_option : e.page ≡ page → (o : Option Change) → find (old_is e.id) cs ≡ o
            → AllByRecursion (IsLiveOn new) (filter_map becomes es)
            → AllByRecursion (IsLiveOn new) (cons_option (option_map (λ (c : Change). record e
            { id = c.new.id; rectangle = c.new.rectangle }) o) (filter_map becomes es))
        by_option here None is rest = rest
        by_option here (Some c) is rest = (rw here (live_new c (Contains-find (old_is e.id) cs c is).0), rest)

    -- Entries of other pages keep their ids.
    others_hold : (p id : ℕ) → (p ≡ page → ⊥) → (es : List (Entry K))
        → holders p id (filter_map becomes es) ≡ holders p id es
    others_hold p id off [] = refl
    others_hold p id off (e ∷ es) = elim (eqb_tells e.page page) [
      | inl here ↦ rw (here.0, ne_eqb e.page p (λ q. off (sym q ∙ here.1)))
          (by_option (ne_eqb e.page p (λ q. off (sym q ∙ here.1))) (find (old_is e.id) cs) (others_hold p id off es))
      | inr other ↦ rw other.0 (omega (arith, others_hold p id off es))
    ]
      where
        by_option : (e.page == p) ≡ false → (o : Option Change) → holders p id (filter_map becomes es) ≡ holders p id es
            → holders p id (cons_option (option_map (λ (c : Change). record e { id = c.new.id; rectangle = c.new.rectangle }) o)
            (filter_map becomes es)) ≡ 0 + holders p id es
        by_option apart None rest = omega (arith, rest)
        by_option apart (Some c) rest = rw apart (omega (arith, rest))

    -- Where no change leads to an id, no entry has it.
    none_hold : (id : ℕ) → find (new_is id) cs ≡ None → (es : List (Entry K))
        → holders page id (filter_map becomes es) ≡ 0
    none_hold id none [] = refl
    none_hold id none (e ∷ es) = elim (eqb_tells e.page page) [
      | inl here ↦ rw here.0 (by_option (find (old_is e.id) cs) refl (none_hold id none es))
      | inr other ↦ rw other.0 (rw other.0 (omega (arith, none_hold id none es)))
    ]
      where
        by_option : (o : Option Change) → find (old_is e.id) cs ≡ o → holders page id (filter_map becomes es) ≡ 0
            → holders page id (cons_option (option_map (λ (c : Change). record e { id = c.new.id; rectangle = c.new.rectangle }) o)
            (filter_map becomes es)) ≡ 0
        by_option None is rest = rest
        by_option (Some c) is rest = elim (id_cases page id (record e { id = c.new.id; rectangle = c.new.rectangle })) [
          | inl it ↦ absurd (let found = found_new c (Contains-find (old_is e.id) cs c is).0 in let gone = rw (sym it.2) at none in cc)
          | inr off ↦ rw off.0 (omega (arith, rest))
        ]

    -- Where one does, its holder is that of the id before.
    one_holds : (id : ℕ) (d : Change) → find (new_is id) cs ≡ Some d → (es : List (Entry K))
        → holders page id (filter_map becomes es) ≡ holders page d.old.id es
    one_holds id d found [] = refl
    one_holds id d found (e ∷ es) = elim (eqb_tells e.page page) [
      | inl here ↦ rw here.0 (by_option here.1 (find (old_is e.id) cs) refl (one_holds id d found es))
      | inr other ↦ rw other.0 (rw other.0 (omega (arith, one_holds id d found es)))
    ]
      where
        by_option : e.page ≡ page → (o : Option Change) → find (old_is e.id) cs ≡ o
            → holders page id (filter_map becomes es) ≡ holders page d.old.id es
            → holders page id (cons_option (option_map (λ (c : Change). record e { id = c.new.id; rectangle = c.new.rectangle }) o)
            (filter_map becomes es))
            ≡ (cond (e.id == d.old.id) 1 0) + holders page d.old.id es
        by_option here None is rest = elim (eqb_tells e.id d.old.id) [
          | inl same ↦ absurd (let at = found_old d (Contains-find (new_is id) cs d found).0 in let none = rw same.1 at is in cc)
          | inr off ↦ rw off.0 (omega (arith, rest))
        ]
        by_option here (Some c) is rest = elim (id_cases page id (record e { id = c.new.id; rectangle = c.new.rectangle })) [
          | inl it ↦
              let in_c = Contains-find (old_is e.id) cs c is in
              let in_d = Contains-find (new_is id) cs d found in
              let same : c ≡ d = counted_once (new_is id) cs c d (new_once id) in_c.0 in_d.0 (eq-eqb c.new.id id it.2) in_d.1 in
              let ids : e.id ≡ d.old.id = sym (eqb-true c.old.id e.id in_c.1) ∙ ap (λ (x : Change). x.old.id) same in
              rw (it.0, eq-eqb e.id d.old.id ids) (omega (arith, rest))
          | inr off ↦ elim (eqb_tells e.id d.old.id) [
            | inl same ↦ absurd (
                let in_d = Contains-find (new_is id) cs d found in
                let at = found_old d in_d.0 in
                let at_e : find (old_is e.id) cs ≡ Some d = ap (λ (i : ℕ). find (old_is i) cs) same.1 ∙ at in
                let c_d : c ≡ d = same_Some c d (sym is ∙ at_e) in
                off.1 here (ap (λ (x : Change). x.new.id) c_d ∙ eqb-true d.new.id id in_d.1))
            | inr differ ↦ rw (off.0, differ.0) (omega (arith, rest))
          ]
        ]

    holding : (p id : ℕ) (es : List (Entry K)) → HoldsEntries old es → holders p id (filter_map becomes es) ≤ 1
    holding p id es held = elim (eqb_tells p page) [
      | inl here ↦ elim (option_is (find (new_is id) cs)) [
        | inl none ↦ rw here.1 (omega (arith, none_hold id none es))
        | inr some ↦ rw here.1 (omega (arith, one_holds id some.0 some.1 es, held.once page some.0.old.id))
      ]
      | inr other ↦ omega (arith, others_hold p id other.1 es, held.once p id)
    ]

    known : (p id : ℕ) (r : Rectangle) (es : List (Entry K)) → HoldsEntries old es → rectangle_on new p id ≡ Some r
        → 0 < holders p id (filter_map becomes es)
    known p id r es held is = elim (eqb_tells p page) [
      | inl here ↦ elim (option_is (find (new_is id) cs)) [
        | inl none ↦ absurd (
            let gone = does.tells.after id ∙ ap (option_map (λ (a : Allocation). a.rectangle))
            (find-new cs id ∙ ap (option_map (λ (d : Change). d.new)) none) in
            let live = rw here.1 at is in cc)
        | inr some ↦
            let d = some.0 in
            let at = found_old d (Contains-find (new_is id) cs d some.1).0 in
            rw here.1 (omega (arith, one_holds id d some.1 es, held.known page d.old.id d.old.rectangle (was_old d.old.id d at)))
      ]
      | inr other ↦
          let same = ap (λ o. option_and_then (λ s. rectangle_in (state_of s) id) o) (does.others p other.1) in
          omega (arith, others_hold p id other.1 es, held.known p id r (sym same ∙ is))
    ]

    all_held : (es : List (Entry K)) → HoldsEntries old es → HoldsEntries new (filter_map becomes es)
    all_held es held = record {
      live = all_live es held.live;
      once = λ p id. holding p id es held;
      known = λ p id r is. known p id r es held is;
    }

    by_change : (e : Entry K) (o : Option Change) (f : Entry K)
        → option_map (λ (c : Change). record e { id = c.new.id; rectangle = c.new.rectangle }) o ≡ Some f → f.frame ≡ e.frame
    by_change e None f is = absurd (let none : None ≡ Some f = is in cc)
    by_change e (Some c) f is = ap (λ (x : Entry K). x.frame) (same_Some f (record e { id = c.new.id; rectangle = c.new.rectangle })
        (sym is))

    one_frame : (e f : Entry K) → becomes e ≡ Some f → f.frame ≡ e.frame
    one_frame e f is = elim (eqb_tells e.page page) [
      | inl here ↦ let at = rw here.0 at is in by_change e (find (old_is e.id) cs) f at
      | inr other ↦ let at = rw other.0 at is in ap (λ (x : Entry K). x.frame) (same_Some f e (sym at))
    ]

    pub repacked_falls : (frame : ℕ) (es : List (Entry K)) → FramesFall frame es
        → FramesFall frame (filter_map becomes es)
    repacked_falls frame [] h = tt
    repacked_falls frame (e ∷ es) h = by_option (becomes e) (λ f is. one_frame e f is) (repacked_falls e.frame es h.1)
      where
        by_option : (o : Option (Entry K)) → ((f : Entry K) → o ≡ Some f → f.frame ≡ e.frame)
            → FramesFall e.frame (filter_map becomes es)
            → FramesFall frame (cons_option o (filter_map becomes es))
        by_option None same rest = falls-later e.frame frame (filter_map becomes es) h.0 rest
        by_option (Some f) same rest = (rw (same f refl) h.0, rw (same f refl) rest)

    -- What moved has its sides.
    moved_bordered : (padding : ℤ) (e : Entry K) (c : Change) → Contains cs c → c.old.rectangle ≡ e.rectangle
        → IsBorderedBy padding e.size e.rectangle → IsBorderedBy padding e.size c.new.rectangle
    moved_bordered padding e c at is was =
        let sides : KeepsSides c = All-contains KeepsSides cs c does.tells.sides at in
        let exact : IsExactChange c = All-contains IsExactChange cs c does.tells.exact at in
        let before = rw (sym is) at was in
        let width = ap (λ (s : Sides). s.width) sides in
        let height = ap (λ (s : Sides). s.height) sides in
        record {
          exact = exact.1;
          least = was.least;
          positive = was.positive;
          wide = omega (arith, width, before.wide, was.positive.0);
          high = omega (arith, height, before.high, was.positive.1);
        }

    pub repacked_bordered : (padding : ℤ) (es : List (Entry K))
        → AllByRecursion (λ e. is_blank e ≡ false → IsLiveOn old e) es
        → AreBordered padding es → AreBordered padding (filter_map becomes es)
    repacked_bordered padding [] live h = tt
    repacked_bordered padding (e ∷ es) live h = elim (eqb_tells e.page page) [
      | inl here ↦ rw here.0 (by_option here.1 (find (old_is e.id) cs) refl (repacked_bordered padding es live.1 h.1))
      | inr other ↦ rw other.0 (h.0, repacked_bordered padding es live.1 h.1)
    ]
      where
        by_option : e.page ≡ page → (o : Option Change) → find (old_is e.id) cs ≡ o
            → AreBordered padding (filter_map becomes es)
            → AreBordered padding (cons_option (option_map (λ (c : Change). record e { id = c.new.id; rectangle = c.new.rectangle }) o)
            (filter_map becomes es))
        by_option here None is rest = rest
        by_option here (Some c) is rest = (
          record {
            large = λ lies.
                let there = rw here at (live.0 lies) in
                moved_bordered padding e c (Contains-find (old_is e.id) cs c is).0
                (same_Some c.old.rectangle e.rectangle (sym (was_old e.id c is) ∙ there)) (h.0.large lies);
            empty = h.0.empty;
          },
          rest,
        )

    -- What lies on a page lies there still.
    pub lying_later : (page ≡ no_page → ⊥) → (es : List (Entry K))
        → lying (filter_map becomes es) ≡ filter_map becomes (lying es)
    lying_later off [] = refl
    lying_later off (e ∷ es) = elim (eqb_tells e.page page) [
      | inl here ↦
          let lies : is_blank e ≡ false = ne_eqb e.page no_page (λ q. off (sym here.1 ∙ q)) in
          rw (here.0, lies) (rw here.0 (by_option lies (find (old_is e.id) cs) (lying_later off es)))
      | inr other ↦ elim (cases_Bool (is_blank e)) [
        | inl blank ↦ rw (other.0, blank) (lying_later off es)
        | inr lies ↦ rw (other.0, lies) (rw other.0 (ap (λ fs. e ∷ fs) (lying_later off es)))
      ]
    ]
      where
        by_option : is_blank e ≡ false → (o : Option Change)
            → lying (filter_map becomes es) ≡ filter_map becomes (lying es)
            → lying (cons_option (option_map (λ (c : Change). record e { id = c.new.id; rectangle = c.new.rectangle }) o)
            (filter_map becomes es))
            ≡ cons_option (option_map (λ (c : Change). record e { id = c.new.id; rectangle = c.new.rectangle }) o)
            (filter_map becomes (lying es))
        by_option lies None rest = rest
        by_option lies (Some c) rest =
            rw lies (ap (λ fs. record e { id = c.new.id; rectangle = c.new.rectangle } ∷ fs) rest)

    pub repacked_held : (page ≡ no_page → ⊥) → (es : List (Entry K)) → HoldsEntries old (lying es)
        → HoldsEntries new (lying (filter_map becomes es))
    repacked_held off es held = rw (lying_later off es) (all_held (lying es) held)

module _ {X Y : Type 0} (f : X → Option Y) where
  filter_map-shorter : (xs : List X) → length (filter_map f xs) ≤ length xs
  filter_map-shorter [] = omega arith
  filter_map-shorter (x ∷ xs) = by_option (f x) (filter_map-shorter xs)
    where
      by_option : (o : Option Y) → length (filter_map f xs) ≤ length xs
          → length (cons_option o (filter_map f xs)) ≤ length (x ∷ xs)
      by_option None le = omega (arith, le)
      by_option (Some y) le = omega (arith, le)

module _ {K : Type 0} where
  pub shorter : (was now : List (ℕ × Entry K)) (f : Entry K → Option (Entry K))
      → entries_of now ≡ filter_map f (entries_of was)
      → length now ≤ length was
  shorter was now f is = omega (
    arith,
    length-listed was,
    length-listed now,
    ap length is,
    filter_map-shorter f (entries_of was),
  )

  by_renewing : (e f : Entry K) (o : Option Change)
      → option_map (λ (c : Change). record e { id = c.new.id; rectangle = c.new.rectangle }) o ≡ Some f
      → f ≡ record e { id = f.id; rectangle = f.rectangle }
  by_renewing e f None is = absurd (let none : None ≡ Some f = is in cc)
  by_renewing e f (Some c) is =
      let g : Entry K = record e { id = c.new.id; rectangle = c.new.rectangle } in
      let same : g ≡ f = same_Some g f is in
      sym same ∙ ap (λ (x : Entry K). record e { id = x.id; rectangle = x.rectangle }) same

  pub renewed_same : (cs : List Change) (e f : Entry K) → renewed_by cs e ≡ Some f → f ≡ record e { id = f.id; rectangle = f.rectangle }
  renewed_same cs e f is = by_renewing e f (find (λ c. c.old.id == e.id) cs) is
