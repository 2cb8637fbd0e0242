-- What grants and freeings make of the entries of a cache.
use Rattle.std.proofs.Common.{ℕ, ◌+◌, ◌≡◌, ◌≢◌, ◌⊎◌, inl, inr, true, false, List, [], ◌∷◌, ◌++◌, None, Some, refl, sym, ◌∙◌, arith}
use Rattle.std.proofs.lemmas.{Bool.Decides.{eqb_tells}}
use Rattle.std.specs.List.{AllByRecursion}
use Rattle.guillotiere.specs.Pages.{rectangle_on, AddsBoxOn, HasSameRectangles, LeavesNoBoxOn}
use Rattle.guillotiere.specs.Stored.{AtlasValue}
use Rattle.atlas_entries.specs.declared.entries.Entry.{Entry}
use Rattle.atlas_cache.specs.Caches.{has_id, holders, HoldsEntries}
use Rattle.atlas_entries.proofs.AppendedLists.{each-here, each-without}

module _ {K : Type 0} where
  abbrev pub IsLiveOn : List AtlasValue → Entry K → Type 0
  IsLiveOn pages e = rectangle_on pages e.page e.id ≡ Some e.rectangle

  pub id_cases : (page id : ℕ) (e : Entry K)
      → ((has_id page id e ≡ true) × (e.page ≡ page) × (e.id ≡ id))
      ⊎ ((has_id page id e ≡ false) × (e.page ≡ page → e.id ≢ id))
  id_cases page id e = elim (eqb_tells e.page page) [
    | inl p ↦ elim (eqb_tells e.id id) [
      | inl i ↦ inl (rw (p.0, i.0) refl, p.1, i.1)
      | inr n ↦ inr (rw (p.0, n.0) refl, λ _. n.1)
    ]
    | inr n ↦ inr (rw n.0 refl, λ p. absurd (n.1 p))
  ]

  pub holders-append : (page id : ℕ) (xs ys : List (Entry K))
      → holders page id (xs ++ ys) ≡ holders page id xs + holders page id ys
  holders-append page id [] ys = omega arith
  holders-append page id (x ∷ xs) ys = omega (arith, holders-append page id xs ys)

  holders-none : (pages : List AtlasValue) (page id : ℕ) → rectangle_on pages page id ≡ None → (es : List (Entry K))
      → AllByRecursion (IsLiveOn pages) es → holders page id es ≡ 0
  holders-none pages page id none [] live = refl
  holders-none pages page id none (e ∷ es) live = elim (id_cases page id e) [
    | inl same ↦ let here = rw (same.1, same.2) at live.0 in absurd (let there : rectangle_on pages page id ≡ Some e.rectangle = here in cc)
    | inr other ↦ rw other.0 (omega (arith, holders-none pages page id none es live.1))
  ]

  module _ (old new : List AtlasValue) where
    -- No rectangle moves.
    still_live : HasSameRectangles old new → (es : List (Entry K)) → AllByRecursion (IsLiveOn old) es
        → AllByRecursion (IsLiveOn new) es
    still_live same [] live = tt
    still_live same (e ∷ es) live = (same e.page e.id ∙ live.0, still_live same es live.1)

    pub stays : HasSameRectangles old new → (es : List (Entry K)) → HoldsEntries old es → HoldsEntries new es
    stays same es held = record {
      live = still_live same es held.live;
      once = held.once;
      known = λ page id r is_r. held.known page id r (sym (same page id) ∙ is_r);
    }

    -- A new entry has a new rectangle.
    module _ (e : Entry K) (adds : AddsBoxOn old new e.page e.id e.rectangle) where
      others_live : (es : List (Entry K)) → AllByRecursion (IsLiveOn old) es → AllByRecursion (IsLiveOn new) es
      others_live [] live = tt
      others_live (f ∷ es) live = (
        adds.same f.page f.id (λ page id. let none = adds.unused in let there = rw (page, id) at live.0 in cc) ∙ live.0,
        others_live es live.1,
      )

      pub joined : (es : List (Entry K)) → HoldsEntries old es → HoldsEntries new (e ∷ es)
      joined es held = record {
        live = (adds.here, others_live es held.live);
        once = λ page id. elim (id_cases page id e) [
          | inl it ↦ rw it.0 (let none = holders-none old e.page e.id adds.unused es held.live in
              let here = rw (it.1, it.2) at none in omega (arith, here))
          | inr other ↦ rw other.0 (omega (arith, held.once page id))
        ];
        known = λ page id r is_r. elim (id_cases page id e) [
          | inl it ↦ rw it.0 (omega arith)
          | inr other ↦ rw other.0 (omega (
            arith,
            held.known page id r (sym (adds.same page id (λ p i. other.1 (sym p) (sym i))) ∙ is_r),
          ))
        ];
      }

    -- An entry's rectangle is freed, and no entry that is left has it.
    module _ (e : Entry K) (leaves : LeavesNoBoxOn old new e.page e.id) where
      left_live : (es : List (Entry K)) → holders e.page e.id es ≡ 0 → AllByRecursion (IsLiveOn old) es
          → AllByRecursion (IsLiveOn new) es
      left_live [] none live = tt
      left_live (f ∷ es) none live = elim (id_cases e.page e.id f) [
        | inl same ↦ let here = rw same.0 at none in absurd (omega (arith, here))
        | inr other ↦ let here = rw other.0 at none in (
          leaves.same f.page f.id other.1 ∙ live.0,
          left_live es (omega (arith, here)) live.1,
        )
      ]

      pub left : (es : List (Entry K)) → HoldsEntries old (e ∷ es) → HoldsEntries new es
      left es held = record {
        live = left_live es (alone (id_cases e.page e.id e)) held.live.1;
        once = λ page id. omega (arith, held.once page id);
        known = λ page id r is_r. elim (id_cases page id e) [
          | inl it ↦ let gone = rw (it.1, it.2) at leaves.gone in absurd (let some = is_r in cc)
          | inr other ↦
              let had = held.known page id r (sym (leaves.same page id (λ p i. other.1 (sym p) (sym i))) ∙ is_r) in
              let more = rw other.0 at had in omega (arith, more)
        ];
      }
        where
          alone : ((has_id e.page e.id e ≡ true) × (e.page ≡ e.page) × (e.id ≡ e.id))
              ⊎ ((has_id e.page e.id e ≡ false) × (e.page ≡ e.page → e.id ≢ e.id)) → holders e.page e.id es ≡ 0
          alone (inl it) = let once = rw it.0 at (held.once e.page e.id) in omega (arith, once)
          alone (inr other) = absurd (other.1 refl refl)

  -- An entry comes to the front.
  pub to_front : (pages : List AtlasValue) (xs : List (Entry K)) (e : Entry K) (ys : List (Entry K))
      → HoldsEntries pages (xs ++ e ∷ ys) → HoldsEntries pages (e ∷ (xs ++ ys))
  to_front pages xs e ys held = record {
    live = (each-here (IsLiveOn pages) xs e ys held.live, each-without (IsLiveOn pages) xs e ys held.live);
    once = λ page id.
        omega (arith, held.once page id, holders-append page id xs (e ∷ ys), holders-append page id xs ys);
    known = λ page id r is_r.
        omega (arith, held.known page id r is_r, holders-append page id xs (e ∷ ys), holders-append page id xs ys);
  }

  -- And is used in a frame.
  pub used_at : (pages : List AtlasValue) (frame : ℕ) (e : Entry K) (es : List (Entry K)) → HoldsEntries pages (e ∷ es)
      → HoldsEntries pages (record e { frame = frame } ∷ es)
  used_at pages frame e es held = record { live = held.live; once = held.once; known = held.known }

  pub none_held : (pages : List AtlasValue) → ((page id : ℕ) → rectangle_on pages page id ≡ None) → HoldsEntries {K = K} pages []
  none_held pages idle = record {
    live = tt;
    once = λ page id. omega arith;
    known = λ page id r is_r. absurd (let none = idle page id in cc);
  }
