-- What is shown as freed on all pages.
use Rattle.std.proofs.Common.{◌≡◌, ◌<◌, ◌≤◌, ◌∙◌, ◌∷◌, false, true, ℕ, Bool, List, Some, length, refl, sym, subst, slice_get}
use Rattle.std.proofs.Common.{slice_set, inl, inr, arith}
use Rattle.std.proofs.lemmas.{Bool.{ne_eqb}, List.{length-set, with_items_is}, Option.{same_Some, slice_get_within}}
use Rattle.std.proofs.lemmas.Bool.Decides.{eqb_tells}
use Rattle.std.specs.Prelude.{Vec, vec_len}
use Rattle.std.specs.Vec.{with_items}
use Rattle.guillotiere.specs.declared.Size.{Size}
use Rattle.guillotiere.specs.Changes.{and_id}
use Rattle.guillotiere.specs.Stored.{AtlasValue}
use Rattle.atlas_entries.specs.declared.entries.Entry.{Entry}
use Rattle.atlas_entries.specs.Entries.{is_blank, no_page}
use Rattle.atlas_entries.proofs.EntryLemmas.{slice_get-set_other, slice_get-set_same}
use Rattle.atlas_cache.specs.Vacating.{ids_on, AreAllShown, AreShownOn, HasNoRoomWithout}
use Rattle.atlas_cache.proofs.VacateLemmas.{ids-more, ids-other}

module _ {Z : Type 0} where
  -- There are marks for each page, and on the pages before one nothing is shown.
  pub record AreShownBelow (pages : List AtlasValue) (marks : List (Vec Bool Z)) (end : ℕ) : Type 0 where
    pub many : length pages ≤ length marks
    pub each : (page : ℕ) (own : Vec Bool Z) → slice_get marks page ≡ Some own → page < end
        → AreShownOn pages page own.items (λ (id : ℕ). false)

  -- The marks that were written are those of the page.
  pub written : {pages : List AtlasValue} {page : ℕ} {ids : ℕ → Bool} (own : Vec Bool Z) {marks : List Bool}
      → length marks ≡ vec_len own → AreShownOn pages page marks ids
      → AreShownOn pages page (with_items own marks).items ids
  written {pages} {page} {ids} own {marks} many shown =
      subst (λ (xs : List Bool). AreShownOn pages page xs ids) (sym (with_items_is own marks many)) shown

module _ {K Z : Type 0} where
  -- One more entry is shown, on its page.
  pub all-more : (pages : List AtlasValue) (marks : List (Vec Bool Z)) (own : Vec Bool Z) (e : Entry K)
      (older : List (Entry K)) → AreAllShown pages marks (λ page. ids_on page older) → e.page < length pages
      → AreShownOn pages e.page own.items (and_id (ids_on e.page older) e.id)
      → AreAllShown pages (slice_set marks e.page own) (λ page. ids_on page (e ∷ older))
  all-more pages marks own e older was within shown =
      record { each = each; many = rw (length-set marks e.page own) was.many }
    where
      here : AreShownOn pages e.page own.items (ids_on e.page (e ∷ older))
      here = subst (λ (ids : ℕ → Bool). AreShownOn pages e.page own.items ids) (ids-more e.page e older refl) shown

      each : (page : ℕ) (mine : Vec Bool Z) → slice_get (slice_set marks e.page own) page ≡ Some mine
          → page < length pages → AreShownOn pages page mine.items (ids_on page (e ∷ older))
      each page mine at there = elim (eqb_tells page e.page) [
        | inl same ↦
            let many = was.many in
            let is = same_Some own mine
            (sym (slice_get-set_same marks e.page own (omega (arith, within, many))) ∙ rw same.1 at at) in
            rw (same.1, ← is) here
        | inr other ↦
            subst (λ (ids : ℕ → Bool). AreShownOn pages page mine.items ids)
            (ids-other page e older (ne_eqb e.page page (λ same. other.1 (sym same))))
            (was.each page mine (sym (slice_get-set_other marks e.page page own other.1) ∙ at) there)
      ]

  -- An entry that lies on no page shows nothing.
  pub all-same : (pages : List AtlasValue) (marks : List (Vec Bool Z)) (e : Entry K) (older : List (Entry K))
      → length pages ≤ e.page → AreAllShown pages marks (λ page. ids_on page older)
      → AreAllShown pages marks (λ page. ids_on page (e ∷ older))
  all-same pages marks e older past was = record { each = each; many = was.many }
    where
      each : (page : ℕ) (mine : Vec Bool Z) → slice_get marks page ≡ Some mine → page < length pages
          → AreShownOn pages page mine.items (ids_on page (e ∷ older))
      each page mine at there =
          subst (λ (ids : ℕ → Bool). AreShownOn pages page mine.items ids)
          (ids-other page e older (ne_eqb e.page page (λ same. omega (arith, same, there, past))))
          (was.each page mine at there)

module _ {K : Type 0} where
  -- Where there is no room on a page once an entry of it goes, there is none on any page, as there was none before.
  pub none-more : (asked : Size) (pages : List AtlasValue) (e : Entry K) (older : List (Entry K))
      → HasNoRoomWithout asked pages e.page (and_id (ids_on e.page older) e.id)
      → ((page : ℕ) → HasNoRoomWithout asked pages page (ids_on page older)) → (page : ℕ)
      → HasNoRoomWithout asked pages page (ids_on page (e ∷ older))
  none-more asked pages e older here none page = elim (eqb_tells page e.page) [
    | inl same ↦
        rw same.1
        (subst (λ (ids : ℕ → Bool). HasNoRoomWithout asked pages e.page ids) (ids-more e.page e older refl) here)
    | inr other ↦
        subst (λ (ids : ℕ → Bool). HasNoRoomWithout asked pages page ids)
        (ids-other page e older (ne_eqb e.page page (λ same. other.1 (sym same)))) (none page)
  ]

  -- An entry that lies on no page has no part in it.
  pub none-same : (asked : Size) (pages : List AtlasValue) (e : Entry K) (older : List (Entry K))
      → length pages ≤ e.page → ((page : ℕ) → HasNoRoomWithout asked pages page (ids_on page older)) → (page : ℕ)
      → HasNoRoomWithout asked pages page (ids_on page (e ∷ older))
  none-same asked pages e older past none page = λ v at.
      let within = slice_get_within pages page v at in
      subst (λ (ids : ℕ → Bool). HasNoRoomWithout asked pages page ids)
      (ids-other page e older (ne_eqb e.page page (λ same. omega (arith, same, within, past)))) (none page) v at

  -- What holds of the ids of a page with that of an entry on it holds of those of all.
  pub ids-here : (P : (ℕ → Bool) → Type 0) (e : Entry K) (older : List (Entry K))
      → P (and_id (ids_on e.page older) e.id) → P (ids_on e.page (e ∷ older))
  ids-here P e older holds = subst P (ids-more e.page e older refl) holds

  -- No page has so great a number as a blank entry's.
  pub lies-past : (pages : List AtlasValue) (e : Entry K) → is_blank e ≡ true → length pages ≤ no_page
      → length pages ≤ e.page
  lies-past pages e blank few = elim (eqb_tells e.page no_page) [
    | inl same ↦ rw same.1 few
    | inr other ↦ absurd (let no : false ≡ true = sym other.0 ∙ blank in cc)
  ]
