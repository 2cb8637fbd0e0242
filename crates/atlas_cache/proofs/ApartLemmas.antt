-- The entries of a cache lie apart, and within their pages.
use Rattle.std.proofs.Common.{ℕ, ◌≤◌, ◌≡◌, ◌≢◌, ◌⊎◌, inl, inr, true, false, List, [], ◌∷◌, None, Some, refl, sym, arith}
use Rattle.std.proofs.lemmas.Option.{slice_get_cases}
use Rattle.std.specs.List.{AllByRecursion}
use Rattle.guillotiere.specs.Callers.{RectanglesLieApart}
use Rattle.guillotiere.specs.Pages.{AllLieApartOn, AllLieWithinOn}
use Rattle.guillotiere.specs.Stored.{AtlasValue}
use Rattle.atlas_entries.specs.declared.entries.Entry.{Entry}
use Rattle.atlas_cache.specs.Caches.{has_id, holders, EntriesLieApart, EntriesLieWithin}
use Rattle.atlas_cache.proofs.HoldingLemmas.{id_cases, IsLiveOn}

module _ {K : Type 0} (pages : List AtlasValue) where
  module _ (all : (page : ℕ) → AllLieApartOn pages page) where
    each_apart : (e : Entry K) → IsLiveOn pages e → (fs : List (Entry K)) → holders e.page e.id fs ≡ 0
        → AllByRecursion (IsLiveOn pages) fs
        → AllByRecursion (λ f. e.page ≡ f.page → RectanglesLieApart e.rectangle f.rectangle) fs
    each_apart e here [] none live = tt
    each_apart e here (f ∷ fs) none live = elim (id_cases e.page e.id f) [
      | inl same ↦ let twice = rw same.0 at none in absurd (omega (arith, twice))
      | inr other ↦ let more = rw other.0 at none in (
        λ page. all e.page e.id f.id e.rectangle f.rectangle (λ id. other.1 (sym page) (sym id)) here (rw page live.0),
        each_apart e here fs (omega (arith, more)) live.1,
      )
    ]

    pub apart : (es : List (Entry K)) → AllByRecursion (IsLiveOn pages) es → ((page id : ℕ) → holders page id es ≤ 1)
        → EntriesLieApart es
    apart [] live once = tt
    apart (e ∷ es) live once = (
      each_apart e live.0 es (alone (id_cases e.page e.id e)) live.1,
      apart es live.1 (λ page id. omega (arith, once page id)),
    )
      where
        alone : ((has_id e.page e.id e ≡ true) × (e.page ≡ e.page) × (e.id ≡ e.id))
            ⊎ ((has_id e.page e.id e ≡ false) × (e.page ≡ e.page → e.id ≢ e.id)) → holders e.page e.id es ≡ 0
        alone (inl it) = let here = rw it.0 at (once e.page e.id) in omega (arith, here)
        alone (inr other) = absurd (other.1 refl refl)

  pub within : ((page : ℕ) → AllLieWithinOn pages page) → (es : List (Entry K)) → AllByRecursion (IsLiveOn pages) es
      → EntriesLieWithin pages es
  within all [] live = tt
  within all (e ∷ es) live = (
    elim (slice_get_cases pages e.page).1 [
      | inl one ↦ (one.0, one.2, all e.page e.id e.rectangle one.0 one.2 live.0)
      | inr past ↦ let none = rw past.1 at live.0 in absurd (let some : None ≡ Some e.rectangle = none in cc)
    ],
    within all es live.1,
  )
