-- Where a repacking gives nothing up, each key stays.
use Rattle.std.proofs.Common.{ℕ, ◌≡◌, ◌==◌, inl, inr, Bool, true, false, cond, List, [], ◌∷◌, ◌++◌, map, Option, None, Some, option_map}
use Rattle.std.proofs.Common.{refl, sym, ap, ◌∙◌}
use Rattle.std.specs.List.{cons_option, filter_map, find, AllByRecursion}
use Rattle.std.proofs.lemmas.{Bool.Decides.{eqb_tells}}
use Rattle.std.proofs.lemmas.Bool.{ne_eqb}
use Rattle.std.proofs.lemmas.List.{append-nil}
use Rattle.guillotiere.specs.declared.Allocation.{Allocation}
use Rattle.guillotiere.specs.declared.Change.{Change}
use Rattle.guillotiere.specs.declared.ChangeList.{ChangeList}
use Rattle.guillotiere.specs.Pages.{rectangle_on}
use Rattle.guillotiere.specs.Stored.{AtlasValue}
use Rattle.atlas_entries.specs.declared.entries.Entry.{Entry}
use Rattle.atlas_entries.specs.Entries.{is_blank, no_page}
use Rattle.atlas_cache.specs.Relocating.{become, keys_of, renewed_by}
use Rattle.atlas_cache.specs.Repacking.{RepacksPage}
use Rattle.atlas_cache.proofs.HoldingLemmas.{IsLiveOn}

find-former : (cs : List Change) (id : ℕ)
    → find (λ a. a.id == id) (map (λ c. c.old) cs) ≡ option_map (λ c. c.old) (find (λ c. c.old.id == id) cs)
find-former [] id = refl
find-former (c ∷ cs) id = by_test (c.old.id == id) (find-former cs id)
  where
    by_test : (b : Bool) → find (λ a. a.id == id) (map (λ c. c.old) cs) ≡ option_map (λ c. c.old) (find (λ c. c.old.id == id) cs)
        → cond b (Some c.old) (find (λ a. a.id == id) (map (λ c. c.old) cs)) ≡ option_map (λ (d : Change). d.old)
        (cond b (Some c) (find (λ c. c.old.id == id) cs))
    by_test true rest = refl
    by_test false rest = rest

module _ {A : Type 0} (old new : List AtlasValue) (page : ℕ) (list : ChangeList A) (does : RepacksPage old new page list)
    (all : list.failures.items ≡ []) (off : page ≡ no_page → ⊥) where
  abbrev cs : List Change
  cs = list.changes.items

  told : (id : ℕ) → rectangle_on old page id ≡ option_map (λ (a : Allocation). a.rectangle)
      (option_map (λ (c : Change). c.old) (find (λ c. c.old.id == id) cs))
  told id =
      does.tells.before id
      ∙ ap (λ fs. option_map (λ (a : Allocation). a.rectangle) (find (λ a. a.id == id) (map (λ (c : Change). c.old) cs ++ fs))) all
      ∙ ap (λ olds. option_map (λ (a : Allocation). a.rectangle) (find (λ a. a.id == id) olds))
      (append-nil (map (λ (c : Change). c.old) cs))
      ∙ ap (option_map (λ (a : Allocation). a.rectangle)) (find-former cs id)

  module _ {K : Type 0} where
    pub keys-stay : (es : List (Entry K)) → AllByRecursion (λ e. is_blank e ≡ false → IsLiveOn old e) es
        → keys_of (filter_map (become page (renewed_by cs)) es) ≡ keys_of es
    keys-stay [] live = refl
    keys-stay (e ∷ es) live = elim (eqb_tells e.page page) [
      | inl here ↦ rw here.0 (by_option here.1 (find (λ c. c.old.id == e.id) cs) refl (keys-stay es live.1))
      | inr other ↦ rw other.0 (ap (λ ks. e.key ∷ ks) (keys-stay es live.1))
    ]
      where
        by_option : e.page ≡ page → (o : Option Change) → find (λ c. c.old.id == e.id) cs ≡ o
            → keys_of (filter_map (become page (renewed_by cs)) es) ≡ keys_of es
            → keys_of (cons_option (option_map (λ (c : Change). record e { id = c.new.id; rectangle = c.new.rectangle }) o)
            (filter_map (become page (renewed_by cs)) es)) ≡ keys_of (e ∷ es)
        by_option here None is rest =
            let lies : is_blank e ≡ false = ne_eqb e.page no_page (λ q. off (sym here ∙ q)) in
            let there = rw here at (live.0 lies) in
            let none = told e.id ∙ ap (λ o. option_map (λ (a : Allocation). a.rectangle) (option_map (λ (c : Change). c.old) o)) is in
            absurd (let both : Some e.rectangle ≡ None = sym there ∙ none in cc)
        by_option here (Some c) is rest = ap (λ ks. e.key ∷ ks) rest
