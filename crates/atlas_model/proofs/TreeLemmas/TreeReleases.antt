-- Freeing ids one after another.
use Rattle.std.proofs.Common.{◌≡◌, ℕ, Bool, true, false, ◌||◌, List, [], ◌∷◌, refl, ap, sym, ◌∙◌}
use Rattle.std.proofs.lemmas.Bool.{eq-eqb, false≢true}
use Rattle.atlas_model.specs.Changes.{only, release}
use Rattle.atlas_model.specs.Laws.TreeLaws.{is_among, release_each}
use Rattle.atlas_model.specs.Trees.{Tree, IsNormal}
use Rattle.atlas_model.proofs.TreeLemmas.TreeNormal.{nf_mark_nf, release-none, release-like, release-release}
use Rattle.atlas_model.specs.Laws.TreeLaws.{ReleasesInAnyOrder}

or_false : (b : Bool) → (b || false) ≡ b
or_false true = refl
or_false false = refl

-- Ids freed one after another are their set freed at once.
pub release_one_by_one : (id : ℕ) (rest : List ℕ) (t : Tree)
    → release_each (id ∷ rest) t ≡ release (is_among (id ∷ rest)) t
release_one_by_one id [] t = release-like (only id) (is_among (id ∷ [])) t (λ k. sym (or_false (only id k)))
release_one_by_one id (next ∷ rest) t =
    release_one_by_one next rest (release (only id) t) ∙ release-release (is_among (next ∷ rest)) (only id) t

pub release_in_normal : (xs : List ℕ) (t : Tree) → IsNormal t.members → release_each xs t ≡ release (is_among xs) t
release_in_normal [] t normal = sym (release-none t normal)
release_in_normal (id ∷ rest) t normal = release_one_by_one id rest t

first_is_among : (id : ℕ) (rest : List ℕ) → is_among (id ∷ rest) id ≡ true
first_is_among id rest = ap (λ b. b || is_among rest id) (eq-eqb id id refl)

pub release_any_order : (xs ys : List ℕ) (t : Tree) → ((id : ℕ) → is_among xs id ≡ is_among ys id)
    → release_each xs t ≡ release_each ys t
release_any_order [] [] t same = refl
release_any_order [] (y ∷ ys) t same = absurd (false≢true (same y ∙ first_is_among y ys))
release_any_order (x ∷ xs) [] t same = absurd (false≢true (sym (same x) ∙ first_is_among x xs))
release_any_order (x ∷ xs) (y ∷ ys) t same =
    release_one_by_one x xs t ∙ release-like (is_among (x ∷ xs)) (is_among (y ∷ ys)) t same
    ∙ sym (release_one_by_one y ys t)

pub releases_in_any_order : ReleasesInAnyOrder
releases_in_any_order = record {
  normalised_before = nf_mark_nf;
  two_sets = λ s s' t. release-release s' s t;
  one_by_one = release_one_by_one;
  normal_tree = release_in_normal;
  any_order = release_any_order;
}
