-- Numbers of entries.
use Rattle.std.proofs.Common.{ℕ, ◌≡◌, ◌≢◌, ◌<◌, eqb, eq-eqb, false, List, [], ◌∷◌, ◌∙◌, sym, arith}
use Rattle.std.proofs.lemmas.Bool.{false≢true}
use Rattle.std.proofs.lemmas.Map.Keys.{IsDistinct-head, IsDistinct-tail}
use Rattle.std.specs.List.{AllByRecursion, IsDistinct}
use Rattle.atlas_entries.specs.declared.entries.Entry.{Entry}
use Rattle.atlas_cache.specs.Caches.{entries_of, HaveNumbersBelow, HaveOwnNumbers}
use Rattle.atlas_entries.specs.Entries.{numbers, AreNumbered}

module _ {K : Type 0} where
  differ : (n m : ℕ) (es : List (ℕ × Entry K)) → m ≡ n → AllByRecursion (λ y. eqb n y ≡ false) (numbers es)
      → AreNumbered es
      → AllByRecursion (λ f. m ≢ f.number) (entries_of es)
  differ n m [] is apart own = tt
  differ n m (e ∷ es) is apart own =
      (λ same. false≢true (sym apart.0 ∙ eq-eqb n e.0 (sym is ∙ same ∙ own.0)), differ n m es is apart.1 own.1)

  -- No two entries have one number.
  pub own_numbers : (es : List (ℕ × Entry K)) → IsDistinct eqb (numbers es) → AreNumbered es
      → HaveOwnNumbers (entries_of es)
  own_numbers [] apart own = tt
  own_numbers (e ∷ es) apart own = (
    differ e.0 e.1.number es own.0 (IsDistinct-head eqb e.0 (numbers es) apart) own.1,
    own_numbers es (IsDistinct-tail eqb e.0 (numbers es) apart) own.1,
  )

  -- What is below of the numbers is below of the entries'.
  pub numbers_below : (made : ℕ) (es : List (ℕ × Entry K)) → AllByRecursion (λ e. e.0 < made) es → AreNumbered es
      → HaveNumbersBelow made (entries_of es)
  numbers_below made [] below own = tt
  numbers_below made (e ∷ es) below own = (omega (arith, below.0, own.0), numbers_below made es below.1 own.1)
