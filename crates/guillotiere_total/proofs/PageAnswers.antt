-- What an error of a request to a page says, and what is so of a page that isn't there.
use Rattle.std.proofs.Common.{◌≡◌, ◌<◌, ℕ, List, Option, Result, Ok, Err, Some, length, slice_get}
use Rattle.std.proofs.Common.{IfErr, IsErrAnd, arith, inl, inr, subst, sym}
use Rattle.std.proofs.lemmas.Option.{slice_get_cases}
use Rattle.guillotiere.specs.declared.Allocation.{Allocation}
use Rattle.guillotiere.specs.declared.AtlasError.{AtlasError}
use Rattle.guillotiere.specs.Callers.{IsShortage}
use Rattle.guillotiere.specs.Stored.{AtlasValue}
use Rattle.guillotiere_total.specs.declared.error.CallError.{CallError}
use Rattle.guillotiere_total.specs.declared.error.CallError.TheVariants.{Refused}
use Rattle.guillotiere_total.specs.Faults.{IsPageFault}

-- On a page that there is, the error is a shortage, whatever else the answer says.
module _ (X : AtlasValue → Type 0) (pages : List AtlasValue) (page : ℕ) (e : AtlasError) (within : page < length pages)
    (answer : (s : AtlasValue) → slice_get pages page ≡ Some s → IsShortage e × X s) where
  short_page : IsShortage e
  short_page = elim (slice_get_cases pages page).1 [
    | inl found ↦ (answer found.0 found.2).0
    | inr past ↦ let beyond = past.0 in absurd (omega arith)
  ]

  pub page_fault : (r : Result (Option Allocation) CallError) → IsErrAnd r (λ x. x ≡ Refused e)
      → IfErr r (IsPageFault IsShortage (length pages) page)
  page_fault (Ok x) is = tt
  page_fault (Err x) is = subst (IsPageFault IsShortage (length pages) page) (sym is) (within, short_page)
