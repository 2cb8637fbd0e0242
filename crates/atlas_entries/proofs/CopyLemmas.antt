-- A map that was given all that another one has.
use Rattle.std.proofs.Common.{◌≤◌, ◌≡◌, ◌∙◌, Bool, List, None, is_some, ap, refl, arith}
use Rattle.std.specs.Cmp.{IsEquivalence}
use Rattle.std.specs.HashMap.{HashMap, get, hash_map_len, IsUnique}
use Rattle.std.specs.Map.{keys_of, update_all}
use Rattle.std.proofs.lemmas.Map.Entries.{length-keys_of}
use Rattle.std.proofs.lemmas.Map.Made.{is_some-lookup, update_all_none}
use Rattle.std.proofs.lemmas.Map.Steps.{length-le_from_keys}

module _ {K X S : Type 0} {eq : K → K → Bool} (laws : IsEquivalence eq) (old new : HashMap K X S) (unique : IsUnique eq old) where
  pub copied-alike : (given : List (K × X)) → given ≡ old.entries
      → ((k : K) → get eq new k ≡ update_all eq (λ _. None) given k) → (k : K) → get eq new k ≡ get eq old k
  copied-alike given all has k =
      has k ∙ ap (λ (es : List (K × X)). update_all eq (λ _. None) es k) all
      ∙ update_all_none laws eq (λ x y. refl) old.entries k unique

  pub copied-len : ((k : K) → get eq new k ≡ get eq old k) → hash_map_len old ≤ hash_map_len new
  copied-len same =
      let le = length-le_from_keys laws (keys_of old.entries) new.entries unique
      (λ k among. ap is_some (same k) ∙ is_some-lookup (eq k) old.entries ∙ among)
      in
      omega (arith, le, length-keys_of old.entries)
