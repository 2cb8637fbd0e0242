-- A name that is written is read again.
use Rattle.std.proofs.Common.{◌≡◌, ◌≢◌, ℕ, Result, Ok, Err, IfOk, ◌==◌, ◌||◌, Bool, true, false, cond, inl, inr, List, [], ◌∷◌, ◌++◌, map}
use Rattle.std.proofs.Common.{flat_map, refl, sym, ap, subst, append_assoc, arith}
use Rattle.std.specs.List.{list_any}
use Rattle.std.proofs.lemmas.Bool.Decides.{nat_tests}
use Rattle.atlas_words.specs.Words.{HasNoSpace, IsEmptyOrSpaced}
use Rattle.atlas_pack.specs.declared.quoted.Piece.TheVariants.{Byte}
use Rattle.atlas_pack.specs.Json.{escaped_byte, quoted}
use Rattle.atlas_pack.specs.Quoted.{BeginsWithPiece, SpellsPieces, piece_bytes}
use Rattle.atlas_pack.specs.Sprites.{BeginsWithSpelling, IsName, IsReadAgain}
use Rattle.atlas_pack.specs.Texts.{needs_quotes, spelled}

is_equal : (a b : ℕ) → (a == b) ≡ true → a ≡ b
is_equal a b e = grind (arith, nat_tests)

is_other : (a b : ℕ) → (a == b) ≡ false → a ≢ b
is_other a b e f = grind (arith, nat_tests)

-- A byte, with a backslash before it or not, is a piece.
by_tests : (byte : ℕ) (rest : List ℕ) (t u : Bool) → (byte == 34) ≡ t → (byte == 92) ≡ u
    → BeginsWithPiece (Byte byte) (cond (t || u) (92 ∷ byte ∷ []) (byte ∷ []) ++ rest) rest
by_tests byte rest true u e f = inr (refl, inl (is_equal byte 34 e))
by_tests byte rest false true e f = inr (refl, inr (inl (is_equal byte 92 f)))
by_tests byte rest false false e f = inl (refl, is_other byte 34 e, is_other byte 92 f)

bytes_spelled : (name rest : List ℕ) → SpellsPieces (map Byte name) (flat_map escaped_byte name ++ 34 ∷ rest) rest
bytes_spelled [] rest = refl
bytes_spelled (byte ∷ name) rest =
    let more = flat_map escaped_byte name ++ 34 ∷ rest in (
      more,
      subst (λ (t : List ℕ). BeginsWithPiece (Byte byte) t more) (sym (append_assoc (escaped_byte byte) (flat_map escaped_byte name)
          (34 ∷ rest)))
          (by_tests byte more _ _ refl refl),
      bytes_spelled name rest,
    )

same_bytes : (name : List ℕ) → name ≡ flat_map piece_bytes (map Byte name)
same_bytes [] = refl
same_bytes (byte ∷ name) = ap (λ (xs : List ℕ). byte ∷ xs) (same_bytes name)

first_no : (t u : Bool) → (t || u) ≡ false → t ≡ false
first_no true u e = e
first_no false u e = refl

second_no : (t u : Bool) → (t || u) ≡ false → u ≡ false
second_no true u e = absurd (cc)
second_no false u e = e

no_space : (bytes : List ℕ) → list_any (λ b. b == 32) bytes ≡ false → HasNoSpace bytes
no_space [] e = tt
no_space (byte ∷ bytes) e = (is_other byte 32 (first_no _ _ e), no_space bytes (second_no _ _ e))

reads_quoted : (name rest : List ℕ) → BeginsWithSpelling name (quoted name ++ rest) rest
reads_quoted name rest = inr (record {
  after = flat_map escaped_byte name ++ 34 ∷ rest;
  whole = ap (λ (xs : List ℕ). 34 ∷ xs) (append_assoc (flat_map escaped_byte name) (34 ∷ []) rest);
  ends = (map Byte name, bytes_spelled name rest, same_bytes name);
})

reads_plain : (name rest : List ℕ) → IsName name → IsEmptyOrSpaced rest → needs_quotes name ≡ false
    → BeginsWithSpelling name (name ++ rest) rest
reads_plain [] rest is spaced e = absurd (is.some refl)
reads_plain (byte ∷ name) rest is spaced e =
    inl (record {
      word = record { whole = refl; no_space = no_space (byte ∷ name) (second_no _ _ e); spaced = spaced };
      bare = λ after f. is_other byte 34 (first_no _ _ e) cc;
    })

by_need : (name rest : List ℕ) (need : Bool) → needs_quotes name ≡ need → IsName name → IsEmptyOrSpaced rest
    → BeginsWithSpelling name (cond need (quoted name) name ++ rest) rest
by_need name rest true e is spaced = reads_quoted name rest
by_need name rest false e is spaced = reads_plain name rest is spaced e

pub reads_again : (name text : List ℕ) → text ≡ spelled name → IsReadAgain name text
reads_again name text e rest is spaced =
    subst (λ (t : List ℕ). BeginsWithSpelling name (t ++ rest) rest) (sym e) (by_need name rest _ refl is spaced)

pub known_again : {V E : Type 0} (name : List ℕ) (items : V → List ℕ) (r : Result V E)
    → IfOk r (λ v. items v ≡ spelled name) → IfOk r (λ v. IsReadAgain name (items v))
known_again name items (Ok v) e = reads_again name (items v) e
known_again name items (Err f) e = tt
