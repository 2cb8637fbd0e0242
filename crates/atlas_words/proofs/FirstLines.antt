-- The first line of a text, and what stands after it.
use Rattle.std.proofs.Common.{◌≡◌, ℕ, ◌≢◌, ◌<◌, ◌⊎◌, List, [], ◌∷◌, ◌++◌, length, refl, sym, ap, ◌∙◌, inl, inr, arith, length-append}
use Rattle.std.proofs.lemmas.List.{nil_from_length}
use Rattle.atlas_words.specs.Lines.{HasNoEnd, BeginsWithLine}

-- A line with its LF stands at the front in one way.
pub same_first : (l m x y : List ℕ) → HasNoEnd l → HasNoEnd m → l ++ 10 ∷ x ≡ m ++ 10 ∷ y → (l ≡ m) × (x ≡ y)
same_first [] [] x y hl hm e = (refl, cc)
same_first [] (b ∷ m) x y hl hm e = absurd (hm.0 (let h : 10 ≡ b = cc in sym h))
same_first (a ∷ l) [] x y hl hm e = absurd (hl.0 cc)
same_first (a ∷ l) (b ∷ m) x y hl hm e =
    let tails : l ++ 10 ∷ x ≡ m ++ 10 ∷ y = cc in
    let heads : a ≡ b = cc in
    let more = same_first l m x y hl.1 hm.1 tails in
    (let first = more.0 in cc, more.1)

-- Bytes without an LF are no line with its LF.
pub no_first : (l x rest : List ℕ) → HasNoEnd rest → rest ≡ l ++ 10 ∷ x → ⊥
no_first [] x [] h e = absurd (cc)
no_first [] x (r ∷ rest) h e = h.0 cc
no_first (a ∷ l) x [] h e = absurd (cc)
no_first (a ∷ l) x (r ∷ rest) h e = no_first l x rest h.1 cc

parts : (t l r m s : List ℕ) → HasNoEnd l → HasNoEnd m
    → (t ≡ l ++ 10 ∷ r) ⊎ ((t ≡ l) × (r ≡ [])) → (t ≡ m ++ 10 ∷ s) ⊎ ((t ≡ m) × (s ≡ [])) → (l ≡ m) × (r ≡ s)
parts t l r m s hl hm (inl a) (inl b) = same_first l m r s hl hm (sym a ∙ b)
parts t l r m s hl hm (inl a) (inr b) = absurd (no_first l r m hm (sym b.0 ∙ a))
parts t l r m s hl hm (inr a) (inl b) = absurd (no_first m s l hl (sym a.0 ∙ b))
parts t l r m s hl hm (inr a) (inr b) = (sym a.0 ∙ b.0, a.1 ∙ sym b.1)

-- A text has one first line.
pub one_first_line : (text line rest other others : List ℕ)
    → BeginsWithLine text line rest → BeginsWithLine text other others → (line ≡ other) × (rest ≡ others)
one_first_line text line rest other others a b = parts text line rest other others a.no_end b.no_end a.whole b.whole

-- What follows a first line is shorter.
pub rest_shorter : (text line rest : List ℕ) → text ≢ [] → BeginsWithLine text line rest → length rest < length text
rest_shorter text line rest some begins =
    elim begins.whole [
      | inl a ↦ rw (a, length-append) (omega arith)
      | inr b ↦
          let none : length rest ≡ 0 = ap length b.1 in
          let more : (length text ≡ 0) → ⊥ = (λ e. some (nil_from_length text e)) in
          omega (arith, none, more)
    ]
