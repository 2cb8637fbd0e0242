-- Names in quotation marks are read in one way.
use Rattle.std.proofs.Common.{◌≡◌, ℕ, ◌<◌, inl, inr, List, [], ◌∷◌, ◌++◌, flat_map, length, refl, sym, ap, ◌∙◌, subst, append_assoc, arith}
use Rattle.std.proofs.Common.{Option, Some, None, IfSome, IsSomeAnd}
use Rattle.atlas_pack.specs.declared.quoted.Piece.{Piece}
use Rattle.atlas_pack.specs.declared.quoted.Piece.TheVariants.{Byte, Scalar}
use Rattle.atlas_pack.specs.Quoted.{BeginsWithDigit, BeginsWithPiece, BeginsWithScalar, BeginsWithUnit, IsShort, SpellsPieces, piece_bytes}

digit_shorter : (text : List ℕ) (d : ℕ) (rest : List ℕ) → BeginsWithDigit text d rest → length rest < length text
digit_shorter text d rest h = let whole = ap length h.whole in omega (arith, whole)

unit_shorter : (text : List ℕ) (u : ℕ) (rest : List ℕ) → BeginsWithUnit text u rest → length rest < length text
unit_shorter text u rest h =
    let a = digit_shorter _ _ _ h.first in
    let b = digit_shorter _ _ _ h.second in
    let c = digit_shorter _ _ _ h.third in
    let d = digit_shorter _ _ _ h.fourth in
    omega (arith, a, b, c, d)

scalar_shorter : (code : ℕ) (text rest : List ℕ) → BeginsWithScalar code text rest → length rest < length text
scalar_shorter code text rest (inl alone) = unit_shorter text code rest alone.0
scalar_shorter code text rest (inr pair) =
    let first = unit_shorter _ _ _ pair.digits in
    let whole = ap length pair.ends.whole in
    let second = unit_shorter _ _ _ pair.ends.digits in
    omega (arith, first, whole, second)

-- What follows a piece is shorter.
pub piece_shorter : (p : Piece) (text rest : List ℕ) → BeginsWithPiece p text rest → length rest < length text
piece_shorter (Byte byte) text rest (inl plain) = let whole = ap length plain.0 in omega (arith, whole)
piece_shorter (Byte byte) text rest (inr short) = let whole = ap length short.0 in omega (arith, whole)
piece_shorter (Scalar code) text rest h =
    let whole = ap length h.1 in
    let more = scalar_shorter code h.0 rest h.2 in
    omega (arith, whole, more)

head_or_nil : List ℕ → ℕ
head_or_nil [] = 0
head_or_nil (byte ∷ bytes) = byte

heads : (a b : ℕ) (xs ys text : List ℕ) → text ≡ a ∷ xs → text ≡ b ∷ ys → a ≡ b
unfolding head_or_nil
heads a b xs ys text e f = ap head_or_nil (sym e ∙ f)

tail_or_nil : List ℕ → List ℕ
tail_or_nil [] = []
tail_or_nil (byte ∷ bytes) = bytes

tails : (a b : ℕ) (xs ys text : List ℕ) → text ≡ a ∷ xs → text ≡ b ∷ ys → xs ≡ ys
unfolding tail_or_nil
tails a b xs ys text e f = ap tail_or_nil (sym e ∙ f)

-- No piece begins with a quotation mark.
pub no_mark : (p : Piece) (text rest end : List ℕ) → BeginsWithPiece p text rest → text ≡ 34 ∷ end → ⊥
no_mark (Byte byte) text rest end (inl plain) e = plain.1 (heads byte 34 rest end text plain.0 e)
no_mark (Byte byte) text rest end (inr short) e = let same = heads 92 34 (byte ∷ rest) end text short.0 e in absurd (omega (arith, same))
no_mark (Scalar code) text rest end h e = let same = heads 92 34 (117 ∷ h.0) end text h.1 e in absurd (omega (arith, same))

not_short : (byte : ℕ) → byte ≡ 117 → IsShort byte → ⊥
not_short byte e (inl f) = omega (arith, e, f)
not_short byte e (inr (inl f)) = omega (arith, e, f)
not_short byte e (inr (inr f)) = omega (arith, e, f)

-- After a backslash and a `u` comes a character.
pub scalar_of : (p : Piece) (text after rest : List ℕ) → text ≡ 117 ∷ after → BeginsWithPiece p (92 ∷ text) rest
    → (code : ℕ) × (p ≡ Scalar code) × BeginsWithScalar code after rest
scalar_of (Byte byte) text after rest is (inl plain) = absurd (plain.2 (heads byte 92 rest text (92 ∷ text) plain.0 refl))
scalar_of (Byte byte) text after rest is (inr short) =
    let more = tails 92 92 text (byte ∷ rest) (92 ∷ text) refl short.0 in
    absurd (not_short byte (heads byte 117 rest after text more is) short.1)
scalar_of (Scalar code) text after rest is h =
    let more = tails 92 92 text (117 ∷ h.0) (92 ∷ text) refl h.1 in
    (code, refl, subst (λ (t : List ℕ). BeginsWithScalar code t rest) (tails 117 117 h.0 after text more is) h.2)

-- The first of the pieces that a text spells, where one is known.
pub next_piece_of : (more : List Piece) (text end : List ℕ) (p : Piece) (after : List ℕ) → SpellsPieces more text end
    → BeginsWithPiece p text after
    → (q : Piece) × (others : List Piece) × (middle : List ℕ) × (more ≡ q ∷ others) × BeginsWithPiece q text middle
    × SpellsPieces others middle end
next_piece_of [] text end p after spells begins = absurd (no_mark p text after end begins spells)
next_piece_of (q ∷ others) text end p after spells begins = (q, others, spells.0, refl, spells.1, spells.2)

-- Where no piece comes, the quotation mark does.
pub end_of : (more : List Piece) (text end : List ℕ) → SpellsPieces more text end
    → ((p : Piece) (rest : List ℕ) → BeginsWithPiece p text rest → ⊥)
    → (more ≡ []) × (text ≡ 34 ∷ end)
end_of [] text end spells none = (refl, spells)
end_of (q ∷ others) text end spells none = absurd (none q spells.0 spells.1)

-- The bytes of one piece more.
pub joined : (old new bytes more whole : List ℕ) → new ≡ old ++ bytes → whole ≡ old ++ (bytes ++ more)
    → whole ≡ new ++ more
joined old new bytes more whole e f = f ∙ sym (append_assoc old bytes more) ∙ ap (λ (xs : List ℕ). xs ++ more) (sym e)

pub parted : (old new whole : List ℕ) (more others : List Piece) (p q : Piece) → new ≡ old ++ piece_bytes p → p ≡ q
    → more ≡ q ∷ others
    → whole ≡ old ++ flat_map piece_bytes more → whole ≡ new ++ flat_map piece_bytes others
parted old new whole more others p q e f g h =
    joined old new (piece_bytes q) (flat_map piece_bytes others) whole (e ∙ ap (λ (r : Piece). old ++ piece_bytes r) f)
    (h ∙ ap (λ (ps : List Piece). old ++ flat_map piece_bytes ps) g)

-- An option that is known.
pub not_none : (X : Type 0) (P : X → Type 0) (o : Option X) → IsSomeAnd o P → o ≡ None → ⊥
not_none X P o h e = subst (λ (q : Option X). IsSomeAnd q P) e h

pub some_of : (X : Type 0) (P : X → Type 0) (o : Option X) (x : X) → IsSomeAnd o P → o ≡ Some x → P x
some_of X P o x h e = subst (λ (q : Option X). IsSomeAnd q P) e h

pub if_some_of : (X : Type 0) (P : X → Type 0) (o : Option X) (x : X) → IfSome o P → o ≡ Some x → P x
if_some_of X P o x h e = subst (λ (q : Option X). IfSome q P) e h
