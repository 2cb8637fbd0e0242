-- Elements that stand in a list after others or before others.
use Rattle.std.proofs.Common.{◌≡◌, ◌+◌, ◌++◌, ◌<◌, ◌∙◌, ℕ, List, [], ◌∷◌, length, map, take, drop, get_or, All, ap, refl, sym, subst, arith}
use Rattle.std.specs.Prelude.{Contains}
use Rattle.std.proofs.lemmas.List.{append_assoc, drop_more, map-append, take-append-drop}
use Rattle.std.proofs.lemmas.List.Elements.{All-append, All-nil, All-push, Contains-append_right}
use Rattle.atlas_sheet.specs.Firsts.{StandsAfter, StandsBefore}

module _ {A : Type 0} (P : A → Type 0) where
  pub stands_in : (xs : List A) (x : A) → StandsAfter P xs x → Contains xs x
  stands_in xs x (before, after, is, each) =
      subst (λ l. Contains l x) (sym is) (Contains-append_right before (x ∷ after) x (0, omega arith, refl))

  -- The first of a list.
  pub stands_first : (x : A) (xs : List A) → StandsAfter P (x ∷ xs) x
  stands_first x xs = ([], xs, refl, All-nil P)

  -- More come after it.
  pub stands_still : (xs ys : List A) (x : A) → StandsAfter P xs x → StandsAfter P (xs ++ ys) x
  stands_still xs ys x (before, after, is, each) =
      (before, after ++ ys, ap (λ l. l ++ ys) is ∙ append_assoc before (x ∷ after) ys, each)

  -- More come before it, of which it holds as well.
  pub stands_later : (xs ys : List A) (x : A) → All P xs → StandsAfter P ys x → StandsAfter P (xs ++ ys) x
  stands_later xs ys x all (before, after, is, each) =
      (xs ++ before, after, ap (λ l. xs ++ l) is ∙ sym (append_assoc xs before (x ∷ after)), All-append P xs before all each)

  -- The last of a list.
  pub stands_last : (xs : List A) (x : A) → StandsBefore P (xs ++ x ∷ []) x
  stands_last xs x = (xs, [], refl, All-nil P)

  -- One more comes after it, of which it holds as well.
  pub stands_earlier : (xs : List A) (x y : A) → P y → StandsBefore P xs x → StandsBefore P (xs ++ y ∷ []) x
  stands_earlier xs x y holds (before, after, is, each) = (
    before,
    after ++ y ∷ [],
    ap (λ l. l ++ y ∷ []) is ∙ append_assoc before (x ∷ after) (y ∷ []),
    All-push P after y each holds,
  )

  -- The one at a place, where it holds of those before that place.
  pub stands_at : {T : Type 0} (f : T → A) (xs : List T) (k : ℕ) (x : T) → k < length xs → x ≡ get_or xs k x
      → All P (map f (take k xs)) → StandsAfter P (map f xs) (f x)
  stands_at f xs k x inside is each = (
    map f (take k xs),
    map f (drop (k + 1) xs),
    ap (map f) (sym (take-append-drop k xs) ∙ ap (λ l. take k xs ++ l) (drop_more xs k x inside ∙ ap (λ y. y ∷ drop (k + 1) xs) (sym is)))
        ∙ map-append f (take k xs) (x ∷ drop (k + 1) xs),
    each,
  )
