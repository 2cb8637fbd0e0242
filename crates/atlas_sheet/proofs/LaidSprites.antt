-- Sprites as they are laid: they may lie so, and have room where they have it at all.
use Rattle.std.proofs.Common.{◌≡◌, Bool, true, false, not, ◌&&◌, cond, int_lt, inl, inr, List, [], ◌∷◌, map, All, IsTrue, refl, ap, sym}
use Rattle.std.proofs.Common.{subst, ◌∙◌, arith}
use Rattle.std.specs.List.{AllZip}
use Rattle.std.proofs.lemmas.Bool.{false≢true}
use Rattle.std.proofs.lemmas.List.Elements.{All-nil, All-cons, All-head, All-tail, All-weaker}
use Rattle.guillotiere.specs.declared.Size.{Size}
use Rattle.guillotiere.specs.Boxes.{Sides}
use Rattle.atlas_sheet.specs.declared.allowed.Allowed.{Allowed}
use Rattle.atlas_sheet.specs.declared.options.SheetOptions.{SheetOptions}
use Rattle.atlas_sheet.specs.declared.options.Spacing.{Spacing}
use Rattle.atlas_sheet.specs.declared.turnings.Turning.{Turning}
use Rattle.atlas_sheet.specs.declared.turnings.Turning.TheVariants as turning
use Rattle.atlas_sheet.specs.Allowances.{IsGreatest}
use Rattle.atlas_sheet.specs.Lying.{MayLie, turned_size}
use Rattle.atlas_sheet.specs.Turnings.{AreLaid, InEach, fitted, has_room, laid, turned_to, turnings}
use Rattle.atlas_sheet.proofs.TurnedSprites.{lie_again, lie_as_given}

may_if : (b : Bool) (s : Size) → MayLie true s (cond b (turned_size s) s)
may_if true s = inr (refl, refl)
may_if false s = inl refl

may_turn : (how : Turning) (s : Size) → MayLie true s (turned_to how s)
may_turn turning.AsGiven s = inl refl
may_turn turning.Wide s = may_if (int_lt s.width s.height) s
may_turn turning.High s = may_if (int_lt s.height s.width) s

module _ (sheet : Sides) (spacing : Spacing) where
  may_fit : (s : Size) → MayLie true s (fitted sheet spacing s)
  may_fit s = may_if (not (has_room sheet spacing s) && has_room sheet spacing (turned_size s)) s

  may_laid : (how : Turning) (s : Size) → MayLie true s (fitted sheet spacing (turned_to how s))
  may_laid how s = lie_again true s (turned_to how s) (fitted sheet spacing (turned_to how s)) (may_turn how s) (may_fit (turned_to how s))

  -- Laid sprites may lie so.
  pub laid_lies : (turn : Bool) (how : Turning) (sprites : List Size)
      → AllZip (MayLie turn) sprites (laid turn sheet spacing how sprites)
  laid_lies false how sprites = lie_as_given false sprites
  laid_lies true how [] = tt
  laid_lies true how (s ∷ sprites) = (may_laid how s, laid_lies true how sprites)

  -- The same of a list that was laid so.
  pub laid_so : (turn : Bool) (how : Turning) (sprites lying : List Size) → turn ≡ true
      → lying ≡ map (λ s. fitted sheet spacing (turned_to how s)) sprites → AllZip (MayLie turn) sprites lying
  laid_so turn how sprites lying on is =
      subst (λ b. AllZip (MayLie b) sprites lying) (sym on) (subst (AllZip (MayLie true) sprites) (sym is) (laid_lies true how sprites))

  -- A sprite that has room in one of the ways that it may lie.
  abbrev pub CanHaveRoom : (turn : Bool) → Size → Type 0
  CanHaveRoom turn s = (lying : Size) × MayLie turn s lying × IsTrue (has_room sheet spacing lying)

  room_as_fitted : (s l : Size) → MayLie true s l → IsTrue (has_room sheet spacing l)
      → IsTrue (has_room sheet spacing (fitted sheet spacing s))
  room_as_fitted s l may room = by_room (has_room sheet spacing s) refl
    where
      turned : MayLie true s l → has_room sheet spacing s ≡ false → IsTrue (has_room sheet spacing (turned_size s))
      turned (inl e) off = absurd (false≢true (sym off ∙ ap (has_room sheet spacing) (sym e) ∙ room))
      turned (inr e) off = ap (has_room sheet spacing) (sym e.1) ∙ room

      by_room : (b : Bool) → has_room sheet spacing s ≡ b → IsTrue (has_room sheet spacing (fitted sheet spacing s))
      by_room true on =
          subst (λ c. IsTrue (has_room sheet spacing (cond (not c && has_room sheet spacing (turned_size s)) (turned_size s) s))) (sym on)
          on
      by_room false off =
          let other = turned may off in
          subst (λ c. IsTrue (has_room sheet spacing (cond (not c && has_room sheet spacing (turned_size s)) (turned_size s) s))) (sym off)
          (subst (λ c. IsTrue (has_room sheet spacing (cond c (turned_size s) s))) (sym other) other)

  lie_back : (s l : Size) → MayLie true s l → MayLie true l s
  lie_back s l (inl e) = inl (sym e)
  lie_back s l (inr e) = inr (refl, ap turned_size (sym e.1))

  room_as_laid : (how : Turning) (s : Size) → CanHaveRoom true s
      → IsTrue (has_room sheet spacing (fitted sheet spacing (turned_to how s)))
  room_as_laid how s room =
      room_as_fitted (turned_to how s) room.0
      (lie_again true (turned_to how s) s room.0 (lie_back s (turned_to how s) (may_turn how s)) room.1) room.2

  room_as_given : (s : Size) → CanHaveRoom false s → IsTrue (has_room sheet spacing s)
  room_as_given s (l, inl e, room) = ap (has_room sheet spacing) (sym e) ∙ room
  room_as_given s (l, inr e, room) = absurd (false≢true e.0)

  -- Laid sprites have room, where each has it in one way.
  pub laid_room : (turn : Bool) (how : Turning) (sprites : List Size) → All (CanHaveRoom turn) sprites
      → All (λ s. IsTrue (has_room sheet spacing s)) (laid turn sheet spacing how sprites)
  laid_room false how sprites each = All-weaker (CanHaveRoom false) (λ s. IsTrue (has_room sheet spacing s)) room_as_given sprites each
  laid_room true how [] each = All-nil (λ s. IsTrue (has_room sheet spacing s))
  laid_room true how (s ∷ sprites) each =
      All-cons (λ s. IsTrue (has_room sheet spacing s)) (fitted sheet spacing (turned_to how s)) (laid true sheet spacing how sprites)
      (room_as_laid how s (All-head (CanHaveRoom true) s sprites each))
      (laid_room true how sprites (All-tail (CanHaveRoom true) s sprites each))

-- There is one greatest sheet.
pub greatest_once : (by : Allowed) (s t : Sides) → IsGreatest by s → IsGreatest by t → s ≡ t
greatest_once by s t one other =
    let a = one.greatest t other.allowed in
    let b = other.greatest s one.allowed in
    let w : s.width ≡ t.width = omega (arith, a, b) in
    let h : s.height ≡ t.height = omega (arith, a, b) in
    λ i. record { width = w i; height = h i }

module _ (o : SheetOptions) (sprites : List Size) where
  pub each_weaker : (P Q : List Size → Type 0) → ((lying : List Size) → P lying → Q lying) → InEach o sprites P
      → InEach o sprites Q
  each_weaker P Q weaker each =
      All-weaker (λ how. (lying : List Size) × AreLaid o how sprites lying × P lying)
      (λ how. (lying : List Size) × AreLaid o how sprites lying × Q lying)
      (λ how is. (is.0, is.1, weaker is.0 is.2)) (turnings o.turn) each

  -- However sprites are laid, they are laid as they are given once.
  pub first_laid : (P : List Size → Type 0) → InEach o sprites P
      → (lying : List Size) × AreLaid o turning.AsGiven sprites lying × P lying
  first_laid P each = by_turn o.turn each
    where
      L : Turning → Type 0
      L how = (lying : List Size) × AreLaid o how sprites lying × P lying

      by_turn : (turn : Bool) → All L (turnings turn) → L turning.AsGiven
      by_turn false each = All-head L turning.AsGiven [] each
      by_turn true each = All-head L turning.AsGiven (turning.Wide ∷ turning.High ∷ []) each
