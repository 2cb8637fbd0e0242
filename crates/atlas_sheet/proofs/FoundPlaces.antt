-- Sprites that ask one after another: what those before one have found, and what holds of all.
use Rattle.std.proofs.Common.{◌≡◌, ◌≢◌, ◌==◌, ◌+◌, ◌<◌, ◌≤◌, ℕ, suc, Bool, List, [], ◌∷◌, ◌++◌, length, take, drop, set, get_or, take_all}
use Rattle.std.proofs.Common.{append-nil, All, Option, refl, ap, sym, subst, ◌∙◌, arith}
use Rattle.std.specs.List.{count_by}
use Rattle.std.proofs.Math.Seq.{drop-cons, take-suc}
use Rattle.std.proofs.lemmas.Bool.{eq-eqb}
use Rattle.std.proofs.lemmas.List.{append_assoc, map-append, take-append-drop, get_or-set_same, get_or-set_other}
use Rattle.std.proofs.lemmas.List.Elements.{All-nil, All-cons, All-head, All-tail}
use Rattle.guillotiere.specs.declared.Size.{Size}
use Rattle.guillotiere.specs.declared.Rectangle.{Rectangle}
use Rattle.guillotiere.specs.Simple.{SimpleState}
use Rattle.guillotiere.proofs.TreeLemmas.TreeBasics.{one_if}
use Rattle.guillotiere.proofs.ListLemmas.ListCounts.{count_by-cons, count_by-append}
use Rattle.atlas_sheet.specs.declared.options.Spacing.{Spacing}
use Rattle.atlas_sheet.specs.Orders.{AreNumberedOnce}
use Rattle.atlas_sheet.specs.Sheets.{FindsPlace, FindPlaces, place_of_sprite, with_places}

-- What stands past the end of a list of sprites.
abbrev pub no_sprite : ℕ × Size
no_sprite = (0, record { width = lib.IntN.pos 0; height = lib.IntN.pos 0 })

-- After the first sprites have asked, and found this, whatever further ones find is found from the start.
abbrev pub HaveFound : (spacing : Spacing) → (start now : SimpleState) → List (Size × Option Rectangle) → Type 0
HaveFound spacing start now found =
    (later : List (Size × Option Rectangle)) → FindPlaces spacing now later → FindPlaces spacing start (found ++ later)

-- A write at a number that sprites don't have leaves their places.
elsewhere : (places : List (Option Rectangle)) (n : ℕ) (found : Option Rectangle) (s : ℕ × Size) → s.0 ≢ n
    → place_of_sprite (set places n found) s ≡ place_of_sprite places s
elsewhere places n found s other = get_or-set_other places n s.0 found _ other

-- Of sprites none of which has the number.
pub others : (n : ℕ) (xs : List (ℕ × Size)) → count_by (λ s. s.0 == n) xs ≡ 0 → All (λ s. s.0 ≢ n) xs
others n [] none = All-nil (λ s. s.0 ≢ n)
others n (s ∷ xs) none =
    let count : count_by (λ s. s.0 == n) (s ∷ xs) ≡ one_if (s.0 == n) + count_by (λ s. s.0 == n) xs = count_by-cons (λ s. s.0 == n) s xs in
    All-cons (λ s. s.0 ≢ n) s xs
    (λ same. let hit : one_if (s.0 == n) ≡ 1 = ap one_if (eq-eqb s.0 n same) in absurd (omega arith))
    (others n xs (omega arith))

places_elsewhere : (places : List (Option Rectangle)) (n : ℕ) (found : Option Rectangle) (xs : List (ℕ × Size))
    → All (λ s. s.0 ≢ n) xs
    → with_places (set places n found) xs ≡ with_places places xs
places_elsewhere places n found [] other = refl
places_elsewhere places n found (s ∷ xs) other =
    let here : place_of_sprite (set places n found) s ≡ place_of_sprite places s =
    elsewhere places n found s (All-head (λ s. s.0 ≢ n) s xs other) in
    let later : with_places (set places n found) xs ≡ with_places places xs = places_elsewhere places n found xs
    (All-tail (λ s. s.0 ≢ n) s xs other) in
    λ i. (s.1, here i) ∷ later i

-- The number of a sprite isn't that of one before it.
unused : (order : List (ℕ × Size)) (k : ℕ) (s : ℕ × Size) → AreNumberedOnce order
    → drop k order ≡ s ∷ drop (suc k) order
    → All (λ t. t.0 ≢ s.0) (take k order)
unused order k s once split =
    let p : ℕ × Size → Bool = λ t. t.0 == s.0 in
    let parts : count_by p (take k order ++ drop k order) ≡ count_by p (take k order) + count_by p (drop k order) =
    count_by-append p (take k order) (drop k order) in
    let whole : count_by p (take k order ++ drop k order) ≡ count_by p order = ap (count_by p) (take-append-drop k order) in
    let later : count_by p (drop k order) ≡ one_if (s.0 == s.0) + count_by p (drop (suc k) order) = ap (count_by p) split ∙
    count_by-cons p s (drop (suc k) order) in
    let hit : one_if (s.0 == s.0) ≡ 1 = ap one_if (eq-eqb s.0 s.0 refl) in
    let few : count_by p order ≤ 1 = once s.0 in
    others s.0 (take k order) (omega arith)

-- One sprite more, with what it finds.
module _ (order : List (ℕ × Size)) (k : ℕ) (places : List (Option Rectangle)) (s d : ℕ × Size) (found : Option Rectangle)
    (once : AreNumberedOnce order) (inside : k < length order) (is : s ≡ get_or order k d) (room : s.0 < length places) where
  split : drop k order ≡ s ∷ drop (suc k) order
  split = drop-cons order k d inside ∙ ap (λ t. t ∷ drop (suc k) order) (sym is)

  longer : take (suc k) order ≡ take k order ++ s ∷ []
  longer = take-suc order k d inside ∙ ap (λ t. take k order ++ t ∷ []) (sym is)

  here : place_of_sprite (set places s.0 found) s ≡ found
  here = get_or-set_same places s.0 found _ room

  pub written : with_places
      (set places s.0 found) (take (suc k) order) ≡ with_places places (take k order) ++ (s.1, found) ∷ []
  written =
      ap (with_places (set places s.0 found)) longer
      ∙ map-append (λ t. (t.1, place_of_sprite (set places s.0 found) t)) (take k order) (s ∷ [])
      ∙ (λ i. places_elsewhere places s.0 found (take k order) (unused order k s once split) i ++ (s.1, here i) ∷ [])

module _ (spacing : Spacing) (start now next : SimpleState) (order : List (ℕ × Size)) (k : ℕ) (places : List (Option Rectangle))
    (s d : ℕ × Size)
    (found : Option Rectangle) (once : AreNumberedOnce order) (inside : k < length order) (is : s ≡ get_or order k d)
    (room : s.0 < length places)
    (step : FindsPlace spacing now s.1 found next) (before : HaveFound spacing start now (with_places places (take k order))) where
  pub more : HaveFound spacing start next (with_places (set places s.0 found) (take (suc k) order))
  more later asked =
      subst (λ ps. FindPlaces spacing start (ps ++ later)) (sym (written order k places s d found once inside is room))
      (subst (FindPlaces spacing start) (sym (append_assoc (with_places places (take k order)) ((s.1, found) ∷ []) later))
      (before ((s.1, found) ∷ later) (next, step, asked)))

-- All have asked.
pub all_found : (spacing : Spacing) (start now : SimpleState) (order : List (ℕ × Size)) (k : ℕ)
    (places : List (Option Rectangle))
    → length order ≤ k
    → HaveFound spacing start now (with_places places (take k order))
    → FindPlaces spacing start (with_places places order)
all_found spacing start now order k places end before =
    subst (λ xs. FindPlaces spacing start (with_places places xs)) (take_all k order end)
    (subst (FindPlaces spacing start) (append-nil (with_places places (take k order))) (before [] tt))
