-- Entries that are shown to a search.
use Rattle.std.proofs.Common.{◌≡◌, ℕ, zero, suc, ◌<◌, ◌≤◌, List, [], ◌∷◌, ◌++◌, refl, ap, sym, ◌∙◌, subst, inl, inr, append_assoc, arith}
use Rattle.std.specs.List.{Contains}
use Rattle.std.proofs.lemmas.Bool.{cases_eq}
use Rattle.atlas_search.specs.declared.best.Best.{Best}
use Rattle.atlas_search.specs.Bests.{HasSeen}
use Rattle.atlas_model.specs.Boxes.{Box, Sides}
use Rattle.atlas_model.specs.Choice.{ComesFirst}
use Rattle.atlas_model.proofs.ChoiceLemmas.PickExistence.{first-then}
use Rattle.atlas_search.specs.Items.{Item, item_at, item_box, shown_item, shown_items}
use Rattle.atlas_search.specs.Lookups.{HasShown, HasShownTo}
use Rattle.atlas_search.specs.Numbers.{occurs}
use Rattle.atlas_search.specs.Ranks.{corner_of}
use Rattle.atlas_search.specs.Searches.{Shown}
use Rattle.atlas_search.proofs.Occurrences.{same-self, same-ne}
use Rattle.atlas_search.proofs.SearchLemmas.Bests.{seen-over}
use Rattle.atlas_search.proofs.SearchLemmas.Heaps.{corner-first}

pub append-none : (xs : List Shown) → xs ≡ xs ++ []
append-none [] = refl
append-none (x ∷ xs) = ap (λ s. x ∷ s) (append-none xs)

-- Each of the entries is shown.
pub shown_items-has : (es : List Item) (xs : List ℕ) (i : ℕ) → 0 < occurs i xs
    → Contains (shown_items es xs) (shown_item es i)
shown_items-has es [] i l = absurd (omega arith)
shown_items-has es (x ∷ xs) i l =
    elim (cases_eq i x) [
      | inl e ↦ (0, omega arith, ap (shown_item es) (sym e))
      | inr ne ↦ let more = shown_items-has es xs i (omega (arith, same-ne i x ne)) in (suc more.0, omega (arith, more.1), more.2)
    ]

-- What is shown of entries is the box of one of them.
pub shown_items-in : (es : List Item) (xs : List ℕ) (c : Shown) → Contains (shown_items es xs) c
    → (i : ℕ) × (0 < occurs i xs) × (c ≡ shown_item es i)
shown_items-in es [] c h = absurd (omega (arith, h.1))
shown_items-in es (x ∷ xs) c (zero, l, e) = (x, omega (arith, same-self x), sym e)
shown_items-in es (x ∷ xs) c (suc n, l, e) =
    let more = shown_items-in es xs c (n, omega (arith, l), e) in
    (more.0, omega (arith, more.1), more.2)

pub shown-append : (es : List Item) (xs ys : List ℕ) → shown_items es (xs ++ ys) ≡ shown_items es xs ++ shown_items es ys
shown-append es [] ys = refl
shown-append es (x ∷ xs) ys = ap (λ s. shown_item es x ∷ s) (shown-append es xs ys)

-- Nothing is shown.
pub shown-none : (es : List Item) (s : Best) → HasShown es [] s s
shown-none es s = λ r is_large shown h. subst (λ (xs : List Shown). HasSeen s is_large r xs) (append-none shown) h

-- Entries are shown after others.
pub shown_to-then : (es : List Item) (r : Sides) (xs ys : List ℕ) (s t u : Best) → HasShownTo es r xs s t → HasShownTo es r ys t u
    → HasShownTo es r (xs ++ ys) s u
shown_to-then es r xs ys s t u a b = λ is_large shown h.
    subst (λ (more : List Shown). HasSeen u is_large r more)
    (append_assoc shown (shown_items es xs) (shown_items es ys) ∙ ap (λ (more : List Shown). shown ++ more) (sym (shown-append es xs ys)))
    (b is_large (shown ++ shown_items es xs) (a is_large shown h))

pub shown-then : (es : List Item) (xs ys : List ℕ) (s t u : Best) → HasShown es xs s t → HasShown es ys t u
    → HasShown es (xs ++ ys) s u
shown-then es xs ys s t u a b = λ r. shown_to-then es r xs ys s t u (a r) (b r)

-- Once the best has an equal side, entries are passed over that come no earlier than a box that begins after it.
pub shown-over : (es : List Item) (xs : List ℕ) (s : Best) (b : Box) → b.min.x < 4294967296 → s.rank ≡ 0
    → s.corner ≤ corner_of b → ((i : ℕ) → 0 < occurs i xs → ComesFirst b (item_box (item_at es i))) → HasShown es xs s s
shown-over es xs s b narrow equal past above = λ r is_large shown seen.
    seen-over s is_large r shown (shown_items es xs) seen equal (λ a na cornered c has e.
    let t = shown_items-in es xs c has in
    subst (λ (d : Shown). ComesFirst a d.box) (sym t.2)
    (first-then a b (item_box (item_at es t.0)) (corner-first a b na narrow (omega (arith, past, cornered))) (above t.0 t.1)))
