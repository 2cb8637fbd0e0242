-- The boxes of the free entries are those that a search picks among.
use Rattle.std.proofs.Common.{◌≡◌, ℕ, zero, suc, ◌<◌, inl, inr, true, false, List, [], ◌∷◌, length, get_or, refl, sym, subst, arith}
use Rattle.std.specs.List.{Contains}
use Rattle.std.proofs.lemmas.Bool.{cases_Bool, both_ways, cond-true, cond-false}
use Rattle.atlas_model.specs.Boxes.{Box}
use Rattle.guillotiere.specs.FreeBoxes.BoxShelves.{free_item_boxes}
use Rattle.atlas_search.specs.Items.{Item, item_at, item_box}
use Rattle.atlas_search.specs.Lookups.{AreFreeItems}

pub free-first : (t : Item) (es : List Item) → t.is_free ≡ true → free_item_boxes (t ∷ es) ≡ item_box t ∷ free_item_boxes es
free-first t es f = cond-true t.is_free (item_box t ∷ free_item_boxes es) (free_item_boxes es) f

pub idle-first : (t : Item) (es : List Item) → t.is_free ≡ false → free_item_boxes (t ∷ es) ≡ free_item_boxes es
idle-first t es f = cond-false t.is_free (item_box t ∷ free_item_boxes es) (free_item_boxes es) f

-- An entry of this box.
abbrev Entry : List Item → Box → Type 0
Entry es b = (i : ℕ) × ((item_at es i).is_free ≡ true) × (item_box (item_at es i) ≡ b)

later : (t : Item) (es : List Item) (b : Box) → Entry es b → Entry (t ∷ es) b
later t es b e = (suc e.0, e.1, e.2)

split : (t : Item) (es : List Item) (b : Box) (i : ℕ) → t.is_free ≡ true → i < length (item_box t ∷ free_item_boxes es)
    → get_or (item_box t ∷ free_item_boxes es) i b ≡ b
    → (Contains (free_item_boxes es) b → Entry es b) → Entry (t ∷ es) b
split t es b zero f l is rest = (0, f, is)
split t es b (suc i) f l is rest = later t es b (rest (i, omega arith, is))

entry_of : (es : List Item) (b : Box) → Contains (free_item_boxes es) b → Entry es b
entry_of [] b h = absurd (omega (arith, h.1))
entry_of (t ∷ es) b h =
    grind (
      arith,
      cases_Bool t.is_free,
      free-first t es,
      split t es b,
      entry_of es b,
      later t es b,
      idle-first t es,
    )

box_of_entry : (es : List Item) (i : ℕ) → (item_at es i).is_free ≡ true
    → Contains (free_item_boxes es) (item_box (item_at es i))
box_of_entry [] i f = absurd (both_ways false refl f)
box_of_entry (t ∷ es) zero f = subst (λ bs. Contains bs (item_box t)) (sym (free-first t es f)) (0, omega arith, refl)
box_of_entry (t ∷ es) (suc i) f =
    let h = box_of_entry es i f in
    elim (cases_Bool t.is_free) [
      | inl g ↦ subst (λ bs. Contains bs (item_box (item_at es i))) (sym (free-first t es g)) (suc h.0, omega (arith, h.1), h.2)
      | inr g ↦ subst (λ bs. Contains bs (item_box (item_at es i))) (sym (idle-first t es g)) h
    ]

pub are-free : (es : List Item) → AreFreeItems es (free_item_boxes es)
are-free es = record { of_item = entry_of es; of_box = box_of_entry es }
