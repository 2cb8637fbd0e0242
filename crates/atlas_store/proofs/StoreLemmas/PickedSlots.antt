-- The free slot that a search finds.
use Rattle.std.proofs.Common.{◌≡◌, List, refl, sym, subst, ◌∙◌}
use Rattle.atlas_store.specs.declared.slots.Slot.{Slot}
use Rattle.atlas_search.specs.declared.best.Found.{Found}
use Rattle.atlas_model.specs.declared.geometry.Rectangle.{Rectangle}
use Rattle.atlas_model.specs.Boxes.{Sides, Box, origin}
use Rattle.atlas_model.specs.Choice.{IsPick}
use Rattle.atlas_model.specs.Pixels.{box_of, options_of}
use Rattle.atlas_model.specs.Trees.{ungranted, leaves}
use Rattle.atlas_search.specs.Lookups.{AreFreeItems, IsStanding}
use Rattle.atlas_store.specs.Slots.Picks.{AreFreeBoxes, IsSearchable}
use Rattle.atlas_store.specs.Slots.{nodes}
use Rattle.atlas_store.specs.Slots.Numbered.{erase}
use Rattle.atlas_store.specs.Stored.{Shelf, Holding, places_of}
use Rattle.atlas_store.specs.Store.Choosing.{IsAtRest, IsChosen}
use Rattle.atlas_store.specs.Store.Holdings.{node_in}
use Rattle.atlas_store.proofs.StoreLemmas.SlotLists.{area-is, free-items, item-free, items}
use Rattle.atlas_store.proofs.SlotLemmas.FreeSlots.{AreFreeBoxes-stands, searchable}

module _ (v : Shelf) (h : Holding) (rest : IsAtRest v h) where
  pub rest-searchable : (slots : List Slot) → slots ≡ v.slots → IsSearchable (options_of v.options) slots v.heads
  rest-searchable slots e =
      let P : List Slot → Type 0 = λ s. IsSearchable (options_of v.options) s v.heads in
      subst P (sym e) (searchable (options_of v.options) v.slots v.heads v.unused (places_of (λ i. 0) h) h.sequence h.tree rest.holds.filed
      (λ i. rest.listed i refl) rest.holds.stands rest.holds.wide rest.holds.cut rest.holds.short rest.holds.valid)

  pub rest-free : AreFreeBoxes
      (nodes v.slots) (ungranted (leaves h.sequence.axis origin h.sequence.width (erase h.tree)))
  rest-free = AreFreeBoxes-stands (nodes v.slots) h.sequence h.tree rest.holds.stands rest.start

-- The entry that was picked is a slot.
abbrev IsPicked : Shelf → Sides → Found → List Slot → Type 0
IsPicked v r found slots =
    ((free : List Box) → AreFreeItems (items slots) free → IsPick free (options_of v.options) r (box_of found.rectangle))
    → IsStanding (items slots) found → IsChosen v r found

chosen-here : (v : Shelf) (r : Sides) (found : Found) → IsPicked v r found v.slots
chosen-here v r found picked s =
    let o = options_of v.options in
    let same : found.rectangle ≡ (node_in v found.at.number).area = sym s.area ∙ area-is v.slots found.at.number in
    record {
      free = item-free v.slots found.at.number s.free;
      pick = λ free a. subst (λ (q : Rectangle). IsPick free o r (box_of q)) same (picked free (free-items v.slots free a));
    }

pub chosen-found : (v : Shelf) (r : Sides) (slots : List Slot) → slots ≡ v.slots → (found : Found)
    → IsPicked v r found slots
chosen-found v r slots e found = subst (IsPicked v r found) (sym e) (chosen-here v r found)
