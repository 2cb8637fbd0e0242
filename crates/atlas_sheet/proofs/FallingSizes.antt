-- Sizes that fall, one after another.
use Rattle.std.proofs.Common.{◌<◌, List, [], ◌∷◌, ◌++◌, All, IsSome}
use Rattle.std.specs.List.{AllZip}
use Rattle.std.proofs.lemmas.List.Elements.{All-weaker}
use Rattle.guillotiere.specs.declared.Size.{Size}
use Rattle.guillotiere.specs.Pixels.{sides_of}
use Rattle.atlas_sheet.specs.declared.arrangement.Arrangement.{Arrangement}
use Rattle.atlas_sheet.specs.declared.options.SheetOptions.{SheetOptions}
use Rattle.atlas_sheet.specs.Allowances.{IsAllowed, pixels}
use Rattle.atlas_sheet.specs.Lying.{IsArranged, MayLie, HoldsAll}
use Rattle.atlas_sheet.specs.Packings.{AreFalling}
use Rattle.atlas_sheet.proofs.Arrangements.{rebased}

-- The size of an arrangement that has a place for each sprite.
pub holds_all : {A : Type 0} (o : SheetOptions) (sprites : List Size) (a : Arrangement A) → IsArranged o sprites a
    → IsAllowed o.allowed (sides_of a.size) → All IsSome a.places.items → HoldsAll o sprites a.size
holds_all o sprites a are allowed whole = record {
  allowed = allowed;
  choice = a.choice;
  lying = a.lying.items;
  order = a.order.items;
  places = a.places.items;
  whole = whole;
  arranged = are;
}

-- The sprites as they lie take no other sheets.
pub holds_lying : (o : SheetOptions) (sprites between : List Size) → AllZip (MayLie o.turn) sprites between → (sizes : List Size)
    → All (HoldsAll o between) sizes → All (HoldsAll o sprites) sizes
holds_lying o sprites between lies sizes each =
    All-weaker (HoldsAll o between) (HoldsAll o sprites)
    (λ size takes. record {
      allowed = takes.allowed;
      choice = takes.choice;
      lying = takes.lying;
      order = takes.order;
      places = takes.places;
      whole = takes.whole;
      arranged = rebased sprites between lies takes.arranged;
    }) sizes each

-- A smaller one comes last.
pub falling_push : (before : List Size) (s t : Size) → AreFalling (before ++ s ∷ [])
    → pixels (sides_of t) < pixels (sides_of s)
    → AreFalling ((before ++ s ∷ []) ++ t ∷ [])
falling_push [] s t fall less = (less, tt)
falling_push (a ∷ []) s t fall less = (fall.0, falling_push [] s t fall.1 less)
falling_push (a ∷ (b ∷ rest)) s t fall less = (fall.0, falling_push (b ∷ rest) s t fall.1 less)
