-- What a way finds in a new sheet, and how many pixels places have.
use Rattle.std.proofs.Common.{◌≡◌, ◌-◌, ℕ, List, [], ◌∷◌, length, All, IsPermutation, Option, refl, rules, arith}
use Rattle.std.specs.List.{enumerate_from}
use Rattle.std.proofs.Math.Nat.{le-max_right, zero-mod}
use Rattle.std.proofs.lemmas.List.Elements.{All-nil, All-cons, All-weaker}
use Rattle.guillotiere.specs.declared.Size.{Size}
use Rattle.guillotiere.specs.declared.Rectangle.{Rectangle}
use Rattle.guillotiere.specs.Boxes.{Sides, IsPositive, IsWithin, whole_box}
use Rattle.guillotiere.specs.Choice.{AreValid}
use Rattle.guillotiere.specs.Pixels.{sides_of}
use Rattle.guillotiere.specs.Simple.{IsSimple, IsGuarded, simple_start}
use Rattle.atlas_model.proofs.SimpleLemmas.SimpleGrants.{start-simple}
use Rattle.atlas_sheet.specs.declared.options.Spacing.{Spacing}
use Rattle.atlas_sheet.specs.declared.ways.Choice.{Choice}
use Rattle.atlas_sheet.specs.declared.ways.Choice.TheVariants as choice
use Rattle.atlas_sheet.specs.Orders.{choice_options}
use Rattle.atlas_sheet.specs.Sheets.{ArePlaces, FindPlaces, IsOnGrid, IsPackable, inner_sides, with_places}
use Rattle.atlas_sheet.proofs.AskedPlace.{AreOnGrid}
use Rattle.atlas_sheet.proofs.SheetPlaces.{in_order}

inner_positive : (spacing : Spacing) (sheet : Sides) → IsPositive (inner_sides spacing sheet)
inner_positive spacing sheet =
    let a = le-max_right (sheet.width - spacing.padding) 1 in
    let b = le-max_right (sheet.height - spacing.padding) 1 in
    (omega arith, omega arith)

pub choice_valid : (spacing : Spacing) (by : Choice) → IsPositive (sides_of spacing.alignment)
    → AreValid (choice_options spacing by)
choice_valid spacing choice.Roomiest positive = (positive, search rules)
choice_valid spacing choice.Tightest positive = (positive, search rules)

pub choice_alignment : (spacing : Spacing) (by : Choice)
    → (choice_options spacing by).alignment ≡ sides_of spacing.alignment
choice_alignment spacing choice.Roomiest = refl
choice_alignment spacing choice.Tightest = refl

whole_on_grid : (a : Sides) (size : Sides) → AreOnGrid a (whole_box size ∷ [])
whole_on_grid a size =
    All-cons (λ b. IsOnGrid a b.min) (whole_box size) [] (zero-mod a.width, zero-mod a.height) (All-nil (λ b. IsOnGrid a b.min))

pub found_places : (sheet : Sides) (spacing : Spacing) (by : Choice) (sprites : List Size) (order : List (ℕ × Size))
    (places : List (Option Rectangle))
    → IsPositive sheet → IsPositive (sides_of spacing.alignment) → All (IsPackable spacing) sprites
    → IsPermutation (enumerate_from 0 sprites) order → length places ≡ length sprites
    → FindPlaces spacing (simple_start (inner_sides spacing sheet) (choice_options spacing by)) (with_places places order)
    → ArePlaces sheet spacing sprites places
found_places sheet spacing by sprites order places wide aligned packable moved long found =
    let inner = inner_sides spacing sheet in
    let options = choice_options spacing by in
    let simple : IsSimple (simple_start inner options) = start-simple inner options (inner_positive spacing sheet)
    (choice_valid spacing by aligned) in
    let guarded : IsGuarded (simple_start inner options) [] = record { within = All-nil (IsWithin inner); disjoint = simple.disjoint } in
    in_order spacing sheet wide sprites order moved places long
    (All-weaker (IsPackable spacing) (λ s. IsPositive (sides_of s)) (λ s packs. packs.positive) sprites packable)
    (simple_start inner options) simple (choice_alignment spacing by) (whole_on_grid options.alignment inner) refl guarded found
