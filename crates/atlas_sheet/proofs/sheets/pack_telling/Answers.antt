use Rattle.std.proofs.Common.{◌≡◌, ◌∙◌, [], ◌∷◌, ◌++◌, All, ap, map, subst, sym, Some, rules}
use Rattle.std.specs.List.{FoldsTo}
use Rattle.guillotiere.specs.declared.Size.{Size}
use Rattle.guillotiere.specs.Pixels.{sides_of}
use Rattle.atlas_sheet.specs.declared.ways.TheConstants.{WAYS}
use Rattle.atlas_sheet.specs.Lying.{IsShown, HoldsAll, areas_of}
use Rattle.atlas_sheet.specs.Settings.{spacing_of}
use Rattle.atlas_sheet.specs.Packings.{AreFalling, IsFirstFound, IsNoLarger, IsSmaller}
use Rattle.atlas_sheet.specs.Turnings.{InEach}
use Rattle.atlas_sheet.proofs.Arrangements.{shown_whole}
use Rattle.atlas_sheet.proofs.LaidWays.{first_in_one}
use Rattle.atlas_sheet.proofs.ShownPlaces.{shows_apart, shows_inside, shows_upright}
use Rattle.atlas_sheet.proofs.sheets.pack_telling.Goals as goal

pub sheet_of-requires : goal.sheet_of-requires
sheet_of-requires g c =
    shown_whole c.in_ok-filled.filled.places.items c.in-Some.best.places.items c.in_ok-filled.ensures.areas
    (rw c.in-Some.is at c.in_ok-found.ensures.whole)

pub returns-clause-larger : goal.returns-clause-larger
returns-clause-larger g c =
    let size : c.in_ok-sheet.sheet.size ≡ c.in-Some.best.size = c.in_ok-sheet.ensures.size ∙ c.in_ok-filled.ensures.size in
    subst (λ (s : Size). InEach c.args.options.now c.args.sprites.now
    (λ lying. IsNoLarger WAYS c.args.options.now.allowed (spacing_of c.args.options.now) lying (sides_of s))) (sym size)
    (rw c.in-Some.is at c.in_ok-found.ensures.larger)

pub returns-clause-earliest : goal.returns-clause-earliest
returns-clause-earliest g c e =
    let best = c.in-Some.best in
    let sheet = c.in_ok-sheet.sheet in
    let size : sheet.size ≡ best.size = c.in_ok-sheet.ensures.size ∙ c.in_ok-filled.ensures.size in
    let order : sheet.order.items ≡ map (λ s. s.0) best.order.items = c.in_ok-sheet.ensures.order ∙ c.in_ok-filled.ensures.order in
    let areas : areas_of (map Some sheet.places.items) ≡ best.places.items =
    ap areas_of c.in_ok-sheet.ensures.places ∙ c.in_ok-filled.ensures.areas in
    let found = c.in_ok-found.ensures.first e in
    rw (size, order, areas) (rw c.in-Some.is at found)

pub returns-clause-first : goal.returns-clause-first
returns-clause-first g c e =
    let best = c.in-Some.best in
    let sheet = c.in_ok-sheet.sheet in
    let size : sheet.size ≡ best.size = c.in_ok-sheet.ensures.size ∙ c.in_ok-filled.ensures.size in
    let order : sheet.order.items ≡ map (λ s. s.0) best.order.items = c.in_ok-sheet.ensures.order ∙ c.in_ok-filled.ensures.order in
    let areas : areas_of (map Some sheet.places.items) ≡ best.places.items =
    ap areas_of c.in_ok-sheet.ensures.places ∙ c.in_ok-filled.ensures.areas in
    let found = c.in_ok-found.ensures.first e in
    rw (size, order, areas)
    (first_in_one c.args.options.now c.args.sprites.now
    (λ lying. IsFirstFound WAYS c.args.options.now.allowed (spacing_of c.args.options.now) lying (sides_of best.size)
    (map (λ s. s.0) best.order.items) best.places.items)
    (λ lying. IsSmaller WAYS c.args.options.now.allowed (spacing_of c.args.options.now) lying (sides_of best.size))
    (rw c.in-Some.is at found))

pub returns-clause-inside : goal.returns-clause-inside
returns-clause-inside g c =
    let sheet = c.in_ok-sheet.sheet in
    let shown : IsShown (sides_of sheet.size) (spacing_of c.args.options.now) c.args.options.now.turn c.args.sprites.now sheet.order.items
    (map Some sheet.places.items) = search rules in
    shows_inside _ _ _ _ _ _ shown

pub returns-clause-apart : goal.returns-clause-apart
returns-clause-apart g c =
    let sheet = c.in_ok-sheet.sheet in
    let shown : IsShown (sides_of sheet.size) (spacing_of c.args.options.now) c.args.options.now.turn c.args.sprites.now sheet.order.items
    (map Some sheet.places.items) = search rules in
    shows_apart _ _ _ _ _ _ shown

pub returns-clause-upright : goal.returns-clause-upright
returns-clause-upright g c =
    let sheet = c.in_ok-sheet.sheet in
    let shown : IsShown (sides_of sheet.size) (spacing_of c.args.options.now) c.args.options.now.turn c.args.sprites.now sheet.order.items
    (map Some sheet.places.items) = search rules in
    λ off. shows_upright _ _ _ _ _ _ shown off

pub returns-clause-told : goal.returns-clause-told
returns-clause-told g c =
    let sheet = c.in_ok-sheet.sheet in
    let size : sheet.size ≡ c.in-Some.best.size = c.in_ok-sheet.ensures.size ∙ c.in_ok-filled.ensures.size in
    let told = rw c.in-Some.is at c.in_ok-found.ensures.told in (
      told.0,
      told.1,
      subst (λ (s : Size). FoldsTo (λ p size q. goal.F-step g p size tt q) c.args.told (told.0 ++ s ∷ []) told.1) (sym size) told.2,
      subst (λ (s : Size). AreFalling (told.0 ++ s ∷ [])) (sym size) told.3,
      subst (λ (s : Size). All (HoldsAll c.args.options.now c.args.sprites.now) (told.0 ++ s ∷ [])) (sym size) told.4,
    )
