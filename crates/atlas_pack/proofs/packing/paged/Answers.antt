use Rattle.std.proofs.Common.{◌≡◌, ◌∙◌, ℕ, Bool, List, Option, IfOk, IfSome, subst, sym}
use Rattle.atlas_pack.specs.Folders.{folder_groups}
use Rattle.atlas_pack.specs.Runs.{AreGrouped, AreSheets, groups_of}
use Rattle.atlas_pack.proofs.KnownResults.{all_known}
use Rattle.atlas_pack.proofs.packing.paged.Goals as goal

pub returns-then-group-clause-pages : goal.returns-then-group-clause-pages
returns-then-group-clause-pages c =
    let o = c.args.options.now in
    let sizes = c.args.sizes.now in
    let numbers : c.deref.result.now ≡ folder_groups c.args.sprites.now = c.deref.ensures.value ∙ c.in_ok-groups.ensures.numbers in
    subst (λ (group : Bool). IfOk c.pack_groups.result (λ found. IfSome found (λ p.
    AreSheets (groups_of group c.args.sprites.now) o sizes p.sizes.items p.places.items)))
    (sym c.if-group.true)
    (subst (λ (groups : List (Option ℕ)). IfOk c.pack_groups.result (λ found. IfSome found (λ p.
    AreGrouped o groups sizes p.sizes.items p.places.items)))
    numbers
    (all_known _ _ _ _ _ c.pack_groups.result c.pack_groups.ensures.pages c.pack_groups.ensures.together c.pack_groups.ensures.sheets
    c.pack_groups.ensures.plain
    (λ p are together come plain. record { are = are; together = together; sheets_come = come; plain = plain })))

pub returns-clause-pages : goal.returns-clause-pages
returns-clause-pages c =
    let o = c.args.options.now in
    let sizes = c.args.sizes.now in
    subst (λ (group : Bool). IfOk c.pack_pages.result (λ found. IfSome found (λ p.
    AreSheets (groups_of group c.args.sprites.now) o sizes p.sizes.items p.places.items)))
    (sym c.if-group.false) c.pack_pages.ensures.pages
