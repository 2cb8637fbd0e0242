use Rattle.std.proofs.Common.{◌∙◌, Some, length, map, refl, subst}
use Rattle.atlas_sheet.specs.declared.ways.TheConstants.{WAYS}
use Rattle.atlas_sheet.specs.Grouping.{AreGroupSheets, IsGroupPage}
use Rattle.atlas_sheet.proofs.GroupSheets.{plain_pages}
use Rattle.atlas_sheet.proofs.GroupSteps.{group_good, numbers_as_long, pages_allowed, together_given}
use Rattle.atlas_sheet.proofs.Maybes.{both}
use Rattle.atlas_sheet.proofs.PageViews.{below_all, pages_apart, pages_count, pages_each, pages_used}
use Rattle.atlas_sheet.proofs.groups.pack_groups.Goals as goal

pub grouped-requires-clause-long : goal.grouped-requires-clause-long
grouped-requires-clause-long g c =
    numbers_as_long c.args.options.now c.args.sprites.now c.args.groups.now c.deref.result.now (length c.args.sprites.now) refl
    (c.deref.ensures.value ∙ c.in_ok-numbers.ensures.padded)

pub returns-clause-count : goal.returns-clause-count
returns-clause-count g c =
    both c.in_ok-found.found c.in_ok-found.ensures.pages c.in_ok-found.ensures.pages
    (λ p are same. pages_count c.args.options.now (IsGroupPage WAYS c.args.options.now) (group_good WAYS c.args.options.now)
    c.args.sprites.now p.sizes.items p.places.items are)

pub returns-clause-each : goal.returns-clause-each
returns-clause-each g c =
    both c.in_ok-found.found c.in_ok-found.ensures.pages c.in_ok-found.ensures.pages
    (λ p are same. pages_each c.args.options.now (IsGroupPage WAYS c.args.options.now) (group_good WAYS c.args.options.now)
    c.args.sprites.now p.sizes.items p.places.items are)

pub returns-clause-apart : goal.returns-clause-apart
returns-clause-apart g c =
    both c.in_ok-found.found c.in_ok-found.ensures.pages c.in_ok-found.ensures.pages
    (λ p are same. pages_apart c.args.options.now (IsGroupPage WAYS c.args.options.now) (group_good WAYS c.args.options.now)
    c.args.sprites.now p.sizes.items p.places.items are)

pub returns-clause-used : goal.returns-clause-used
returns-clause-used g c =
    both c.in_ok-found.found c.in_ok-found.ensures.pages c.in_ok-found.ensures.pages
    (λ p are same. pages_used c.args.options.now (IsGroupPage WAYS c.args.options.now) (group_good WAYS c.args.options.now)
    c.args.sprites.now p.sizes.items p.places.items are)

pub returns-clause-known : goal.returns-clause-known
returns-clause-known g c =
    both c.in_ok-found.found c.in_ok-found.ensures.pages c.in_ok-found.ensures.pages
    (λ p are same. below_all (length p.sizes.items) p.places.items are.below)

pub returns-clause-allowed : goal.returns-clause-allowed
returns-clause-allowed g c =
    both c.in_ok-found.found c.in_ok-found.ensures.pages c.in_ok-found.ensures.pages
    (λ p are same. pages_allowed WAYS c.args.options.now c.args.sprites.now p.sizes.items (map Some p.places.items) are)

pub returns-clause-together : goal.returns-clause-together
returns-clause-together g c =
    both c.in_ok-found.found c.in_ok-found.ensures.pages c.in_ok-found.ensures.together
    (λ p are together. together_given c.args.options.now c.args.sprites.now c.args.groups.now c.deref.result.now (length c.args.sprites.now)
    refl
    (c.deref.ensures.value ∙ c.in_ok-numbers.ensures.padded) p.places.items
    (pages_count c.args.options.now (IsGroupPage WAYS c.args.options.now) (group_good WAYS c.args.options.now) c.args.sprites.now
    p.sizes.items p.places.items are) together)

pub returns-clause-sheets : goal.returns-clause-sheets
returns-clause-sheets g c =
    both c.in_ok-found.found c.in_ok-found.ensures.pages c.in_ok-found.ensures.sheets
    (λ p are sheets. subst (λ ns. AreGroupSheets c.args.options.now c.args.sprites.now ns p.sizes.items (map Some p.places.items))
    (c.deref.ensures.value ∙ c.in_ok-numbers.ensures.padded) sheets)

pub returns-clause-plain : goal.returns-clause-plain
returns-clause-plain g c none =
    both c.in_ok-found.found c.in_ok-found.ensures.pages c.in_ok-found.ensures.sheets
    (λ p are sheets. plain_pages c.args.options.now c.args.sprites.now p.sizes.items c.args.groups.now (map Some p.places.items) none are
    (subst (λ ns. AreGroupSheets c.args.options.now c.args.sprites.now ns p.sizes.items (map Some p.places.items))
    (c.deref.ensures.value ∙ c.in_ok-numbers.ensures.padded) sheets))
