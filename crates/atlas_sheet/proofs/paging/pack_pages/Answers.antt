use Rattle.atlas_sheet.specs.declared.ways.TheConstants.{WAYS}
use Rattle.atlas_sheet.specs.Paging.{IsPage}
use Rattle.atlas_sheet.proofs.Maybes.{both}
use Rattle.atlas_sheet.proofs.PageViews.{below_all, page_good, pages_apart, pages_count, pages_each, pages_greatest, pages_used}
use Rattle.std.proofs.Common.{length}
use Rattle.atlas_sheet.proofs.paging.pack_pages.Goals as goal

pub returns-clause-count : goal.returns-clause-count
returns-clause-count g c =
    both c.in_ok-found.found c.in_ok-found.ensures.pages c.in_ok-found.ensures.pages
    (λ p are same. pages_count c.args.options.now (IsPage WAYS c.args.options.now) (page_good WAYS c.args.options.now) c.args.sprites.now
    p.sizes.items p.places.items are)

pub returns-clause-each : goal.returns-clause-each
returns-clause-each g c =
    both c.in_ok-found.found c.in_ok-found.ensures.pages c.in_ok-found.ensures.pages
    (λ p are same. pages_each c.args.options.now (IsPage WAYS c.args.options.now) (page_good WAYS c.args.options.now) c.args.sprites.now
    p.sizes.items p.places.items are)

pub returns-clause-apart : goal.returns-clause-apart
returns-clause-apart g c =
    both c.in_ok-found.found c.in_ok-found.ensures.pages c.in_ok-found.ensures.pages
    (λ p are same. pages_apart c.args.options.now (IsPage WAYS c.args.options.now) (page_good WAYS c.args.options.now) c.args.sprites.now
    p.sizes.items p.places.items are)

pub returns-clause-used : goal.returns-clause-used
returns-clause-used g c =
    both c.in_ok-found.found c.in_ok-found.ensures.pages c.in_ok-found.ensures.pages
    (λ p are same. pages_used c.args.options.now (IsPage WAYS c.args.options.now) (page_good WAYS c.args.options.now) c.args.sprites.now
    p.sizes.items p.places.items are)

pub returns-clause-greatest : goal.returns-clause-greatest
returns-clause-greatest g c =
    both c.in_ok-found.found c.in_ok-found.ensures.pages c.in_ok-found.ensures.pages
    (λ p are same. pages_greatest WAYS c.args.options.now c.args.sprites.now p.sizes.items p.places.items are)

pub returns-clause-known : goal.returns-clause-known
returns-clause-known g c =
    both c.in_ok-found.found c.in_ok-found.ensures.pages c.in_ok-found.ensures.pages
    (λ p are same. below_all (length p.sizes.items) p.places.items are.below)
