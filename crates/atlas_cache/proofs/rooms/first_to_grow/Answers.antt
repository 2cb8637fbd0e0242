use Rattle.std.proofs.Common.{◌≡◌, ◌∙◌, ap, slice_get, Some}
use Rattle.std.proofs.lemmas.Bool.{both_ways}
use Rattle.guillotiere.specs.Pages.{page_sizes}
use Rattle.atlas_cache.proofs.RoomLemmas.KeptPages.{size_read}
use Rattle.atlas_cache.proofs.rooms.first_to_grow.Goals as goal
use borrow.Author.Count.{below_more}

pub returns-then-not-is_largest-clause-here : goal.returns-then-not-is_largest-clause-here
returns-then-not-is_largest-clause-here g c =
    let page = c.index-pages-page in
    size_read _ _ page.result _ c.loop-page-test.true page.is c.size-size.ensures.size

pub loop-page-preserved : goal.loop-page-preserved
loop-page-preserved g c =
    let page = c.index-pages-page in
    let here = size_read _ _ page.result _ c.loop-page-test.true page.is c.size-size.ensures.size in
    let same = c.is_largest.ensures.0 c.if-not-is_largest.false in
    below_more (λ k. slice_get (page_sizes c.args.pages.now) k ≡ Some c.args.largest) c.loop-page.page
    c.loop-page.invariant (here ∙ ap Some same)

pub returns-then-not-is_largest-clause-smaller : goal.returns-then-not-is_largest-clause-smaller
returns-then-not-is_largest-clause-smaller g c = λ e. both_ways _ c.if-not-is_largest.true (c.is_largest.ensures.1 e)
