use Rattle.std.proofs.Common.{◌<◌, ◌∙◌, length, arith}
use Rattle.std.proofs.lemmas.List.{length-set}
use Rattle.atlas_pages.proofs.PagedLemmas.{later_stay, one_more_cleared, one_more_clears, size_kept}
use Rattle.atlas_pages.proofs.paged.steps.clear_all.Goals as goal

pub loop-page-preserved : goal.loop-page-preserved
loop-page-preserved g c =
    let was = c.loop-page.invariant in
    let pages = c.loop-page.pages in
    let page = c.loop-page.page in
    let at = c.index-pages-page.result in
    let cleared = c.clear_page in
    let within : page < length pages = omega (arith, was.same, c.loop-page-test.true) in
    record {
      each = one_more_clears pages page at cleared.new.page within c.args.pages.now cleared.ensures.step was.each was.rest;
      rest = later_stay pages page at cleared.new.page within c.args.pages.now was.rest;
      idle = one_more_cleared pages page at cleared.new.page within cleared.ensures.idle was.idle;
      same = length-set pages page cleared.new.page ∙ was.same;
      sizes = size_kept pages page at cleared.new.page within cleared.ensures.frame ∙ was.sizes;
    }
