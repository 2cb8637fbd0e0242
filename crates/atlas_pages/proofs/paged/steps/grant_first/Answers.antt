use Rattle.std.proofs.Common.{◌∙◌, None, Ok, subst}
use Rattle.guillotiere.specs.Pages.{IsAnswerOn}
use Rattle.atlas_pages.proofs.PagedLemmas.{none_more}
use Rattle.atlas_pages.proofs.paged.steps.grant_first.Goals as goal

pub loop-page-preserved : goal.loop-page-preserved
loop-page-preserved g c =
    let was = c.loop-page.invariant in
    let is_none = c.is_nothing.ensures.0 c.if-not-is_nothing.false in
    record {
      none =
          none_more c.args.size c.args.pages.now.items c.loop-page.page was.none (
          subst (λ pages. IsAnswerOn pages c.loop-page.page c.args.size (Ok None)) was.stays
          (subst (IsAnswerOn c.loop-page.pages.items c.loop-page.page c.args.size) is_none c.grant_at-answer.ensures.answer)
          );
      stays = c.grant_at-answer.ensures.none is_none ∙ was.stays;
      end = was.end;
    }
