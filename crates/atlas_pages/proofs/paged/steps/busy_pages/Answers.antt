use Rattle.std.proofs.Common.{◌<◌, length, arith, subst, sym}
use Rattle.atlas_pages.specs.Paged.{IsIdle}
use Rattle.atlas_pages.proofs.PagedLemmas.{last_busy, one_more_idle}
use Rattle.atlas_pages.proofs.paged.steps.busy_pages.Goals as goal
use Rattle.atlas_pages.proofs.paged.steps.busy_pages.Goals.{then-not-is_empty, else-not-is_empty}

pub loop-page-preserved : goal.loop-page-preserved
loop-page-preserved g c =
    let was = c.loop-page.invariant in
    let pages = c.args.pages.now in
    let page = c.loop-page.page in
    let at = c.index-pages-page in
    let within : page < length pages = c.loop-page-test.true in
    elim c.if-not-is_empty.branch [
      | then-not-is_empty w ↦
          rw w.busy-is (record {
            few = omega arith;
            idle = λ k s least below there. absurd (omega (arith, least, below));
            last = last_busy pages page at.result within
                (λ idle. let yes = c.is_empty.ensures.empty.1 (subst IsIdle (sym at.is) idle) in let no = w.if-not-is_empty in cc);
          })
      | else-not-is_empty w ↦
          rw w.busy-is (record {
            few = omega (arith, was.few);
            idle =
                one_more_idle pages page at.result within c.loop-page.busy
                (subst IsIdle at.is (c.is_empty.ensures.empty.0 w.if-not-is_empty.false)) was.idle;
            last = was.last;
          })
    ]

pub returns-clause-idle : goal.returns-clause-idle
returns-clause-idle g c = λ k s least below there. c.loop-page.invariant.idle k s least (omega (arith, below, c.loop-page-test.false)) there
