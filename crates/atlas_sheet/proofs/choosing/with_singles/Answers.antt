use Rattle.std.proofs.Common.{◌≡◌, ◌∙◌, ◌+◌, ◌-◌, ◌/◌, ap, arith, subst, sym}
use Rattle.atlas_sheet.specs.Grouping.{IsClosed, chosen_row}
use Rattle.atlas_sheet.proofs.GroupTakes.{singles_end, singles_less, singles_more}
use Rattle.atlas_sheet.proofs.choosing.with_singles.Goals as goal

pub loop-taken-preserved-in-Some : goal.loop-taken-preserved-in-Some
loop-taken-preserved-in-Some g c =
    let groups = c.args.groups.now in
    let so = c.loop-taken.invariant.singles in
    let many = c.loop-taken.taken + (c.loop-taken.refused - c.loop-taken.taken) / 2 in
    let whole_is = c.deref-in-loop-taken.ensures.value ∙ c.in_ok-whole.ensures.items ∙ c.deref.ensures.value in
    let closed : IsClosed groups c.in_ok-row.row.items =
    c.in_ok-row.ensures.closed (subst (IsClosed groups) (sym whole_is) c.requires.chosen.closed) in
    let row_is : c.in_ok-row.row.items ≡ chosen_row so.there many groups =
    c.in_ok-row.ensures.row so.there (c.deref-in-loop-taken.ensures.value ∙ so.whole_is) in
    let more_is : c.in-Some.more.row ≡ c.in_ok-row.row = rw c.in-Some.is at c.in_ok-more.ensures.row in
    record {
      chosen = (rw c.in-Some.is at c.in_ok-more.ensures.chosen) groups closed;
      below = omega (arith, c.loop-taken-test.true);
      inside = c.loop-taken.invariant.inside;
      singles = singles_more so many c.in-Some.more.row.items (ap (λ r. r.items) more_is ∙ row_is);
    }

pub loop-taken-preserved : goal.loop-taken-preserved
loop-taken-preserved g c =
    let groups = c.args.groups.now in
    let so = c.loop-taken.invariant.singles in
    let many = c.loop-taken.taken + (c.loop-taken.refused - c.loop-taken.taken) / 2 in
    let row_is : c.in_ok-row.row.items ≡ chosen_row so.there many groups =
    c.in_ok-row.ensures.row so.there (c.deref-in-loop-taken.ensures.value ∙ so.whole_is) in
    record {
      chosen = c.loop-taken.invariant.chosen;
      below = omega (arith, c.loop-taken-test.true);
      inside = omega (arith, c.loop-taken-test.true, c.loop-taken.invariant.inside);
      singles = singles_less so many c.in_ok-row.row.items row_is (rw c.in-None.is at c.in_ok-more.ensures.many);
    }

pub returns-clause-there : goal.returns-clause-there
returns-clause-there g c =
    singles_end c.loop-taken.invariant.singles c.loop-taken.invariant.below (omega (arith, c.loop-taken-test.false))
