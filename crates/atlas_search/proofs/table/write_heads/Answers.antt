use Rattle.std.proofs.Common.{sym, subst, ◌/◌, ◌%◌, arith, slice_index_or, ◌-◌, ◌∙◌}
use Rattle.atlas_search.specs.Tables.{IsTable}
use Rattle.atlas_search.proofs.SearchLemmas.FewHeads.{link_to, passed-next, written-begin, written-next}
use Rattle.atlas_search.proofs.SearchLemmas.TableHeads.{blank-table, marked-table, slot-is}
use Rattle.atlas_search.proofs.table.write_heads.Goals as goal

pub loop-i-init : goal.loop-i-init
loop-i-init g c = (
  omega arith,
  c.requires.blank ∙ sym (written-begin c.args.only.now c.told-only),
  subst (λ hs. IsTable hs c.args.marks.now 2704) (sym c.requires.blank) (blank-table c.args.marks.now c.requires.unmarked),
)

pub loop-i-preserved-then-list-lt-LISTS : goal.loop-i-preserved-then-list-lt-LISTS
loop-i-preserved-then-list-lt-LISTS g c =
    let l = c.loop-i in
    let k = slice_index_or c.args.only.now (l.i - 1) 0 in (
      omega (arith, l.invariant.0),
      written-next c.args.only.now l.i l.heads.items c.told-only l.invariant.0 c.loop-i-test.true l.invariant.1,
      marked-table l.heads.items l.marks 2704 k (link_to (l.i - 1)) l.invariant.2 c.if-list-lt-LISTS.true c.mark.new.self (k / 52) (k % 52)
          (omega arith) (omega arith) (slot-is (link_to (l.i - 1)) (λ e. omega (arith, e, l.invariant.0))) c.mark.ensures.this
          c.mark.ensures.others,
    )

pub loop-i-preserved : goal.loop-i-preserved
loop-i-preserved g c =
    let l = c.loop-i in (
      omega (arith, l.invariant.0),
      passed-next c.args.only.now l.i l.heads.items c.told-only l.invariant.0 c.loop-i-test.true l.invariant.1 c.if-list-lt-LISTS.false,
      l.invariant.2,
    )
