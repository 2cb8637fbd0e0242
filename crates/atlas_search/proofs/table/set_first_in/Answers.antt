use Rattle.std.proofs.Common.{◌<◌, ◌∙◌, length, slice_set, ap, sym, arith}
use Rattle.std.proofs.lemmas.List.{length-set}
use Rattle.atlas_search.proofs.SearchLemmas.FewHeads.{kept-marks, long-heads, one-mark, own-marks, set-marks}
use Rattle.atlas_search.proofs.SearchLemmas.TableHeads.{first-emptied, is_slot, kept-mark, kept-table, later-emptied, no_slot-is, read-head}
use Rattle.atlas_search.proofs.SearchLemmas.TableHeads.{slot-is, unmarked-table}
use Rattle.atlas_search.proofs.table.set_first_in.Goals.{else-before-lt-LISTS-via-then-before-lt-LISTS+else-index}
use Rattle.atlas_search.proofs.table.set_first_in.Goals.{else-before-lt-LISTS-via-else-before-lt-LISTS}
use Rattle.atlas_search.proofs.table.set_first_in.Goals as goal

pub index_mut-requires : goal.index_mut-requires
index_mut-requires g c =
    let long = long-heads c.args.heads.now.items c.args.marks.now.items c.args.emptied.now c.requires.table c.requires.some in
    omega (arith, long, c.requires.number, c.args.heads.now.ok)

pub returns-then-first-ne-NO_SLOT-clause-table : goal.returns-then-first-ne-NO_SLOT-clause-table
returns-then-first-ne-NO_SLOT-clause-table g c =
    let heads = c.args.heads.now.items in
    let marks = c.args.marks.now.items in
    kept-marks heads marks c.args.emptied.now c.requires.table c.requires.some (slice_set heads c.args.number c.args.first)
    c.args.emptied.now
    (λ m is. kept-table heads m c.args.emptied.now c.args.number c.args.first is c.requires.number
    (slot-is c.args.first c.if-first-ne-NO_SLOT.true ∙ sym c.requires.used))

pub index-requires : goal.index-requires
index-requires g c =
    let long = long-heads c.args.heads.now.items c.args.marks.now.items c.args.emptied.now c.requires.table c.requires.some in
    omega (arith, long, c.if-before-lt-LISTS.true, c.args.heads.now.ok)

pub index_mut-requires-then-index : goal.index_mut-requires-then-index
index_mut-requires-then-index g c =
    let one = one-mark c.args.heads.now.items c.args.marks.now.items c.args.emptied.now c.requires.table c.requires.some in
    omega (arith, one, c.args.marks.now.ok)

pub returns-then-index-clause-table : goal.returns-then-index-clause-table
returns-then-index-clause-table g c =
    let heads = c.args.heads.now.items in
    let marks = c.args.marks.now.items in
    let emptied = c.args.emptied.now in
    let new = slice_set heads c.args.number c.args.first in
    let r = c.index_mut-then-index.result.now in
    let own = own-marks heads marks emptied c.requires.table c.requires.some r c.index_mut-then-index.ensures.value in
    let long = long-heads heads marks emptied c.requires.table c.requires.some in
    let inside : emptied < length new = omega (
      arith,
      c.if-before-lt-LISTS.true,
      long,
      length-set heads c.args.number c.args.first,
    ) in
    let read = read-head new emptied c.index.result.now inside c.index.ensures in
    let empty = ap is_slot (sym read) ∙ no_slot-is c.index.result.now c.if-index.true in
    set-marks heads marks emptied c.requires.table c.requires.some new c.unmark.new.self c.args.number
    (unmarked-table heads r emptied c.args.number c.args.first own c.requires.number c.requires.used c.if-emptied-number.true
    c.unmark.new.self empty c.unmark.ensures.this c.unmark.ensures.others)

pub returns-else-before-lt-LISTS-clause-table : goal.returns-else-before-lt-LISTS-clause-table
returns-else-before-lt-LISTS-clause-table g c =
    let heads = c.args.heads.now.items in
    let marks = c.args.marks.now.items in
    let emptied = c.args.emptied.now in
    let new = slice_set heads c.args.number c.args.first in
    let long = long-heads heads marks emptied c.requires.table c.requires.some in
    kept-marks heads marks emptied c.requires.table c.requires.some new c.args.number
    (λ m is. elim c.else-before-lt-LISTS.branch [
      | else-before-lt-LISTS-via-then-before-lt-LISTS+else-index w ↦
          let inside : emptied < length new = omega (
            arith,
            w.if-before-lt-LISTS.true,
            long,
            length-set heads c.args.number c.args.first,
          ) in
          let read = read-head new emptied w.index.result.now inside w.index.ensures in
          later-emptied heads m emptied c.args.number c.args.first is c.requires.number c.requires.used c.if-emptied-number.true
          (ap is_slot (sym read) ∙ slot-is w.index.result.now w.if-index.false)
      | else-before-lt-LISTS-via-else-before-lt-LISTS w ↦
          first-emptied heads m emptied c.args.number c.args.first is c.requires.number c.requires.used c.if-emptied-number.true
          w.if-before-lt-LISTS.false
    ])

pub returns-else-emptied-number-clause-table : goal.returns-else-emptied-number-clause-table
returns-else-emptied-number-clause-table g c =
    let heads = c.args.heads.now.items in
    let marks = c.args.marks.now.items in
    kept-marks heads marks c.args.emptied.now c.requires.table c.requires.some (slice_set heads c.args.number c.args.first)
    c.args.emptied.now
    (λ m is. kept-mark heads m c.args.emptied.now c.args.number c.args.first is c.requires.number c.if-emptied-number.false)
