use Rattle.std.proofs.Common.{◌+◌, ◌*◌, ◌<◌, ◌∙◌, inl, inr, slice_set, refl, sym, ap, arith}
use Rattle.atlas_search.proofs.SearchLemmas.FewHeads.{kept-marks, long-heads, own-marks, set-marks}
use Rattle.atlas_search.proofs.SearchLemmas.TableHeads.{is_slot, kept-mark, kept-table, marked-table, read-head, slot-is}
use Rattle.atlas_search.proofs.table.raise_in.Goals as goal

pub returns-then-emptied-list-clause-table : goal.returns-then-emptied-list-clause-table
returns-then-emptied-list-clause-table g c =
    let heads = c.args.heads.now.items in
    let marks = c.args.marks.now.items in
    let k = 52 * c.args.at.row + c.args.at.column in
    let below : k < 2704 = omega (arith, c.requires.row, c.requires.column) in
    let r = c.index_mut-then-emptied-list.result.now in
    let own = own-marks heads marks c.args.emptied c.requires.table c.requires.some r c.index_mut-then-emptied-list.ensures.value in
    set-marks heads marks c.args.emptied c.requires.table c.requires.some (slice_set heads k c.args.first) c.mark.new.self c.args.emptied
    (marked-table heads r c.args.emptied k c.args.first own below c.mark.new.self c.args.at.row c.args.at.column c.requires.column refl
    (slot-is c.args.first c.requires.slot) c.mark.ensures.this c.mark.ensures.others)

pub returns-else-before-clause-table : goal.returns-else-before-clause-table
returns-else-before-clause-table g c =
    let heads = c.args.heads.now.items in
    let marks = c.args.marks.now.items in
    let k = 52 * c.args.at.row + c.args.at.column in
    let below : k < 2704 = omega (arith, c.requires.row, c.requires.column) in
    let long = long-heads heads marks c.args.emptied c.requires.table c.requires.some in
    let read = read-head heads k c.index-before.result.now (omega (arith, long, below)) c.index-before.ensures in
    kept-marks heads marks c.args.emptied c.requires.table c.requires.some (slice_set heads k c.args.first) c.args.emptied
    (λ m is. elim c.else-before.either [
      | inl last ↦ kept-mark heads m c.args.emptied k c.args.first is below last.1
      | inr some ↦
          kept-table heads m c.args.emptied k c.args.first is below
          (slot-is c.args.first c.requires.slot ∙ sym (ap is_slot (sym read) ∙ slot-is c.index-before.result.now some))
    ])
