use Rattle.std.proofs.Common.{ap, ◌∙◌, arith}
use Rattle.std.proofs.lemmas.List.{take_all}
use Rattle.guillotiere.specs.FreeBoxes.FreeEntries.{free_entry_areas}
use Rattle.guillotiere.proofs.SimpleLemmas.ImagedBoxes.{entries-left, entries-taken}
use Rattle.guillotiere.proofs.simple.image.free_entry_areas.Goals as goal
use Rattle.guillotiere.proofs.simple.image.free_entry_areas.Goals.{then-is_free+in_ok-push, else-is_free}

pub loop-entry-preserved : goal.loop-entry-preserved
loop-entry-preserved g c = elim c.if-is_free.branch [
  | then-is_free+in_ok-push w ↦
      let e = entries-taken c.args.entries.now c.loop-entry.entry-index _ _ c.is_free.ensures w.if-is_free.true c.loop-entry-test.true in
      rw w.areas-is (grind (arith, e, c.loop-entry.invariant, w.in_ok-push.ensures.items))
  | else-is_free w ↦
      let e = entries-left c.args.entries.now c.loop-entry.entry-index _ _ c.is_free.ensures w.if-is_free.false c.loop-entry-test.true in
      rw w.areas-is (grind (arith, e, c.loop-entry.invariant))
]

pub returns : goal.returns
returns g c =
    c.loop-entry.invariant ∙ ap free_entry_areas (take_all c.loop-entry.entry-index c.args.entries.now c.loop-entry-test.false)
