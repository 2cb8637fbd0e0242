use Rattle.std.proofs.Common.{subst, arith}
use Rattle.std.proofs.lemmas.List.{take_all}
use Rattle.guillotiere_recording.specs.Kept.{HasEntries}
use Rattle.guillotiere_recording.proofs.KeptNames.{has_more}
use Rattle.guillotiere_recording.proofs.follow.map_names.Goals as goal

pub loop-entry-preserved : goal.loop-entry-preserved
loop-entry-preserved g c =
    has_more c.args.entries.now c.loop-entry.entry-index c.entry-item.result c.loop-entry.names c.insert.new.self c.requires
    c.loop-entry-test.true
    c.entry-item.is c.loop-entry.invariant c.in_ok-insert.ensures.updates

pub returns : goal.returns
returns g c =
    subst (λ es. HasEntries es c.loop-entry.names) (take_all c.loop-entry.entry-index c.args.entries.now
    (omega (arith, c.loop-entry-test.false)))
    c.loop-entry.invariant
