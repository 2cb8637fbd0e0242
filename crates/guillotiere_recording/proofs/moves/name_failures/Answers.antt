use Rattle.std.proofs.Common.{◌∙◌, ap, ap₂, sym, subst, ◌≤◌, ◌++◌, ◌∷◌, [], get_or}
use Rattle.std.proofs.lemmas.List.{map_more}
use Rattle.guillotiere.specs.declared.Allocation.{Allocation}
use Rattle.guillotiere_recording.specs.Names.{entries_of, name_among}
use Rattle.guillotiere_recording.specs.Moves.{failure_under}
use Rattle.guillotiere_recording.proofs.FoundEntries.{named_so}
use Rattle.guillotiere_recording.proofs.MoveSteps.{failure_named}
use Rattle.guillotiere_recording.proofs.moves.name_failures.Goals as goal

pub name_at-name-requires-clause-entered : goal.name_at-name-requires-clause-entered
name_at-name-requires-clause-entered g c =
    subst (λ n. 1 ≤ entries_of n c.args.by_id.now) (sym (c.serialize.ensures ∙ ap (λ (x : Allocation). x.id) c.failure-item.is))
    (c.requires.entered c.loop-failure.failure-index c.failure-item.result c.loop-failure-test.true)

pub loop-failure-preserved : goal.loop-failure-preserved
loop-failure-preserved g c =
    let f = name_among c.args.by_id.now in
    let x = get_or c.args.failures.now c.loop-failure.failure-index c.failure-item.result in
    let names = named_so c.args.by_id.now c.name_at-name.result c.serialize.result x.id c.requires.once
    (c.serialize.ensures ∙ ap (λ (y : Allocation). y.id) c.failure-item.is) c.name_at-name.ensures in
    let pushed = failure_named x c.failure-item.result c.under_name.result c.name_at-name.result f c.failure-item.is names
    c.under_name.ensures in
    c.in_ok-push.ensures.items ∙ ap₂ (λ ys y. ys ++ y ∷ []) c.loop-failure.invariant pushed
    ∙ sym (map_more (failure_under f) c.args.failures.now c.loop-failure.failure-index c.failure-item.result c.loop-failure-test.true)
