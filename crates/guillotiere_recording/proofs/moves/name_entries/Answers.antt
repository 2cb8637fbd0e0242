use Rattle.std.proofs.Common.{◌∙◌, ap, ap₂, sym, subst, ◌≤◌, ◌++◌, ◌∷◌, [], get_or}
use Rattle.std.proofs.lemmas.List.{map_more}
use Rattle.guillotiere.specs.declared.Change.{Change}
use Rattle.guillotiere_recording.specs.Names.{entries_of, name_among}
use Rattle.guillotiere_recording.specs.Moves.{entry_under}
use Rattle.guillotiere_recording.proofs.FoundEntries.{named_so}
use Rattle.guillotiere_recording.proofs.MoveSteps.{entry_named}
use Rattle.guillotiere_recording.proofs.moves.name_entries.Goals as goal

pub name_at-name-requires-clause-entered : goal.name_at-name-requires-clause-entered
name_at-name-requires-clause-entered g c =
    subst (λ n. 1 ≤ entries_of n c.args.by_id.now) (sym (c.serialize.ensures ∙ ap (λ (x : Change). x.old.id) c.change-item.is))
    (c.requires.entered c.loop-change.change-index c.change-item.result c.loop-change-test.true)

pub loop-change-preserved : goal.loop-change-preserved
loop-change-preserved g c =
    let f = name_among c.args.by_id.now in
    let x = get_or c.args.changes.now c.loop-change.change-index c.change-item.result in
    let names = named_so c.args.by_id.now c.name_at-name.result c.serialize.result x.old.id c.requires.once
    (c.serialize.ensures ∙ ap (λ (y : Change). y.old.id) c.change-item.is) c.name_at-name.ensures in
    let pushed = entry_named x c.change-item.result c.name_at-name.result f c.change-item.is names in
    c.in_ok-push.ensures.items ∙ ap₂ (λ ys y. ys ++ y ∷ []) c.loop-change.invariant pushed
    ∙ sym (map_more (entry_under f) c.args.changes.now c.loop-change.change-index c.change-item.result c.loop-change-test.true)
