use Rattle.std.proofs.Common.{sym, subst, ◌∙◌}
use Rattle.std.proofs.lemmas.Bool.{false≢true}
use Rattle.guillotiere_recording.specs.Kept.{HasEntries}
use Rattle.guillotiere_recording.specs.Moves.{AreEntered, IsMoved}
use Rattle.guillotiere_recording.specs.Names.{AreRisingNames}
use Rattle.guillotiere_recording.proofs.Rearranged.{all_entered, strictly, names_apart}
use Rattle.guillotiere_recording.proofs.follow.follow.Goals as goal

pub under_names-requires : goal.under_names-requires
under_names-requires g c =
    let r = c.requires in
    subst (λ es. AreEntered es c.args.list.now.changes.items c.args.list.now.failures.items) r.names
    (all_entered r.before r.new c.args.list.now r.asked r.kept r.step)

pub returns-then-not-are_equal-clause-fault : goal.returns-then-not-are_equal-clause-fault
returns-then-not-are_equal-clause-fault g c = record {
  moved = c.in-Ok.moved;
  is = c.in-Ok.ensures.moved;
  other = λ same. false≢true (sym c.if-not-are_equal.true ∙ c.are_equal.ensures.1 same);
}

pub map_names-requires : goal.map_names-requires
map_names-requires g c =
    let r = c.requires in
    let m = c.in-Ok.moved in
    let is = subst (λ es. IsMoved es c.args.list.now m) (sym r.names) c.in-Ok.ensures.moved in
    subst AreRisingNames (sym c.deref.ensures.value)
    (strictly m.names.items is.sorted (names_apart r.before r.new c.args.list.now m r.asked r.kept r.step is))

pub returns-clause-ok : goal.returns-clause-ok
returns-clause-ok g c = record {
  moved = c.in-Ok.moved;
  is = c.in-Ok.ensures.moved;
  same = c.are_equal.ensures.0 c.if-not-are_equal.false;
  has = subst (λ es. HasEntries es c.in_ok-map_names.field-0) c.deref.ensures.value c.in_ok-map_names.ensures;
}
