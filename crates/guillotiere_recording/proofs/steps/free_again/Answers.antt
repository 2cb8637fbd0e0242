use Rattle.std.proofs.Common.{◌≡◌, Some, None, nat_cmp, ap, sym, subst, ◌∙◌}
use Rattle.std.specs.BTreeMap.{get, Updates}
use Rattle.guillotiere_recording.proofs.ReplaySteps.{freed_on}
use Rattle.guillotiere_recording.proofs.steps.free_again.Goals as goal

pub returns-clause-ok : goal.returns-clause-ok
returns-clause-ok g c =
    let named = c.serialize.ensures in
    let found : get nat_cmp c.args.names.now c.args.name ≡ Some c.in-Some.id =
    ap (get nat_cmp c.args.names.now) (sym named) ∙ sym c.in-Some.ensures.value in
    let updates = subst (λ n. Updates nat_cmp c.args.names.now c.remove.new.self n None) named c.in-Some.ensures.updates in
    freed_on c.args.atlas.now c.deallocate.new.self c.args.names.now c.remove.new.self c.args.name c.in-Some.id found
    c.in_ok-deallocate.ensures.step updates
