use Rattle.std.proofs.Common.{List, rules, subst}
use Rattle.atlas_pack.specs.declared.sprites.Sprite.{Sprite}
use Rattle.atlas_pack.specs.Jobs.{IsJobFault}
use Rattle.atlas_pack.specs.Names.{IsNameFault}
use Rattle.atlas_pack.proofs.Faults.{name_fault}
use Rattle.atlas_pack.proofs.job.read_job.Goals as goal

pub returns-in_err-check_names-clause-fault : goal.returns-in_err-check_names-clause-fault
returns-in_err-check_names-clause-fault c =
    let e = c.in_err-check_names.field-0.0 in
    let named = subst (λ (s : List Sprite). IsNameFault c.in_ok-settings.before s e) c.deref.ensures.value
    c.in_err-check_names.ensures.fault in
    let fault : IsJobFault c.args.text.now e =
    name_fault e _ _ _ _ _ c.in_ok-settings.ensures.set c.in_ok-sprites.ensures.named named in
    search (rules, fault)
