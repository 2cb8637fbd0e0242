use Rattle.std.proofs.Common.{◌<◌, ◌∙◌, Some, ap, length, rules, sym}
use Rattle.std.proofs.lemmas.List.Sorted.{answers_always}
use Rattle.atlas_cache.specs.Relocating.{former_id}
use Rattle.atlas_cache.proofs.IdOrderLemmas.{found-at, found-none}
use Rattle.atlas_cache.proofs.cache.repacking.change_for.Goals as goal

pub returns-in-Ok : goal.returns-in-Ok
returns-in-Ok c =
    let facts = c.binary_search_by_key.ensures in
    let placed = facts.position former_id (answers_always _ _ _ (λ f a r h called. search rules)) in
    let within : c.in-Ok.at < length c.args.changes.now = rw c.in-Ok.is at facts.bound in
    let equal = rw (c.in-Ok.is, c.serialize.ensures) at placed in
    ap Some c.index-changes-at.is ∙ sym (found-at c.args.changes.now c.requires c.args.id c.in-Ok.at c.index-changes-at.result within
    (equal c.index-changes-at.result))

pub returns-in-Err : goal.returns-in-Err
returns-in-Err c =
    let facts = c.binary_search_by_key.ensures in
    let placed = facts.position former_id (answers_always _ _ _ (λ f a r h called. search rules)) in
    let parts = rw (c.in-Err.is, c.serialize.ensures) at placed in
    sym (found-none c.args.changes.now c.requires c.args.id _ parts)
