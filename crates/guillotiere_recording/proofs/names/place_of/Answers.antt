use Rattle.std.proofs.Common.{◌≡◌, ltb, get_or, arith, rules, ap, subst, ◌∙◌}
use Rattle.std.proofs.lemmas.List.{get_or_default}
use Rattle.std.proofs.lemmas.List.Sorted.{IsPartitionPoint-from_clause, IsPartitionedBy-ltb}
use Rattle.guillotiere_recording.specs.declared.names.LiveName.{LiveName as Entry}
use Rattle.guillotiere_recording.proofs.RisingNames.{rising_order, found_at}
use Rattle.guillotiere_recording.proofs.names.place_of.Goals as goal
use Rattle.guillotiere_recording.proofs.names.place_of.Goals.{else-at-names-via-then-at-names+else-names-at}
use Rattle.guillotiere_recording.proofs.names.place_of.Goals.{else-at-names-via-else-at-names}

-- src/names.rt:18:1
pub returns-else-at-names-clause-none : goal.returns-else-at-names-clause-none
returns-else-at-names-clause-none c =
    let ns = c.args.names.now in
    let at = c.partition_point-at.result in
    let parted = IsPartitionedBy-ltb (λ (n : Entry). n.name) ns c.args.name (rising_order ns c.requires) in
    let point = IsPartitionPoint-from_clause (λ (n : Entry). ltb n.name c.args.name) ns at c.partition_point-at.ensures.partitioned parted
    (λ a r q k. search rules) in
    λ k d below is.
    let same : k ≡ at = found_at ns at c.args.name c.requires point k d below is in
    let here : (get_or ns at d).name ≡ c.args.name = subst (λ j. (get_or ns j d).name ≡ c.args.name) same is in
    elim c.else-at-names.branch [
      | else-at-names-via-then-at-names+else-names-at w ↦ w.if-names-at.false
          (ap (λ (n : Entry). n.name) (get_or_default ns at w.index-names-at.result d w.if-at-names.true) ∙ here)
      | else-at-names-via-else-at-names w ↦ omega (arith, w.if-at-names, below, same)
    ]
