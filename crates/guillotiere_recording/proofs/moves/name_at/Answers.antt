use Rattle.std.proofs.Common.{◌≡◌, ◌<◌, length, get_or, rules, ltb}
use Rattle.std.proofs.lemmas.List.Sorted.{IsPartitionPoint-from_clause, IsPartitionedBy-ltb}
use Rattle.guillotiere_recording.specs.declared.names.LiveName.{LiveName as Entry}
use Rattle.guillotiere_recording.proofs.FoundEntries.{placed_id, contains_there}
use Rattle.guillotiere_recording.proofs.moves.name_at.Goals as goal

-- Where the id stands.
found : (c : goal.After-partition_point-at)
    → (c.partition_point-at.result < length c.args.by_id.now)
    × ((d : Entry) → (get_or c.args.by_id.now c.partition_point-at.result d).id ≡ c.args.number)
found c =
    let ns = c.args.by_id.now in
    let at = c.partition_point-at.result in
    let parted = IsPartitionedBy-ltb (λ (n : Entry). n.id) ns c.args.number c.requires.sorted in
    let point = IsPartitionPoint-from_clause (λ (n : Entry). ltb n.id c.args.number) ns at c.partition_point-at.ensures.partitioned parted
    (λ a r q k. search rules) in
    placed_id ns at c.args.number c.requires.sorted c.requires.entered point

pub bounds-by_id-at : goal.bounds-by_id-at
bounds-by_id-at c = (found c).0

pub bounds-by_id-at-2 : goal.bounds-by_id-at-2
bounds-by_id-at-2 c = (found c).0

pub returns : goal.returns
returns c =
    let ns = c.args.by_id.now in
    let at = c.partition_point-at.result in
    let w = c.index-by_id-at.result in
    let parted = IsPartitionedBy-ltb (λ (n : Entry). n.id) ns c.args.number c.requires.sorted in
    let point = IsPartitionPoint-from_clause (λ (n : Entry). ltb n.id c.args.number) ns at c.partition_point-at.ensures.partitioned parted
    (λ a r q k. search rules) in
    let it = placed_id ns at c.args.number c.requires.sorted c.requires.entered point in
    contains_there ns at w c.args.number it.0 (it.1 w)
