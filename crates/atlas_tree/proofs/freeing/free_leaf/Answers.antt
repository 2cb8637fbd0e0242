use Rattle.std.proofs.Common.{arith, ◌<◌, length}
use Rattle.atlas_store.specs.Store.Holdings.{shelf_of, node_in}
use Rattle.atlas_store.proofs.StoreLemmas.Turns.{freeing-marked, freed-listed, detached-same, keeps-room}
use Rattle.atlas_tree.proofs.FreeingLemmas.{underway-then, underway-counted, underway-at, underway-few, underway-fewer}
use Rattle.atlas_tree.proofs.freeing.free_leaf.Goals as goal

pub loop-container-init : goal.loop-container-init
loop-container-init g c = record {
  freeing = λ h w. (
    _,
    freeing-marked (shelf_of c.args.store.now) (shelf_of c.mark.new.self) c.args.slot.number
        (node_in (shelf_of c.args.store.now) c.args.slot.number) h w (c.mark.ensures.kept h w.holds) c.mark.ensures.calm
        c.mark.ensures.free,
  );
  turns = omega (arith, c.mark.ensures.turns);
  room = c.mark.ensures.room;
}

pub join_neighbours-requires-clause-settling : goal.join_neighbours-requires-clause-settling
join_neighbours-requires-clause-settling g c =
    underway-at c.args.store.now c.loop-container.store _ _ _ c.requires c.loop-container.invariant

pub join_neighbours-requires-clause-few : goal.join_neighbours-requires-clause-few
join_neighbours-requires-clause-few g c =
    underway-few c.args.store.now c.loop-container.store _ _ _ c.requires c.loop-container.invariant

pub lift_lone-requires-clause-settling : goal.lift_lone-requires-clause-settling
lift_lone-requires-clause-settling g c =
    let joined = underway-counted c.args.store.now c.loop-container.store c.join_neighbours.new.store _ _ _ _ _ c.loop-container.invariant
    c.join_neighbours.ensures.turned c.join_neighbours.ensures.room in
    underway-at c.args.store.now c.join_neighbours.new.store _ _ _ c.requires joined

pub overflow_add-given : goal.overflow_add-given
overflow_add-given g c =
    let joined = underway-counted c.args.store.now c.loop-container.store c.join_neighbours.new.store _ _ _ _ _ c.loop-container.invariant
    c.join_neighbours.ensures.turned c.join_neighbours.ensures.room in
    omega (arith, underway-few c.args.store.now c.join_neighbours.new.store _ _ _ c.requires joined)

pub loop-container-smaller : goal.loop-container-smaller
loop-container-smaller g c =
    let joined = underway-counted c.args.store.now c.loop-container.store c.join_neighbours.new.store _ _ _ _ _ c.loop-container.invariant
    c.join_neighbours.ensures.turned c.join_neighbours.ensures.room in
    let lifted = underway-then c.args.store.now c.join_neighbours.new.store c.lift_lone.new.store _ _ _ _ _ joined c.in-Some.ensures.turned
    c.lift_lone.ensures.room in
    let fewer = underway-fewer c.args.store.now c.lift_lone.new.store _ _ _ c.requires lifted in
    let less : c.loop-container.given < length c.args.store.now.slots.items = omega (arith, fewer, c.join_neighbours.ensures.turned.1) in
    omega (arith, c.join_neighbours.ensures.turned.1)

pub loop-container-preserved : goal.loop-container-preserved
loop-container-preserved g c =
    let joined = underway-counted c.args.store.now c.loop-container.store c.join_neighbours.new.store _ _ _ _ _ c.loop-container.invariant
    c.join_neighbours.ensures.turned c.join_neighbours.ensures.room in
    underway-then c.args.store.now c.join_neighbours.new.store c.lift_lone.new.store _ _ _ _ _ joined c.in-Some.ensures.turned
    c.lift_lone.ensures.room

pub list-requires : goal.list-requires
list-requires g c =
    let joined = underway-counted c.args.store.now c.loop-container.store c.join_neighbours.new.store _ _ _ _ _ c.loop-container.invariant
    c.join_neighbours.ensures.turned c.join_neighbours.ensures.room in
    let t = underway-at c.args.store.now c.join_neighbours.new.store _ _ _ c.requires joined in (
      t.0,
      detached-same (shelf_of c.join_neighbours.new.store) (shelf_of c.lift_lone.new.store) _ t.0
          (c.lift_lone.ensures.settled c.in_default.is).same t.1,
    )

pub returns-clause-freed : goal.returns-clause-freed
returns-clause-freed g c =
    λ h w.
    let joined = underway-counted c.args.store.now c.loop-container.store c.join_neighbours.new.store _ _ _ _ _ c.loop-container.invariant
    c.join_neighbours.ensures.turned c.join_neighbours.ensures.room in
    let t = joined.freeing h w in
    let settled = c.lift_lone.ensures.settled c.in_default.is in
    let detached = detached-same (shelf_of c.join_neighbours.new.store) (shelf_of c.lift_lone.new.store) c.join_neighbours.result.0.number
    t.0 settled.same t.1.settling in
    let k = c.list.ensures.kept t.0 detached in (
      _,
      freed-listed (shelf_of c.args.store.now) (shelf_of c.join_neighbours.new.store) (shelf_of c.list.new.self) c.args.slot.number
          c.join_neighbours.result.0.number c.join_neighbours.result.1 h t.0 k.0 w t.1 (settled.normal t.0 t.1.settling) k.1,
    )

pub returns-clause-turns : goal.returns-clause-turns
returns-clause-turns g c =
    let joined = underway-counted c.args.store.now c.loop-container.store c.join_neighbours.new.store _ _ _ _ _ c.loop-container.invariant
    c.join_neighbours.ensures.turned c.join_neighbours.ensures.room in
    grind (arith, joined.turns)

pub returns-clause-room : goal.returns-clause-room
returns-clause-room g c = grind (arith, keeps-room)
