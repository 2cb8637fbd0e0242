use Rattle.std.proofs.Common.{◌+◌, arith}
use Rattle.atlas_tree.proofs.FreeingLemmas.{AreTurnsTo, turns-none, turn-then}
use Rattle.atlas_tree.proofs.freeing.join_neighbours.Goals as goal
use Rattle.atlas_tree.proofs.freeing.join_neighbours.Goals.{then-join_next, else-join_next}

pub join_previous-requires-clause-settling : goal.join_previous-requires-clause-settling
join_previous-requires-clause-settling g c =
    let t = c.requires.settling in
    let first : AreTurnsTo c.args.store.now c.join_next.new.store c.args.at.number c.args.at.number c.args.given c.if-join_next.all =
    elim c.if-join_next.branch [
      | then-join_next w ↦ (1, w.all-is, c.join_next.ensures.turned w.if-join_next.true)
      | else-join_next w ↦ turns-none c.args.store.now c.join_next.new.store _ _ _ (c.join_next.ensures.same w.if-join_next.false) w.all-is
    ] in
    let r = first.2.turned t.0 t.1 in
    (r.0, r.1)

pub returns-in-Some-clause-turned : goal.returns-in-Some-clause-turned
returns-in-Some-clause-turned g c =
    let first : AreTurnsTo c.args.store.now c.join_next.new.store c.args.at.number c.args.at.number c.args.given c.if-join_next.all =
    elim c.if-join_next.branch [
      | then-join_next w ↦ (1, w.all-is, c.join_next.ensures.turned w.if-join_next.true)
      | else-join_next w ↦ turns-none c.args.store.now c.join_next.new.store _ _ _ (c.join_next.ensures.same w.if-join_next.false) w.all-is
    ] in (
      first.0 + 1,
      omega (arith, first.1),
      turn-then c.args.store.now c.join_next.new.store c.join_previous.new.store _ _ _ first.0 1 first.2
          c.in-Some.ensures.turned,
    )

pub returns-clause-turned : goal.returns-clause-turned
returns-clause-turned g c =
    let first : AreTurnsTo c.args.store.now c.join_next.new.store c.args.at.number c.args.at.number c.args.given c.if-join_next.all =
    elim c.if-join_next.branch [
      | then-join_next w ↦ (1, w.all-is, c.join_next.ensures.turned w.if-join_next.true)
      | else-join_next w ↦ turns-none c.args.store.now c.join_next.new.store _ _ _ (c.join_next.ensures.same w.if-join_next.false) w.all-is
    ] in
    (first.0, first.1, rw (c.join_previous.ensures.same c.in_default.is) first.2)
