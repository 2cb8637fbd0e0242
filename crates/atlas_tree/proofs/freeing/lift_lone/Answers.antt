use Rattle.std.proofs.Common.{◌≡◌, refl, arith}
use Rattle.atlas_search.specs.Numbers.{no_slot}
use Rattle.atlas_store.specs.Store.Holdings.{shelf_of}
use Rattle.atlas_store.proofs.StoreLemmas.Turns.{settling-lifted, settled-at}
use Rattle.atlas_tree.proofs.freeing.lift_lone.Goals as goal
use Rattle.atlas_tree.proofs.freeing.lift_lone.Goals.{else-node-via-then-node+then-node-2+else-node-3, else-node-via-then-node+else-node-2}
use Rattle.atlas_tree.proofs.freeing.lift_lone.Goals.{else-node-via-else-node}

pub returns-then-node-3-clause-turned : goal.returns-then-node-3-clause-turned
returns-then-node-3-clause-turned g c =
    record {
      turned = λ h s.
          settling-lifted (shelf_of c.args.store.now) (shelf_of c.lift.new.self) c.lift.result.number c.args.at.number h s
          (c.lift.ensures.kept h s.leaf) c.lift.ensures.room.slots (c.lift.ensures.calm s.calm) c.lift.ensures.free;
      counted = c.lift.ensures.turns;
    }

pub returns-clause-settled : goal.returns-clause-settled
returns-clause-settled g c =
    let alone : c.node-node.result.previous.number ≡ no_slot → c.node-node.result.next.number ≡ no_slot →
    c.node-node.result.parent.number ≡ no_slot = elim c.else-node.branch [
      | else-node-via-then-node+then-node-2+else-node-3 w ↦ λ b a. omega arith
      | else-node-via-then-node+else-node-2 w ↦ λ b a. omega arith
      | else-node-via-else-node w ↦ λ b a. omega arith
    ] in
    λ _. record {
      normal = λ h w. settled-at (shelf_of c.args.store.now) c.args.at.number c.node-node.result h c.node-node.ensures w c.requires.apart
          alone;
      same = refl;
      uncounted = refl;
    }
