use Rattle.std.proofs.Common.{arith}
use Rattle.atlas_store.specs.Store.Holdings.{shelf_of}
use Rattle.atlas_tree.proofs.PlanLemmas.LastMembers.{members-begin, members-go_on, members-end, members-fall, member-inside}
use Rattle.atlas_tree.proofs.growth.last_member.Goals as goal

pub loop-next-init : goal.loop-next-init
loop-next-init g c = λ h size t.
    rw c.node.ensures (members-begin (shelf_of c.args.store.now) size c.args.first.number h t)

pub node-requires-in-loop-next : goal.node-requires-in-loop-next
node-requires-in-loop-next g c = grind (arith, member-inside)

pub loop-next-smaller : goal.loop-next-smaller
loop-next-smaller g c = grind (arith, members-fall)

pub loop-next-preserved : goal.loop-next-preserved
loop-next-preserved g c = grind (arith, members-go_on)

pub returns : goal.returns
returns g c = grind (arith, members-end)
