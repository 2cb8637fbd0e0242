use Rattle.std.proofs.Common.{◌+◌, ap, ◌∙◌, refl}
use Rattle.atlas_store.specs.declared.slots.Node.{Node}
use Rattle.atlas_store.specs.declared.store.turns.Turns.{Turns}
use Rattle.atlas_store.specs.Store.Holdings.{shelf_of}
use Rattle.atlas_store.proofs.StoreLemmas.Turns.{next-inside, next-listed}
use Rattle.atlas_tree.proofs.FreeingLemmas.{ready-next, askable, join-turned, join-apart_next}
use Rattle.atlas_tree.proofs.freeing.join_next.Goals as goal

pub is_free-requires-clause-slot : goal.is_free-requires-clause-slot
is_free-requires-clause-slot g c =
    next-inside (shelf_of c.args.store.now) c.args.at.number _ _ c.requires c.node.ensures refl

pub unlist-requires-clause-ready : goal.unlist-requires-clause-ready
unlist-requires-clause-ready g c =
    let t = c.requires in
    let e = ap (λ (n : Node). n.next.number) c.node.ensures in (
      t.0,
      t.1.leaf.holds,
      next-listed (shelf_of c.args.store.now) c.args.at.number c.node.result.next.number t.0 t.1 e
          (c.is_free.ensures.0 c.if-is_free.true),
    )

pub join-requires-clause-ready : goal.join-requires-clause-ready
join-requires-clause-ready g c =
    let t = c.requires in
    let e = ap (λ (n : Node). n.next.number) c.node.ensures in
    let r = ready-next c.args.store.now c.unlist.new.self c.args.at.number c.node.result.next.number t.0 c.unlist.ensures t.1 e
    (c.is_free.ensures.0 c.if-is_free.true) in
    askable _ _ _ _ _ r.0 r.1

pub returns-then-is_free-clause-turned : goal.returns-then-is_free-clause-turned
returns-then-is_free-clause-turned g c =
    let e = ap (λ (n : Node). n.next.number) c.node.ensures in
    λ _. record {
      turned = λ h s.
          let r = ready-next c.args.store.now c.unlist.new.self c.args.at.number c.node.result.next.number h c.unlist.ensures s e
          (c.is_free.ensures.0 c.if-is_free.true) in
          join-turned c.unlist.new.self c.join.new.self _ _ _ h r.0 r.1 c.join.ensures;
      counted = c.join.ensures.turns ∙ ap (λ (t : Turns). t.count + 1) c.unlist.ensures.takes.turns;
    }

pub returns-then-is_free-clause-apart : goal.returns-then-is_free-clause-apart
returns-then-is_free-clause-apart g c =
    let t = c.requires in
    let e = ap (λ (n : Node). n.next.number) c.node.ensures in
    let r = ready-next c.args.store.now c.unlist.new.self c.args.at.number c.node.result.next.number t.0 c.unlist.ensures t.1 e
    (c.is_free.ensures.0 c.if-is_free.true) in
    join-apart_next c.unlist.new.self c.join.new.self _ _ t.0 r.0 r.1 c.join.ensures
