use Rattle.std.proofs.Common.{◌+◌, ap, ◌∙◌, refl, sym}
use Rattle.std.proofs.lemmas.Bool.{true≢false}
use Rattle.atlas_store.specs.declared.slots.Node.{Node}
use Rattle.atlas_store.specs.declared.store.turns.Turns.{Turns}
use Rattle.atlas_store.specs.Store.Holdings.{shelf_of}
use Rattle.atlas_store.proofs.StoreLemmas.Turns.{previous-inside, previous-listed}
use Rattle.atlas_tree.proofs.FreeingLemmas.{ready-previous, askable, next-free, join-turned, join-apart}
use Rattle.atlas_tree.proofs.freeing.join_previous.Goals as goal

pub is_free-requires-clause-slot : goal.is_free-requires-clause-slot
is_free-requires-clause-slot g c =
    previous-inside (shelf_of c.args.store.now) c.args.at.number _ _ c.requires.settling c.node.ensures refl

pub unlist-requires-clause-ready : goal.unlist-requires-clause-ready
unlist-requires-clause-ready g c =
    let t = c.requires.settling in
    let e = ap (λ (n : Node). n.previous.number) c.node.ensures in (
      t.0,
      t.1.leaf.holds,
      previous-listed (shelf_of c.args.store.now) c.args.at.number c.node.result.previous.number t.0 t.1 e
          (c.is_free.ensures.0 c.if-is_free.true),
    )

pub join-requires-clause-ready : goal.join-requires-clause-ready
join-requires-clause-ready g c =
    let t = c.requires.settling in
    let e = ap (λ (n : Node). n.previous.number) c.node.ensures in
    let r = ready-previous c.args.store.now c.unlist.new.self c.args.at.number c.node.result.previous.number t.0 c.unlist.ensures t.1 e
    (c.is_free.ensures.0 c.if-is_free.true) in
    askable _ _ _ _ _ r.0 r.1

pub returns-then-is_free-clause-turned : goal.returns-then-is_free-clause-turned
returns-then-is_free-clause-turned g c =
    let e = ap (λ (n : Node). n.previous.number) c.node.ensures in
    record {
      turned = λ h s.
          let r = ready-previous c.args.store.now c.unlist.new.self c.args.at.number c.node.result.previous.number h c.unlist.ensures s e
          (c.is_free.ensures.0 c.if-is_free.true) in
          join-turned c.unlist.new.self c.join.new.self _ _ _ h r.0 r.1 c.join.ensures;
      counted = c.join.ensures.turns ∙ ap (λ (t : Turns). t.count + 1) c.unlist.ensures.takes.turns;
    }

pub join-requires-clause-next_free : goal.join-requires-clause-next_free
join-requires-clause-next_free g c =
    let t = c.requires.settling in
    let e = ap (λ (n : Node). n.previous.number) c.node.ensures in
    let r = ready-previous c.args.store.now c.unlist.new.self c.args.at.number c.node.result.previous.number t.0 c.unlist.ensures t.1 e
    (c.is_free.ensures.0 c.if-is_free.true) in
    next-free _ _ _ _ _ r.0 r.1

pub returns-then-is_free-clause-apart : goal.returns-then-is_free-clause-apart
returns-then-is_free-clause-apart g c =
    let t = c.requires.settling in
    let e = ap (λ (n : Node). n.previous.number) c.node.ensures in
    let r = ready-previous c.args.store.now c.unlist.new.self c.args.at.number c.node.result.previous.number t.0 c.unlist.ensures t.1 e
    (c.is_free.ensures.0 c.if-is_free.true) in
    join-apart c.args.store.now c.unlist.new.self c.join.new.self _ _ t.0 r.0 c.unlist.ensures r.1 c.requires.apart c.join.ensures

pub returns-clause-alone : goal.returns-clause-alone
returns-clause-alone g c =
    λ _. record {
      next = c.requires.apart;
      previous = λ f. true≢false (sym (c.is_free.ensures.1 (rw c.node.ensures f)) ∙ c.if-is_free.false);
    }
