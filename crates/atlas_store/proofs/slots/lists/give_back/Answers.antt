use Rattle.std.proofs.Common.{refl}
use Rattle.atlas_store.proofs.StoreLemmas.TakenSlots.{given-by}
use Rattle.atlas_store.proofs.slots.lists.give_back.Goals as goal

pub returns-clause-filed : goal.returns-clause-filed
returns-clause-filed c = λ o lists p f h.
    given-by o c.args.slots.now _ lists c.args.unused.now c.args.at _ c.requires c.set_right.ensures.written c.set_right.ensures.same_nodes
    refl p f h
