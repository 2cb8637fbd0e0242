use Rattle.std.proofs.Common.{refl, inl}
use Rattle.atlas_store.proofs.StoreLemmas.ListedSlots.{recent-in}
use Rattle.atlas_store.proofs.slots.lists.Recent.in_list.Goals as goal

pub returns-then-self-list : goal.returns-then-self-list
returns-then-self-list c free_lists =
    recent-in c.args.self.now c.args.self.now.at free_lists c.args.list (inl (c.if-self-list.true, refl))
