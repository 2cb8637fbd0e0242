use Rattle.std.proofs.Common.{refl, inl, inr}
use Rattle.atlas_store.proofs.StoreLemmas.ListedSlots.{recent-left}
use Rattle.atlas_store.proofs.slots.lists.Recent.forget.Goals as goal

pub returns-then-self-at : goal.returns-then-self-at
returns-then-self-at c free_lists =
    recent-left c.args.self.now _ free_lists c.args.at.number (inl (c.if-self-at.true, refl))

pub returns-else-self-at : goal.returns-else-self-at
returns-else-self-at c free_lists =
    recent-left c.args.self.now _ free_lists c.args.at.number (inr (c.if-self-at.false, refl))
