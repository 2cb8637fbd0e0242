use Rattle.std.proofs.Common.{rules}
use Rattle.std.proofs.lemmas.List.Sorted.{answers_always}
use Rattle.guillotiere.specs.Stored as stored
use Rattle.atlas_lines.proofs.Lists.{corner_key, holes_listed}
use Rattle.atlas_lines.proofs.atlas_calls.ordered_holes.Goals as goal

pub returns-clause-list : goal.returns-clause-list
returns-clause-list g c =
    holes_listed (stored.state_of c.args.atlas.now) _ c.sort_by_key.new.self.items c.in_ok-areas.ensures.list
    c.sort_by_key.ensures.permutation
    (c.in_ok-sort_by_key.ensures.sorted corner_key (answers_always _ _ _ (λ f a r h called. search rules)))
