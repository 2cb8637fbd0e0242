use Rattle.atlas_search.specs.Numbers.{without}
use Rattle.atlas_search.proofs.Occurrences.{gone-from}
use Rattle.atlas_entries.proofs.recency.move_to_front.Goals as goal

pub push_front-requires-clause-unlisted : goal.push_front-requires-clause-unlisted
push_front-requires-clause-unlisted c =
    let w = c.requires.listed in
    (without c.args.at w.0, c.unlink.ensures.ring w.0 w.1 w.2, gone-from c.args.at w.0 w.2 (w.1.once c.args.at))

pub returns-clause-ring : goal.returns-clause-ring
returns-clause-ring c = λ xs h l.
    c.push_front.ensures.ring (without c.args.at xs) (c.unlink.ensures.ring xs h l) (gone-from c.args.at xs l (h.once c.args.at))
