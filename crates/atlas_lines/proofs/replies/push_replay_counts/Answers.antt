use Rattle.std.proofs.Common.{codes}
use Rattle.atlas_lines.specs.Replies.{counted_text}
use Rattle.atlas_words.proofs.Decimals.{four_parts}
use Rattle.atlas_lines.proofs.replies.push_replay_counts.Goals as goal

pub returns-clause-text : goal.returns-clause-text
returns-clause-text g c =
    let n = c.args.counts in
    four_parts _ _ _ _ _ (counted_text (codes "replayed allocations ") n.allocations)
    (counted_text (codes " deallocations ") n.deallocations)
    (counted_text (codes " failed ") n.failed_allocations) (counted_text (codes " live ") n.live)
    c.push_counted.ensures.text c.push_counted-2.ensures.text c.push_counted-3.ensures.text c.push_counted-4.ensures.text
