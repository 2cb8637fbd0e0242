use Rattle.std.proofs.Common.{◌≡◌, ◌∙◌, true, false, ap, inl, inr, refl, rules}
use Rattle.std.proofs.lemmas.Bool.{iff_false}
use Rattle.atlas_image.specs.Ranks.{numbers_in}
use Rattle.atlas_image.proofs.ImageLemmas.Walking.{numbers-push}
use Rattle.atlas_image.proofs.order.Order.enqueue.Goals as goal

pub returns-then-not-lacks_rank-clause-queued : goal.returns-then-not-lacks_rank-clause-queued
returns-then-not-lacks_rank-clause-queued g c =
    let had : c.lacks_rank.result ≡ false = search rules in
    inr (record { had = iff_false c.lacks_rank.ensures had; queue = refl; ranks = refl })

pub returns-clause-queued : goal.returns-clause-queued
returns-clause-queued g c =
    let lacked : c.lacks_rank.result ≡ true = search rules in
    inl (record {
      lacked = c.lacks_rank.ensures.0 lacked;
      queue = ap numbers_in c.in_ok-push.ensures.items ∙ numbers-push c.args.queue.now.items c.args.at;
      ranks = refl;
    })
