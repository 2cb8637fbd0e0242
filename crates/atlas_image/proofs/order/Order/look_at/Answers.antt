use Rattle.std.proofs.Common.{◌≡◌, ◌<◌, ◌∙◌, ◌+◌, true, false, arith, length, rules, subst, ap}
use Rattle.std.proofs.lemmas.Bool.{iff_false}
use Rattle.atlas_image.specs.Ranks.{IsEnqueued, blank_rank, firsts_of, numbers_in}
use Rattle.atlas_image.proofs.ImageLemmas.Noted.{first_moved}
use Rattle.atlas_image.proofs.ImageLemmas.Walking.{walk-container, walk-leaf}
use Rattle.atlas_search.specs.declared.link.Link.{Link}
use Rattle.atlas_image.proofs.order.Order.look_at.Goals as goal

pub returns-then-not-is_container-clause-walked : goal.returns-then-not-is_container-clause-walked
returns-then-not-is_container-clause-walked g c =
    let no : c.is_container.result ≡ false = search rules in
    let short : length c.args.nodes.now < blank_rank = omega (arith, c.requires.short) in
    walk-leaf c.args.nodes.now c.args.self.now.top c.args.self.now.firsts.items c.args.queue.now.items
    c.args.self.now.ranks.items c.args.place c.requires.walked c.requires.inside short c.index-at.result.now c.index-at.ensures
    c.node-member.result c.node-member.ensures c.enqueue.new.queue.items c.enqueue.new.self.ranks.items
    c.in_ok-enqueue.ensures.queued (iff_false c.is_container.ensures no)

pub returns-clause-walked : goal.returns-clause-walked
returns-clause-walked g c =
    let yes : c.is_container.result ≡ true = search rules in
    let short : length c.args.nodes.now < blank_rank = omega (arith, c.requires.short) in
    let at = c.index-at.result.now in
    let first : c.first-first.result.number ≡ firsts_of c.args.self.now.top c.args.self.now.firsts.items at.number =
    ap (λ (l : Link). l.number)
    (c.first-first.ensures ∙ first_moved c.args.self.now c.enqueue.new.self at.number c.enqueue.ensures.top c.enqueue.ensures.firsts) in
    walk-container c.args.nodes.now c.args.self.now.top c.args.self.now.firsts.items c.args.queue.now.items
    c.args.self.now.ranks.items c.args.place c.requires.walked c.requires.inside short c.index-at.result.now c.index-at.ensures
    c.node-member.result c.node-member.ensures c.enqueue.new.queue.items c.enqueue.new.self.ranks.items
    c.in_ok-enqueue.ensures.queued c.enqueue-2.new.queue.items c.enqueue-2.new.self.ranks.items (c.is_container.ensures.0 yes)
    (subst
    (λ v. IsEnqueued (numbers_in c.enqueue.new.queue.items) (numbers_in c.enqueue-2.new.queue.items)
    c.enqueue.new.self.ranks.items c.enqueue-2.new.self.ranks.items v (c.args.place + 1)) first c.in_ok-enqueue-2.ensures.queued)
