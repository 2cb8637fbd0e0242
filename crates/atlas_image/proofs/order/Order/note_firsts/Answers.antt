use Rattle.std.proofs.Common.{◌≡◌, ◌∙◌, arith, refl, subst}
use Rattle.atlas_image.specs.Ranks.{AreNoted, IsNoting}
use Rattle.atlas_image.proofs.ImageLemmas.Noted.{noted-more, noted-none}
use Rattle.atlas_search.specs.declared.link.Link.{Link}
use Rattle.atlas_image.proofs.order.Order.note_firsts.Goals as goal

pub loop-number-init : goal.loop-number-init
loop-number-init g c =
    record { noted = noted-none c.args.nodes.now c.args.self.now; long = c.requires.long; ranks = refl }

pub loop-number-preserved : goal.loop-number-preserved
loop-number-preserved g c =
    let was = c.loop-number.invariant in
    let step = c.note_first.ensures in
    let old = c.loop-number.self in
    let new = c.note_first.new.self in
    let at : Link = record { number = c.loop-number.number } in
    record {
      noted = noted-more c.args.nodes.now old new c.loop-number.number at refl was.long
          (subst (λ n. IsNoting old new n at) c.node-member.ensures step) was.noted;
      long = step.long ∙ was.long;
      ranks = step.ranks ∙ was.ranks;
    }

pub returns-clause-noted : goal.returns-clause-noted
returns-clause-noted g c =
    let all : c.loop-number.number ≡ _ = omega arith in
    subst (AreNoted c.args.nodes.now c.loop-number.self) all c.loop-number.invariant.noted
