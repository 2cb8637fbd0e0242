use Rattle.std.proofs.Common.{◌≡◌, false, arith, refl, rules}
use Rattle.std.proofs.lemmas.Bool.{iff_false}
use Rattle.atlas_image.proofs.ImageLemmas.Noted.{noting-inside, noting-none}
use Rattle.atlas_image.proofs.order.Order.note_first.Goals as goal

pub returns-then-not-is_used : goal.returns-then-not-is_used
returns-then-not-is_used g c =
    let no : c.is_used.result ≡ false = search rules in
    noting-none c.args.self.now c.args.member.now c.args.at (λ u p m. iff_false c.is_used.ensures no u)

pub returns-then-member : goal.returns-then-member
returns-then-member g c =
    noting-none c.args.self.now c.args.member.now c.args.at (λ u p m. c.if-member.true p)

pub returns : goal.returns
returns g c =
    noting-inside c.args.self.now _ c.args.member.now c.args.at (c.is_used.ensures.0 c.if-not-is_used.false) c.if-member.false
    refl c.if-member-2.false (omega (arith, c.if-parent-len.false, c.len.ensures, c.args.self.now.firsts.ok.0)) refl refl
