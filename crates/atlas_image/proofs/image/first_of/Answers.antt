use Rattle.std.proofs.Common.{◌≡◌, true, false, arith, rules, subst, sym}
use Rattle.std.proofs.lemmas.Bool.{both_ways, iff_false}
use Rattle.atlas_image.specs.Members.{IsFirstOf}
use Rattle.atlas_image.proofs.ImageLemmas.AcceptedTrees.{first-accepted, tree-accepted}
use Rattle.atlas_image.proofs.ImageLemmas.Joints.{imaged}
use Rattle.atlas_search.specs.Numbers.{no_slot}
use Rattle.atlas_store.proofs.SlotLemmas.JoinWrites.{none-unused}
use Rattle.atlas_image.proofs.image.first_of.Goals as goal

pub returns-then-not-is_first_of_all-clause-complete : goal.returns-then-not-is_first_of_all-clause-complete
returns-then-not-is_first_of_all-clause-complete g c = λ first im.
    let no : c.is_first_of_all.result ≡ false = search rules in
    iff_false c.is_first_of_all.ensures no (subst (λ n. IsFirstOf n no_slot) (sym c.node-first.ensures)
    (first-accepted c.args.nodes.now c.in_ok-order.order c.args.size c.args.options.now first.number im.tree.0 im.tree.1
    c.in_ok-order.ensures c.requires.positive (omega (arith, c.requires.short))))

pub returns-then-not-are_members-clause-complete : goal.returns-then-not-are_members-clause-complete
returns-then-not-are_members-clause-complete g c = λ first im.
    let no : c.are_members.result ≡ false = search rules in
    iff_false c.are_members.ensures no
    (tree-accepted c.args.nodes.now c.in_ok-order.order c.args.size c.args.options.now first.number im.tree.0 im.tree.1
    c.in_ok-order.ensures c.requires.positive (omega (arith, c.requires.short)))

pub returns-then-not-lined-clause-complete : goal.returns-then-not-lined-clause-complete
returns-then-not-lined-clause-complete g c = λ first im.
    let no : c.in_ok-lined.lined ≡ false = search rules in
    both_ways _ no (c.in_ok-lined.ensures.complete (omega (arith, c.requires.short)) im.line.0 im.line.1)

pub returns-clause-imaged : goal.returns-clause-imaged
returns-clause-imaged g c =
    let yes : c.is_first_of_all.result ≡ true = search rules in
    let members : c.are_members.result ≡ true = search rules in
    let first = subst (λ n. IsFirstOf n no_slot) c.node-first.ensures (c.is_first_of_all.ensures.0 yes) in
    record {
      tree = imaged c.args.nodes.now c.in_ok-order.order c.args.size c.args.options.now (c.are_members.ensures.0 members)
          (none-unused c.args.nodes.now (omega (arith, c.requires.short))) first.used first.previous first.parent
          c.requires.positive;
      line = c.in_ok-lined.ensures.sound (search rules);
    }
