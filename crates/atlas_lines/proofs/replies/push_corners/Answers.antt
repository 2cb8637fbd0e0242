use Rattle.std.proofs.Common.{◌≡◌, ◌++◌, arith}
use Rattle.std.proofs.lemmas.Int.{to_z-of_z}
use Rattle.atlas_lines.specs.Replies.{spaced_number}
use Rattle.atlas_words.proofs.Decimals.{four_parts}
use Rattle.atlas_lines.proofs.replies.push_corners.Goals as goal

pub returns-clause-text : goal.returns-clause-text
returns-clause-text g c =
    let r = c.args.rectangle in
    let a : c.push_spaced.new.text ≡ c.args.text.now ++ spaced_number r.min.x = grind (arith, to_z-of_z) in
    let b : c.push_spaced-2.new.text ≡ c.push_spaced.new.text ++ spaced_number r.min.y = grind (arith, to_z-of_z) in
    let d : c.push_spaced-3.new.text ≡ c.push_spaced-2.new.text ++ spaced_number r.max.x = grind (arith, to_z-of_z) in
    let e : c.push_spaced-4.new.text ≡ c.push_spaced-3.new.text ++ spaced_number r.max.y = grind (arith, to_z-of_z) in
    four_parts _ _ _ _ _ (spaced_number r.min.x) (spaced_number r.min.y) (spaced_number r.max.x) (spaced_number r.max.y) a b d e
