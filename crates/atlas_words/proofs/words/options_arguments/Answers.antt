use Rattle.std.proofs.Common.{◌≡◌, arith}
use mir.Val.{to_z, of_z}
use Rattle.std.specs.Int.{w32}
use Rattle.std.proofs.lemmas.Int.{to_z-of_z}
use Rattle.atlas_words.proofs.PartedWords.{options_begin, options_rest, options_found, same_options_read}
use Rattle.atlas_words.proofs.words.options_arguments.Goals as goal

pub returns-in_err-alignment-clause-only : goal.returns-in_err-alignment-clause-only
returns-in_err-alignment-clause-only c options spells =
    let begins = options_begin options _ spells in
    absurd (c.in_err-alignment.ensures.only options.alignment begins.0 begins.1)

pub returns-in_err-thresholds-clause-only : goal.returns-in_err-thresholds-clause-only
returns-in_err-thresholds-clause-only c options spells =
    let begins = options_begin options _ spells in
    let is = c.in_ok-alignment.ensures.only options.alignment begins.0 begins.1 in
    let read = c.in_err-thresholds.ensures.only _ (options_rest options _ _ is.1 begins.2) in
    absurd (cc)

pub returns-clause-found : goal.returns-clause-found
returns-clause-found c =
    let t = c.in_ok-thresholds.thresholds in
    let small : t.width ≡ to_z w32 (of_z w32 t.width) = grind (arith, to_z-of_z) in
    let large : t.height ≡ to_z w32 (of_z w32 t.height) = grind (arith, to_z-of_z) in
    options_found c.in_ok-alignment.alignment t _ _ _ _ small large c.in_ok-alignment.ensures.found c.in_ok-thresholds.ensures.found

pub returns-clause-only : goal.returns-clause-only
returns-clause-only c options spells =
    let begins = options_begin options _ spells in
    let is = c.in_ok-alignment.ensures.only options.alignment begins.0 begins.1 in
    let read = c.in_ok-thresholds.ensures.only _ (options_rest options _ _ is.1 begins.2) in
    let t = c.in_ok-thresholds.thresholds in
    let small : t.width ≡ to_z w32 (of_z w32 t.width) = grind (arith, to_z-of_z) in
    let large : t.height ≡ to_z w32 (of_z w32 t.height) = grind (arith, to_z-of_z) in
    same_options_read options _ t _ _ small large is.0 read
