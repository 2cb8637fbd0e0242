use Rattle.std.proofs.Common.{rules}
use Rattle.atlas_words.proofs.PartedWords.{atlas_begins, two_end, six_end}
use Rattle.atlas_words.proofs.words.atlas_arguments.Goals as goal

pub returns-in_err-size-clause-only : goal.returns-in_err-size-clause-only
returns-in_err-size-clause-only c size options spells =
    let begins = atlas_begins size options _ spells in
    absurd (c.in_err-size.ensures.only size begins.0 begins.1)

pub returns-then-is_empty-clause-only : goal.returns-then-is_empty-clause-only
returns-then-is_empty-clause-only c size options spells =
    let begins = atlas_begins size options _ spells in
    let is = c.in_ok-size.ensures.only size begins.0 begins.1 in
    (is.0, two_end options _ begins.0 is.1 (search rules) begins.2)

pub returns-in_err-options_arguments-clause-only : goal.returns-in_err-options_arguments-clause-only
returns-in_err-options_arguments-clause-only c size options spells =
    let begins = atlas_begins size options _ spells in
    let is = c.in_ok-size.ensures.only size begins.0 begins.1 in
    let read = c.in_err-options_arguments.ensures.only options (six_end options _ begins.0 is.1 (search rules) begins.2) in
    absurd (cc)

pub returns-clause-only : goal.returns-clause-only
returns-clause-only c size options spells =
    let begins = atlas_begins size options _ spells in
    let is = c.in_ok-size.ensures.only size begins.0 begins.1 in
    let read = c.in_ok-options_arguments.ensures.only options (six_end options _ begins.0 is.1 (search rules) begins.2) in
    (is.0, let e = read in cc)
