use Rattle.std.proofs.Common.{◌≡◌, ◌∙◌, ap, sym, arith, rules}
use mir.Val.{to_z, of_z}
use Rattle.std.specs.Int.{w32}
use Rattle.std.proofs.lemmas.Int.{to_z-of_z}
use Rattle.atlas_pack.specs.Settings.{setting_with_number, setting_with_numbers}
use Rattle.atlas_pack.proofs.ChosenSettings.{by_number, chosen, first_follows, second_follows}
use Rattle.atlas_pack.proofs.settings.next_setting.Goals as goal

pub returns-in_err-first-clause-only : goal.returns-in_err-first-clause-only
returns-in_err-first-clause-only c s rest begins =
    let way = chosen s c.args.text.now c.in_ok-space.after.now _ _ rest c.in_ok-space.space.now (search rules) c.first_word.ensures begins
    in
    let number = first_follows s _ _ rest way c.in_default.ensures.value in
    absurd (c.in_err-first.ensures.only number.0 number.1 number.2)

pub returns-in-Some-with_number-clause-only : goal.returns-in-Some-with_number-clause-only
returns-in-Some-with_number-clause-only c s rest begins =
    let way = chosen s c.args.text.now c.in_ok-space.after.now _ _ rest c.in_ok-space.space.now (search rules) c.first_word.ensures begins
    in
    let first : c.in_ok-first.first ≡ to_z w32 (of_z w32 c.in_ok-first.first) = grind (arith, to_z-of_z) in
    by_number s _ _ _ rest _ c.in_ok-first.first way c.in_default.ensures.value
    c.in_ok-first.ensures.only
    (c.in-Some-with_number.ensures.value ∙ ap (setting_with_number c.first_word.result.0.now) (sym first))

pub returns-in_err-second-clause-only : goal.returns-in_err-second-clause-only
returns-in_err-second-clause-only c s rest begins =
    let way = chosen s c.args.text.now c.in_ok-space.after.now _ _ rest c.in_ok-space.space.now (search rules) c.first_word.ensures begins
    in
    let first : c.in_ok-first.first ≡ to_z w32 (of_z w32 c.in_ok-first.first) = grind (arith, to_z-of_z) in
    let number = second_follows s _ _ rest _ c.in_ok-first.first way c.in_default.ensures.value
    c.in_ok-first.ensures.only
    (c.in_default-with_number.ensures.value ∙ ap (setting_with_number c.first_word.result.0.now) (sym first)) in
    absurd (c.in_err-second.ensures.only number.0 rest number.1)

pub returns-in_err-with_numbers-clause-only : goal.returns-in_err-with_numbers-clause-only
returns-in_err-with_numbers-clause-only c s rest begins =
    let way = chosen s c.args.text.now c.in_ok-space.after.now _ _ rest c.in_ok-space.space.now (search rules) c.first_word.ensures begins
    in
    let first : c.in_ok-first.first ≡ to_z w32 (of_z w32 c.in_ok-first.first) = grind (arith, to_z-of_z) in
    let second : c.in_ok-second.second ≡ to_z w32 (of_z w32 c.in_ok-second.second) = grind (arith, to_z-of_z) in
    let number = second_follows s _ _ rest _ c.in_ok-first.first way c.in_default.ensures.value
    c.in_ok-first.ensures.only
    (c.in_default-with_number.ensures.value ∙ ap (setting_with_number c.first_word.result.0.now) (sym first)) in
    let read = c.in_ok-second.ensures.only number.0 rest number.1 in
    let is = ap (setting_with_numbers c.first_word.result.0.now c.in_ok-first.first) read.0 ∙ number.2 in
    let value = c.in_err-with_numbers.ensures.value ∙ (λ k. setting_with_numbers c.first_word.result.0.now (sym first k) (sym second k)) in
    absurd (cc)

pub returns-clause-only : goal.returns-clause-only
returns-clause-only c s rest begins =
    let way = chosen s c.args.text.now c.in_ok-space.after.now _ _ rest c.in_ok-space.space.now (search rules) c.first_word.ensures begins
    in
    let first : c.in_ok-first.first ≡ to_z w32 (of_z w32 c.in_ok-first.first) = grind (arith, to_z-of_z) in
    let second : c.in_ok-second.second ≡ to_z w32 (of_z w32 c.in_ok-second.second) = grind (arith, to_z-of_z) in
    let number = second_follows s _ _ rest _ c.in_ok-first.first way c.in_default.ensures.value
    c.in_ok-first.ensures.only
    (c.in_default-with_number.ensures.value ∙ ap (setting_with_number c.first_word.result.0.now) (sym first)) in
    let read = c.in_ok-second.ensures.only number.0 rest number.1 in
    let is = ap (setting_with_numbers c.first_word.result.0.now c.in_ok-first.first) read.0 ∙ number.2 in
    let value = c.in_ok-with_numbers.ensures.value ∙ (λ k. setting_with_numbers c.first_word.result.0.now (sym first k) (sym second k)) in
    (cc, read.1)
