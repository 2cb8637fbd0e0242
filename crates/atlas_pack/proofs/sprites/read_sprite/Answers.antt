use Rattle.std.proofs.Common.{◌≡◌, ◌∙◌, rules, sym, subst, Some, None}
use Rattle.atlas_words.specs.Grammar.{SpellsSize}
use Rattle.atlas_pack.specs.Sprites.{IsName}
use Rattle.atlas_pack.proofs.QuotedTexts.{not_none, some_of}
use Rattle.atlas_pack.proofs.sprites.read_sprite.Goals as goal

pub returns-in_default-clause-all : goal.returns-in_default-clause-all
returns-in_default-clause-all c name size spells =
    let none : c.in_ok-bytes.field-0 ≡ None = search rules in
    not_none _ _ _ (c.in_ok-bytes.ensures.only name spells.numbers spells.begins) none

pub returns-in_default-size_arguments-clause-all : goal.returns-in_default-size_arguments-clause-all
returns-in_default-size_arguments-clause-all c name size spells =
    let known : c.in_ok-bytes.field-0 ≡ Some (c.in-Some.bytes, c.in-Some.rest) = search rules in
    let read = some_of _ _ _ _ (c.in_ok-bytes.ensures.only name spells.numbers spells.begins) known in
    let is = c.in_default-size_arguments.ensures.only size (subst (SpellsSize size) (sym read.1) spells.sides) in
    absurd (cc)

pub returns-in_default-2-clause-all : goal.returns-in_default-2-clause-all
returns-in_default-2-clause-all c name size spells =
    let known : c.in_ok-bytes.field-0 ≡ Some (c.in-Some.bytes, c.in-Some.rest) = search rules in
    let read = some_of _ _ _ _ (c.in_ok-bytes.ensures.only name spells.numbers spells.begins) known in
    let none : c.in_ok-name.field-0 ≡ None = search rules in
    not_none _ _ _ (c.in_ok-name.ensures.all (subst IsName (sym (c.deref.ensures.value ∙ read.0)) spells.is)) none

pub returns-clause-all : goal.returns-clause-all
returns-clause-all c name size spells =
    let known : c.in_ok-bytes.field-0 ≡ Some (c.in-Some.bytes, c.in-Some.rest) = search rules in
    let read = some_of _ _ _ _ (c.in_ok-bytes.ensures.only name spells.numbers spells.begins) known in
    let found : c.in_ok-name.field-0 ≡ Some c.in-Some-2.name = search rules in
    let named = some_of _ _ _ _ (c.in_ok-name.ensures.all (subst IsName (sym (c.deref.ensures.value ∙ read.0)) spells.is)) found in
    let is = c.in-Some-size_arguments.ensures.only size (subst (SpellsSize size) (sym read.1) spells.sides) in
    (named ∙ c.deref.ensures.value ∙ read.0, cc)
