use Rattle.std.proofs.Common.{◌≡◌, ◌≢◌, [], ◌∷◌, ◌++◌, length, rules, ap, subst, List, ℕ, Some, None}
use Rattle.std.proofs.lemmas.List.{nil_from_length}
use Rattle.atlas_pack.specs.Sprites.{BeginsWithSprites}
use Rattle.atlas_words.proofs.FirstLines.{rest_shorter}
use Rattle.atlas_pack.proofs.QuotedTexts.{if_some_of, not_none}
use Rattle.atlas_pack.proofs.SpriteLines.{one_more_of}
use Rattle.atlas_pack.proofs.reading.read_sprites.Goals as goal

pub returns-clause-named : goal.returns-clause-named
returns-clause-named c =
    let end : c.loop-rest.rest.now ≡ [] = nil_from_length _ (search rules) in
    subst (λ (rest : List ℕ). BeginsWithSprites c.loop-rest.sprites.items c.args.text.now rest) end c.loop-rest.invariant

pub loop-rest-smaller : goal.loop-rest-smaller
loop-rest-smaller c =
    let some : c.loop-rest.rest.now ≢ [] = (λ f. let none : length c.loop-rest.rest.now ≡ 0 = ap length f in absurd (search rules)) in
    rest_shorter _ _ _ some c.first_line.ensures

pub loop-rest-preserved : goal.loop-rest-preserved
loop-rest-preserved c =
    let pushed : c.push.new.self.items ≡ c.loop-rest.sprites.items ++ c.in-Some.sprite ∷ [] = search rules in
    let known : c.in_ok-sprite.field-0 ≡ Some c.in-Some.sprite = search rules in
    one_more_of _ _ _ _ _ _ _ pushed c.loop-rest.invariant c.first_line.ensures (if_some_of _ _ _ _ c.in_ok-sprite.ensures.found known)

pub returns-in_default-clause-fault : goal.returns-in_default-clause-fault
returns-in_default-clause-fault c =
    let some : c.loop-rest.rest.now ≢ [] = (λ f. let none : length c.loop-rest.rest.now ≡ 0 = ap length f in absurd (search rules)) in
    let none : c.in_ok-sprite.field-0 ≡ None = search rules in
    record {
      sprites = c.loop-rest.sprites.items;
      rest = c.loop-rest.rest.now;
      read = c.loop-rest.invariant;
      some = some;
      line = _;
      after = _;
      next = c.first_line.ensures;
      bad = λ name size spells. not_none _ _ _ (c.in_ok-sprite.ensures.all name size spells) none;
      numbered = search rules;
    }
