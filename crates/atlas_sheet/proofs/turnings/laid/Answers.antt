use Rattle.std.proofs.Common.{◌≡◌, ◌∙◌, rules, true, map, take_all, ap}
use Rattle.guillotiere.specs.declared.Size.{Size}
use Rattle.guillotiere.specs.Pixels.{sides_of}
use Rattle.atlas_sheet.specs.Settings.{spacing_of}
use Rattle.atlas_sheet.specs.Turnings.{fitted, turned_to}
use Rattle.atlas_sheet.proofs.TurnedSprites.{lie_as_given, lie_packable}
use Rattle.atlas_sheet.proofs.LaidSprites.{laid_so}
use Rattle.atlas_sheet.proofs.Failures.{its_error, no_value}
use Rattle.atlas_sheet.proofs.turnings.laid.Goals as goal

pub returns-then-not-options-clause-lies : goal.returns-then-not-options-clause-lies
returns-then-not-options-clause-lies g c = rw c.in_ok-from_slice.ensures.items (lie_as_given c.args.options.now.turn c.args.sprites.now)

pub returns-clause-lies : goal.returns-clause-lies
returns-clause-lies g c =
    let sheet = sides_of c.greatest_sheet-sheet.result in
    let turn : c.args.options.now.turn ≡ true = search rules in
    let all : c.loop-sprite.lying.items ≡ map (λ (s : Size). fitted sheet c.spacing-spacing.result (turned_to c.args.how s))
    c.args.sprites.now =
    c.loop-sprite.invariant ∙ ap (map (λ (s : Size). fitted sheet c.spacing-spacing.result (turned_to c.args.how s)))
    (take_all c.loop-sprite.sprite-index c.args.sprites.now c.loop-sprite-test.false) in
    laid_so sheet c.spacing-spacing.result c.args.options.now.turn c.args.how c.args.sprites.now c.loop-sprite.lying.items turn all

pub returns-clause-good : goal.returns-clause-good
returns-clause-good g c =
    let sheet = sides_of c.greatest_sheet-sheet.result in
    let turn : c.args.options.now.turn ≡ true = search rules in
    let all : c.loop-sprite.lying.items ≡ map (λ (s : Size). fitted sheet c.spacing-spacing.result (turned_to c.args.how s))
    c.args.sprites.now =
    c.loop-sprite.invariant ∙ ap (map (λ (s : Size). fitted sheet c.spacing-spacing.result (turned_to c.args.how s)))
    (take_all c.loop-sprite.sprite-index c.args.sprites.now c.loop-sprite-test.false) in
    record {
      aligned = c.requires.placing.aligned;
      packable = lie_packable (spacing_of c.args.options.now) c.args.options.now.turn c.args.sprites.now c.loop-sprite.lying.items
          (laid_so sheet c.spacing-spacing.result c.args.options.now.turn c.args.how c.args.sprites.now c.loop-sprite.lying.items turn all)
          c.requires.placing.packable;
    }

pub returns-in_err-from_slice : goal.returns-in_err-from_slice
returns-in_err-from_slice g c =
    let r = c.from_residual in
    record {
      laid = no_value r.result _ _ r.ensures.1;
      lies = no_value r.result _ _ r.ensures.1;
      good = no_value r.result _ _ r.ensures.1;
      unless = its_error r.result _ r.ensures.1;
    }

pub returns-in_err-lying : goal.returns-in_err-lying
returns-in_err-lying g c =
    let r = c.from_residual-in_err-lying in
    record {
      laid = no_value r.result _ _ r.ensures.1;
      lies = no_value r.result _ _ r.ensures.1;
      good = no_value r.result _ _ r.ensures.1;
      unless = its_error r.result _ r.ensures.1;
    }

pub returns-in_err-push : goal.returns-in_err-push
returns-in_err-push g c =
    let r = c.from_residual-in_err-push in
    record {
      laid = no_value r.result _ _ r.ensures.1;
      lies = no_value r.result _ _ r.ensures.1;
      good = no_value r.result _ _ r.ensures.1;
      unless = its_error r.result _ r.ensures.1;
    }
