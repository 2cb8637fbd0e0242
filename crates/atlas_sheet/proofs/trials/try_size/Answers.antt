use Rattle.std.proofs.Common.{◌∙◌, map, take_all, subst, sym}
use Rattle.std.proofs.lemmas.List.Elements.{All-get_or}
use Rattle.std.proofs.lemmas.Option.{IfSome_then}
use Rattle.guillotiere.specs.Pixels.{sides_of}
use Rattle.atlas_sheet.specs.Packings.{IsOrderBy, LeavesSprite, NoWayPacks}
use Rattle.atlas_sheet.proofs.Maybes.{at_none}
use Rattle.atlas_sheet.proofs.FirstOnes.{stands_at}
use Rattle.atlas_sheet.proofs.Packings.{way_more}
use Rattle.atlas_sheet.proofs.Failures.{no_value, same_error}
use Rattle.atlas_sheet.proofs.trials.try_size.Goals as goal

pub try_trial-requires-clause-order : goal.try_trial-requires-clause-order
try_trial-requires-clause-order g c =
    subst (λ t. IsOrderBy t.way c.args.sprites.now t.order.items) (sym c.trial-item.is)
    (All-get_or (λ t. IsOrderBy t.way c.args.sprites.now t.order.items) c.args.trials.now c.loop-trial.trial-index c.trial-item.result
    c.loop-trial-test.true c.requires.orders)

pub returns-then-is_some-clause-packed : goal.returns-then-is_some-clause-packed
returns-then-is_some-clause-packed g c =
    IfSome_then c.in_ok-found.found c.in_ok-found.ensures.packed (λ p packed.
    packed (map (λ t. t.way) c.args.trials.now)
    (stands_at (LeavesSprite (sides_of c.args.size) c.args.spacing c.args.sprites.now) (λ t. t.way) c.args.trials.now
    c.loop-trial.trial-index
    c.trial-item.result c.loop-trial-test.true c.trial-item.is c.loop-trial.invariant))

pub loop-trial-preserved : goal.loop-trial-preserved
loop-trial-preserved g c =
    way_more (λ t. t.way) c.args.trials.now c.loop-trial.trial-index c.trial-item.result c.loop-trial-test.true c.trial-item.is
    (LeavesSprite (sides_of c.args.size) c.args.spacing c.args.sprites.now) c.loop-trial.invariant
    (at_none c.in_ok-found.found (sym c.is_some.ensures ∙ c.if-is_some.false) c.in_ok-found.ensures.left)

pub returns-clause-none : goal.returns-clause-none
returns-clause-none g c =
    subst (λ ts. NoWayPacks (map (λ t. t.way) ts) (sides_of c.args.size) c.args.spacing c.args.sprites.now)
    (take_all c.loop-trial.trial-index c.args.trials.now c.loop-trial-test.false) c.loop-trial.invariant

pub returns-in_err-found : goal.returns-in_err-found
returns-in_err-found g c =
    let r = c.from_residual in
    record {
      size = no_value r.result _ _ r.ensures.1;
      packed = no_value r.result _ _ r.ensures.1;
      none = no_value r.result _ _ r.ensures.1;
      unless = same_error r.result _ _ r.ensures.1 c.in_err-found.ensures.unless;
    }
