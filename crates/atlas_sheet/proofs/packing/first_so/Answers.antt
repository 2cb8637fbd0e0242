use Rattle.std.proofs.Common.{◌≡◌, ◌∙◌, List, map, ap, subst}
use Rattle.guillotiere.specs.Pixels.{sides_of}
use Rattle.atlas_sheet.specs.declared.ways.TheConstants.{WAYS}
use Rattle.atlas_sheet.specs.declared.ways.Way.{Way}
use Rattle.atlas_sheet.specs.Packings.{IsLeastFound, NoneIsFound}
use Rattle.atlas_sheet.specs.Settings.{spacing_of}
use Rattle.atlas_sheet.proofs.Arrangements.{rebased}
use Rattle.atlas_sheet.proofs.Failures.{no_value, same_error}
use Rattle.atlas_sheet.proofs.packing.first_so.Goals as goal

pub returns-in-None-clause-none : goal.returns-in-None-clause-none
returns-in-None-clause-none g c =
    let ways : map (λ t. t.way) c.deref-3.result.now ≡ WAYS = ap (map (λ t. t.way)) c.deref-3.ensures.value ∙ c.in_ok-trials.ensures.ways in
    let none = rw c.in-None.is at c.in_ok-found.ensures.none in (
      c.in_ok-lying.lying.items,
      c.in_ok-lying.ensures.laid,
      subst (λ (ws : List Way). NoneIsFound ws c.args.options.now.allowed (spacing_of c.args.options.now) c.in_ok-lying.lying.items) ways
          (rw (c.spacing.ensures, c.deref-2.ensures.value) at none),
    )

pub arrangement_of-requires : goal.arrangement_of-requires
arrangement_of-requires g c =
    let p = c.in-Some.packing in
    let ways : map (λ t. t.way) c.deref-3.result.now ≡ WAYS = ap (map (λ t. t.way)) c.deref-3.ensures.value ∙ c.in_ok-trials.ensures.ways in
    let least = rw c.in-Some.is at c.in_ok-found.ensures.least in
    subst (λ (ws : List Way). IsLeastFound ws c.args.options.now.allowed (spacing_of c.args.options.now) c.in_ok-lying.lying.items
    (sides_of p.size)
    (record { way = p.way; order = p.order.items; places = p.places.items })) ways
    (rw (c.spacing.ensures, c.deref-2.ensures.value) at least)

pub returns-in_ok-first-in-Some-clause-arranged : goal.returns-in_ok-first-in-Some-clause-arranged
returns-in_ok-first-in-Some-clause-arranged g c =
    rebased c.args.sprites.now c.in_ok-lying.lying.items c.in_ok-lying.ensures.lies c.in_ok-first-in-Some.ensures.arranged

pub returns-in_err-first-in-Some : goal.returns-in_err-first-in-Some
returns-in_err-first-in-Some g c =
    let r = c.from_residual-in_err-first-in-Some in
    record {
      arranged = no_value r.result _ _ r.ensures.1;
      allowed = no_value r.result _ _ r.ensures.1;
      whole = no_value r.result _ _ r.ensures.1;
      laid = no_value r.result _ _ r.ensures.1;
      first = no_value r.result _ _ r.ensures.1;
      none = no_value r.result _ _ r.ensures.1;
      unless = same_error r.result _ _ r.ensures.1 c.in_err-first-in-Some.ensures.unless;
    }

pub returns-in_err-found : goal.returns-in_err-found
returns-in_err-found g c =
    let r = c.from_residual-in_err-found in
    record {
      arranged = no_value r.result _ _ r.ensures.1;
      allowed = no_value r.result _ _ r.ensures.1;
      whole = no_value r.result _ _ r.ensures.1;
      laid = no_value r.result _ _ r.ensures.1;
      first = no_value r.result _ _ r.ensures.1;
      none = no_value r.result _ _ r.ensures.1;
      unless = same_error r.result _ _ r.ensures.1 c.in_err-found.ensures.unless;
    }

pub returns-in_err-lying : goal.returns-in_err-lying
returns-in_err-lying g c =
    let r = c.from_residual in
    record {
      arranged = no_value r.result _ _ r.ensures.1;
      allowed = no_value r.result _ _ r.ensures.1;
      whole = no_value r.result _ _ r.ensures.1;
      laid = no_value r.result _ _ r.ensures.1;
      first = no_value r.result _ _ r.ensures.1;
      none = no_value r.result _ _ r.ensures.1;
      unless = same_error r.result _ _ r.ensures.1 c.in_err-lying.ensures.unless;
    }

pub returns-in_err-trials : goal.returns-in_err-trials
returns-in_err-trials g c =
    let r = c.from_residual-in_err-trials in
    record {
      arranged = no_value r.result _ _ r.ensures.1;
      allowed = no_value r.result _ _ r.ensures.1;
      whole = no_value r.result _ _ r.ensures.1;
      laid = no_value r.result _ _ r.ensures.1;
      first = no_value r.result _ _ r.ensures.1;
      none = no_value r.result _ _ r.ensures.1;
      unless = same_error r.result _ _ r.ensures.1 c.in_err-trials.ensures.unless;
    }
