use Rattle.std.proofs.Common.{◌∙◌, ap, sym, subst, map, arith}
use Rattle.std.proofs.lemmas.Option.{IfSome_then}
use Rattle.guillotiere.specs.Pixels.{sides_of}
use Rattle.atlas_sheet.specs.Allowances.{row_length}
use Rattle.atlas_sheet.specs.Packings.{ArePacked, NoWayPacks}
use Rattle.atlas_sheet.proofs.Maybes.{at_none, both}
use Rattle.atlas_sheet.proofs.Rows.{ended_found, ended_none, went_down, went_up}
use Rattle.atlas_sheet.proofs.Failures.{no_value, same_error}
use Rattle.atlas_sheet.proofs.search.bisect.Goals as goal
use Rattle.atlas_sheet.proofs.search.bisect.Goals.{then-is_some, else-is_some}

pub loop-low-preserved : goal.loop-low-preserved
loop-low-preserved g c =
    elim c.if-is_some.branch [
      | then-is_some w ↦ rw (w.low-is, w.high-is, w.best-is)
          (went_down (λ s. sides_of s.size) (λ s. record { way = s.way; order = s.order.items; places = s.places.items })
          (map (λ t. t.way) c.args.trials.now) c.args.allowed c.args.spacing c.args.sprites.now
          (row_length c.args.allowed) c.loop-low.low c.loop-low.high c.probe-middle.result c.in_ok-found.found c.probe-middle.ensures.from
          c.probe-middle.ensures.to
          c.loop-low.best c.loop-low.invariant (sym c.is_some.ensures ∙ w.if-is_some.true)
          (IfSome_then c.in_ok-found.found c.in_ok-found.ensures.size (λ sheet is. ap sides_of is ∙ c.nth-size.ensures.sides))
          (both c.in_ok-found.found c.in_ok-found.ensures.size c.in_ok-found.ensures.packed (λ sheet is packed.
          subst (λ s. ArePacked (map (λ t. t.way) c.args.trials.now) (sides_of s) c.args.spacing c.args.sprites.now
          (record { way = sheet.way; order = sheet.order.items; places = sheet.places.items })) (sym is) packed)))
      | else-is_some w ↦ rw (w.low-is, w.high-is, w.best-is)
          (went_up (λ s. sides_of s.size) (λ s. record { way = s.way; order = s.order.items; places = s.places.items })
          (map (λ t. t.way) c.args.trials.now) c.args.allowed c.args.spacing c.args.sprites.now
          (row_length c.args.allowed) c.loop-low.low c.loop-low.high c.probe-middle.result c.in_ok-found.found c.probe-middle.ensures.from
          c.probe-middle.ensures.to
          c.loop-low.best c.loop-low.invariant
          (subst (λ s. NoWayPacks (map (λ t. t.way) c.args.trials.now) s c.args.spacing c.args.sprites.now) c.nth-size.ensures.sides
          (at_none c.in_ok-found.found (sym c.is_some.ensures ∙ w.if-is_some.false) c.in_ok-found.ensures.none)))
    ]

pub loop-low-preserved-after-is_some-2 : goal.loop-low-preserved-after-is_some-2
loop-low-preserved-after-is_some-2 g c =
    elim c.if-is_some.branch [
      | then-is_some w ↦ rw (w.low-is, w.high-is, w.best-is)
          (went_down (λ s. sides_of s.size) (λ s. record { way = s.way; order = s.order.items; places = s.places.items })
          (map (λ t. t.way) c.args.trials.now) c.args.allowed c.args.spacing c.args.sprites.now
          (row_length c.args.allowed) c.loop-low.low c.loop-low.high c.probe-middle.result c.in_ok-found.found c.probe-middle.ensures.from
          c.probe-middle.ensures.to
          c.loop-low.best c.loop-low.invariant (sym c.is_some.ensures ∙ w.if-is_some.true)
          (IfSome_then c.in_ok-found.found c.in_ok-found.ensures.size (λ sheet is. ap sides_of is ∙ c.nth-size.ensures.sides))
          (both c.in_ok-found.found c.in_ok-found.ensures.size c.in_ok-found.ensures.packed (λ sheet is packed.
          subst (λ s. ArePacked (map (λ t. t.way) c.args.trials.now) (sides_of s) c.args.spacing c.args.sprites.now
          (record { way = sheet.way; order = sheet.order.items; places = sheet.places.items })) (sym is) packed)))
      | else-is_some w ↦ rw (w.low-is, w.high-is, w.best-is)
          (went_up (λ s. sides_of s.size) (λ s. record { way = s.way; order = s.order.items; places = s.places.items })
          (map (λ t. t.way) c.args.trials.now) c.args.allowed c.args.spacing c.args.sprites.now
          (row_length c.args.allowed) c.loop-low.low c.loop-low.high c.probe-middle.result c.in_ok-found.found c.probe-middle.ensures.from
          c.probe-middle.ensures.to
          c.loop-low.best c.loop-low.invariant
          (subst (λ s. NoWayPacks (map (λ t. t.way) c.args.trials.now) s c.args.spacing c.args.sprites.now) c.nth-size.ensures.sides
          (at_none c.in_ok-found.found (sym c.is_some.ensures ∙ w.if-is_some.false) c.in_ok-found.ensures.none)))
    ]

pub returns-clause-none : goal.returns-clause-none
returns-clause-none g c =
    ended_none (λ s. sides_of s.size) (λ s. record { way = s.way; order = s.order.items; places = s.places.items })
    (map (λ t. t.way) c.args.trials.now) c.args.allowed c.args.spacing c.args.sprites.now
    c.loop-low.low c.loop-low.high c.requires.row c.requires.usable (omega (arith, c.count-count.ensures.count, c.count-count.ensures.some))
    c.loop-low-test.false c.loop-low.best c.loop-low.invariant

pub returns-clause-least : goal.returns-clause-least
returns-clause-least g c =
    ended_found (λ s. sides_of s.size) (λ s. record { way = s.way; order = s.order.items; places = s.places.items })
    (map (λ t. t.way) c.args.trials.now) c.args.allowed c.args.spacing c.args.sprites.now
    c.loop-low.low c.loop-low.high c.requires.row c.requires.usable (omega (arith, c.count-count.ensures.count, c.count-count.ensures.some))
    c.loop-low-test.false c.loop-low.best c.loop-low.invariant

pub returns-in_err-found : goal.returns-in_err-found
returns-in_err-found g c =
    let r = c.from_residual in
    record {
      least = no_value r.result _ _ r.ensures.1;
      none = no_value r.result _ _ r.ensures.1;
      unless = same_error r.result _ _ r.ensures.1 c.in_err-found.ensures.unless;
    }
