use Rattle.std.proofs.Common.{◌-◌, ◌/◌, ◌∙◌, refl, sym, map, arith}
use Rattle.atlas_sheet.proofs.Powers.{before_high, before_wide, outside_all, outside_long, outside_more, shape_fails, shape_packed}
use Rattle.atlas_sheet.proofs.Failures.{no_value, same_error}
use Rattle.atlas_sheet.proofs.search.try_shapes.Goals as goal

pub loop-flat-init : goal.loop-flat-init
loop-flat-init g c = λ wide high together w h a b. absurd (omega arith)

pub returns-then-more-most-clause-none : goal.returns-then-more-most-clause-none
returns-then-more-most-clause-none g c =
    let half = c.args.sum / 2 in
    let less = half - c.loop-flat.flat in
    outside_long (map (λ t. t.way) c.args.trials.now) c.args.most c.args.spacing c.args.sprites.now c.args.sum half c.loop-flat.flat less
    (c.args.sum - less) refl refl c.if-more-most.true c.loop-flat.invariant

pub loop-flat-preserved : goal.loop-flat-preserved
loop-flat-preserved g c =
    let half = c.args.sum / 2 in
    let less = half - c.loop-flat.flat in
    let more = c.args.sum - less in
    outside_more (map (λ t. t.way) c.args.trials.now) c.args.most c.args.spacing c.args.sprites.now c.args.sum half c.loop-flat.flat less
    more (omega arith) refl refl c.loop-flat.invariant
    (shape_fails (map (λ t. t.way) c.args.trials.now) c.args.most c.args.spacing c.args.sprites.now c.in_ok-wide.wide c.power_size.result
    more less
    c.power_size.ensures.sides (sym c.is_some.ensures ∙ c.if-is_some.false) c.in_ok-wide.ensures.none)
    (shape_fails (map (λ t. t.way) c.args.trials.now) c.args.most c.args.spacing c.args.sprites.now c.in_ok-high.high
    c.power_size-in-loop-flat.result less more
    c.power_size-in-loop-flat.ensures.sides (sym c.is_some-in-loop-flat.ensures ∙ c.if-is_some-2.false) c.in_ok-high.ensures.none)

pub returns-clause-none : goal.returns-clause-none
returns-clause-none g c =
    outside_all (map (λ t. t.way) c.args.trials.now) c.args.most c.args.spacing c.args.sprites.now c.args.sum (c.args.sum / 2)
    c.loop-flat.flat
    (omega arith) c.loop-flat.invariant

pub returns-then-is_some-2-clause-packed : goal.returns-then-is_some-2-clause-packed
returns-then-is_some-2-clause-packed g c =
    let half = c.args.sum / 2 in
    let less = half - c.loop-flat.flat in
    let more = c.args.sum - less in
    shape_packed (map (λ t. t.way) c.args.trials.now) c.args.most c.args.spacing c.args.sprites.now (λ s. s.size)
    (λ s. record { way = s.way; order = s.order.items; places = s.places.items })
    c.in_ok-high.high c.power_size-in-loop-flat.result c.args.sum less more c.power_size-in-loop-flat.ensures.sides (omega arith)
    (omega arith) (omega arith)
    c.in_ok-high.ensures.size c.in_ok-high.ensures.packed
    (λ x y together w h. before_high (map (λ t. t.way) c.args.trials.now) c.args.most c.args.spacing c.args.sprites.now c.args.sum half
    c.loop-flat.flat less more (omega arith) refl refl (omega arith) c.loop-flat.invariant x y together w h
    (shape_fails (map (λ t. t.way) c.args.trials.now) c.args.most c.args.spacing c.args.sprites.now c.in_ok-wide.wide c.power_size.result
    more less
    c.power_size.ensures.sides (sym c.is_some.ensures ∙ c.if-is_some.false) c.in_ok-wide.ensures.none))

pub returns-then-is_some-clause-packed : goal.returns-then-is_some-clause-packed
returns-then-is_some-clause-packed g c =
    let half = c.args.sum / 2 in
    let less = half - c.loop-flat.flat in
    let more = c.args.sum - less in
    shape_packed (map (λ t. t.way) c.args.trials.now) c.args.most c.args.spacing c.args.sprites.now (λ s. s.size)
    (λ s. record { way = s.way; order = s.order.items; places = s.places.items })
    c.in_ok-wide.wide c.power_size.result c.args.sum more less c.power_size.ensures.sides (omega arith) (omega arith) (omega arith)
    c.in_ok-wide.ensures.size c.in_ok-wide.ensures.packed
    (λ x y together w h. before_wide (map (λ t. t.way) c.args.trials.now) c.args.most c.args.spacing c.args.sprites.now c.args.sum half
    c.loop-flat.flat less more (omega arith) refl refl (omega arith) c.loop-flat.invariant x y together w h)

pub returns-in_err-high : goal.returns-in_err-high
returns-in_err-high g c =
    let r = c.from_residual-in_err-high in
    record {
      packed = no_value r.result _ _ r.ensures.1;
      none = no_value r.result _ _ r.ensures.1;
      unless = same_error r.result _ _ r.ensures.1 c.in_err-high.ensures.unless;
    }

pub returns-in_err-wide : goal.returns-in_err-wide
returns-in_err-wide g c =
    let r = c.from_residual in
    record {
      packed = no_value r.result _ _ r.ensures.1;
      none = no_value r.result _ _ r.ensures.1;
      unless = same_error r.result _ _ r.ensures.1 c.in_err-wide.ensures.unless;
    }
