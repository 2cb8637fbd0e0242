use Rattle.std.proofs.Common.{◌+◌, ◌-◌, ◌/◌, ◌<◌, ◌∙◌, IfNone, IfSome, ap, sym, subst, arith}
use Rattle.std.proofs.lemmas.Bool.{false≢true}
use Rattle.std.proofs.lemmas.Option.{IfSome_then}
use Rattle.guillotiere.specs.Pixels.{sides_of}
use Rattle.atlas_sheet.specs.Allowances.{pixels}
use Rattle.atlas_sheet.specs.Dense.{IsWholeSheet, LeavesDense, NoWayFinds}
use Rattle.atlas_sheet.proofs.DenseRows.{densed_down, densed_first, densed_least, densed_none, densed_up}
use Rattle.atlas_sheet.proofs.DenseSheets.{newer_none, newer_some}
use Rattle.atlas_sheet.proofs.dense.denser_in_row.Goals as goal

pub loop-low-init : goal.loop-low-init
loop-low-init g c = record {
  best = c.requires.whole;
  none = c.requires.none;
  inside = omega (arith, c.count-high.ensures.count);
  going = densed_first (λ sheet. sides_of sheet.size) c.args.options.now c.args.sprites.now c.count-high.result c.args.first
      c.count-high.ensures.count;
}

pub loop-low-preserved-then-is_smaller : goal.loop-low-preserved-then-is_smaller
loop-low-preserved-then-is_smaller g c =
    let o = c.args.options.now in
    let sprites = c.args.sprites.now in
    let before = c.loop-low.invariant in
    let low = c.loop-low.low in
    let high = c.loop-low.high in
    let test : low < high = c.loop-low-test.true in
    let middle = low + (high - low) / 2 in
    let found = c.in_ok-found.found in
    let next = c.newer-best.result in
    let sides = c.nth-size.ensures.sides in
    let at = IfSome_then found c.in_ok-found.ensures.size (λ sheet is. ap sides_of is ∙ sides) in
    let left = subst (λ s. IfNone found (IfSome c.loop-low.best (λ b. pixels s < pixels (sides_of b.size)) → LeavesDense o sprites s)) sides
    c.in_ok-found.ensures.left in
    record {
      best = newer_some (IsWholeSheet o sprites) found c.loop-low.best next c.newer-best.ensures c.in_ok-found.ensures.whole before.best;
      none = newer_none (NoWayFinds o sprites) found c.loop-low.best next c.newer-best.ensures before.none;
      inside = before.inside;
      going = densed_up (λ sheet. sides_of sheet.size) o sprites low high middle (omega (arith, test)) (omega (arith, test)) c.requires.row
          c.requires.good.usable
          found c.loop-low.best next c.newer-best.ensures at left
          (subst (λ s. IfSome next (λ b. pixels s < pixels (sides_of b.size))) sides (c.is_smaller.ensures.0 c.if-is_smaller.true))
          before.going;
    }

pub loop-low-preserved : goal.loop-low-preserved
loop-low-preserved g c =
    let o = c.args.options.now in
    let sprites = c.args.sprites.now in
    let before = c.loop-low.invariant in
    let low = c.loop-low.low in
    let high = c.loop-low.high in
    let test : low < high = c.loop-low-test.true in
    let middle = low + (high - low) / 2 in
    let found = c.in_ok-found.found in
    let next = c.newer-best.result in
    let sides = c.nth-size.ensures.sides in
    let at = IfSome_then found c.in_ok-found.ensures.size (λ sheet is. ap sides_of is ∙ sides) in
    record {
      best = newer_some (IsWholeSheet o sprites) found c.loop-low.best next c.newer-best.ensures c.in_ok-found.ensures.whole before.best;
      none = newer_none (NoWayFinds o sprites) found c.loop-low.best next c.newer-best.ensures before.none;
      inside = omega (arith, test, before.inside);
      going = densed_down (λ sheet. sides_of sheet.size) o sprites low high middle (omega (arith, test)) (omega (arith, test))
          c.requires.row c.requires.good.usable
          found c.loop-low.best next c.newer-best.ensures at
          (λ less. false≢true (sym c.if-is_smaller.false
          ∙ c.is_smaller.ensures.1 (subst (λ s. IfSome next (λ b. pixels s < pixels (sides_of b.size))) (sym sides) less))) before.going;
    }

pub returns-clause-least : goal.returns-clause-least
returns-clause-least g c =
    densed_least (λ sheet. sides_of sheet.size) c.args.options.now c.args.sprites.now c.loop-low.low c.loop-low.high c.requires.row
    c.requires.good.usable
    c.loop-low-test.false c.loop-low.best (IfSome_then c.loop-low.best c.loop-low.invariant.best (λ sheet whole. whole.allowed))
    c.loop-low.invariant.going

pub returns-clause-full : goal.returns-clause-full
returns-clause-full g c =
    densed_none (λ sheet. sides_of sheet.size) c.args.options.now c.args.sprites.now c.loop-low.low c.loop-low.high c.requires.row
    c.requires.good.usable
    c.loop-low-test.false c.loop-low.best (omega (arith, c.count-high.ensures.count, c.count-high.ensures.some)) c.loop-low.invariant.going
