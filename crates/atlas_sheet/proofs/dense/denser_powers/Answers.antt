use Rattle.std.proofs.Common.{◌∙◌, ap, not}
use Rattle.std.proofs.lemmas.Option.{IfSome_then}
use Rattle.guillotiere.specs.Pixels.{sides_of}
use Rattle.atlas_sheet.specs.Dense.{NoWayFinds}
use Rattle.atlas_sheet.proofs.DenseRows.{ended_least, ended_none, found_falls, tried_least, tried_none}
use Rattle.atlas_sheet.proofs.Maybes.{at_none, not_none}
use Rattle.atlas_sheet.proofs.dense.denser_powers.Goals as goal

pub loop-next-init : goal.loop-next-init
loop-next-init g c = record {
  best = c.requires.whole;
  none = c.requires.none;
  trying = record {
    allowed = c.next_size-next.ensures.allowed;
    positive = c.next_size-next.ensures.positive;
    first = c.next_size-next.ensures.first;
    some = c.next_size-next.ensures.some;
    step = c.next_size-next.ensures.next;
  };
}

pub returns-then-is_none-clause-least : goal.returns-then-is_none-clause-least
returns-then-is_none-clause-least g c =
    tried_least (λ sheet. sides_of sheet.size) c.args.options.now c.args.sprites.now c.loop-next.best c.in-Some.size
    (rw c.in-Some.is at c.loop-next.invariant.trying)
    (at_none c.in_ok-found.found (c.is_none.ensures ∙ ap not c.if-is_none.true) c.in_ok-found.ensures.left)

pub returns-then-is_none-clause-full : goal.returns-then-is_none-clause-full
returns-then-is_none-clause-full g c =
    tried_none (λ sheet. sides_of sheet.size) c.args.options.now c.args.sprites.now c.loop-next.best c.in-Some.size
    (rw c.in-Some.is at c.loop-next.invariant.trying)
    (at_none c.in_ok-found.found (c.is_none.ensures ∙ ap not c.if-is_none.true) c.in_ok-found.ensures.left)

pub loop-next-preserved : goal.loop-next-preserved
loop-next-preserved g c = record {
  best = c.in_ok-found.ensures.whole;
  none = not_none c.in_ok-found.found (NoWayFinds c.args.options.now c.args.sprites.now) (c.is_none.ensures ∙ ap not c.if-is_none.false);
  trying = record {
    allowed = c.next_size-next-in-Some.ensures.allowed;
    positive = c.next_size-next-in-Some.ensures.positive;
    first = c.next_size-next-in-Some.ensures.first;
    some = c.next_size-next-in-Some.ensures.some;
    step = c.next_size-next-in-Some.ensures.next;
  };
}

pub loop-next-smaller : goal.loop-next-smaller
loop-next-smaller g c =
    rw c.in-Some.is
    (found_falls (λ sheet. sides_of sheet.size) c.args.options.now c.args.sprites.now c.in_ok-found.found c.in-Some.size
    c.next_size-next-in-Some.result
    (c.is_none.ensures ∙ ap not c.if-is_none.false)
    (IfSome_then c.in_ok-found.found c.in_ok-found.ensures.size (λ sheet is. ap sides_of is))
    (record {
      allowed = c.next_size-next-in-Some.ensures.allowed;
      positive = c.next_size-next-in-Some.ensures.positive;
      first = c.next_size-next-in-Some.ensures.first;
      some = c.next_size-next-in-Some.ensures.some;
      step = c.next_size-next-in-Some.ensures.next;
    }))

pub returns-clause-least : goal.returns-clause-least
returns-clause-least g c =
    ended_least (λ sheet. sides_of sheet.size) c.args.options.now c.args.sprites.now c.loop-next.best
    (rw c.in_default.is at c.loop-next.invariant.trying)

pub returns-clause-full : goal.returns-clause-full
returns-clause-full g c =
    ended_none (λ sheet. sides_of sheet.size) c.args.options.now c.args.sprites.now c.loop-next.best
    (rw c.in_default.is at c.loop-next.invariant.trying)
