use Rattle.std.proofs.Common.{◌≡◌, rules, true, false, map, All, IsSome}
use Rattle.guillotiere.specs.Pixels.{sides_of}
use Rattle.atlas_sheet.specs.declared.turnings.Turning.TheVariants as turning
use Rattle.atlas_sheet.specs.declared.ways.TheConstants.{WAYS}
use Rattle.atlas_sheet.specs.Allowances.{IsAllowed}
use Rattle.atlas_sheet.specs.Lying.{IsArranged}
use Rattle.atlas_sheet.proofs.LaidWays.{found_best, found_each, found_none, found_one, smallest_found, taken_found}
use Rattle.atlas_sheet.proofs.packing.first_found.Goals as goal

pub returns-clause-arranged : goal.returns-clause-arranged
returns-clause-arranged g c =
    taken_found (IsArranged c.args.options.now c.args.sprites.now)
    c.in_ok-given.given c.in_ok-wide.wide c.in_ok-high.high c.smaller_of.result c.smaller_of-2.result c.smaller_of.ensures.kept
    c.smaller_of-2.ensures.kept c.in_ok-given.ensures.arranged c.in_ok-wide.ensures.arranged c.in_ok-high.ensures.arranged

pub returns-clause-allowed : goal.returns-clause-allowed
returns-clause-allowed g c =
    taken_found (λ a. IsAllowed c.args.options.now.allowed (sides_of a.size))
    c.in_ok-given.given c.in_ok-wide.wide c.in_ok-high.high c.smaller_of.result c.smaller_of-2.result c.smaller_of.ensures.kept
    c.smaller_of-2.ensures.kept c.in_ok-given.ensures.allowed c.in_ok-wide.ensures.allowed c.in_ok-high.ensures.allowed

pub returns-clause-whole : goal.returns-clause-whole
returns-clause-whole g c =
    taken_found (λ a. All IsSome a.places.items)
    c.in_ok-given.given c.in_ok-wide.wide c.in_ok-high.high c.smaller_of.result c.smaller_of-2.result c.smaller_of.ensures.kept
    c.smaller_of-2.ensures.kept c.in_ok-given.ensures.whole c.in_ok-wide.ensures.whole c.in_ok-high.ensures.whole

pub returns-clause-first : goal.returns-clause-first
returns-clause-first g c =
    let on : c.args.options.now.turn ≡ true = search rules in
    found_one c.args.options.now c.args.sprites.now WAYS (λ a. a.size) (λ a. map (λ s. s.0) a.order.items) (λ a. a.places.items)
    true c.smaller_of-2.result on
    (smallest_found c.args.options.now c.args.sprites.now WAYS (λ a. a.size) (λ a. map (λ s. s.0) a.order.items) (λ a. a.places.items)
    c.in_ok-given.given c.in_ok-wide.wide c.in_ok-high.high c.smaller_of.result c.smaller_of-2.result
    (found_best c.args.options.now c.args.sprites.now WAYS (λ a. a.size) (λ a. map (λ s. s.0) a.order.items) (λ a. a.places.items)
    turning.AsGiven c.in_ok-given.given (λ a. a.lying.items) c.in_ok-given.ensures.laid c.in_ok-given.ensures.first
    c.in_ok-given.ensures.none)
    (found_best c.args.options.now c.args.sprites.now WAYS (λ a. a.size) (λ a. map (λ s. s.0) a.order.items) (λ a. a.places.items)
    turning.Wide c.in_ok-wide.wide (λ a. a.lying.items) c.in_ok-wide.ensures.laid c.in_ok-wide.ensures.first c.in_ok-wide.ensures.none)
    (found_best c.args.options.now c.args.sprites.now WAYS (λ a. a.size) (λ a. map (λ s. s.0) a.order.items) (λ a. a.places.items)
    turning.High c.in_ok-high.high (λ a. a.lying.items) c.in_ok-high.ensures.laid c.in_ok-high.ensures.first c.in_ok-high.ensures.none)
    c.smaller_of.ensures.kept c.smaller_of.ensures.earlier (c.smaller_of.ensures.one, c.smaller_of.ensures.none_one)
    (c.smaller_of.ensures.other, c.smaller_of.ensures.none_other)
    c.smaller_of-2.ensures.kept c.smaller_of-2.ensures.earlier (c.smaller_of-2.ensures.one, c.smaller_of-2.ensures.none_one)
    (c.smaller_of-2.ensures.other, c.smaller_of-2.ensures.none_other))

pub returns-then-not-options-clause-first : goal.returns-then-not-options-clause-first
returns-then-not-options-clause-first g c =
    let off : c.args.options.now.turn ≡ false = search rules in
    found_one c.args.options.now c.args.sprites.now WAYS (λ a. a.size) (λ a. map (λ s. s.0) a.order.items) (λ a. a.places.items)
    false c.in_ok-given.given off
    (found_best c.args.options.now c.args.sprites.now WAYS (λ a. a.size) (λ a. map (λ s. s.0) a.order.items) (λ a. a.places.items)
    turning.AsGiven c.in_ok-given.given (λ a. a.lying.items) c.in_ok-given.ensures.laid c.in_ok-given.ensures.first
    c.in_ok-given.ensures.none)

pub returns-clause-larger : goal.returns-clause-larger
returns-clause-larger g c =
    let on : c.args.options.now.turn ≡ true = search rules in
    found_each c.args.options.now c.args.sprites.now WAYS (λ a. a.size) (λ a. map (λ s. s.0) a.order.items) (λ a. a.places.items)
    true c.smaller_of-2.result on
    (smallest_found c.args.options.now c.args.sprites.now WAYS (λ a. a.size) (λ a. map (λ s. s.0) a.order.items) (λ a. a.places.items)
    c.in_ok-given.given c.in_ok-wide.wide c.in_ok-high.high c.smaller_of.result c.smaller_of-2.result
    (found_best c.args.options.now c.args.sprites.now WAYS (λ a. a.size) (λ a. map (λ s. s.0) a.order.items) (λ a. a.places.items)
    turning.AsGiven c.in_ok-given.given (λ a. a.lying.items) c.in_ok-given.ensures.laid c.in_ok-given.ensures.first
    c.in_ok-given.ensures.none)
    (found_best c.args.options.now c.args.sprites.now WAYS (λ a. a.size) (λ a. map (λ s. s.0) a.order.items) (λ a. a.places.items)
    turning.Wide c.in_ok-wide.wide (λ a. a.lying.items) c.in_ok-wide.ensures.laid c.in_ok-wide.ensures.first c.in_ok-wide.ensures.none)
    (found_best c.args.options.now c.args.sprites.now WAYS (λ a. a.size) (λ a. map (λ s. s.0) a.order.items) (λ a. a.places.items)
    turning.High c.in_ok-high.high (λ a. a.lying.items) c.in_ok-high.ensures.laid c.in_ok-high.ensures.first c.in_ok-high.ensures.none)
    c.smaller_of.ensures.kept c.smaller_of.ensures.earlier (c.smaller_of.ensures.one, c.smaller_of.ensures.none_one)
    (c.smaller_of.ensures.other, c.smaller_of.ensures.none_other)
    c.smaller_of-2.ensures.kept c.smaller_of-2.ensures.earlier (c.smaller_of-2.ensures.one, c.smaller_of-2.ensures.none_one)
    (c.smaller_of-2.ensures.other, c.smaller_of-2.ensures.none_other))

pub returns-then-not-options-clause-larger : goal.returns-then-not-options-clause-larger
returns-then-not-options-clause-larger g c =
    let off : c.args.options.now.turn ≡ false = search rules in
    found_each c.args.options.now c.args.sprites.now WAYS (λ a. a.size) (λ a. map (λ s. s.0) a.order.items) (λ a. a.places.items)
    false c.in_ok-given.given off
    (found_best c.args.options.now c.args.sprites.now WAYS (λ a. a.size) (λ a. map (λ s. s.0) a.order.items) (λ a. a.places.items)
    turning.AsGiven c.in_ok-given.given (λ a. a.lying.items) c.in_ok-given.ensures.laid c.in_ok-given.ensures.first
    c.in_ok-given.ensures.none)

pub returns-clause-none : goal.returns-clause-none
returns-clause-none g c =
    let on : c.args.options.now.turn ≡ true = search rules in
    found_none c.args.options.now c.args.sprites.now WAYS (λ a. a.size) (λ a. map (λ s. s.0) a.order.items) (λ a. a.places.items)
    true c.smaller_of-2.result on
    (smallest_found c.args.options.now c.args.sprites.now WAYS (λ a. a.size) (λ a. map (λ s. s.0) a.order.items) (λ a. a.places.items)
    c.in_ok-given.given c.in_ok-wide.wide c.in_ok-high.high c.smaller_of.result c.smaller_of-2.result
    (found_best c.args.options.now c.args.sprites.now WAYS (λ a. a.size) (λ a. map (λ s. s.0) a.order.items) (λ a. a.places.items)
    turning.AsGiven c.in_ok-given.given (λ a. a.lying.items) c.in_ok-given.ensures.laid c.in_ok-given.ensures.first
    c.in_ok-given.ensures.none)
    (found_best c.args.options.now c.args.sprites.now WAYS (λ a. a.size) (λ a. map (λ s. s.0) a.order.items) (λ a. a.places.items)
    turning.Wide c.in_ok-wide.wide (λ a. a.lying.items) c.in_ok-wide.ensures.laid c.in_ok-wide.ensures.first c.in_ok-wide.ensures.none)
    (found_best c.args.options.now c.args.sprites.now WAYS (λ a. a.size) (λ a. map (λ s. s.0) a.order.items) (λ a. a.places.items)
    turning.High c.in_ok-high.high (λ a. a.lying.items) c.in_ok-high.ensures.laid c.in_ok-high.ensures.first c.in_ok-high.ensures.none)
    c.smaller_of.ensures.kept c.smaller_of.ensures.earlier (c.smaller_of.ensures.one, c.smaller_of.ensures.none_one)
    (c.smaller_of.ensures.other, c.smaller_of.ensures.none_other)
    c.smaller_of-2.ensures.kept c.smaller_of-2.ensures.earlier (c.smaller_of-2.ensures.one, c.smaller_of-2.ensures.none_one)
    (c.smaller_of-2.ensures.other, c.smaller_of-2.ensures.none_other))

pub returns-then-not-options-clause-none : goal.returns-then-not-options-clause-none
returns-then-not-options-clause-none g c =
    let off : c.args.options.now.turn ≡ false = search rules in
    found_none c.args.options.now c.args.sprites.now WAYS (λ a. a.size) (λ a. map (λ s. s.0) a.order.items) (λ a. a.places.items)
    false c.in_ok-given.given off
    (found_best c.args.options.now c.args.sprites.now WAYS (λ a. a.size) (λ a. map (λ s. s.0) a.order.items) (λ a. a.places.items)
    turning.AsGiven c.in_ok-given.given (λ a. a.lying.items) c.in_ok-given.ensures.laid c.in_ok-given.ensures.first
    c.in_ok-given.ensures.none)
