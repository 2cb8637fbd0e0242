use Rattle.std.proofs.Common.{map, arith}
use Rattle.std.proofs.lemmas.List.{length-map}
use Rattle.atlas_search.specs.Items.{item_at, item_box}
use Rattle.atlas_search.proofs.SearchLemmas.Heaps.{corner-first}
use Rattle.atlas_search.proofs.HeapLemmas.Hanging.{one-in, one-solid, other-in, other-solid}
use Rattle.atlas_search.proofs.HeapLemmas.Melding.{above-raised, apart-raised, apart-swap, areas-raised, linked-by, melded-raised}
use Rattle.atlas_search.proofs.HeapLemmas.Melding.{melded-swap}
use Rattle.atlas_search.proofs.heap.meld.Goals as goal

pub corner_at-requires-clause-inside : goal.corner_at-requires-clause-inside
corner_at-requires-clause-inside g c =
    let r = c.requires in
    let es = map g.E.Entry.item c.args.entries.now in
    omega (arith, other-in es r.0 c.args.one.number r.0 c.args.other.number r.1 r.2 r.3, length-map c.args.entries.now g.E.Entry.item)

pub corner_at-requires-clause-unsigned : goal.corner_at-requires-clause-unsigned
corner_at-requires-clause-unsigned g c =
    let r = c.requires in
    let es = map g.E.Entry.item c.args.entries.now in
    (other-solid es r.0 c.args.one.number r.0 c.args.other.number r.1 r.2 r.3).unsigned

pub corner_at-requires-2-clause-inside : goal.corner_at-requires-2-clause-inside
corner_at-requires-2-clause-inside g c =
    let r = c.requires in
    let es = map g.E.Entry.item c.args.entries.now in
    omega (arith, one-in es r.0 c.args.one.number r.0 c.args.other.number r.1 r.2 r.3, length-map c.args.entries.now g.E.Entry.item)

pub corner_at-requires-2-clause-unsigned : goal.corner_at-requires-2-clause-unsigned
corner_at-requires-2-clause-unsigned g c =
    let r = c.requires in
    let es = map g.E.Entry.item c.args.entries.now in
    (one-solid es r.0 c.args.one.number r.0 c.args.other.number r.1 r.2 r.3).unsigned

pub set_up-requires : goal.set_up-requires
set_up-requires g c =
    let r = c.requires in
    let es = map g.E.Entry.item c.args.entries.now in
    omega (arith, other-in es r.0 c.args.one.number r.0 c.args.other.number r.1 r.2 r.3, length-map c.args.entries.now g.E.Entry.item)

pub set_up-requires-2 : goal.set_up-requires-2
set_up-requires-2 g c =
    let r = c.requires in
    let es = map g.E.Entry.item c.args.entries.now in
    omega (arith, one-in es r.0 c.args.one.number r.0 c.args.other.number r.1 r.2 r.3, length-map c.args.entries.now g.E.Entry.item)

pub hang-requires : goal.hang-requires
hang-requires g c =
    let r = c.requires in
    let es = map g.E.Entry.item c.args.entries.now in
    let fs = map g.E.Entry.item c.set_up.new.entries in
    let is = linked-by es fs c.args.other.number c.args.up.number (item_at es c.args.other.number).left
    (item_at es c.args.other.number).right (other-in es r.0 c.args.one.number r.0 c.args.other.number r.1 r.2 r.3)
    c.set_up.ensures.links in
    let a = apart-swap es r.0 c.args.one.number r.0 c.args.other.number r.1 r.2 r.3 in
    let first = corner-first (item_box (item_at es c.args.other.number)) (item_box (item_at es c.args.one.number))
    c.corner_at.ensures.narrow c.corner_at-2.ensures.narrow (omega (
      arith,
      c.corner_at.ensures.corner,
      c.corner_at-2.ensures.corner,
      c.if-corner_at.true,
    )) in (
      c.args.up.number,
      r.2,
      r.0,
      r.1,
      apart-raised es fs r.0 c.args.other.number r.0 c.args.one.number c.args.up.number r.2 r.1 a is,
      above-raised es fs r.0 c.args.other.number r.0 c.args.one.number c.args.up.number r.2 r.1 a is first,
    )

pub hang-requires-2 : goal.hang-requires-2
hang-requires-2 g c =
    let r = c.requires in
    let es = map g.E.Entry.item c.args.entries.now in
    let fs = map g.E.Entry.item c.set_up-2.new.entries in
    let is = linked-by es fs c.args.one.number c.args.up.number (item_at es c.args.one.number).left (item_at es c.args.one.number).right
    (one-in es r.0 c.args.one.number r.0 c.args.other.number r.1 r.2 r.3) c.set_up-2.ensures.links in
    let first = corner-first (item_box (item_at es c.args.one.number)) (item_box (item_at es c.args.other.number))
    c.corner_at-2.ensures.narrow c.corner_at.ensures.narrow (omega (
      arith,
      c.corner_at.ensures.corner,
      c.corner_at-2.ensures.corner,
      c.if-corner_at.false,
    )) in (
      c.args.up.number,
      r.1,
      r.0,
      r.2,
      apart-raised es fs r.0 c.args.one.number r.0 c.args.other.number c.args.up.number r.1 r.2 r.3 is,
      above-raised es fs r.0 c.args.one.number r.0 c.args.other.number c.args.up.number r.1 r.2 r.3 is first,
    )

pub returns-then-corner_at-clause-melded : goal.returns-then-corner_at-clause-melded
returns-then-corner_at-clause-melded g c under a b apart =
    let r = c.requires in
    let es = map g.E.Entry.item c.args.entries.now in
    let fs = map g.E.Entry.item c.set_up.new.entries in
    let gs = map g.E.Entry.item c.hang.new.entries in
    let is = linked-by es fs c.args.other.number c.args.up.number (item_at es c.args.other.number).left
    (item_at es c.args.other.number).right (other-in es r.0 c.args.one.number r.0 c.args.other.number r.1 r.2 r.3)
    c.set_up.ensures.links in
    let swapped = apart-swap es under c.args.one.number under c.args.other.number a b apart in
    let first = corner-first (item_box (item_at es c.args.other.number)) (item_box (item_at es c.args.one.number))
    c.corner_at.ensures.narrow c.corner_at-2.ensures.narrow (omega (
      arith,
      c.corner_at.ensures.corner,
      c.corner_at-2.ensures.corner,
      c.if-corner_at.true,
    )) in
    melded-swap es gs c.args.up.number c.args.other.number b a
    (melded-raised es fs under c.args.other.number under c.args.one.number c.args.up.number b a swapped is gs
    (c.hang.ensures.hung c.args.up.number b under a
    (apart-raised es fs under c.args.other.number under c.args.one.number c.args.up.number b a swapped is)
    (above-raised es fs under c.args.other.number under c.args.one.number c.args.up.number b a swapped is first)))

pub returns-clause-melded : goal.returns-clause-melded
returns-clause-melded g c under a b apart =
    let r = c.requires in
    let es = map g.E.Entry.item c.args.entries.now in
    let fs = map g.E.Entry.item c.set_up-2.new.entries in
    let gs = map g.E.Entry.item c.hang-2.new.entries in
    let is = linked-by es fs c.args.one.number c.args.up.number (item_at es c.args.one.number).left (item_at es c.args.one.number).right
    (one-in es r.0 c.args.one.number r.0 c.args.other.number r.1 r.2 r.3) c.set_up-2.ensures.links in
    let first = corner-first (item_box (item_at es c.args.one.number)) (item_box (item_at es c.args.other.number))
    c.corner_at-2.ensures.narrow c.corner_at.ensures.narrow (omega (
      arith,
      c.corner_at.ensures.corner,
      c.corner_at-2.ensures.corner,
      c.if-corner_at.false,
    )) in
    melded-raised es fs under c.args.one.number under c.args.other.number c.args.up.number a b apart is gs
    (c.hang-2.ensures.hung c.args.up.number a under b
    (apart-raised es fs under c.args.one.number under c.args.other.number c.args.up.number a b apart is)
    (above-raised es fs under c.args.one.number under c.args.other.number c.args.up.number a b apart is first))

pub returns-then-corner_at-clause-areas : goal.returns-then-corner_at-clause-areas
returns-then-corner_at-clause-areas g c =
    let r = c.requires in
    let es = map g.E.Entry.item c.args.entries.now in
    let fs = map g.E.Entry.item c.set_up.new.entries in
    let is = linked-by es fs c.args.other.number c.args.up.number (item_at es c.args.other.number).left
    (item_at es c.args.other.number).right (other-in es r.0 c.args.one.number r.0 c.args.other.number r.1 r.2 r.3)
    c.set_up.ensures.links in
    areas-raised es fs r.0 c.args.other.number r.0 c.args.one.number c.args.up.number r.2 r.1
    (apart-swap es r.0 c.args.one.number r.0 c.args.other.number r.1 r.2 r.3) is (map g.E.Entry.item c.hang.new.entries)
    c.hang.ensures.areas

pub returns-clause-areas : goal.returns-clause-areas
returns-clause-areas g c =
    let r = c.requires in
    let es = map g.E.Entry.item c.args.entries.now in
    let fs = map g.E.Entry.item c.set_up-2.new.entries in
    let is = linked-by es fs c.args.one.number c.args.up.number (item_at es c.args.one.number).left (item_at es c.args.one.number).right
    (one-in es r.0 c.args.one.number r.0 c.args.other.number r.1 r.2 r.3) c.set_up-2.ensures.links in
    areas-raised es fs r.0 c.args.one.number r.0 c.args.other.number c.args.up.number r.1 r.2 r.3 is
    (map g.E.Entry.item c.hang-2.new.entries) c.hang-2.ensures.areas
