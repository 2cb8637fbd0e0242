use Rattle.std.proofs.Common.{arith}
use Rattle.std.proofs.lemmas.List.{length-map}
use Rattle.atlas_store.specs.Slots.{nodes}
use Rattle.atlas_store.proofs.SlotLemmas.Frames.{used-inside}
use Rattle.atlas_store.proofs.SlotLemmas.OpenMembers.{opened-set}
use Rattle.atlas_store.proofs.SlotLemmas.Climbs.{climb-starts, climbs, ends-shown, ends-run, run-exact, around-run, unmarked-falls}
use Rattle.atlas_store.proofs.slots.rehearsing.show.Goals as goal

pub loop-low-init : goal.loop-low-init
loop-low-init c =
    let ns = nodes c.args.slots.now in
    let w = c.requires.shown in
    climb-starts ns c.args.marks.now c.args.leaf.number (simp length-map c.requires.short) w.0 w.1 w.2 w.3 w.4
    (simp length-map c.requires.marks) c.requires.allocated

pub bounds-marks-at : goal.bounds-marks-at
bounds-marks-at c =
    let ns = nodes c.args.slots.now in
    omega (arith, c.loop-low.invariant.long, used-inside ns c.loop-low.at.number c.loop-low.invariant.used)

pub first_open-requires-clause-member : goal.first_open-requires-clause-member
first_open-requires-clause-member c = c.loop-low.invariant.used

pub last_open-requires-clause-member : goal.last_open-requires-clause-member
last_open-requires-clause-member c = c.loop-low.invariant.used

pub last_open-requires-clause-open : goal.last_open-requires-clause-open
last_open-requires-clause-open c =
    let ns = nodes c.args.slots.now in
    (opened-set ns c.loop-low.marks c.loop-low.at.number (omega (
      arith,
      c.loop-low.invariant.long,
      used-inside ns c.loop-low.at.number c.loop-low.invariant.used,
    ))).there

pub returns-then-not-fills_container-clause-shown : goal.returns-then-not-fills_container-clause-shown
returns-then-not-fills_container-clause-shown c s n held is none =
    let ns = nodes c.args.slots.now in
    let ends = rw (c.read_node-low.ensures, c.read_node-high.ensures) at (c.fills_container.ensures.ends c.if-not-fills_container.true) in
    record {
      top = is.top;
      stands = is.stands;
      shown = ends-shown ns c.args.marks.now c.args.leaf.number (simp length-map c.requires.short) s n held is none
          c.loop-low.marks c.loop-low.at.number c.loop-low.invariant c.first_open.result.number c.last_open.result.number
          c.first_open.ensures c.last_open.ensures ends;
    }

pub returns-then-not-fills_container-clause-run : goal.returns-then-not-fills_container-clause-run
returns-then-not-fills_container-clause-run c s n held is none =
    let ns = nodes c.args.slots.now in
    let ends = rw (c.read_node-low.ensures, c.read_node-high.ensures) at (c.fills_container.ensures.ends c.if-not-fills_container.true) in
    rw (c.read_node-low.ensures, c.read_node-high.ensures) (
    ends-run ns c.args.marks.now c.args.leaf.number (simp length-map c.requires.short) s n held is none
    c.loop-low.marks c.loop-low.at.number c.loop-low.invariant c.first_open.result.number c.last_open.result.number
    c.first_open.ensures c.last_open.ensures ends)

pub returns-then-not-fills_container-clause-around : goal.returns-then-not-fills_container-clause-around
returns-then-not-fills_container-clause-around c s n top stands cut =
    let ns = nodes c.args.slots.now in
    let w = c.requires.shown in
    rw (c.read_node-low.ensures, c.read_node-high.ensures) (
    around-run ns c.args.marks.now c.args.leaf.number (simp length-map c.requires.short) w.0 w.1 w.2 w.3 w.4
    c.loop-low.marks c.loop-low.at.number c.loop-low.invariant c.first_open.result.number c.last_open.result.number
    c.first_open.ensures c.last_open.ensures (c.loop-low.invariant.around s n top stands cut))

pub returns-then-not-fills_container-clause-exact : goal.returns-then-not-fills_container-clause-exact
returns-then-not-fills_container-clause-exact c =
    let ns = nodes c.args.slots.now in
    let w = c.requires.shown in
    rw (c.read_node-low.ensures, c.read_node-high.ensures) (
    run-exact ns c.args.marks.now c.args.leaf.number (simp length-map c.requires.short) w.0 w.1 w.2 w.3 w.4
    c.loop-low.marks c.loop-low.at.number c.loop-low.invariant c.first_open.result.number c.last_open.result.number
    c.first_open.ensures c.last_open.ensures)

pub loop-low-smaller : goal.loop-low-smaller
loop-low-smaller c =
    let ns = nodes c.args.slots.now in
    unmarked-falls ns c.loop-low.marks c.loop-low.at.number
    (omega (arith, c.loop-low.invariant.long, used-inside ns c.loop-low.at.number c.loop-low.invariant.used)) c.loop-low.invariant.closed

pub loop-low-preserved : goal.loop-low-preserved
loop-low-preserved c =
    let ns = nodes c.args.slots.now in
    let w = c.requires.shown in
    let fills = rw (c.read_node-low.ensures, c.read_node-high.ensures) at (c.fills_container.ensures.fills c.if-not-fills_container.false)
    in
    rw c.read_node-low.ensures (
    climbs ns c.args.marks.now c.args.leaf.number (simp length-map c.requires.short) w.0 w.1 w.2 w.3 w.4
    c.loop-low.marks c.loop-low.at.number c.loop-low.invariant c.first_open.result.number c.last_open.result.number
    c.first_open.ensures c.last_open.ensures fills.0 fills.1 fills.2)
