use Rattle.std.proofs.Common.{◌≡◌, ◌<◌, ◌≤◌, true, length, refl, sym, ap, ◌∙◌, suc}
use Rattle.std.proofs.lemmas.List.{length-map}
use Rattle.atlas_store.specs.declared.slots.Node.{Node}
use Rattle.atlas_store.specs.Slots.{nodes, node_at}
use Rattle.atlas_store.specs.Slots.Rehearsing.{is_open}
use Rattle.atlas_store.proofs.SlotLemmas.Frames.{used-inside}
use Rattle.atlas_store.proofs.SlotLemmas.OpenWalks.{slot-before, previous-falls, goes-before, none-closed}
use Rattle.atlas_store.proofs.slots.rehearsing.first_open.Goals as goal

pub loop-before-init : goal.loop-before-init
loop-before-init c = record { used = c.requires.member; line = (0, refl) }

pub read_node-requires : goal.read_node-requires
read_node-requires c =
    let l : c.loop-before.low.number < length (nodes c.args.slots.now) = used-inside _ _ c.loop-before.invariant.used in
    simp length-map at l

pub is_open-requires-clause-slot : goal.is_open-requires-clause-slot
is_open-requires-clause-slot c =
    let ns = nodes c.args.slots.now in
    slot-before ns (simp length-map c.requires.short) c.requires.tree c.loop-before.low.number c.loop-before.invariant.used
    _ _ (ap (λ (n : Node). n.previous.number) c.read_node.ensures) (simp length-map refl)

pub loop-before-smaller : goal.loop-before-smaller
loop-before-smaller c =
    let ns = nodes c.args.slots.now in
    rw c.read_node.ensures (previous-falls ns (simp length-map c.requires.short) c.requires.tree c.loop-before.low.number
    c.loop-before.invariant.used)

pub loop-before-preserved : goal.loop-before-preserved
loop-before-preserved c =
    let ns = nodes c.args.slots.now in
    let o = is_open ns c.args.marks.now in
    let short : length ns ≤ 16777216 = simp length-map c.requires.short in
    let more : o (node_at ns c.loop-before.low.number).previous.number ≡ true =
    rw c.read_node.ensures at (sym c.is_open.ensures ∙ c.if-not-is_open.false) in
    let x = goes-before ns short c.requires.tree c.loop-before.low.number c.loop-before.invariant.used o
    c.loop-before.invariant.line.0 c.args.at.number (none-closed ns c.args.marks.now (simp length-map c.requires.marks) short)
    more c.loop-before.invariant.line.1 in
    rw c.read_node.ensures (record { used = x.0; line = (suc c.loop-before.invariant.line.0, x.1) })

pub returns-then-not-is_open : goal.returns-then-not-is_open
returns-then-not-is_open c =
    record {
      used = c.loop-before.invariant.used;
      line = c.loop-before.invariant.line;
      before = rw c.read_node.ensures at (sym c.is_open.ensures ∙ c.if-not-is_open.true);
    }
