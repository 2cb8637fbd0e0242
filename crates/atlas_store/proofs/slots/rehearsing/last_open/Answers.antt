use Rattle.std.proofs.Common.{◌≡◌, ◌<◌, ◌≤◌, true, length, refl, sym, ap, ◌∙◌, suc}
use Rattle.std.proofs.lemmas.List.{length-map}
use Rattle.atlas_store.specs.declared.slots.Node.{Node}
use Rattle.atlas_store.specs.Slots.{nodes, node_at}
use Rattle.atlas_store.specs.Slots.Rehearsing.{is_open}
use Rattle.atlas_store.proofs.SlotLemmas.Frames.{used-inside}
use Rattle.atlas_store.proofs.SlotLemmas.OpenWalks.{slot-after, next-falls, used-after, line-after, none-closed}
use Rattle.atlas_store.proofs.slots.rehearsing.last_open.Goals as goal

pub loop-after-init : goal.loop-after-init
loop-after-init c = record { used = c.requires.member; line = (0, refl); last = c.requires.«open» }

pub read_node-requires : goal.read_node-requires
read_node-requires c =
    let l : c.loop-after.high.number < length (nodes c.args.slots.now) = used-inside _ _ c.loop-after.invariant.used in
    simp length-map at l

pub is_open-requires-clause-slot : goal.is_open-requires-clause-slot
is_open-requires-clause-slot c =
    let ns = nodes c.args.slots.now in
    slot-after ns (simp length-map c.requires.short) c.requires.tree c.loop-after.high.number c.loop-after.invariant.used
    _ _ (ap (λ (n : Node). n.next.number) c.read_node.ensures) (simp length-map refl)

pub loop-after-smaller : goal.loop-after-smaller
loop-after-smaller c =
    let ns = nodes c.args.slots.now in
    rw c.read_node.ensures (next-falls ns (simp length-map c.requires.short) c.requires.tree c.loop-after.high.number
    c.loop-after.invariant.used)

pub loop-after-preserved : goal.loop-after-preserved
loop-after-preserved c =
    let ns = nodes c.args.slots.now in
    let o = is_open ns c.args.marks.now in
    let short : length ns ≤ 16777216 = simp length-map c.requires.short in
    let more : o (node_at ns c.loop-after.high.number).next.number ≡ true =
    rw c.read_node.ensures at (sym c.is_open.ensures ∙ c.if-not-is_open.false) in
    let used = used-after ns short c.requires.tree c.loop-after.high.number c.loop-after.invariant.used o
    (none-closed ns c.args.marks.now (simp length-map c.requires.marks) short) more in
    rw c.read_node.ensures (record {
      used = used;
      line = (
        suc c.loop-after.invariant.line.0,
        line-after ns o _ _ c.loop-after.high.number c.loop-after.invariant.last
            c.loop-after.invariant.line.1,
      );
      last = more;
    })

pub returns-then-not-is_open : goal.returns-then-not-is_open
returns-then-not-is_open c =
    record {
      used = c.loop-after.invariant.used;
      line = c.loop-after.invariant.line;
      last = c.loop-after.invariant.last;
      after = rw c.read_node.ensures at (sym c.is_open.ensures ∙ c.if-not-is_open.true);
    }
