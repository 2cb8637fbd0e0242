use Rattle.std.proofs.Common.{◌∙◌}
use Rattle.atlas_allocator.proofs.AtlasLemmas.RehearsedIds.{IsLiveSlot, ready, allocated, as_many}
use Rattle.atlas_allocator.proofs.AtlasLemmas.RehearsedIds.{rehearsed, rehearsed-free, rehearsed-around}
use Rattle.atlas_allocator.proofs.atlas.AtlasAllocator.rehearse.Goals as goal

pub show-requires-clause-shown : goal.show-requires-clause-shown
show-requires-clause-shown g c =
    let at : IsLiveSlot _ c.args.self.now c.args.id c.slot_number.result =
    record {
      atlas = c.self.invariant;
      turns = _;
      capacity = _;
      view = c.self.view_is;
      names = c.slot_number.ensures;
      live = c.requires.live;
    } in
    let w = c.requires.shown in
    rw c.slots.ensures (ready _ _ _ _ at c.args.marks.now w.0 w.1 w.2)

pub show-requires-clause-allocated : goal.show-requires-clause-allocated
show-requires-clause-allocated g c =
    let at : IsLiveSlot _ c.args.self.now c.args.id c.slot_number.result =
    record {
      atlas = c.self.invariant;
      turns = _;
      capacity = _;
      view = c.self.view_is;
      names = c.slot_number.ensures;
      live = c.requires.live;
    } in
    rw c.slots.ensures (allocated _ _ _ _ at c.args.marks.now)

pub show-requires-clause-short : goal.show-requires-clause-short
show-requires-clause-short g c = rw c.slots.ensures c.self.invariant.holds.short

pub show-requires-clause-marks : goal.show-requires-clause-marks
show-requires-clause-marks g c =
    let at : IsLiveSlot _ c.args.self.now c.args.id c.slot_number.result =
    record {
      atlas = c.self.invariant;
      turns = _;
      capacity = _;
      view = c.self.view_is;
      names = c.slot_number.ensures;
      live = c.requires.live;
    } in
    rw c.slots.ensures (as_many _ _ _ _ at c.args.marks.now c.requires.marks)

pub returns-clause-shown : goal.returns-clause-shown
returns-clause-shown g c =
    let at : IsLiveSlot _ c.args.self.now c.args.id c.slot_number.result =
    record {
      atlas = c.self.invariant;
      turns = _;
      capacity = _;
      view = c.self.view_is;
      names = c.slot_number.ensures;
      live = c.requires.live;
    } in
    let many = c.show.ensures.marks ∙ as_many _ _ _ _ at c.args.marks.now c.requires.marks in
    rehearsed _ _ _ _ at c.args.marks.now c.show.new.marks c.show.result many (rw c.slots.ensures at c.show.ensures.shown)

pub returns-clause-free : goal.returns-clause-free
returns-clause-free g c =
    let at : IsLiveSlot _ c.args.self.now c.args.id c.slot_number.result =
    record {
      atlas = c.self.invariant;
      turns = _;
      capacity = _;
      view = c.self.view_is;
      names = c.slot_number.ensures;
      live = c.requires.live;
    } in
    let many = c.show.ensures.marks ∙ as_many _ _ _ _ at c.args.marks.now c.requires.marks in
    rehearsed-free _ _ _ _ at c.args.marks.now c.show.new.marks c.show.result many
    (rw c.slots.ensures at c.show.ensures.shown) (rw c.slots.ensures at c.show.ensures.run)

pub returns-clause-around : goal.returns-clause-around
returns-clause-around g c =
    let at : IsLiveSlot _ c.args.self.now c.args.id c.slot_number.result =
    record {
      atlas = c.self.invariant;
      turns = _;
      capacity = _;
      view = c.self.view_is;
      names = c.slot_number.ensures;
      live = c.requires.live;
    } in
    rehearsed-around _ _ _ _ at c.args.marks.now _ (rw c.slots.ensures at c.show.ensures.around)
