use Rattle.std.proofs.Common.{◌∙◌, arith}
use Rattle.guillotiere.specs.Boxes.{area}
use Rattle.guillotiere.specs.States.{free_in}
use Rattle.guillotiere.specs.Stored.{state_of}
use Rattle.atlas_allocator.specs.Room.{lost}
use Rattle.atlas_cache.proofs.UsableLemmas.{sum-shown}
use Rattle.atlas_cache.proofs.rooms.usable.unusable_on.Goals as goal

pub unusable_sum-lost-requires : goal.unusable_sum-lost-requires
unusable_sum-lost-requires g c =
    let fits = c.free_area-all.type_inv in
    let shown = sum-shown area c.in-Ok.free.items (free_in (state_of c.args.page.now)) c.in-Ok.ensures.list.list in
    rw c.deref.ensures.value (omega (arith, shown, c.free_area-all.ensures.area))

pub returns-clause-area : goal.returns-clause-area
returns-clause-area g c =
    let shown = sum-shown (lost (record { width = c.args.width; height = c.args.height })) c.in-Ok.free.items
    (free_in (state_of c.args.page.now)) c.in-Ok.ensures.list.list in
    let told = rw c.deref.ensures.value at c.unusable_sum-lost.ensures in
    told ∙ shown
