use Rattle.std.proofs.Common.{◌≡◌, ◌∙◌, ap, arith, refl, rules, Err, Ok}
use Rattle.atlas_cache.specs.Caches.{entries_of}
use Rattle.atlas_entries.specs.Entries.{lying}
use Rattle.atlas_cache.proofs.HoldingLemmas.{stays}
use Rattle.atlas_cache.proofs.ReadyLemmas.{error_is, full_stays, ready_reserved}
use Rattle.atlas_cache.proofs.RoomLemmas.PageReserves.{same_rectangles, same_sizes}
use Rattle.atlas_cache.proofs.cache.TextureCache.reserve_slots.Goals as goal

pub invariant_of-self : goal.invariant_of-self
invariant_of-self g c =
    let was = c.self.invariant in
    let old = c.self.inside.rooms.pages in
    let new = c.reserve_slots.new.self.pages in
    rw c.reserve_slots.ensures.options (record {
      held = stays old new (same_rectangles old new c.reserve_slots.ensures.states) (lying (entries_of c.self.inside.entries.entries))
          was.held;
      bordered = was.bordered;
      frames = was.frames;
    })

pub invariant_of-self-2 : goal.invariant_of-self-2
invariant_of-self-2 g c =
    let was = c.self.invariant in
    let old = c.self.inside.rooms.pages in
    let new = c.reserve_slots.new.self.pages in
    rw c.reserve_slots.ensures.options (record {
      held = stays old new (same_rectangles old new c.reserve_slots.ensures.states) (lying (entries_of c.self.inside.entries.entries))
          was.held;
      bordered = was.bordered;
      frames = was.frames;
    })

pub returns-clause-rest : goal.returns-clause-rest
returns-clause-rest g c = rw (← c.self.view_is, c.reserve_slots.ensures.options) refl

pub returns-clause-full : goal.returns-clause-full
returns-clause-full g c =
    let states = c.reserve_slots.ensures.states in
    rw (← c.self.view_is) (full_stays _ _ c.reserve_slots.ensures.options
    (same_sizes c.self.inside.rooms.pages c.reserve_slots.new.self.pages states))

pub returns-in_err-reserve_slots-clause-full : goal.returns-in_err-reserve_slots-clause-full
returns-in_err-reserve_slots-clause-full g c =
    let states = c.reserve_slots.ensures.states in
    rw (← c.self.view_is) (full_stays _ _ c.reserve_slots.ensures.options
    (same_sizes c.self.inside.rooms.pages c.reserve_slots.new.self.pages states))

pub returns-clause-inserts : goal.returns-clause-inserts
returns-clause-inserts g c =
    rw (← c.self.view_is) (ready_reserved (Ok c.in_ok-reserve_slots.field-0) c.args.additional _ _ _ c.in_ok-reserve_slots.ensures.ready
    c.in_ok-reserve_slots.ensures.allowed (omega arith) refl refl)

pub returns-in_err-reserve_slots-clause-had : goal.returns-in_err-reserve_slots-clause-had
returns-in_err-reserve_slots-clause-had g c =
    let same : c.from_residual.result ≡ Err c.in_err-reserve_slots.field-0.0 = search rules in
    rw (← c.self.view_is) (λ had refused.
    c.reserve_slots.ensures.had had
    (c.in_err-reserve_slots.was ∙ ap Err (error_is c.in_err-reserve_slots.field-0.0 c.from_residual.result same refused)))
