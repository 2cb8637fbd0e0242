use Rattle.std.proofs.Common.{◌<◌, ap, length, arith, sym}
use Rattle.std.proofs.lemmas.List.{length-map}
use Rattle.guillotiere.specs.Pages.{page_sizes, size_of_page}
use Rattle.guillotiere.specs.States.{live_in}
use Rattle.guillotiere.proofs.Callers.{page_added, others_stay}
use Rattle.atlas_cache.proofs.RoomLemmas.PageGrowth.{joined_less, sizes_joined}
use Rattle.atlas_cache.proofs.RoomLemmas.KeptPages.{new_is_page, rooms_joined}
use Rattle.atlas_cache.proofs.RoomLemmas.PageReserves.{starts_last}
use Rattle.atlas_cache.proofs.RoomLemmas.KnownPages.{known_joined}
use Rattle.atlas_cache.proofs.RoomLemmas.LiveAreas.{live_sum}
use Rattle.atlas_cache.proofs.rooms.Rooms.add_page.Goals as goal

pub invariant_of-self : goal.invariant_of-self
invariant_of-self g c = (
  c.self.invariant.0,
  rw c.in_err-reserve.ensures.items c.self.invariant.1,
)

pub invariant_of-self-in-Ok : goal.invariant_of-self-in-Ok
invariant_of-self-in-Ok g c =
    let count = rw (← c.self.view_is) at c.len-number.ensures.pages in
    let less : length c.self.inside.pages.items < c.self.inside.options.pages = omega (arith, count, c.self.invariant.0.few) in (
      rw c.in_ok-push-in-Ok.ensures.items (rooms_joined c.self.inside.options c.self.inside.pages.items c.in-Ok.page
          (new_is_page c.self.inside.options c.in-Ok.page c.self.invariant.0.usable c.in-Ok.ensures.sound c.in-Ok.ensures.state)
          less c.self.invariant.0),
      rw (c.in_ok-push-in-Ok.ensures.items, c.push_reserved.ensures.items, c.in_ok-reserve.ensures.items)
          (known_joined c.self.inside.pages.items c.self.inside.known.items c.in-Ok.page c.changed.result
          (c.changed.ensures c.in-Ok.page (sym (ap live_sum c.in-Ok.ensures.state))) c.self.invariant.1),
    )

pub returns-in_ok-push-in-Ok-clause-sizes : goal.returns-in_ok-push-in-Ok-clause-sizes
returns-in_ok-push-in-Ok-clause-sizes g c =
    rw (c.in_ok-push-in-Ok.ensures.items, ← c.self.view_is)
    (sizes_joined c.self.inside.options c.self.invariant.0.usable c.self.inside.pages.items c.in-Ok.page c.in-Ok.ensures.state)

pub returns-in_ok-push-in-Ok-clause-less : goal.returns-in_ok-push-in-Ok-clause-less
returns-in_ok-push-in-Ok-clause-less g c =
    let count = rw (← c.self.view_is) at c.len-number.ensures.pages in
    let less : length c.self.inside.pages.items < c.self.inside.options.pages = omega (arith, count, c.self.invariant.0.few) in
    rw (returns-in_ok-push-in-Ok-clause-sizes g c, ← c.self.view_is)
    (joined_less c.self.inside.options c.self.invariant.0.usable (page_sizes c.self.inside.pages.items)
    (rw (length-map c.self.inside.pages.items size_of_page) less))

pub returns-in_ok-push-in-Ok-clause-same : goal.returns-in_ok-push-in-Ok-clause-same
returns-in_ok-push-in-Ok-clause-same g c =
    rw (c.in_ok-push-in-Ok.ensures.items, ← c.self.view_is)
    (page_added c.self.inside.pages.items c.in-Ok.page (ap live_in c.in-Ok.ensures.state))

pub returns-in_ok-push-in-Ok-clause-others : goal.returns-in_ok-push-in-Ok-clause-others
returns-in_ok-push-in-Ok-clause-others g c =
    rw (c.in_ok-push-in-Ok.ensures.items, c.len-number.ensures.pages, ← c.self.view_is)
    (others_stay c.self.inside.pages.items c.in-Ok.page)

pub invariant_of-self-in_err-push-in-Ok : goal.invariant_of-self-in_err-push-in-Ok
invariant_of-self-in_err-push-in-Ok g c = (
  rw c.in_err-push-in-Ok.ensures.items c.self.invariant.0,
  rw (c.in_err-push-in-Ok.ensures.items, c.in_ok-reserve.ensures.items) c.self.invariant.1,
)

pub returns-in_ok-push-in-Ok-clause-start : goal.returns-in_ok-push-in-Ok-clause-start
returns-in_ok-push-in-Ok-clause-start g c =
    rw (c.in_ok-push-in-Ok.ensures.items, c.len-number.ensures.pages, ← c.self.view_is)
    (starts_last c.self.inside.options c.self.inside.pages.items c.in-Ok.page c.in-Ok.ensures.state)
