use Rattle.std.proofs.Common.{◌≡◌, ◌∙◌, Some, ap, arith, refl, subst, sym}
use Rattle.std.proofs.lemmas.Option.{slice_get-get_or}
use Rattle.guillotiere.specs.Pages.{page_sizes}
use Rattle.guillotiere.specs.Pixels.{sides_of, size_of}
use Rattle.guillotiere.specs.Steps.{Step}
use Rattle.guillotiere.specs.Steps.AtlasCall.{Grow}
use Rattle.guillotiere.specs.Steps.AtlasReply.{Refused}
use Rattle.guillotiere.specs.Stored.{state_of}
use Rattle.atlas_entries.specs.declared.error.CacheError.TheVariants.{Slots}
use Rattle.atlas_cache.specs.Rooms.{rooms_of, AreKnown, KeepsRooms}
use Rattle.atlas_cache.proofs.RoomLemmas.PageGrowth.{grown_less, growth_of, not_all_largest}
use Rattle.atlas_cache.proofs.RoomLemmas.KeptPages.{nothing_changes, others_kept, page_grows, rectangles_stay, rooms_keep, sizes_set}
use Rattle.atlas_cache.proofs.RoomLemmas.PageReserves.{first_growth_short, growth_short, none_used, page_steps_on, page_uses}
use Rattle.atlas_cache.proofs.RoomLemmas.KnownPages.{known_set, known_there}
use Rattle.atlas_cache.proofs.RoomLemmas.LiveAreas.{live-grown}
use Rattle.atlas_cache.proofs.rooms.Rooms.grow_page.Goals as goal

pub grown-size-requires-clause-positive : goal.grown-size-requires-clause-positive
grown-size-requires-clause-positive g c =
    (growth_of (rooms_of c.self.inside.options c.self.inside.pages.items) c.self.invariant.0 c.in-Some.page c.in-Some.old
    (rw c.deref.ensures.value at c.in-Some.ensures.here) c.in-Some.ensures.smaller).positive

pub grown-size-requires-clause-fits : goal.grown-size-requires-clause-fits
grown-size-requires-clause-fits g c =
    (growth_of (rooms_of c.self.inside.options c.self.inside.pages.items) c.self.invariant.0 c.in-Some.page c.in-Some.old
    (rw c.deref.ensures.value at c.in-Some.ensures.here) c.in-Some.ensures.smaller).fits

pub index_mut-requires : goal.index_mut-requires
index_mut-requires g c =
    let growth = growth_of (rooms_of c.self.inside.options c.self.inside.pages.items) c.self.invariant.0 c.in-Some.page c.in-Some.old
    (rw c.deref.ensures.value at c.in-Some.ensures.here) c.in-Some.ensures.smaller in
    omega (arith, growth.within, c.self.inside.pages.ok.0)

pub grow-requires : goal.grow-requires
grow-requires g c =
    let growth = growth_of (rooms_of c.self.inside.options c.self.inside.pages.items) c.self.invariant.0 c.in-Some.page c.in-Some.old
    (rw c.deref.ensures.value at c.in-Some.ensures.here) c.in-Some.ensures.smaller in
    let a = c.index_mut.result.now in
    rw c.grown-size.ensures
    (growth.larger a (slice_get-get_or c.self.inside.pages.items c.in-Some.page a growth.within ∙ ap Some (sym c.index_mut.ensures.value)))

pub number-requires : goal.number-requires
number-requires g c =
    let growth = growth_of (rooms_of c.self.inside.options c.self.inside.pages.items) c.self.invariant.0 c.in-Some.page c.in-Some.old
    (rw c.deref.ensures.value at c.in-Some.ensures.here) c.in-Some.ensures.smaller in
    omega (arith, growth.within, c.self.invariant.0.few)

pub invariant_of-self : goal.invariant_of-self
invariant_of-self g c =
    let growth = growth_of (rooms_of c.self.inside.options c.self.inside.pages.items) c.self.invariant.0 c.in-Some.page c.in-Some.old
    (rw c.deref.ensures.value at c.in-Some.ensures.here) c.in-Some.ensures.smaller in
    let same = sym (nothing_changes c.self.inside.pages.items c.in-Some.page c.index_mut.result.now c.grow.new.self
    c.index_mut.ensures.value
    growth.within c.in-Err.ensures.refused) in (
      subst (λ ps. KeepsRooms (rooms_of c.self.inside.options ps)) same c.self.invariant.0,
      subst (λ ps. AreKnown ps c.self.inside.known.items) same c.self.invariant.1,
    )

pub returns-in-Err-clause-none : goal.returns-in-Err-clause-none
returns-in-Err-clause-none g c =
    rw (← c.self.view_is) (
      λ is. cc,
      λ all. absurd (not_all_largest c.self.inside.options (page_sizes c.self.inside.pages.items) c.in-Some.page c.in-Some.old
          (rw c.deref.ensures.value at c.in-Some.ensures.here) c.in-Some.ensures.smaller all),
    )

pub returns-in-Err-clause-refused : goal.returns-in-Err-clause-refused
returns-in-Err-clause-refused g c =
    let growth = growth_of (rooms_of c.self.inside.options c.self.inside.pages.items) c.self.invariant.0 c.in-Some.page c.in-Some.old
    (rw c.deref.ensures.value at c.in-Some.ensures.here) c.in-Some.ensures.smaller in
    ap (rooms_of c.self.inside.options) (nothing_changes c.self.inside.pages.items c.in-Some.page c.index_mut.result.now c.grow.new.self
    c.index_mut.ensures.value growth.within c.in-Err.ensures.refused) ∙ c.self.view_is

pub returns-in_default-clause-slots : goal.returns-in_default-clause-slots
returns-in_default-clause-slots g c = rw (← c.self.view_is) (none_used 3 c.self.inside.pages.items)

pub returns-in-Err-clause-slots : goal.returns-in-Err-clause-slots
returns-in-Err-clause-slots g c =
    let growth = growth_of (rooms_of c.self.inside.options c.self.inside.pages.items) c.self.invariant.0 c.in-Some.page c.in-Some.old
    (rw c.deref.ensures.value at c.in-Some.ensures.here) c.in-Some.ensures.smaller in
    rw (← c.self.view_is) (page_uses c.self.inside.pages.items c.in-Some.page c.index_mut.result.now c.grow.new.self
    c.index_mut.ensures.value growth.within 3 c.grow.ensures.slots)

pub returns-in-Err-clause-short : goal.returns-in-Err-clause-short
returns-in-Err-clause-short g c = λ is.
    let growth = growth_of (rooms_of c.self.inside.options c.self.inside.pages.items) c.self.invariant.0 c.in-Some.page c.in-Some.old
    (rw c.deref.ensures.value at c.in-Some.ensures.here) c.in-Some.ensures.smaller in
    let a = c.index_mut.result.now in
    let b = c.grow.new.self in
    let n = sides_of c.grown-size.result in
    let slots : c.refusal.result ≡ Slots = cc in
    let step = subst (λ e. Step (state_of a) (Grow n) (Refused e) (state_of b)) (c.refusal.ensures.slots slots) c.in-Err.ensures.step in
    rw (← c.self.view_is) (growth_short c.self.inside.pages.items c.in-Some.page a b c.index_mut.ensures.value growth.within
    c.self.inside.options c.self.invariant.0 n (state_of b) step)

pub returns-in-Err-clause-lacks : goal.returns-in-Err-clause-lacks
returns-in-Err-clause-lacks g c = λ is.
    let growth = growth_of (rooms_of c.self.inside.options c.self.inside.pages.items) c.self.invariant.0 c.in-Some.page c.in-Some.old
    (rw c.deref.ensures.value at c.in-Some.ensures.here) c.in-Some.ensures.smaller in
    let a = c.index_mut.result.now in
    let b = c.grow.new.self in
    let n = sides_of c.grown-size.result in
    let slots : c.refusal.result ≡ Slots = cc in
    let step = subst (λ e. Step (state_of a) (Grow n) (Refused e) (state_of b)) (c.refusal.ensures.slots slots) c.in-Err.ensures.step in
    rw (← c.self.view_is) (first_growth_short c.self.inside.pages.items c.in-Some.page a b c.index_mut.ensures.value growth.within
    c.self.inside.options c.self.invariant.0 c.grown-size.result
    (record {
      before = rw c.deref.ensures.value at c.in-Some.ensures.before;
      old = c.in-Some.old;
      here = rw c.deref.ensures.value at c.in-Some.ensures.here;
      smaller = c.in-Some.ensures.smaller;
      grows = c.grown-size.ensures;
    }) n (state_of b) step)

pub invariant_of-self-2 : goal.invariant_of-self-2
invariant_of-self-2 g c =
    let growth = growth_of (rooms_of c.self.inside.options c.self.inside.pages.items) c.self.invariant.0 c.in-Some.page c.in-Some.old
    (rw c.deref.ensures.value at c.in-Some.ensures.here) c.in-Some.ensures.smaller in
    let pages = c.self.inside.pages.items in
    let a = c.index_mut.result.now in
    let there = slice_get-get_or pages c.in-Some.page a growth.within ∙ ap Some (sym c.index_mut.ensures.value) in
    let live = live-grown (state_of a) (state_of c.grow.new.self) (sides_of c.grown-size.result)
    (c.self.invariant.0.each c.in-Some.page a there).sound c.in_default-grow.ensures.step in
    let live_is = (known_there pages c.self.inside.known.items c.in-Some.page a c.index.result.now growth.within c.index_mut.ensures.value
    c.index.ensures c.self.invariant.1).live in (
      rooms_keep pages c.in-Some.page a c.grow.new.self c.index_mut.ensures.value growth.within c.self.inside.options
          (page_grows c.self.inside.options a c.grow.new.self (sides_of c.grown-size.result) c.grow.ensures.keeps.sound
          c.in_default-grow.ensures.frame (rw c.grown-size.ensures (growth.larger a there)) (rw c.grown-size.ensures growth.grows.within))
          c.self.invariant.0,
      known_set pages c.self.inside.known.items c.in-Some.page c.grow.new.self c.changed.result growth.within
          (c.changed.ensures c.grow.new.self (live_is ∙ sym live)) c.self.invariant.1,
    )

pub index-requires : goal.index-requires
index-requires g c =
    let growth = growth_of (rooms_of c.self.inside.options c.self.inside.pages.items) c.self.invariant.0 c.in-Some.page c.in-Some.old
    (rw c.deref.ensures.value at c.in-Some.ensures.here) c.in-Some.ensures.smaller in
    omega (arith, growth.within, c.self.invariant.1.as_many, c.self.inside.known.ok.0)

pub index_mut-requires-2 : goal.index_mut-requires-2
index_mut-requires-2 g c =
    let growth = growth_of (rooms_of c.self.inside.options c.self.inside.pages.items) c.self.invariant.0 c.in-Some.page c.in-Some.old
    (rw c.deref.ensures.value at c.in-Some.ensures.here) c.in-Some.ensures.smaller in
    omega (arith, growth.within, c.self.invariant.1.as_many, c.self.inside.known.ok.0)

pub returns-clause-first : goal.returns-clause-first
returns-clause-first g c =
    rw (c.number.ensures, ← c.self.view_is) (record {
      before = rw c.deref.ensures.value at c.in-Some.ensures.before;
      old = c.in-Some.old;
      here = rw c.deref.ensures.value at c.in-Some.ensures.here;
      smaller = c.in-Some.ensures.smaller;
      grows = c.grown-size.ensures;
    })

pub returns-clause-sizes : goal.returns-clause-sizes
returns-clause-sizes g c =
    let growth = growth_of (rooms_of c.self.inside.options c.self.inside.pages.items) c.self.invariant.0 c.in-Some.page c.in-Some.old
    (rw c.deref.ensures.value at c.in-Some.ensures.here) c.in-Some.ensures.smaller in
    let exact : size_of (sides_of c.grown-size.result) ≡ c.grown-size.result = rw c.grown-size.ensures refl in
    rw (c.number.ensures, ← c.self.view_is) (sizes_set c.self.inside.pages.items c.in-Some.page c.index_mut.result.now c.grow.new.self
    c.index_mut.ensures.value growth.within c.grown-size.result (ap size_of c.in_default-grow.ensures.frame.size ∙ exact))

pub returns-clause-less : goal.returns-clause-less
returns-clause-less g c =
    let growth = growth_of (rooms_of c.self.inside.options c.self.inside.pages.items) c.self.invariant.0 c.in-Some.page c.in-Some.old
    (rw c.deref.ensures.value at c.in-Some.ensures.here) c.in-Some.ensures.smaller in
    rw (returns-clause-sizes g c, c.number.ensures, c.grown-size.ensures, ← c.self.view_is)
    (grown_less (rooms_of c.self.inside.options c.self.inside.pages.items) c.in-Some.page c.in-Some.old growth
    (rw c.deref.ensures.value at c.in-Some.ensures.here))

pub returns-clause-same : goal.returns-clause-same
returns-clause-same g c =
    let growth = growth_of (rooms_of c.self.inside.options c.self.inside.pages.items) c.self.invariant.0 c.in-Some.page c.in-Some.old
    (rw c.deref.ensures.value at c.in-Some.ensures.here) c.in-Some.ensures.smaller in
    rw (← c.self.view_is) (rectangles_stay c.self.inside.pages.items c.in-Some.page c.index_mut.result.now c.grow.new.self
    c.index_mut.ensures.value growth.within c.grow.ensures.keeps.live)

pub returns-clause-others : goal.returns-clause-others
returns-clause-others g c =
    let growth = growth_of (rooms_of c.self.inside.options c.self.inside.pages.items) c.self.invariant.0 c.in-Some.page c.in-Some.old
    (rw c.deref.ensures.value at c.in-Some.ensures.here) c.in-Some.ensures.smaller in
    rw (c.number.ensures, ← c.self.view_is) (others_kept c.self.inside.pages.items c.in-Some.page c.index_mut.result.now
    c.grow.new.self c.index_mut.ensures.value growth.within)

pub returns-clause-slots : goal.returns-clause-slots
returns-clause-slots g c =
    let growth = growth_of (rooms_of c.self.inside.options c.self.inside.pages.items) c.self.invariant.0 c.in-Some.page c.in-Some.old
    (rw c.deref.ensures.value at c.in-Some.ensures.here) c.in-Some.ensures.smaller in
    rw (← c.self.view_is) (page_uses c.self.inside.pages.items c.in-Some.page c.index_mut.result.now c.grow.new.self
    c.index_mut.ensures.value growth.within 3 c.grow.ensures.slots)

pub returns-clause-none : goal.returns-clause-none
returns-clause-none g c =
    rw (← c.self.view_is) (
      λ is. cc,
      λ all. absurd (not_all_largest c.self.inside.options (page_sizes c.self.inside.pages.items) c.in-Some.page c.in-Some.old
          (rw c.deref.ensures.value at c.in-Some.ensures.here) c.in-Some.ensures.smaller all),
    )

pub returns-clause-step : goal.returns-clause-step
returns-clause-step g c =
    let growth = growth_of (rooms_of c.self.inside.options c.self.inside.pages.items) c.self.invariant.0 c.in-Some.page c.in-Some.old
    (rw c.deref.ensures.value at c.in-Some.ensures.here) c.in-Some.ensures.smaller in
    rw (c.number.ensures, ← c.self.view_is) (page_steps_on c.self.inside.pages.items c.in-Some.page c.index_mut.result.now
    c.grow.new.self c.index_mut.ensures.value growth.within c.grown-size.result c.in_default-grow.ensures.step)
