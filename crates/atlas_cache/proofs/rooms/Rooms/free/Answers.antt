use Rattle.std.proofs.Common.{◌≡◌, ◌+◌, ◌<◌, ◌∙◌, ℕ, ap, arith, get_or, length, sym, subst, IsSome, List, Ok, Some}
use Rattle.std.proofs.lemmas.Option.{slice_get-get_or}
use Rattle.guillotiere.specs.Boxes.{area, Box}
use Rattle.guillotiere.specs.Pages.{rectangle_on}
use Rattle.guillotiere.specs.Replies.{live_box}
use Rattle.guillotiere.specs.States.{IsSound}
use Rattle.guillotiere.specs.Steps.{Step}
use Rattle.guillotiere.specs.Steps.AtlasCall.{Deallocate}
use Rattle.guillotiere.specs.Steps.AtlasReply.{Done}
use Rattle.guillotiere.specs.Stored.{state_of, AtlasValue}
use Rattle.atlas_cache.specs.declared.rooms.asking.Known.{Known}
use Rattle.atlas_cache.specs.Rooms.{AreKnown}
use Rattle.atlas_cache.proofs.RoomLemmas.KeptPages.{frees, gives_back, id_lives, page_of, rooms_stay, sizes_stay}
use Rattle.atlas_cache.proofs.RoomLemmas.PageReserves.{page_uses}
use Rattle.atlas_cache.proofs.RoomLemmas.KnownPages.{known_set, known_there}
use Rattle.atlas_cache.proofs.RoomLemmas.LiveAreas.{live-freed, live_sum, shown_here}
use Rattle.atlas_cache.proofs.rooms.Rooms.free.Goals as goal

pub index_mut-requires : goal.index_mut-requires
index_mut-requires g c =
    let within = page_of c.self.inside.pages.items c.args.page c.args.id (rw (← c.self.view_is) at c.requires) in
    omega (arith, within, c.self.inside.pages.ok.0)

pub returns-clause-leaves : goal.returns-clause-leaves
returns-clause-leaves g c =
    let within = page_of c.self.inside.pages.items c.args.page c.args.id (rw (← c.self.view_is) at c.requires) in
    rw (← c.self.view_is) (gives_back _ _ c.index_mut.result.now _ c.index_mut.ensures.value within c.args.id
    c.deallocate-freed.ensures.leaves)

pub returns-clause-sizes : goal.returns-clause-sizes
returns-clause-sizes g c =
    let within = page_of c.self.inside.pages.items c.args.page c.args.id (rw (← c.self.view_is) at c.requires) in
    rw (← c.self.view_is) (sizes_stay _ _ c.index_mut.result.now _ c.index_mut.ensures.value within
    c.deallocate-freed.ensures.frame)

pub returns-clause-slots : goal.returns-clause-slots
returns-clause-slots g c =
    let within = page_of c.self.inside.pages.items c.args.page c.args.id (rw (← c.self.view_is) at c.requires) in
    rw (← c.self.view_is) (page_uses _ _ c.index_mut.result.now _ c.index_mut.ensures.value within 0
    c.deallocate-freed.ensures.slots)

pub returns-clause-step : goal.returns-clause-step
returns-clause-step g c =
    let shown = rw (← c.self.view_is) at c.requires in
    let pages = c.self.inside.pages.items in
    let within = page_of pages c.args.page c.args.id shown in
    let live = id_lives pages _ c.index_mut.result.now c.index_mut.result.now c.index_mut.ensures.value within c.args.id shown in
    let done : c.deallocate-freed.result ≡ Ok tt = c.deallocate-freed.ensures.ok.1 live in
    let step = rw done at c.deallocate-freed.ensures.step in
    rw (← c.self.view_is) (frees pages _ c.index_mut.result.now c.deallocate-freed.new.self c.index_mut.ensures.value within c.args.id
    step.1)

-- What the freed rectangle takes of what is live.
freed_area : (pages : List AtlasValue) (known : List Known) (page id : ℕ) (a c b : AtlasValue) (k : Known) (area_is : ℕ)
    → (within : page < length pages) → a ≡ get_or pages page a → c ≡ get_or pages page c → k ≡ get_or known page k
    → AreKnown pages known → IsSound (state_of a) → IsSome (rectangle_on pages page id)
    → ((box : Box) → live_box (state_of c) id ≡ Some box → area_is ≡ area box)
    → Step (state_of a) (Deallocate id) Done (state_of b) → live_sum (state_of b) + area_is ≡ k.live
freed_area pages known page id a c b k area_is within is_a is_c is_k was sound some told step =
    let at_a = slice_get-get_or pages page a within ∙ ap Some (sym is_a) in
    let at_c = slice_get-get_or pages page c within ∙ ap Some (sym is_c) in
    let same : c ≡ a = let both = sym at_c ∙ at_a in cc in
    let box = shown_here pages page id c within is_c some in
    let here = subst (λ (v : AtlasValue). live_box (state_of v) id ≡ Some box.0) same box.1 in
    let less = live-freed (state_of a) (state_of b) id box.0 sound step here in
    let live = (known_there pages known page a k within is_a is_k was).live in
    omega (arith, less, live, told box.0 box.1)

pub overflow_sub-index : goal.overflow_sub-index
overflow_sub-index g c =
    let shown = rw (← c.self.view_is) at c.requires in
    let pages = c.self.inside.pages.items in
    let a = c.index_mut.result.now in
    let within = page_of pages c.args.page c.args.id shown in
    let is = c.index_mut.ensures.value in
    let live = id_lives pages _ a a is within c.args.id shown in
    let done : c.deallocate-freed.result ≡ Ok tt = c.deallocate-freed.ensures.ok.1 live in
    let sound = (c.self.invariant.0.each c.args.page a (slice_get-get_or pages c.args.page a within ∙ ap Some (sym is))).sound in
    let less = freed_area pages c.self.inside.known.items c.args.page c.args.id a c.index.result.now c.deallocate-freed.new.self
    c.index-2.result.now c.area_on-area.result within is c.index.ensures c.index-2.ensures c.self.invariant.1 sound shown
    c.area_on-area.ensures (rw done at c.deallocate-freed.ensures.step) in
    omega (arith, less)

pub index-requires : goal.index-requires
index-requires g c =
    let within = page_of c.self.inside.pages.items c.args.page c.args.id (rw (← c.self.view_is) at c.requires) in
    omega (arith, within, c.self.inside.pages.ok.0)

pub index-requires-2 : goal.index-requires-2
index-requires-2 g c =
    let within = page_of c.self.inside.pages.items c.args.page c.args.id (rw (← c.self.view_is) at c.requires) in
    omega (arith, within, c.self.invariant.1.as_many, c.self.inside.known.ok.0)

pub invariant_of-self : goal.invariant_of-self
invariant_of-self g c =
    let shown = rw (← c.self.view_is) at c.requires in
    let pages = c.self.inside.pages.items in
    let known = c.self.inside.known.items in
    let a = c.index_mut.result.now in
    let b = c.deallocate-freed.new.self in
    let within = page_of pages c.args.page c.args.id shown in
    let is = c.index_mut.ensures.value in
    let live = id_lives pages _ a a is within c.args.id shown in
    let done : c.deallocate-freed.result ≡ Ok tt = c.deallocate-freed.ensures.ok.1 live in
    let sound = (c.self.invariant.0.each c.args.page a (slice_get-get_or pages c.args.page a within ∙ ap Some (sym is))).sound in
    let less = freed_area pages known c.args.page c.args.id a c.index.result.now b
    c.index-2.result.now c.area_on-area.result within is c.index.ensures c.index-2.ensures c.self.invariant.1 sound shown
    c.area_on-area.ensures (rw done at c.deallocate-freed.ensures.step) in (
      rooms_stay pages c.args.page a b is within c.self.inside.options c.deallocate-freed.ensures.leaves.sound
          c.deallocate-freed.ensures.frame c.self.invariant.0,
      known_set pages known c.args.page b c.changed.result within (c.changed.ensures b (omega (arith, less))) c.self.invariant.1,
    )

pub index_mut-requires-2 : goal.index_mut-requires-2
index_mut-requires-2 g c =
    let within = page_of c.self.inside.pages.items c.args.page c.args.id (rw (← c.self.view_is) at c.requires) in
    omega (arith, within, c.self.invariant.1.as_many, c.self.inside.known.ok.0)
