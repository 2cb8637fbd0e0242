use Rattle.std.proofs.Common.{◌<◌, ◌∙◌, length, refl, inl, inr, ap, arith, slice_set, sum_by, sym}
use Rattle.std.proofs.lemmas.{List.{length-set}, Option.{slice_get_cases}}
use Rattle.guillotiere.specs.Pages.{page_sizes}
use Rattle.atlas_cache.specs.Rooms.{RoomsState}
use Rattle.atlas_cache.proofs.RoomLemmas.KeptPages.{rooms_stay, sizes_stay}
use Rattle.atlas_cache.proofs.RoomLemmas.PageReserves.{both_used, none_used, page_uses}
use Rattle.atlas_cache.proofs.RoomLemmas.PageRoom.{one_more_idle}
use Rattle.atlas_cache.proofs.RoomLemmas.KnownPages.{known_set}
use Rattle.atlas_cache.proofs.RoomLemmas.LiveAreas.{grant_area}
use Rattle.atlas_cache.proofs.rooms.Rooms.clear.Goals as goal

pub loop-page-init : goal.loop-page-init
loop-page-init g c = record {
  idle = λ k below id. absurd (omega (arith, below));
  same = omega (arith, c.len-page-end.ensures, c.self.inside.pages.ok.0);
  sizes = ap (λ (r : RoomsState). page_sizes r.pages) c.self.view_is;
  slots = rw (← c.self.view_is) (none_used 0 c.self.inside.pages.items);
  options = ap (λ (r : RoomsState). r.options) c.self.view_is;
  kept = c.self.invariant.0;
  known = c.self.invariant.1;
}

pub loop-page-preserved : goal.loop-page-preserved
loop-page-preserved g c =
    let was = c.loop-page.invariant in
    let pages = c.loop-page.self-inside.pages.items in
    let page = c.loop-page.page in
    let a = c.index_mut.result.now in
    let is = c.index_mut.ensures.value in
    let cleared = c.clear-cleared in
    let within : page < length pages = omega (arith, was.same) in
    record {
      idle = one_more_idle pages page cleared.new.self within cleared.ensures.idle was.idle;
      same = omega (arith, length-set pages page cleared.new.self, was.same);
      sizes = sizes_stay pages page a cleared.new.self is within cleared.ensures.frame ∙ was.sizes;
      slots = both_used 0 0 0 c.args.self.now.pages pages (slice_set pages page cleared.new.self) (omega arith) was.slots
          (page_uses pages page a cleared.new.self is within 0 cleared.ensures.slots);
      options = was.options;
      kept = rooms_stay pages page a cleared.new.self is within c.loop-page.self-inside.options cleared.ensures.sound cleared.ensures.frame
          was.kept;
      known = known_set pages c.loop-page.self-inside.known.items page cleared.new.self c.changed.result within
          (c.changed.ensures cleared.new.self (sym (ap (sum_by grant_area) cleared.ensures.idle))) was.known;
    }

pub index_mut-requires-in-loop-page : goal.index_mut-requires-in-loop-page
index_mut-requires-in-loop-page g c =
    let was = c.loop-page.invariant in
    let within : c.loop-page.page < length c.loop-page.self-inside.pages.items = omega (arith, was.same) in
    omega (arith, within, was.known.as_many, c.loop-page.self-inside.known.ok.0)

pub returns-clause-nothing : goal.returns-clause-nothing
returns-clause-nothing g c = λ page id. elim (slice_get_cases c.loop-page.self-inside.pages.items page).1 [
  | inl one ↦ c.loop-page.invariant.idle page (omega (arith, one.1)) id
  | inr past ↦ rw past.1 refl
]
