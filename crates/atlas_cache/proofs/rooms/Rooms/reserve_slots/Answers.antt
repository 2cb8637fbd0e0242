use Rattle.std.proofs.Common.{◌∙◌, ◌≡◌, ◌+◌, ◌<◌, ◌≤◌, Err, Some, ap, arith, inl, inr, sym, length, map, slice_get, slice_set}
use Rattle.std.proofs.lemmas.{Bool.{cases_lt}, List.{length-set}, Option.{slice_get-get_or, slice_get_within}}
use Rattle.guillotiere.specs.Reserves.{HasReserve}
use Rattle.guillotiere.specs.States.{used_in, State}
use Rattle.guillotiere.specs.Stored.{state_of}
use Rattle.atlas_entries.specs.declared.error.CacheError.TheVariants.{Memory, Slots}
use Rattle.atlas_cache.specs.Rooms.{RoomsState}
use Rattle.atlas_cache.proofs.RoomLemmas.KeptPages.{nothing_changes, others_kept}
use Rattle.atlas_cache.proofs.RoomLemmas.PageReserves.{both_used, none_used, one_more_page, page_states, page_uses, holds_there, same_rooms}
use Rattle.atlas_cache.proofs.RoomLemmas.KnownPages.{known_same}
use Rattle.atlas_cache.proofs.rooms.Rooms.reserve_slots.Goals as goal

pub loop-page-init : goal.loop-page-init
loop-page-init g c = record {
  options = ap (λ (r : RoomsState). r.options) c.self.view_is;
  same = omega (arith, c.len-page-end.ensures, c.self.inside.pages.ok.0);
  ready = λ k s below at. absurd (omega (arith, below));
  allowed = λ k s below at. absurd (omega (arith, below));
  later = λ k from. ap (λ (r : RoomsState). slice_get r.pages k) c.self.view_is;
  states = ap (λ (r : RoomsState). map state_of r.pages) c.self.view_is;
  slots = rw (← c.self.view_is) (none_used 0 c.self.inside.pages.items);
  kept = c.self.invariant.0;
  known = c.self.invariant.1;
}

pub loop-page-preserved : goal.loop-page-preserved
loop-page-preserved g c =
    let was = c.loop-page.invariant in
    let pages = c.loop-page.self-inside.pages.items in
    let page = c.loop-page.page in
    let a = c.index_mut.result.now in
    let b = c.reserve.new.self in
    let is = c.index_mut.ensures.value in
    let within : page < length pages = omega (arith, was.same) in
    let states = page_states pages page a b is within c.reserve.ensures.state in
    let at = slice_get-get_or pages page a within ∙ ap Some (sym is) in
    let limit = (was.kept.each page a at).limit in
    let may : used_in (state_of b) + c.args.additional ≤ 16777216 =
    elim (cases_lt 16777216 (used_in (state_of b) + c.args.additional)) [
      | inl past ↦
          let slots = c.reserve.ensures.slots.1 (omega (arith, past, limit, ap (λ (u : State). used_in u) c.reserve.ensures.state)) in cc
      | inr most ↦ most
    ] in
    record {
      options = was.options;
      same = omega (arith, length-set pages page b, was.same);
      ready = one_more_page (HasReserve c.args.additional) page pages (slice_set pages page b) (others_kept pages page a b is within)
          (holds_there pages page a b is within (HasReserve c.args.additional) c.in_default.ensures.ready) was.ready;
      allowed = one_more_page (λ s. used_in (state_of s) + c.args.additional ≤ 16777216) page pages (slice_set pages page b)
          (others_kept pages page a b is within)
          (holds_there pages page a b is within (λ s. used_in (state_of s) + c.args.additional ≤ 16777216) may) was.allowed;
      later = λ k from. others_kept pages page a b is within k (λ here. omega (arith, from, here)) ∙ was.later k (omega (arith, from));
      states = states ∙ was.states;
      slots = both_used 0 0 0 c.args.self.now.pages pages (slice_set pages page b) (omega arith) was.slots
          (page_uses pages page a b is within 0 (record {
            used = omega (arith, ap (λ (u : State). used_in u) c.reserve.ensures.state);
            capacity = c.reserve.ensures.capacity;
          }));
      kept = same_rooms pages (slice_set pages page b) states c.loop-page.self-inside.options was.kept;
      known = known_same pages (slice_set pages page b) c.loop-page.self-inside.known.items states was.known;
    }

pub invariant_of-self-in-Err : goal.invariant_of-self-in-Err
invariant_of-self-in-Err g c =
    let was = c.loop-page.invariant in
    let pages = c.loop-page.self-inside.pages.items in
    let page = c.loop-page.page in
    let b = c.reserve.new.self in
    let within : page < length pages = omega (arith, was.same) in
    let states = page_states pages page c.index_mut.result.now b c.index_mut.ensures.value within c.reserve.ensures.state in (
      same_rooms pages (slice_set pages page b) states c.loop-page.self-inside.options was.kept,
      known_same pages (slice_set pages page b) c.loop-page.self-inside.known.items states was.known,
    )

pub returns-in-Err-clause-slots : goal.returns-in-Err-clause-slots
returns-in-Err-clause-slots g c =
    let was = c.loop-page.invariant in
    let pages = c.loop-page.self-inside.pages.items in
    let page = c.loop-page.page in
    let b = c.reserve.new.self in
    let within : page < length pages = omega (arith, was.same) in
    both_used 0 0 0 c.args.self.now.pages pages (slice_set pages page b) (omega arith) was.slots
    (page_uses pages page c.index_mut.result.now b c.index_mut.ensures.value within 0 (record {
      used = omega (arith, ap (λ (u : State). used_in u) c.reserve.ensures.state);
      capacity = c.reserve.ensures.capacity;
    }))

pub returns-clause-ready : goal.returns-clause-ready
returns-clause-ready g c = λ page s at.
    let within = slice_get_within c.loop-page.self-inside.pages.items page s at in
    c.loop-page.invariant.ready page s (omega (arith, within, c.loop-page.invariant.same)) at

pub returns-in-Err-clause-short : goal.returns-in-Err-clause-short
returns-in-Err-clause-short g c = λ is.
    let was = c.loop-page.invariant in
    let pages = c.loop-page.self-inside.pages.items in
    let page = c.loop-page.page in
    let a = c.index_mut.result.now in
    let within : page < length pages = omega (arith, was.same) in
    let at = slice_get-get_or pages page a within ∙ ap Some (sym c.index_mut.ensures.value) in
    let slots : c.refusal.result ≡ Slots = cc in
    let own = c.reserve.ensures.slots.0 (c.in-Err.is ∙ ap Err (c.refusal.ensures.slots slots)) in
    let limit = (was.kept.each page a at).limit in
    (page, a, sym (was.later page (omega arith)) ∙ at, omega (arith, own, limit))

pub returns-in-Err-clause-had : goal.returns-in-Err-clause-had
returns-in-Err-clause-had g c = λ have is.
    let was = c.loop-page.invariant in
    let pages = c.loop-page.self-inside.pages.items in
    let page = c.loop-page.page in
    let a = c.index_mut.result.now in
    let within : page < length pages = omega (arith, was.same) in
    let at = slice_get-get_or pages page a within ∙ ap Some (sym c.index_mut.ensures.value) in
    let memory : c.refusal.result ≡ Memory = cc in
    c.reserve.ensures.had (have page a (sym (was.later page (omega arith)) ∙ at)) (c.in-Err.is ∙ ap Err (c.refusal.ensures.memory memory))

pub returns-clause-allowed : goal.returns-clause-allowed
returns-clause-allowed g c = λ page s at.
    let within = slice_get_within c.loop-page.self-inside.pages.items page s at in
    c.loop-page.invariant.allowed page s (omega (arith, within, c.loop-page.invariant.same)) at

pub returns-in-Err-clause-stops : goal.returns-in-Err-clause-stops
returns-in-Err-clause-stops g c =
    let was = c.loop-page.invariant in
    let pages = c.loop-page.self-inside.pages.items in
    let page = c.loop-page.page in
    let a = c.index_mut.result.now in
    let is = c.index_mut.ensures.value in
    let within : page < length pages = omega (arith, was.same) in
    let at = slice_get-get_or pages page a within ∙ ap Some (sym is) in
    let same = nothing_changes pages page a c.reserve.new.self is within c.in-Err.ensures.refused in
    record {
      page = page;
      refused = a;
      here = sym (was.later page (omega arith)) ∙ at;
      before = rw same was.ready;
      after = rw same was.later;
      slots = λ slots.
          let own = c.reserve.ensures.slots.0 (c.in-Err.is ∙ ap Err (c.refusal.ensures.slots slots)) in
          omega (arith, own, (was.kept.each page a at).limit);
      memory = λ memory has. c.reserve.ensures.had has (c.in-Err.is ∙ ap Err (c.refusal.ensures.memory memory));
    }
