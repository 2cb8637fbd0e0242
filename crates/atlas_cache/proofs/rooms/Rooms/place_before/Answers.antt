use Rattle.std.proofs.Common.{◌≡◌, ◌∙◌, ◌<◌, ap, arith, length, refl, rules, subst, sym, Err, None, Ok, Some}
use Rattle.std.proofs.lemmas.Option.{slice_get-get_or}
use Rattle.guillotiere.specs.Pixels.{sides_of}
use Rattle.guillotiere.specs.Steps.{Step}
use Rattle.guillotiere.specs.Steps.AtlasCall.{Allocate}
use Rattle.guillotiere.specs.Steps.AtlasReply.{Refused}
use Rattle.guillotiere.specs.Stored.{state_of}
use Rattle.atlas_entries.specs.declared.error.CacheError.TheVariants.{Memory, Slots}
use Rattle.atlas_cache.specs.Placing.{PlacesBefore}
use Rattle.atlas_cache.specs.Rooms.{rooms_of, KeepsRooms, RoomsState}
use Rattle.atlas_cache.proofs.RoomLemmas.KeptPages.{none_yet, no_room, nothing_changes, rooms_stay, rounded_as, sizes_stay, takes}
use Rattle.atlas_cache.proofs.RoomLemmas.PageReserves.{first_short, none_used, page_grants, page_has, page_uses, request_short}
use Rattle.atlas_cache.proofs.RoomLemmas.PageRoom.{is_at_least}
use Rattle.atlas_cache.proofs.RoomLemmas.KnownPages.{known_set}
use Rattle.atlas_cache.proofs.rooms.Rooms.place_before.Goals as goal

pub loop-page-init : goal.loop-page-init
loop-page-init g c = record {
  same = c.self.view_is;
  none = c.requires.none;
  known = c.self.invariant.1;
}

pub index_mut-requires-in-loop-page : goal.index_mut-requires-in-loop-page
index_mut-requires-in-loop-page g c =
    let was = c.loop-page.invariant in
    let within : c.loop-page.page < length c.loop-page.self-inside.pages.items =
    omega (arith, c.loop-page-test.true, c.requires.inside, ap (λ (r : RoomsState). length r.pages) was.same) in
    omega (arith, within, was.known.as_many, c.loop-page.self-inside.known.ok.0)

pub ask-requires : goal.ask-requires
ask-requires g c =
    let was = c.loop-page.invariant in
    let pages = c.loop-page.self-inside.pages.items in
    let known = c.loop-page.self-inside.known.items in
    let page = c.loop-page.page in
    let a = c.index_mut.result.now in
    let r = c.index_mut-in-loop-page.result.now in
    let within : page < length pages =
    omega (arith, c.loop-page-test.true, c.requires.inside, ap (λ (r : RoomsState). length r.pages) was.same) in
    was.known.each page a r (slice_get-get_or pages page a within ∙ ap Some (sym c.index_mut.ensures.value))
    (slice_get-get_or known page r (omega (arith, within, was.known.as_many)) ∙ ap Some (sym c.index_mut-in-loop-page.ensures.value))

pub loop-page-preserved : goal.loop-page-preserved
loop-page-preserved g c =
    let was = c.loop-page.invariant in
    let pages = c.loop-page.self-inside.pages.items in
    let a = c.index_mut.result.now in
    let b = c.ask.new.page in
    let within : c.loop-page.page < length pages =
    omega (arith, c.loop-page-test.true, c.requires.inside, ap (λ (r : RoomsState). length r.pages) was.same) in
    let answer = rw c.in-Ok-None.field-0-is at c.in-Ok-None.ensures.answer in
    let none = no_room pages c.loop-page.page a b c.index_mut.ensures.value within c.args.asked None refl answer in
    let same = c.in-Ok-None.ensures.none (ap Ok c.in-Ok-None.field-0-is) in
    record {
      same = ap (rooms_of c.loop-page.self-inside.options)
          (nothing_changes pages c.loop-page.page a b c.index_mut.ensures.value within same) ∙ was.same;
      none = none_yet c.args.asked c.args.self.now.pages c.loop-page.page (rw (← was.same) none) was.none;
      known = known_set pages c.loop-page.self-inside.known.items c.loop-page.page b c.ask.new.known within c.ask.ensures.known
          was.known;
    }

pub invariant_of-self-in-Ok-Some : goal.invariant_of-self-in-Ok-Some
invariant_of-self-in-Ok-Some g c =
    let was = c.loop-page.invariant in
    let pages = c.loop-page.self-inside.pages.items in
    let within : c.loop-page.page < length pages =
    omega (arith, c.loop-page-test.true, c.requires.inside, ap (λ (r : RoomsState). length r.pages) was.same) in (
      rooms_stay pages c.loop-page.page c.index_mut.result.now c.ask.new.page c.index_mut.ensures.value within
          c.loop-page.self-inside.options c.ask.ensures.sound c.ask.ensures.frame
          (subst KeepsRooms (c.self.view_is ∙ sym was.same) c.self.invariant.0),
      known_set pages c.loop-page.self-inside.known.items c.loop-page.page c.ask.new.page c.ask.new.known within c.ask.ensures.known
          was.known,
    )

pub returns-in-Ok-Some : goal.returns-in-Ok-Some
returns-in-Ok-Some g c =
    let was = c.loop-page.invariant in
    let pages = c.loop-page.self-inside.pages.items in
    let options = c.loop-page.self-inside.options in
    let page = c.loop-page.page in
    let a = c.index_mut.result.now in
    let b = c.ask.new.page in
    let is = c.index_mut.ensures.value in
    let within : page < length pages =
    omega (arith, c.loop-page-test.true, c.requires.inside, ap (λ (r : RoomsState). length r.pages) was.same) in
    let kept : KeepsRooms (rooms_of options pages) = subst KeepsRooms (c.self.view_is ∙ sym was.same) c.self.invariant.0 in
    let granted = c.in-Ok-Some.granted in
    let exact = rw c.in-Ok-Some.field-0-is at c.in-Ok-Some.ensures.exact in
    let adds = rw c.in-Ok-Some.field-0-is at c.in-Ok-Some.ensures.adds in
    let answer = rw c.in-Ok-Some.field-0-is at c.in-Ok-Some.ensures.answer in
    let step = rw c.in-Ok-Some.field-0-is at c.in-Ok-Some.ensures.grants in
    rw (c.number.ensures, ← was.same) (record {
      placed = record {
        step = page_grants pages page a b is within c.args.asked (Some granted) step;
        adds = takes pages page a b is within (Some granted) exact adds;
        large = search (rules, is_at_least, exact, answer);
        sides = rounded_as pages page a b is within options kept c.args.asked (Some granted) answer;
        first = rw (← was.same) at was.none;
        there = within;
        numbered = omega (arith, within, kept.few);
      };
      before = omega (arith, c.loop-page-test.true);
      full = λ no. cc;
      none = λ no. cc;
      refused = tt;
      errors = tt;
      short = λ no. cc;
      lacks = λ no. cc;
      sizes = sizes_stay pages page a b is within c.ask.ensures.frame;
      options = refl;
      slots = page_uses pages page a b is within 4 c.ask.ensures.slots;
      memory = λ have no. cc;
    })

pub invariant_of-self-in-Err : goal.invariant_of-self-in-Err
invariant_of-self-in-Err g c =
    let was = c.loop-page.invariant in
    let pages = c.loop-page.self-inside.pages.items in
    let within : c.loop-page.page < length pages =
    omega (arith, c.loop-page-test.true, c.requires.inside, ap (λ (r : RoomsState). length r.pages) was.same) in (
      rooms_stay pages c.loop-page.page c.index_mut.result.now c.ask.new.page c.index_mut.ensures.value within
          c.loop-page.self-inside.options c.ask.ensures.sound c.ask.ensures.frame
          (subst KeepsRooms (c.self.view_is ∙ sym was.same) c.self.invariant.0),
      known_set pages c.loop-page.self-inside.known.items c.loop-page.page c.ask.new.page c.ask.new.known within c.ask.ensures.known
          was.known,
    )

pub returns-in-Err : goal.returns-in-Err
returns-in-Err g c =
    let was = c.loop-page.invariant in
    let pages = c.loop-page.self-inside.pages.items in
    let page = c.loop-page.page in
    let a = c.index_mut.result.now in
    let b = c.ask.new.page in
    let is_a = c.index_mut.ensures.value in
    let old = c.args.self.now in
    let within : page < length pages =
    omega (arith, c.loop-page-test.true, c.requires.inside, ap (λ (r : RoomsState). length r.pages) was.same) in
    let same = ap (rooms_of c.loop-page.self-inside.options) (nothing_changes pages page a b is_a within c.in-Err.ensures.refused) ∙
    was.same in
    subst (λ r. PlacesBefore c.args.to c.args.asked old r (Err c.refusal.result)) (sym same) (record {
      placed = tt;
      before = tt;
      full = λ no. cc;
      none = λ no. cc;
      refused = refl;
      errors = c.refusal.ensures.refusal;
      short = λ is.
          let slots : c.refusal.result ≡ Slots = cc in
          let kept = subst KeepsRooms (c.self.view_is ∙ sym was.same) c.self.invariant.0 in
          let step = subst (λ e. Step (state_of a) (Allocate (sides_of c.args.asked)) (Refused e) (state_of b))
          (c.refusal.ensures.slots slots)
          c.in-Err.ensures.step in
          rw (← was.same) (request_short pages page a b is_a within c.loop-page.self-inside.options kept (sides_of c.args.asked)
          (state_of b) step);
      lacks = λ is.
          let slots : c.refusal.result ≡ Slots = cc in
          let kept = subst KeepsRooms (c.self.view_is ∙ sym was.same) c.self.invariant.0 in
          let step = subst (λ e. Step (state_of a) (Allocate (sides_of c.args.asked)) (Refused e) (state_of b))
          (c.refusal.ensures.slots slots)
          c.in-Err.ensures.step in
          rw (← was.same)
          (first_short pages page a b is_a within c.loop-page.self-inside.options kept c.args.asked (state_of b)
          (rw (← was.same) at was.none) step);
      sizes = refl;
      options = refl;
      slots = none_used 4 old.pages;
      memory = λ have no.
          let short : c.refusal.result ≡ Memory = cc in
          c.in-Err.ensures.memory (page_has pages page a b is_a within 4 (rw (← was.same) at have))
          (ap Err (c.refusal.ensures.memory short));
    })

pub returns : goal.returns
returns g c =
    let was = c.loop-page.invariant in
    let old = c.args.self.now in
    subst (λ r. PlacesBefore c.args.to c.args.asked old r (Ok None)) (sym was.same) (record {
      placed = tt;
      before = tt;
      full = λ _ k s below is room. was.none k s (omega (arith, below, c.loop-page-test.false)) is room;
      none = λ _. refl;
      refused = tt;
      errors = tt;
      short = λ no. cc;
      lacks = λ no. cc;
      sizes = refl;
      options = refl;
      slots = none_used 4 old.pages;
      memory = λ have no. cc;
    })
