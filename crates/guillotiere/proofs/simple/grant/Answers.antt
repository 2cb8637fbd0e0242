use Rattle.std.proofs.Common.{rules, refl, ap, subst, map, ◌≡◌, ◌+◌, ◌<◌, length, min, vec_capacity, sym, List, arith}
use Rattle.atlas_model.specs.Boxes.{Box, Sides, box_at}
use Rattle.guillotiere.specs.FreeBoxes.BoxShelves.{BoxShelf, box_shelf, free_item_boxes, stored_item}
use Rattle.atlas_model.specs.Choice.{HasRoom, IsFitting, IsPick, rounded}
use Rattle.guillotiere.specs.FreeBoxes.FreeLists.{state_of_items}
use Rattle.atlas_search.specs.Lookups.{AreFreeItems, IsStanding}
use Rattle.atlas_model.specs.Pixels.{box_of, options_of, sides_of}
use Rattle.atlas_model.specs.Simple.{kept_rest}
use Rattle.guillotiere.proofs.SimpleLemmas.CutBoxes.{at_error, picked-exact}
use Rattle.atlas_allocator.proofs.AtlasLemmas.UnsignedRectangles.{sides_of-size, unsigned-measurable, unsigned-fits}
use Rattle.atlas_allocator.proofs.AtlasLemmas.UnsignedRectangles.{size-positive}
use Rattle.guillotiere.proofs.SimpleLemmas.EntryCounts.{used-free}
use Rattle.guillotiere.proofs.SimpleLemmas.FreeItems.{are-free}
use Rattle.guillotiere.proofs.SimpleLemmas.GrantedBoxes.{simply_grants}
use Rattle.guillotiere.proofs.simple.grant.Goals as goal
use Rattle.atlas_store.proofs.SlotLemmas.SlotAreas.{exact_of}

pub granted-rectangle-requires-clause-measurable : goal.granted-rectangle-requires-clause-measurable
granted-rectangle-requires-clause-measurable g c = grind (arith, picked-exact, unsigned-measurable)

pub granted-rectangle-requires-clause-fits : goal.granted-rectangle-requires-clause-fits
granted-rectangle-requires-clause-fits g c =
    let o = options_of c.args.options.now in
    let es = map stored_item c.args.boxes.now.entries.items in
    let found = c.in-Some-pick.found in
    let standing = subst (λ xs. IsStanding (map stored_item xs) found) c.deref.ensures.value c.in-Some-pick.ensures.standing in
    let exact = picked-exact o c.args.boxes.now.table.heads es found c.requires.listed standing in
    let r = sides_of c.in-Some.size in
    let all = subst (λ xs. (free : List Box) → AreFreeItems (map stored_item xs) free → IsPick free o r (box_of found.rectangle))
    c.deref.ensures.value c.in-Some-pick.ensures.picked in
    let pick = all (free_item_boxes es) (are-free es) in
    unsigned-fits c.in-Some.size found.rectangle exact.unsigned (size-positive o (sides_of c.args.requested_size) c.in-Some.size
    c.requires.listed.valid c.in-Some.ensures)
    pick.best.candidate.fitting.fits

pub cut_picked-requires : goal.cut_picked-requires
cut_picked-requires g c =
    let o = options_of c.args.options.now in
    let es = map stored_item c.args.boxes.now.entries.items in
    let found = c.in-Some-pick.found in
    let r = sides_of c.in-Some.size in
    let all = subst (λ xs. (free : List Box) → AreFreeItems (map stored_item xs) free → IsPick free o r (box_of found.rectangle))
    c.deref.ensures.value c.in-Some-pick.ensures.picked in
    record {
      kept = c.requires;
      standing = subst (λ xs. IsStanding (map stored_item xs) found) c.deref.ensures.value c.in-Some-pick.ensures.standing;
      positive = size-positive o (sides_of c.args.requested_size) c.in-Some.size c.requires.listed.valid c.in-Some.ensures;
      fits = (all (free_item_boxes es) (are-free es)).best.candidate.fitting.fits;
    }

pub returns-in_default-pick-clause-step : goal.returns-in_default-pick-clause-step
returns-in_default-pick-clause-step g c size wide high simple =
    let o = options_of c.args.options.now in
    let es = map stored_item c.args.boxes.now.entries.items in
    let r = sides_of c.in-Some.size in
    let none = subst (λ xs. (free : List Box) → AreFreeItems (map stored_item xs) free → (b : Box) → IsFitting free r b → ⊥)
    c.deref.ensures.value (c.in_default-pick.ensures.none refl) in (
      λ room. none (free_item_boxes es) (are-free es) room.box (subst (λ q. IsFitting (free_item_boxes es) q room.box)
          (sym (ap sides_of c.in-Some.ensures.1)) room.fitting),
      refl,
    )

pub returns-in_err-cut_picked-clause-step : goal.returns-in_err-cut_picked-clause-step
returns-in_err-cut_picked-clause-step g c size wide high simple =
    let o = options_of c.args.options.now in
    let es = map stored_item c.args.boxes.now.entries.items in
    let found = c.in-Some-pick.found in
    let r = sides_of c.in-Some.size in
    let all = subst (λ xs. (free : List Box) → AreFreeItems (map stored_item xs) free → IsPick free o r (box_of found.rectangle))
    c.deref.ensures.value c.in-Some-pick.ensures.picked in
    let pick = all (free_item_boxes es) (are-free es) in
    let room : HasRoom (free_item_boxes es) o (sides_of c.args.requested_size) = grind arith in
    let same : state_of_items (map stored_item c.cut_picked.new.boxes.entries.items) size c.args.options.now ≡ state_of_items es size
    c.args.options.now =
    ap (λ (v : BoxShelf). state_of_items v.entries size c.args.options.now) c.in_err-cut_picked.ensures.err in
    search (rules, room, same)

pub returns-in_err-cut_picked-clause-needed : goal.returns-in_err-cut_picked-clause-needed
returns-in_err-cut_picked-clause-needed g c =
    let o = options_of c.args.options.now in
    let es = map stored_item c.args.boxes.now.entries.items in
    let found = c.in-Some-pick.found in
    let s = sides_of c.args.requested_size in
    let is = sides_of-size c.in-Some.size (rounded o s) c.in-Some.ensures.1 in
    let all = subst (λ xs. (free : List Box) → AreFreeItems (map stored_item xs) free →
    IsPick free o (sides_of c.in-Some.size) (box_of found.rectangle)) c.deref.ensures.value c.in-Some-pick.ensures.picked in
    let used = used-free o (box_shelf c.args.boxes.now) c.requires in
    let more = subst (λ (r : Sides). min (vec_capacity c.args.boxes.now.entries) 4261412864 + 1 < c.args.boxes.now.used + length
    (kept_rest o (box_of found.rectangle) r)) is c.in_err-cut_picked.ensures.needed in
    at_error c.from_residual.result
    (record {
      picked = box_of found.rectangle;
      pick = subst (λ (r : Sides). IsPick (free_item_boxes es) o r (box_of found.rectangle)) is (all (free_item_boxes es) (are-free es));
      more = omega (arith, used, more);
    })

pub returns-clause-unsigned : goal.returns-clause-unsigned
returns-clause-unsigned g c =
    let o = options_of c.args.options.now in
    let es = map stored_item c.args.boxes.now.entries.items in
    let found = c.in-Some-pick.found in
    let standing = subst (λ xs. IsStanding (map stored_item xs) found) c.deref.ensures.value c.in-Some-pick.ensures.standing in
    let exact = picked-exact o c.args.boxes.now.table.heads es found c.requires.listed standing in
    exact_of c.granted-rectangle.result (box_at (box_of found.rectangle).min (sides_of c.in-Some.size))
    (c.granted-rectangle.ensures.boxes (box_of found.rectangle) exact.unsigned)

pub returns-clause-step : goal.returns-clause-step
returns-clause-step g c size wide high simple =
    let o = options_of c.args.options.now in
    let es = map stored_item c.args.boxes.now.entries.items in
    let found = c.in-Some-pick.found in
    let standing = subst (λ xs. IsStanding (map stored_item xs) found) c.deref.ensures.value c.in-Some-pick.ensures.standing in
    let exact = picked-exact o c.args.boxes.now.table.heads es found c.requires.listed standing in
    let r = sides_of c.in-Some.size in
    let all = subst (λ xs. (free : List Box) → AreFreeItems (map stored_item xs) free → IsPick free o r (box_of found.rectangle))
    c.deref.ensures.value c.in-Some-pick.ensures.picked in
    let pick = all (free_item_boxes es) (are-free es) in
    simply_grants es (map stored_item c.cut_picked.new.boxes.entries.items) size c.args.options.now (sides_of c.args.requested_size)
    c.in-Some.size found.rectangle
    c.granted-rectangle.result c.in-Some.ensures pick (c.granted-rectangle.ensures.boxes (box_of found.rectangle) exact.unsigned)
    c.in_ok-cut_picked.ensures.ok
