-- What a grant leaves on a page, and what it gives where the sides of a live rectangle are asked for.
use Rattle.std.proofs.Common.{◌≡◌, ◌==◌, ◌<◌, ℕ, inl, inr, false, List, Option, None, Some, Ok, Err, Result, length, arith}
use Rattle.std.proofs.Common.{option_map, slice_get, refl, sym, ap, ◌∙◌, subst, subst₂}
use Rattle.std.specs.List.{find}
use Rattle.std.proofs.lemmas.Bool.{false≢true}
use Rattle.std.proofs.lemmas.Bool.Decides.{eqb_tells}
use Rattle.std.proofs.lemmas.List.Elements.{All-contains}
use Rattle.std.proofs.lemmas.Option.{same_Some}
use Rattle.guillotiere.specs.declared.Allocation.{Allocation}
use Rattle.guillotiere.specs.declared.Rectangle.{Rectangle}
use Rattle.guillotiere.specs.declared.Size.{Size}
use Rattle.guillotiere.specs.Boxes.{box_sides, Box, Sides}
use Rattle.guillotiere.specs.Callers.{rectangle_in}
use Rattle.guillotiere.specs.Changes.{only}
use Rattle.guillotiere.specs.Choice.{rounded, HasRoom}
use Rattle.guillotiere.specs.Pages.{rectangle_on, KeepsPages, NoneHasRoomBelow}
use Rattle.guillotiere.specs.Pixels.{box_of, options_of, rectangle_of, sides_of}
use Rattle.guillotiere.specs.Replies.{grant_of}
use Rattle.guillotiere.specs.States.{after_freeing, after_placing, free_in, live_in, IsAligned, IsSound, State}
use Rattle.guillotiere.specs.Steps.{Step}
use Rattle.guillotiere.specs.Steps.AtlasCall.{Allocate}
use Rattle.guillotiere.specs.Steps.AtlasReply.{Allocated}
use Rattle.guillotiere.specs.Stored.{AtlasValue, state_of}
use Rattle.guillotiere.specs.Trees.{free_boxes, ids, Grant}
use Rattle.guillotiere.proofs.ChoiceLemmas.RoundedSides.{rounded_same}
use Rattle.guillotiere.proofs.ListLemmas.CallerLemmas.{Contains-find}
use Rattle.guillotiere.proofs.StepLemmas.FreedRoom.{nothing_shown, room_grows}
use Rattle.guillotiere.proofs.StepLemmas.RefittedTrees.{IsMovable}
use Rattle.guillotiere.proofs.StepLemmas.SoundSteps.{live_movable}
use Rattle.guillotiere.proofs.TreeLemmas.TreeIds.{unused-absent}
use Rattle.guillotiere.proofs.TreeLemmas.TreeNormal.{release-none}
use Rattle.guillotiere.proofs.TreeLemmas.TreeUndone.{grant_undone}
use Rattle.atlas_entries.proofs.EntryLemmas.{slice_get-within}
use Rattle.atlas_entries.specs.declared.error.CacheError.{CacheError}
use Rattle.atlas_cache.specs.Placing.{GrantsOn, PlacesBefore, PlacesFirst}
use Rattle.atlas_cache.specs.Rooms.{HasRoomOnlyAmong, KeepsRooms, RoomsState}
use Rattle.atlas_cache.proofs.RoomLemmas.KeptPages.{on_page}

-- What is placed before a page, where no other has room, is placed on the first of all.
pub placed_first : (from to : ℕ) (asked : Size) (old new : RoomsState) (result : Result (Option (ℕ × Allocation)) CacheError)
    → HasRoomOnlyAmong asked old.pages from to → PlacesBefore to asked old new result → PlacesFirst asked old new result
placed_first from to asked old new (Err error) among p = record {
  placed = tt;
  before = tt;
  full = λ no. cc;
  none = p.none;
  refused = p.refused;
  errors = p.errors;
  short = p.short;
  lacks = p.lacks;
  sizes = p.sizes;
  options = p.options;
  slots = p.slots;
  memory = p.memory;
}
placed_first from to asked old new (Ok None) among p = record {
  placed = tt;
  before = tt;
  full = λ is k s below at room. p.full refl k s (among k s at room).1 at room;
  none = p.none;
  refused = tt;
  errors = tt;
  short = p.short;
  lacks = p.lacks;
  sizes = p.sizes;
  options = p.options;
  slots = p.slots;
  memory = p.memory;
}
placed_first from to asked old new (Ok (Some place)) among p = record {
  placed = p.placed;
  before = p.placed.there;
  full = λ no. cc;
  none = p.none;
  refused = tt;
  errors = tt;
  short = p.short;
  lacks = p.lacks;
  sizes = p.sizes;
  options = p.options;
  slots = p.slots;
  memory = p.memory;
}

-- A grant makes no room: what has room after it had room before, since its freeing leaves what was free.
room_was : (old new : State) (r : Sides) (g : Grant) → IsSound old → IsSound new → Step old (Allocate r) (Allocated g) new
    → (q : Sides) → HasRoom (free_in new) new.options q → HasRoom (free_in old) old.options q
room_was old new r g sound_old sound_new step q room =
    let f = step.0 in
    let h = step.1 in
    let absent = unused-absent g.id (ids old.tree.members) h.unused in
    let undone = grant_undone old.size old.tree f (rounded old.options r) g.id (λ k. false) absent
    h.takes.pick.best.candidate.fitting.fits in
    let back : free_in (after_freeing (after_placing old f (rounded old.options r) g.id) (only g.id)) ≡ free_in old =
    ap (free_boxes old.size) (undone ∙ release-none old.tree sound_old.normal) in
    let freed : free_in (after_freeing new (only g.id)) ≡ free_in old =
    ap (λ (s : State). free_in (after_freeing s (only g.id))) h.state ∙ back in
    let options : new.options ≡ old.options = ap (λ (s : State). s.options) h.state in
    let here = subst (λ free. HasRoom free new.options q) (sym (nothing_shown new sound_new)) room in
    let more = room_grows new (only g.id) (λ k. false) new.options q sound_new (λ id no. absurd (false≢true no)) here in
    subst₂ (λ free o. HasRoom free o q) freed options more

-- The same on one of several pages.
pub none_granted : (old new : List AtlasValue) (page : ℕ) (asked : Size) (granted : Allocation)
    → page < length old → ((k : ℕ) (s : AtlasValue) → slice_get old k ≡ Some s → IsSound (state_of s))
    → ((k : ℕ) (s : AtlasValue) → slice_get new k ≡ Some s → IsSound (state_of s)) → GrantsOn asked old new page granted
    → KeepsPages old new page → (request : Size) (to : ℕ) → NoneHasRoomBelow request old to → NoneHasRoomBelow request new to
none_granted old new page asked granted there sound_old sound_new grants keeps request to none k t below at room =
    elim (eqb_tells k page) [
      | inl here ↦
          let s = slice_get-within old page there in
          let now = rw here.1 at at in
          none page s.0 (rw here.1 at below) s.1
          (room_was (state_of s.0) (state_of t) (sides_of asked) (grant_of granted) (sound_old page s.0 s.1)
          (sound_new page t now) (grants s.0 t s.1 now) (sides_of request) room)
      | inr other ↦ none k t below (sym (keeps k other.1) ∙ at) room
    ]

-- A freeing on a page makes no room before it.
pub none_freed : (old new : List AtlasValue) (page : ℕ) → KeepsPages old new page → (request : Size)
    → NoneHasRoomBelow request old page → NoneHasRoomBelow request new page
none_freed old new page keeps request none k s below at room =
    none k s below (sym (keeps k (λ same. omega (arith, same, below))) ∙ at) room

-- What has the sides of a request has room where the request has.
pub none_alike : (asked request : Size) → sides_of asked ≡ sides_of request → (pages : List AtlasValue) (to : ℕ)
    → NoneHasRoomBelow asked pages to → NoneHasRoomBelow request pages to
none_alike asked request same pages to none k s below at room =
    none k s below at (subst (λ r. HasRoom (free_in (state_of s)) (state_of s).options r) (sym same) room)

pub grants_alike : (asked request : Size) → sides_of asked ≡ sides_of request → (old new : List AtlasValue) (page : ℕ)
    (granted : Allocation) → GrantsOn asked old new page granted → GrantsOn request old new page granted
grants_alike asked request same old new page granted grants s t was now =
    subst (λ r. Step (state_of s) (Allocate r) (Allocated (grant_of granted)) (state_of t)) same (grants s t was now)

-- Rounding up changes nothing of the sides of what is live.
aligned_of : (s : State) → IsSound s → (id : ℕ) (r : Rectangle) (o : Option Grant) → find (λ g. g.id == id) (live_in s) ≡ o
    → option_map rectangle_of (option_map (λ (g : Grant). g.box) o) ≡ Some r → IsAligned s.options (box_sides (box_of r))
aligned_of s sound id r None found is = absurd (let none : None ≡ Some r = is in cc)
aligned_of s sound id r (Some g) found is =
    let there = (Contains-find (λ (h : Grant). h.id == id) (live_in s) g found).0 in
    let can = All-contains (IsMovable s.options) (live_in s) g (live_movable s sound) there in
    let same : g.box ≡ box_of r = ap box_of (same_Some (rectangle_of g.box) r is) in
    subst (λ (b : Box). IsAligned s.options (box_sides b)) same can.1

pub live_rounded : (rooms : RoomsState) (page id : ℕ) (r : Rectangle) → KeepsRooms rooms
    → rectangle_on rooms.pages page id ≡ Some r
    → rounded (options_of rooms.options.atlas) (box_sides (box_of r)) ≡ box_sides (box_of r)
live_rounded rooms page id r kept is =
    let here = on_page rooms.pages page id r is in
    let s = here.0 in
    let own = kept.each page s here.1 in
    let inside : rectangle_in (state_of s) id ≡ Some r = rw here.1 at is in
    let aligned = aligned_of (state_of s) own.sound id r (find (λ g. g.id == id) (live_in (state_of s))) refl inside in
    rounded_same (options_of rooms.options.atlas) (box_sides (box_of r)) kept.usable.atlas
    (subst (λ p. IsAligned p (box_sides (box_of r))) own.options aligned)
