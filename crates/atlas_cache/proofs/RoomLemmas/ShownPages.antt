-- What is shown as freed on a page of a list, and the room that there would be.
use Rattle.std.proofs.Common.{◌≡◌, ◌<◌, ◌∙◌, ℕ, Bool, List, Some, None, IfSome, IsSome, refl, length, get_or, slice_get, Option}
use Rattle.std.proofs.lemmas.Bool.{false≢true}
use Rattle.std.specs.List.{Contains}
use Rattle.guillotiere.specs.declared.Size.{Size}
use Rattle.guillotiere.specs.Boxes.{Box, box_sides, Fits, IsInside, IsPositive}
use Rattle.guillotiere.specs.Changes.{and_id}
use Rattle.guillotiere.specs.Choice.{rounded, HasRoom}
use Rattle.guillotiere.specs.Pixels.{sides_of}
use Rattle.guillotiere.specs.Rehearsals.{AreShown}
use Rattle.guillotiere.specs.Replies.{live_box}
use Rattle.guillotiere.specs.States.{after_freeing, free_in, IsLive, IsSound}
use Rattle.guillotiere.specs.Stored.{AtlasValue, state_of}
use Rattle.guillotiere.proofs.StepLemmas.FreedRoom.{room_is_around}
use Rattle.guillotiere.proofs.StepLemmas.LiveBoxes.{live_have_boxes}
use Rattle.atlas_cache.specs.Vacating.{AreShownOn, HasNoRoomWithout, IsRoom, IsRoomWithout}
use Rattle.atlas_cache.proofs.RoomLemmas.KeptPages.{has_a, page_has}

module _ (pages : List AtlasValue) (page : ℕ) (a : AtlasValue) (is : a ≡ get_or pages page a) (within : page < length pages) where
  pub shown_there : (marks : List Bool) (ids : ℕ → Bool) → length marks ≡ (state_of a).kept → AreShown a marks ids
      → AreShownOn pages page marks ids
  shown_there marks ids many shown = record {
    as_many = page_has pages page a a is within (λ v. length marks ≡ (state_of v).kept) many;
    shown = page_has pages page a a is within (λ v. AreShown v marks ids) shown;
  }

  here : slice_get pages page ≡ Some a
  here = has_a pages page a a is within

  pub shown_after : (marks new : List Bool) (ids more : ℕ → Bool) → AreShownOn pages page marks ids
      → length new ≡ length marks → (AreShown a marks ids → AreShown a new more) → AreShownOn pages page new more
  shown_after marks new ids more was many after =
      shown_there new more (many ∙ was.as_many a here) (after (was.shown a here))

  pub room_there : (asked : Size) (ids : ℕ → Bool) (box : Box) → Contains (free_in (after_freeing (state_of a) ids)) box
      → Fits (rounded (state_of a).options (sides_of asked)) (box_sides box) → IsRoomWithout asked pages page ids box
  room_there asked ids box free fits =
      page_has pages page a a is within (λ v. IsRoom asked v ids box) (record { free = free; fits = fits })

  -- Where one more is shown, and the request doesn't fit the box around it, there still would be no room.
  none_there : (asked : Size) (ids : ℕ → Bool) (id : ℕ) (b box : Box) → IsSound (state_of a)
      → live_box (state_of a) id ≡ Some b → IsInside b box
      → Contains (free_in (after_freeing (state_of a) (and_id ids id))) box
      → (IsPositive (sides_of asked) → Fits (rounded (state_of a).options (sides_of asked)) (box_sides box) → ⊥)
      → HasNoRoomWithout asked pages page ids → HasNoRoomWithout asked pages page (and_id ids id)
  none_there asked ids id b box sound live inside free large none =
      page_has pages page a a is within (λ v. HasRoom (free_in (after_freeing (state_of v) (and_id ids id))) (state_of v).options
      (sides_of asked) → ⊥)
      (λ room. room_is_around (state_of a) ids id b box (sides_of asked) sound live free inside (none a here) (large room.positive) room)

  pub none_around : (asked : Size) (ids : ℕ → Bool) (id : ℕ) (box : Box) → IsSound (state_of a) → IsLive (state_of a) id
      → IfSome (live_box (state_of a) id) (λ b. IsInside b box)
      → Contains (free_in (after_freeing (state_of a) (and_id ids id))) box
      → (IsPositive (sides_of asked) → Fits (rounded (state_of a).options (sides_of asked)) (box_sides box) → ⊥)
      → HasNoRoomWithout asked pages page ids → HasNoRoomWithout asked pages page (and_id ids id)
  none_around asked ids id box sound live around free large none =
      go (live_box (state_of a) id) refl ((live_have_boxes (state_of a) id).0 live) around
    where
      go : (o : Option Box) → live_box (state_of a) id ≡ o → IsSome o → IfSome o (λ b. IsInside b box)
          → HasNoRoomWithout asked pages page (and_id ids id)
      go None same some inside = absurd (false≢true some)
      go (Some b) same some inside = none_there asked ids id b box sound same inside free large none
