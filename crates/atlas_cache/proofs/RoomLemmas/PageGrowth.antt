-- How far the pages of a cache can still grow, and what a step leaves of it.
use Rattle.std.proofs.Common.{◌≡◌, ◌≢◌, ◌<◌, ◌≤◌, ◌+◌, ◌-◌, ◌*◌, ◌⊎◌, ◌++◌, ◌∷◌, [], ℕ, suc, min, List, Some, length, cond}
use Rattle.std.proofs.Common.{Bool, true, false, slice_get, slice_set, refl, sym, ap, subst, ◌∙◌, inl, inr, arith, length-append}
use Rattle.std.specs.Prelude.{ℤ, pos, negsuc}
use Rattle.std.proofs.lemmas.Bool.Decides.{nat_tests, eqb_tells}
use Rattle.std.proofs.lemmas.List.{length-set, map-append}
use Rattle.std.proofs.lemmas.List.Sums.{sum_by-set, sum_by_push}
use Rattle.std.proofs.Math.Nat.{suc-mul}
use Rattle.std.proofs.lemmas.Option.{get_or_from_slice_get, slice_get_within}
use Rattle.guillotiere.specs.declared.Size.{Size}
use Rattle.guillotiere.specs.Boxes.{Fits, IsPositive, Sides}
use Rattle.guillotiere.specs.Pages.{page_sizes, size_of_page}
use Rattle.guillotiere.specs.Pixels.{natural, options_of, sides_of, size_of}
use Rattle.guillotiere.specs.States.{started, State}
use Rattle.guillotiere.specs.Stored.{AtlasValue, state_of}
use Rattle.atlas_cache.specs.declared.options.CacheOptions.{CacheOptions}
use Rattle.atlas_cache.specs.Asking.{AreUsable}
use Rattle.atlas_cache.specs.Rooms.{both_sides, grown_sides, growth_left, grows_in_width, AreAllLargest}
use Rattle.atlas_cache.specs.Rooms.{KeepsRooms, RoomsState}
use Rattle.atlas_cache.proofs.RoomLemmas.KeptPages.{page_at}

-- A side above 0 is the natural number that it counts as.
pub side_is : (n : ℤ) → 0 < natural n → pos (natural n) ≡ n
side_is (pos n) h = refl
side_is (negsuc n) h = absurd (omega (arith, h))

abbrev sized : ℤ → ℤ → Size
sized width height = record { width = width; height = height }

pub size_is : (size : Size) → IsPositive (sides_of size) → size_of (sides_of size) ≡ size
size_is size positive =
    ap (λ w. sized w (pos (natural size.height))) (side_is size.width positive.0)
    ∙ ap (sized size.width) (side_is size.height positive.1)

-- Neither side shrinks or passes the largest, and one is greater.
pub record Grows (largest sides new : Sides) : Type 0 where
  pub larger : Fits sides new
  pub within : Fits new largest
  pub more : sides.width + sides.height < new.width + new.height

abbrev sides_with : ℕ → ℕ → Sides
sides_with width height = record { width = width; height = height }

-- A size that isn't the largest has a side that is less.
lesser_side : (largest sides : Sides) → Fits sides largest → sides ≢ largest
    → (sides.width < largest.width) ⊎ (sides.height < largest.height)
lesser_side largest sides fits smaller = elim (eqb_tells sides.width largest.width) [
  | inl wide ↦ elim (eqb_tells sides.height largest.height) [
    | inl high ↦
        absurd (smaller (ap (λ w. sides_with w sides.height) wide.1 ∙ ap (sides_with largest.width) high.1))
    | inr high ↦ inr (omega (arith, fits.1, high.1))
  ]
  | inr wide ↦ inl (omega (arith, fits.0, wide.1))
]

-- A page that isn't at its largest grows.
pub is_grown : (largest sides : Sides) → IsPositive sides → Fits sides largest → sides ≢ largest
    → Grows largest sides (grown_sides largest sides)
is_grown largest sides positive fits smaller =
    by_test (grows_in_width largest sides) refl (lesser_side largest sides fits smaller)
  where
    by_test : (b : Bool) → grows_in_width largest sides ≡ b
        → (sides.width < largest.width) ⊎ (sides.height < largest.height)
        → Grows largest sides (cond b (record sides { width = min (2 * sides.width) largest.width })
        (record sides { height = min (2 * sides.height) largest.height }))
    by_test true is lesser =
        let less : sides.width < largest.width = grind (arith, nat_tests) in
        record {
          larger = (omega (arith, fits.0), omega arith);
          within = (omega arith, fits.1);
          more = omega (arith, positive.0);
        }
    by_test false is lesser =
        let less : sides.height < largest.height = grind (arith, nat_tests) in
        record {
          larger = (omega arith, omega (arith, fits.1));
          within = (fits.0, omega arith);
          more = omega (arith, positive.1);
        }

-- By how much both sides are less than the largest ones.
abbrev short_of : CacheOptions → Size → ℕ
short_of o size = both_sides o.largest_page - both_sides size

-- A page that grows leaves less.
pub growth_less : (o : CacheOptions) (sizes : List Size) (page : ℕ) (old new : Size) → slice_get sizes page ≡ Some old
    → both_sides old < both_sides new → both_sides new ≤ both_sides o.largest_page
    → growth_left o (slice_set sizes page new) < growth_left o sizes
growth_less o sizes page old new is more within =
    let inside = slice_get_within sizes page old is in
    let was = get_or_from_slice_get sizes page old old is in
    let sum = sum_by-set (short_of o) sizes page new old inside in
    rw (length-set sizes page new) (omega (arith, rw was at sum, more, within))

-- What is known of a page that isn't at its largest.
pub record Growth (r : RoomsState) (page : ℕ) (old : Size) : Type 0 where
  pub within : page < length r.pages
  pub positive : IsPositive (sides_of old)
  pub fits : Fits (sides_of old) (sides_of r.options.largest_page)
  pub grows : Grows (sides_of r.options.largest_page) (sides_of old)
      (grown_sides (sides_of r.options.largest_page) (sides_of old))
  pub larger : (s : AtlasValue) → slice_get r.pages page ≡ Some s
      → Fits (state_of s).size (grown_sides (sides_of r.options.largest_page) (sides_of old))

pub growth_of : (r : RoomsState) → KeepsRooms r → (page : ℕ) (old : Size)
    → slice_get (page_sizes r.pages) page ≡ Some old
    → old ≢ r.options.largest_page → Growth r page old
growth_of r kept page old is smaller =
    let it = page_at r.pages page old is in
    let own = kept.each page it.0 it.1 in
    let sides : (state_of it.0).size ≡ sides_of old = ap sides_of it.2 in
    let least = subst (Fits (sides_of r.options.page)) sides own.least in
    let most : Fits (sides_of old) (sides_of r.options.largest_page) =
    subst (λ k. Fits k (sides_of r.options.largest_page)) sides own.most in
    let new = kept.usable.page in
    let positive : IsPositive (sides_of old) = (omega (arith, least.0, new.0), omega (arith, least.1, new.1)) in
    let largest : IsPositive (sides_of r.options.largest_page) =
    (omega (arith, most.0, positive.0), omega (arith, most.1, positive.1)) in
    let grows = is_grown (sides_of r.options.largest_page) (sides_of old) positive most (λ same.
    smaller (sym (size_is old positive) ∙ ap size_of same ∙ size_is r.options.largest_page largest)) in
    record {
      within = it.3;
      positive = positive;
      fits = most;
      grows = grows;
      larger = λ s s_is.
          let one : it.0 ≡ s = let there = it.1 in cc in
          subst (λ (k : Sides). Fits k (grown_sides (sides_of r.options.largest_page) (sides_of old)))
          (sym sides ∙ ap (λ (t : AtlasValue). (state_of t).size) one) grows.larger;
    }

-- That page grows: less is left.
pub grown_less : (r : RoomsState) (page : ℕ) (old : Size) → Growth r page old
    → slice_get (page_sizes r.pages) page ≡ Some old
    → growth_left r.options (slice_set (page_sizes r.pages) page (size_of (grown_sides (sides_of r.options.largest_page) (sides_of old))))
    < growth_left r.options (page_sizes r.pages)
grown_less r page old growth is =
    let within = growth.grows.within in
    growth_less r.options (page_sizes r.pages) page old
    (size_of (grown_sides (sides_of r.options.largest_page) (sides_of old))) is growth.grows.more
    (omega (arith, within.0, within.1))

-- Where one page isn't at its largest, not all are.
pub not_all_largest : (o : CacheOptions) (sizes : List Size) (page : ℕ) (old : Size) → slice_get sizes page ≡ Some old
    → old ≢ o.largest_page → AreAllLargest o sizes → ⊥
not_all_largest o sizes page old is smaller all =
    let here = all page (slice_get_within sizes page old is) in smaller (cc)

-- A new page comes last: its size, and that less is left.
module _ (o : CacheOptions) (usable : AreUsable o) where
  pub sizes_joined : (pages : List AtlasValue) (b : AtlasValue)
      → state_of b ≡ started (sides_of o.page) (options_of o.atlas) 16777216
      → page_sizes (pages ++ b ∷ []) ≡ page_sizes pages ++ o.page ∷ []
  sizes_joined pages b new =
      map-append size_of_page pages (b ∷ [])
      ∙ ap (λ (s : Size). page_sizes pages ++ s ∷ []) (ap (λ (t : State). size_of t.size) new ∙ size_is o.page usable.page)

  pub joined_less : (sizes : List Size) → length sizes < o.pages
      → growth_left o (sizes ++ o.page ∷ []) < growth_left o sizes
  joined_less sizes less =
      let next : o.pages - length sizes ≡ suc (o.pages - (length sizes + 1)) = omega (arith, less) in
      let one = ap (λ n. n * both_sides o.largest_page) next ∙ suc-mul (o.pages - (length sizes + 1)) (both_sides o.largest_page) in
      let long : length (sizes ++ o.page ∷ []) ≡ length sizes + 1 = length-append sizes (o.page ∷ []) in
      rw long (omega (arith, one, sum_by_push (short_of o) sizes o.page, usable.page.0, usable.largest.0, usable.largest.1))
