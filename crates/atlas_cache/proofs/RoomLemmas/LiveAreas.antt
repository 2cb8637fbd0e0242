-- The area of what is live on a page, and what each step makes of it.
use Rattle.std.proofs.Common.{◌≡◌, ◌+◌, ◌*◌, ◌<◌, ◌≤◌, ◌^◌, ◌==◌, ℕ, zero, suc, false, not, true, List, [], ◌∷◌, None, Option, Some}
use Rattle.std.proofs.Common.{get_or, length, slice_get, take, IsSome}
use Rattle.std.proofs.lemmas.List.{length-map}
use Rattle.std.proofs.lemmas.List.Folds.{list_any_more}
use Rattle.std.proofs.lemmas.Option.{slice_get-get_or, slice_get_within}
use Rattle.std.proofs.Common.{ap, arith, count_by, filter, find, inl, inr, map, option_map, refl, sum_by, sym, ◌∙◌}
use Rattle.std.proofs.lemmas.Bool.{cases_Bool}
use Rattle.std.proofs.lemmas.List.Sorted.{sum_by_pushed}
use Rattle.std.proofs.lemmas.List.Sums.{sum_by-append, sum_by-cons}
use Rattle.std.proofs.lemmas.Nat.{mul-lt}
use Rattle.std.proofs.lemmas.Bool.Decides.{leb_tells}
use Rattle.std.specs.List.{list_any}
use Rattle.guillotiere.specs.declared.Size.{Size}
use Rattle.guillotiere.specs.Boxes.{area, Box, Sides}
use Rattle.guillotiere.specs.Pixels.{natural, rectangle_of}
use Rattle.guillotiere.specs.Replies.{live_box}
use Rattle.guillotiere.specs.States.{free_in, live_in, IsSound, State}
use Rattle.guillotiere.specs.Steps.{Step}
use Rattle.guillotiere.specs.Steps.AtlasCall.{Allocate, Deallocate, Grow}
use Rattle.guillotiere.specs.Steps.AtlasReply.{Allocated, Done}
use Rattle.guillotiere.specs.Pages.{rectangle_on}
use Rattle.guillotiere.specs.Stored.{state_of, AtlasValue}
use Rattle.guillotiere.specs.Trees.{Grant}
use Rattle.guillotiere.proofs.ListLemmas.ListCounts.{count_by-cons}
use Rattle.guillotiere.proofs.StepLemmas.StepEffects.{freeings_remove_one, grants_lie_inside, growths_keep_boxes}
use Rattle.guillotiere.proofs.TreeLemmas.TreeBasics.{one_if}
use Rattle.guillotiere.proofs.TreeLemmas.BoxLists.{areas_of_boxes}
use Rattle.guillotiere.proofs.ListLemmas.CountSums.{sum_by-map}
use Rattle.atlas_cache.specs.Repacking.{free_by_page}
use Rattle.atlas_cache.specs.Rooms.{has_area, open_area}

abbrev pub grant_area : Grant → ℕ
grant_area g = area g.box

-- The area of what is live.
abbrev pub live_sum : State → ℕ
live_sum s = sum_by grant_area (live_in s)

-- With what is free it is all of the atlas.
pub areas-whole : (s : State) → IsSound s → live_sum s + sum_by area (free_in s) ≡ s.size.width * s.size.height
areas-whole s sound =
    let all = areas_of_boxes s.size s.tree sound.well_formed in
    let both = sum_by-append area (map (λ (g : Grant). g.box) (live_in s)) (free_in s) in
    let mapped = sum_by-map area (λ (g : Grant). g.box) (live_in s) in
    omega (arith, all, both, mapped)

-- And so it is a number of 64 bits, however much is granted.
pub live-fits : (s : State) → IsSound s → s.size.width < 2 ^ 31 → s.size.height < 2 ^ 31 → live_sum s < 2 ^ 62
live-fits s sound wide high =
    let all = areas-whole s sound in
    let most = mul-lt s.size.width s.size.height (2 ^ 31) (2 ^ 31) wide high in
    omega (arith, all, most)

pub live-granted : (s t : State) (r : Sides) (g : Grant) → IsSound s → Step s (Allocate r) (Allocated g) t
    → live_sum t ≡ area g.box + live_sum s
live-granted s t r g sound step =
    sum_by_pushed grant_area g (live_in s) (live_in t) (grants_lie_inside s t r g sound step).live

module _ (id : ℕ) where
  none_goes : (gs : List Grant) → count_by (λ (g : Grant). g.id == id) gs ≡ 0
      → sum_by grant_area (filter (λ (g : Grant). not (g.id == id)) gs) ≡ sum_by grant_area gs
  none_goes [] none = refl
  none_goes (g ∷ gs) none =
      let counted = count_by-cons (λ (g : Grant). g.id == id) g gs in
      let whole = sum_by-cons grant_area g gs in
      elim (cases_Bool (g.id == id)) [
        | inl here ↦ let test = ap one_if here in absurd (omega (arith, none, counted, test))
        | inr other ↦
            let test = ap one_if other in
            let after = sum_by-cons grant_area g (filter (λ (k : Grant). not (k.id == id)) gs) in
            rw other (omega (arith, whole, after, none_goes gs (omega (arith, none, counted, test))))
      ]

  one_goes : (gs : List Grant) (b : Box) → count_by (λ (g : Grant). g.id == id) gs ≡ 1
      → option_map (λ (g : Grant). g.box) (find (λ (g : Grant). g.id == id) gs) ≡ Some b
      → sum_by grant_area (filter (λ (g : Grant). not (g.id == id)) gs) + area b ≡ sum_by grant_area gs
  one_goes [] b one found = absurd cc
  one_goes (g ∷ gs) b one found =
      let counted = count_by-cons (λ (g : Grant). g.id == id) g gs in
      let whole = sum_by-cons grant_area g gs in
      elim (cases_Bool (g.id == id)) [
        | inl here ↦
            let test = ap one_if here in
            let own = rw here at found in
            let same : g.box ≡ b = cc in
            rw here (omega (arith, whole, ap area same, none_goes gs (omega (arith, one, counted, test))))
        | inr other ↦
            let test = ap one_if other in
            let later = rw other at found in
            let after = sum_by-cons grant_area g (filter (λ (k : Grant). not (k.id == id)) gs) in
            rw other (omega (arith, whole, after, one_goes gs b (omega (arith, one, counted, test)) later))
      ]

pub live-freed : (s t : State) (id : ℕ) (b : Box) → IsSound s → Step s (Deallocate id) Done t → live_box s id ≡ Some b
    → live_sum t + area b ≡ live_sum s
live-freed s t id b sound step here =
    let did = freeings_remove_one s t id sound step in
    rw did.live (one_goes id (live_in s) b did.one here)

pub live-grown : (s t : State) (n : Sides) → IsSound s → Step s (Grow n) Done t → live_sum t ≡ live_sum s
live-grown s t n sound step = ap (sum_by grant_area) (growths_keep_boxes s t n sound step).live

some_of : (o : Option Box) → IsSome (option_map rectangle_of o) → (b : Box) × (o ≡ Some b)
some_of None some = cc
some_of (Some b) some = (b, refl)

pub shown_box : (s : State) (id : ℕ) → IsSome (option_map rectangle_of (live_box s id)) → (b : Box) × (live_box s id ≡ Some b)
shown_box s id some = some_of (live_box s id) some

-- What a page shows, its atlas has.
pub shown_here : (pages : List AtlasValue) (page id : ℕ) (a : AtlasValue) → page < length pages → a ≡ get_or pages page a
    → IsSome (rectangle_on pages page id) → (b : Box) × (live_box (state_of a) id ≡ Some b)
shown_here pages page id a within is some =
    let at = slice_get-get_or pages page a within ∙ ap Some (sym is) in
    shown_box (state_of a) id (rw at at some)

module _ (asked : Size) where
  -- A page has the area that was asked for.
  pub some_has : (pages : List AtlasValue) (page free : ℕ) → slice_get (free_by_page pages) page ≡ Some free
      → natural asked.width * natural asked.height ≤ free → list_any (has_area asked) pages ≡ true
  some_has [] page free is le = absurd cc
  some_has (p ∷ pages) zero free is le =
      let same : open_area p ≡ free = cc in
      elim (leb_tells (natural asked.width * natural asked.height) (open_area p)) [
        | inl fits ↦ rw fits.0 refl
        | inr not ↦ absurd (omega (arith, not.1, same, le))
      ]
  some_has (p ∷ pages) (suc page) free is le = elim (cases_Bool (has_area asked p)) [
    | inl has ↦ rw has refl
    | inr not ↦ rw not (some_has pages page free is le)
  ]

  misses : (pages : List AtlasValue) (page free : ℕ) (d : AtlasValue) → slice_get (free_by_page pages) page ≡ Some free
      → free < natural asked.width * natural asked.height → has_area asked (get_or pages page d) ≡ false
  misses [] page free d is less = absurd cc
  misses (p ∷ pages) zero free d is less =
      let same : open_area p ≡ free = cc in
      elim (leb_tells (natural asked.width * natural asked.height) (open_area p)) [
        | inl fits ↦ absurd (omega (arith, fits.1, same, less))
        | inr not ↦ not.0
      ]
  misses (p ∷ pages) (suc page) free d is less = misses pages page free d is less

  -- Nor does one more.
  pub none_has : (pages : List AtlasValue) (page free : ℕ) → slice_get (free_by_page pages) page ≡ Some free
      → free < natural asked.width * natural asked.height → list_any (has_area asked) (take page pages) ≡ false
      → list_any (has_area asked) (take (page + 1) pages) ≡ false
  none_has [] page free is less none = absurd cc
  none_has (p ∷ pages) page free is less none =
      let within = slice_get_within (free_by_page (p ∷ pages)) page free is in
      let long = length-map (p ∷ pages) open_area in
      list_any_more (has_area asked) (p ∷ pages) page p (omega (arith, within, long))
      ∙ rw (none, misses (p ∷ pages) page free p is less) refl
