-- What has room on a page, and what lies there.
use Rattle.std.proofs.Common.{◌≡◌, ◌<◌, ◌≤◌, ◌+◌, ◌∷◌, [], ℕ, List, Some, None, length, option_map}
use Rattle.std.proofs.Common.{slice_get, slice_set, refl, ap, subst, sym, inl, inr, arith, eq-eqb, ◌==◌}
use Rattle.std.specs.Prelude.{ℤ, pos, negsuc, ◌≤ℤ◌, ◌<ℤ◌, ◌+ℤ◌, find}
use Rattle.std.proofs.lemmas.Bool.Decides.{eqb_tells}
use Rattle.std.proofs.lemmas.Int.{ints}
use Rattle.guillotiere.specs.declared.Rectangle.{Rectangle}
use Rattle.guillotiere.specs.declared.Size.{Size}
use Rattle.guillotiere.specs.Boxes.{Fits}
use Rattle.guillotiere.specs.Callers.{IsGranted}
use Rattle.guillotiere.specs.Choice.{Options, rounded}
use Rattle.guillotiere.specs.Pages.{rectangle_on}
use Rattle.guillotiere.specs.Pixels.{box_of, natural, options_of, rectangle_of, sides_of}
use Rattle.guillotiere.specs.Replies.{IsExact}
use Rattle.guillotiere.specs.States.{live_in, State}
use Rattle.guillotiere.specs.Stored.{AtlasValue, state_of}
use Rattle.guillotiere.specs.Trees.{Grant}
use Rattle.guillotiere.proofs.ListLemmas.CallerLemmas.{slice_get-set_here, slice_get-set_other}
use Rattle.guillotiere.proofs.StepLemmas.CallerGrants.{idle_has_room}
use Rattle.atlas_cache.specs.Asking.{bordered}
use Rattle.atlas_cache.specs.Rooms.{IsAtLeast, KeepsRooms, LargestHasRoom, RoomsState}
use Rattle.atlas_cache.proofs.RoomLemmas.KeptPages.{page_at}

-- Nothing is granted where no id has a rectangle.
nothing_is : (gs : List Grant)
    → ((id : ℕ) → option_map rectangle_of (option_map (λ g. g.box) (find (λ g. g.id == id) gs)) ≡ None) → gs ≡ []
nothing_is [] none = refl
nothing_is (g ∷ gs) none = let own = rw (eq-eqb g.id g.id refl) at (none g.id) in cc

pub idle_on : (pages : List AtlasValue) (page : ℕ) (s : AtlasValue) → slice_get pages page ≡ Some s
    → ((id : ℕ) → rectangle_on pages page id ≡ None) → live_in (state_of s) ≡ []
idle_on pages page s is none = nothing_is (live_in (state_of s)) (λ id. rw is at (none id))

-- An idle page of the largest size has room for whatever can stand there.
pub largest_has_room : (r : RoomsState) → KeepsRooms r → LargestHasRoom r
largest_has_room r kept page size is idle stands none =
    let it = page_at r.pages page r.options.largest_page is in
    let own = kept.each page it.0 it.1 in
    let sides : (state_of it.0).size ≡ sides_of r.options.largest_page = ap sides_of it.2 in
    none page it.0 it.3 it.1 (idle_has_room (state_of it.0) (bordered r.options size) own.sound
    (idle_on r.pages page it.0 it.1 idle) (omega (arith, stands.positive.0), omega (arith, stands.positive.1))
    (subst (λ (k : Options). Fits (rounded k (bordered r.options size)) (state_of it.0).size) (sym own.options)
    (subst (Fits (rounded (options_of r.options.atlas) (bordered r.options size))) (sym sides)
    (stands.width, stands.height))))

-- A side that isn't passed.
reaches : (from z to : ℤ) (a b : ℕ) → from ≡ pos a → to ≡ pos b → pos 0 <ℤ z → (from +ℤ z) ≤ℤ to → a + natural z ≤ b
reaches from (pos n) to a b first last positive within = omega (arith, ints)
reaches from (negsuc n) to a b first last positive within = absurd (omega (arith, ints))

-- What is granted is as large as what was asked for.
pub is_at_least : (s : State) (asked : Size) (r : Rectangle) → IsExact r → IsGranted s asked r → IsAtLeast asked r
is_at_least s asked r exact granted = record {
  exact = exact;
  wide =
      reaches r.min.x asked.width r.max.x (box_of r).min.x (box_of r).max.x (ap (λ (q : Rectangle). q.min.x) exact)
      (ap (λ (q : Rectangle). q.max.x) exact) granted.positive.0 granted.wide;
  high =
      reaches r.min.y asked.height r.max.y (box_of r).min.y (box_of r).max.y (ap (λ (q : Rectangle). q.min.y) exact)
      (ap (λ (q : Rectangle). q.max.y) exact) granted.positive.1 granted.high;
}

-- A page that is cleared, after others.
pub one_more_idle : (pages : List AtlasValue) (n : ℕ) (b : AtlasValue) → n < length pages → live_in (state_of b) ≡ []
    → ((k : ℕ) → k < n → (id : ℕ) → rectangle_on pages k id ≡ None)
    → (k : ℕ) → k < n + 1 → (id : ℕ) → rectangle_on (slice_set pages n b) k id ≡ None
one_more_idle pages n b within idle before k below id = elim (eqb_tells k n) [
  | inl here ↦ rw (here.1, slice_get-set_here pages n b within, idle) refl
  | inr other ↦ rw (slice_get-set_other pages n k b other.1) (before k (omega (arith, below, other.1)) id)
]
