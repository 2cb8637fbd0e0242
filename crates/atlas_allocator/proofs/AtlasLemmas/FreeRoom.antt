-- What the free boxes have room for, and the largest of them.
use Rattle.std.proofs.Common.{ℕ, ◌+◌, ◌<◌, ◌≤◌, ◌≡◌, Bool, true, false, cond, List, [], ◌∷◌, map, All, Contains}
use Rattle.std.proofs.Common.{get_or, drop, refl, sym, ap, subst, ◌∙◌, arith, Option, Some, None, inl, inr, IfSome, IfNone, ◌^◌}
use Rattle.std.proofs.lemmas.List.Elements.{All-nil, All-cons, All-head, All-tail, All-map, All-contains, All-contains_itself}
use Rattle.std.proofs.lemmas.List.Sums.{sum_by-cons}
use Rattle.std.specs.List.{sum_by}
use Rattle.std.specs.Prelude.{nat_lt, ◌&&◌}
use Rattle.std.proofs.lemmas.Bool.{le-leb}
use Rattle.atlas_model.specs.Boxes.{Sides, Box, area, box_sides, Fits, IsPositive}
use Rattle.atlas_model.specs.Choice.{Options, rounded, ComesFirst, HasNoRoom}
use Rattle.atlas_model.specs.Pixels.{box_of, options_of, sides_of, size_of, IsMeasurable}
use Rattle.atlas_model.specs.Replies.{IsExact}
use Rattle.atlas_model.specs.States.{State, free_in}
use Rattle.atlas_model.specs.declared.geometry.Rectangle.{Rectangle}
use Rattle.atlas_store.specs.Slots.{nodes}
use Rattle.atlas_store.specs.Slots.Areas.{area_sum}
use Rattle.atlas_store.specs.Visits.{AreFreeAreas, free_areas}
use Rattle.atlas_store.specs.Walks.{IsShownArea}
use Rattle.atlas_store.specs.declared.slots.Slot.{Slot}
use Rattle.atlas_store.proofs.WalkLemmas.AreaSums.{IsMoreArea, IsPastArea}
use Rattle.atlas_model.proofs.ListLemmas.CountSums.{sum_by-counts, sum_by-map}
use Rattle.atlas_model.proofs.TreeLemmas.TreeBasics.{same_box-true, same_box-itself}
use Rattle.atlas_model.proofs.TreeLemmas.TreeIds.{Contains-first, Contains-later, Contains-none, Contains-cons_cases}
use Rattle.atlas_model.specs.Boxes.{same_box}
use Rattle.atlas_store.specs.Stored.{Stored, IsAtlas, state_of}
use Rattle.atlas_model.specs.declared.geometry.Size.{Size}
use Rattle.atlas_model.proofs.ListLemmas.CallerLemmas.{Contains-map}
use Rattle.atlas_search.specs.Requests.{CanBeRounded}
use Rattle.atlas_store.proofs.WalkLemmas.AreaSums.{free_sum-IsAtlas, free_sum-fits, small-IsAtlas}
use Rattle.atlas_allocator.proofs.AtlasLemmas.GrantedAtlas.{no_room-unrounded}
use Rattle.atlas_allocator.proofs.AtlasLemmas.UnsignedRectangles.{sides_of-size}
use Rattle.atlas_allocator.proofs.AtlasLemmas.ShownLists.{free_areas-IsAtlas}
use Rattle.atlas_allocator.proofs.AtlasLemmas.MeasurableLists.{All-same_counts}
use Rattle.atlas_allocator.specs.Room.{fits_box, lost, lost_area, unusable, and_maybe, IsLargest, IsLargestOf, Precedes}

-- One slot more.

module _ (s : Sides) (xs : List Slot) (i : ℕ) (d : Slot) where
  pub more-lost : (sum next part all : ℕ) → IsMoreArea free_areas xs i d
      → sum + lost_area s (free_areas (nodes (drop i xs))) ≡ all
      → part ≡ lost s (box_of (get_or xs i d).area) → next ≡ sum + part
      → next + lost_area s (free_areas (nodes (drop (i + 1) xs))) ≡ all
  more-lost sum next part all more so_far this is =
      omega (
        arith,
        ap (lost_area s) more.list,
        sum_by-cons (λ (r : Rectangle). lost s (box_of r)) (get_or xs i d).area (free_areas (nodes (drop (i + 1) xs))),
      )

  pub past-lost : (sum next all : ℕ) → IsPastArea free_areas xs i
      → sum + lost_area s (free_areas (nodes (drop i xs))) ≡ all → next ≡ sum
      → next + lost_area s (free_areas (nodes (drop (i + 1) xs))) ≡ all
  past-lost sum next all past so_far is = omega (arith, ap (lost_area s) past.list)

-- What precedes.

below : (x y z : ℕ) → x < y → y < z → x < z
below x y z h k = omega arith

module _ (a b c : Box) where
  first-after : ComesFirst a b → ComesFirst b c → ComesFirst a c
  first-after (inl h) (inl k) = inl (below _ _ _ h k)
  first-after (inl h) (inr k) = inl (subst (λ y. a.min.y < y) k.0 h)
  first-after (inr h) (inl k) = inl (subst (λ y. y < c.min.y) (sym h.0) k)
  first-after (inr h) (inr k) = inr (h.0 ∙ k.0, omega (arith, h.1, k.1))

  pub precedes-after : Precedes a b → Precedes b c → Precedes a c
  precedes-after (inl h) (inl k) = inl (below _ _ _ k h)
  precedes-after (inl h) (inr k) = inl (subst (λ m. m < area a) (sym k.0) h)
  precedes-after (inr h) (inl k) = inl (subst (λ m. area c < m) h.0 k)
  precedes-after (inr h) (inr k) = inr (k.0 ∙ h.0, first-after h.1 k.1)

pub precedes-itself : (b : Box) → Precedes b b
precedes-itself b = inr (refl, inr (refl, omega arith))

abbrev Leads : Rectangle → Rectangle → Type 0
Leads r c = Precedes (box_of r) (box_of c)

pub largest-alone : (r : Rectangle) → IsLargestOf (r ∷ []) r
largest-alone r =
    record {
      is_listed = Contains-first r [];
      precedes = All-cons (Leads r) r [] (precedes-itself (box_of r)) (All-nil (Leads r));
    }

pub largest-kept : (b x : Rectangle) → Leads b x → IsLargestOf (b ∷ x ∷ []) b
largest-kept b x h =
    record {
      is_listed = Contains-first b (x ∷ []);
      precedes =
          All-cons (Leads b) b (x ∷ []) (precedes-itself (box_of b))
          (All-cons (Leads b) x [] h (All-nil (Leads b)));
    }

pub largest-changed : (b x : Rectangle) → Leads x b → IsLargestOf (b ∷ x ∷ []) x
largest-changed b x h =
    record {
      is_listed = Contains-later b (x ∷ []) x (Contains-first x []);
      precedes =
          All-cons (Leads x) b (x ∷ []) h
          (All-cons (Leads x) x [] (precedes-itself (box_of x)) (All-nil (Leads x)));
    }

-- One rectangle more.

only : (x y : Rectangle) → Contains (x ∷ []) y → x ≡ y
only x y at = elim (Contains-cons_cases x [] y at) [
  | inl same ↦ same
  | inr none ↦ absurd (Contains-none y none)
]

one_of_two : (b x y : Rectangle) (rest : List Rectangle) → Contains (b ∷ x ∷ []) y → Contains (b ∷ x ∷ rest) y
one_of_two b x y rest at = elim (Contains-cons_cases b (x ∷ []) y at) [
  | inl same ↦ subst (Contains (b ∷ x ∷ rest)) same (Contains-first b (x ∷ rest))
  | inr later ↦ Contains-later b (x ∷ rest) y (subst (Contains (x ∷ rest)) (only x y later) (Contains-first x rest))
]

pub largest-more : (best : Option Rectangle) (x y f : Rectangle) (rest : List Rectangle)
    → IsLargestOf (and_maybe best (x ∷ [])) y → IsLargestOf (y ∷ rest) f → IsLargestOf (and_maybe best (x ∷ rest)) f
largest-more None x y f rest one all = subst (λ z. IsLargestOf (z ∷ rest) f) (sym (only x y one.is_listed)) all
largest-more (Some b) x y f rest one all =
    let ahead : Leads f y = All-head (Leads f) y rest all.precedes in
    let of_two = All-tail (Leads y) b (x ∷ []) one.precedes in
    record {
      is_listed = elim (Contains-cons_cases y rest f all.is_listed) [
        | inl same ↦ subst (Contains (b ∷ x ∷ rest)) same (one_of_two b x y rest one.is_listed)
        | inr later ↦ Contains-later b (x ∷ rest) f (Contains-later x rest f later)
      ];
      precedes =
          All-cons (Leads f) b (x ∷ rest)
          (precedes-after (box_of f) (box_of y) (box_of b) ahead (All-head (Leads y) b (x ∷ []) one.precedes))
          (All-cons (Leads f) x rest
          (precedes-after (box_of f) (box_of y) (box_of x) ahead (All-head (Leads y) x [] of_two))
          (All-tail (Leads f) y rest all.precedes));
    }

-- One slot more.
module _ (best : Option Rectangle) (xs : List Slot) (i : ℕ) (d : Slot) (more : IsMoreArea free_areas xs i d) where
  abbrev x : Rectangle
  x = (get_or xs i d).area

  abbrev rest : List Rectangle
  rest = free_areas (nodes (drop (i + 1) xs))

  both : (P : List Rectangle → Type 0) → P (and_maybe best (free_areas (nodes (drop i xs)))) → P (and_maybe best (x ∷ rest))
  both P h = subst (λ l. P (and_maybe best l)) more.list h

  pub shown-here : All IsShownArea (and_maybe best (free_areas (nodes (drop i xs)))) → IsShownArea x
  shown-here all = by_best best (both (All IsShownArea) all)
    where
      by_best : (b : Option Rectangle) → All IsShownArea (and_maybe b (x ∷ rest)) → IsShownArea x
      by_best None all = All-head IsShownArea x rest all
      by_best (Some b) all = All-head IsShownArea x rest (All-tail IsShownArea b (x ∷ rest) all)

  pub shown-more : (next : Option Rectangle) (y : Rectangle) → next ≡ Some y
      → All IsShownArea (and_maybe best (free_areas (nodes (drop i xs)))) → IsLargestOf (and_maybe best (x ∷ [])) y
      → All IsShownArea (and_maybe next rest)
  shown-more next y is all one =
      subst (λ n. All IsShownArea (and_maybe n rest)) (sym is) (by_best best (both (All IsShownArea) all) one)
    where
      by_best : (b : Option Rectangle) → All IsShownArea (and_maybe b (x ∷ rest)) → IsLargestOf (and_maybe b (x ∷ [])) y
          → All IsShownArea (y ∷ rest)
      by_best None all one = subst (λ z. All IsShownArea (z ∷ rest)) (only x y one.is_listed) all
      by_best (Some b) all one =
          All-cons IsShownArea y rest
          (All-contains IsShownArea (b ∷ x ∷ rest) y all (one_of_two b x y rest one.is_listed))
          (All-tail IsShownArea x rest (All-tail IsShownArea b (x ∷ rest) all))

  pub some-more : (next : Option Rectangle) (y : Rectangle) (whole : List Rectangle) → next ≡ Some y
      → IsLargestOf (and_maybe best (x ∷ [])) y
      → ((f : Rectangle) → IsLargestOf (and_maybe best (free_areas (nodes (drop i xs)))) f → IsLargestOf whole f)
      → (f : Rectangle) → IsLargestOf (and_maybe next rest) f → IsLargestOf whole f
  some-more next y whole is one before f h =
      before f (subst (λ l. IsLargestOf (and_maybe best l) f) (sym more.list)
      (largest-more best x y f rest one (subst (λ n. IsLargestOf (and_maybe n rest) f) is h)))

  pub none-more : (next : Option Rectangle) (y : Rectangle) {T : Type 0} → next ≡ Some y → and_maybe next rest ≡ [] → T
  none-more next y is e = let no = subst (λ n. and_maybe n rest ≡ []) is e in cc

-- One slot that isn't free.
module _ (best next : Option Rectangle) (same : next ≡ best) (xs : List Slot) (i : ℕ) (past : IsPastArea free_areas xs i) where
  pub best-past : (P : List Rectangle → Type 0) → P (and_maybe best (free_areas (nodes (drop i xs))))
      → P (and_maybe next (free_areas (nodes (drop (i + 1) xs))))
  best-past P h = rw same (subst (λ l. P (and_maybe best l)) past.list h)

  pub best-before : (P : List Rectangle → Type 0) → P (and_maybe next (free_areas (nodes (drop (i + 1) xs))))
      → P (and_maybe best (free_areas (nodes (drop i xs))))
  best-before P h =
      subst (λ l. P (and_maybe best l)) (sym past.list) (subst (λ n. P (and_maybe n (free_areas (nodes (drop (i + 1) xs))))) same h)

-- All slots.

module _ (best : Option Rectangle) (all : List Rectangle) where
  pub largest-end : ((f : Rectangle) → IsLargestOf (and_maybe best []) f → IsLargestOf all f) → IfSome best (IsLargestOf all)
  largest-end h = by_best best h
    where
      by_best : (b : Option Rectangle) → ((f : Rectangle) → IsLargestOf (and_maybe b []) f → IsLargestOf all f)
          → IfSome b (IsLargestOf all)
      by_best None h = tt
      by_best (Some b) h = h b (largest-alone b)

-- Of an atlas.

sum_by-same : {X : Type 0} (f g : X → ℕ) (xs : List X) → All (λ x. f x ≡ g x) xs → sum_by f xs ≡ sum_by g xs
sum_by-same f g [] all = refl
sum_by-same f g (x ∷ xs) all =
    omega (
      arith,
      sum_by-cons f x xs,
      sum_by-cons g x xs,
      All-head (λ x. f x ≡ g x) x xs all,
      sum_by-same f g xs (All-tail (λ x. f x ≡ g x) x xs all),
    )

pub lost-small : (r : Sides) (b : Box) → lost r b ≤ area b
lost-small r b = by_test (fits_box r b)
  where
    by_test : (t : Bool) → cond t 0 (area b) ≤ area b
    by_test true = omega arith
    by_test false = omega arith

pub lost_area-small : (r : Sides) (areas : List Rectangle) → lost_area r areas ≤ area_sum areas
lost_area-small r [] = omega arith
lost_area-small r (a ∷ areas) =
    omega (
      arith,
      sum_by-cons (λ (k : Rectangle). lost r (box_of k)) a areas,
      sum_by-cons (λ (k : Rectangle). area (box_of k)) a areas,
      lost-small r (box_of a),
      lost_area-small r areas,
    )

nothing : (bs : List Box) → All (λ b. ⊥) bs → bs ≡ []
nothing [] all = refl
nothing (b ∷ bs) all = absurd (All-head (λ b. ⊥) b bs all)

module _ (s : State) (areas : List Rectangle) (are : AreFreeAreas s areas) where
  pub lost-free : (r : Sides) → lost_area r areas ≡ sum_by (lost r) (free_in s)
  lost-free r = sym (sum_by-map (lost r) box_of areas) ∙ sum_by-counts (lost r) (map box_of areas) (free_in s) are.list

  -- The free boxes are those of the list.
  listed_free : (P : Box → Type 0) → All P (map box_of areas) → All P (free_in s)
  listed_free P all =
      All-same_counts same_box same_box-itself same_box-true P (free_in s) (map box_of areas) (λ p. sym (are.list p)) all

  listed_here : All (Contains (free_in s)) (map box_of areas)
  listed_here =
      All-same_counts same_box same_box-itself same_box-true (Contains (free_in s)) (map box_of areas) (free_in s) are.list
      (All-contains_itself (free_in s))

  pub largest-free : (r : Rectangle) → IsLargestOf areas r → IsLargest (free_in s) (box_of r)
  largest-free r h =
      record {
        is_free = All-contains (Contains (free_in s)) (map box_of areas) (box_of r) listed_here (Contains-map box_of areas r h.is_listed);
        precedes = listed_free (Precedes (box_of r)) (All-map (Precedes (box_of r)) box_of areas h.precedes);
      }

  pub none-free : areas ≡ [] → free_in s ≡ []
  none-free e =
      nothing (free_in s) (listed_free (λ b. ⊥) (subst (λ l. All (λ b. ⊥) (map box_of l)) (sym e) (All-nil (λ (b : Box). ⊥))))

-- What a request makes of a box.

fits_box-true : (r : Sides) (b : Box) → fits_box r b ≡ true → Fits r (box_sides b)
fits_box-true r b h = grind arith

abbrev is_positive : Sides → Bool
is_positive s = nat_lt 0 s.width && nat_lt 0 s.height

positive-true : (s : Sides) → is_positive s ≡ true → IsPositive s
positive-true s h = grind arith

true-positive : (s : Sides) → IsPositive s → is_positive s ≡ true
true-positive s h = rw (le-leb 1 s.width (omega (arith, h.0)), le-leb 1 s.height (omega (arith, h.1))) refl

pub unusable-positive : (o : Options) (s : Sides) (bs : List Box) → IsPositive s
    → sum_by (unusable o s) bs ≡ sum_by (lost (rounded o s)) bs
unusable-positive o s bs positive =
    subst (λ t. sum_by (λ b. cond t (lost (rounded o s) b) (area b)) bs ≡ sum_by (lost (rounded o s)) bs)
    (sym (true-positive s positive)) refl

module _ (o : Options) (bs : List Box) (s : Sides) (none : HasNoRoom bs o s) where
  abbrev r : Sides
  r = rounded o s

  all_lost : IsPositive s → (b : Box) → Contains bs b → lost r b ≡ area b
  all_lost positive b at = by_test (fits_box r b) refl
    where
      by_test : (t : Bool) → fits_box r b ≡ t → cond t 0 (area b) ≡ area b
      by_test false e = refl
      by_test true e =
          absurd (none (record {
            positive = positive;
            box = b;
            fitting = record { is_free = at; fits = fits_box-true r b e };
          }))

  no-room : (b : Box) → Contains bs b → unusable o s b ≡ area b
  no-room b at = by_test (is_positive s) refl
    where
      by_test : (t : Bool) → is_positive s ≡ t → cond t (lost r b) (area b) ≡ area b
      by_test false e = refl
      by_test true e = all_lost (positive-true s e) b at

  pub unusable-all : sum_by (unusable o s) bs ≡ sum_by area bs
  unusable-all = sum_by-same (unusable o s) area bs (each bs no-room)
    where
      each : (l : List Box) → ((b : Box) → Contains l b → unusable o s b ≡ area b)
          → All (λ b. unusable o s b ≡ area b) l
      each [] h = All-nil (λ b. unusable o s b ≡ area b)
      each (b ∷ l) h =
          All-cons (λ b. unusable o s b ≡ area b) b l (h b (Contains-first b l))
          (each l (λ c at. h c (Contains-later b l c at)))

-- What is listed is shown.
pub shown-some : (areas : List Rectangle) (result : Option Rectangle) → All IsShownArea areas
    → IfSome result (IsLargestOf areas) → IfSome result IsShownArea
shown-some areas (Some r) all h = All-contains IsShownArea areas r all h.is_listed
shown-some areas None all h = tt

pub exact-some : (result : Option Rectangle) → IfSome result IsShownArea → IfSome result IsExact
exact-some (Some r) h = h.exact
exact-some None h = tt

pub measurable-some : (result : Option Rectangle) → IfSome result IsShownArea → IfSome result IsMeasurable
measurable-some (Some r) h = h.measurable
measurable-some None h = tt

below-all : (x y m : ℕ) → x ≤ y → y < m → x < m
below-all x y m h k = omega arith

module _ (v : Stored) (a : IsAtlas v) (slots : List Slot) (same : slots ≡ v.shelf.slots) where
  abbrev now : State
  now = state_of (record { stored = v; turns = 0; capacity = 0 })

  abbrev o : Options
  o = options_of v.shelf.options

  are : AreFreeAreas now (free_areas (nodes slots))
  are = free_areas-IsAtlas v a 0 slots same

  pub lost-fits : (r : Sides) → lost_area r (free_areas (nodes slots)) < 2 ^ 64
  lost-fits r =
      subst (λ l. lost_area r (free_areas (nodes l)) < 2 ^ 64) (sym same)
      (below-all _ _ _ (lost_area-small r (free_areas (nodes v.shelf.slots))) (free_sum-fits v a 0))

  pub unusable-rounded : (request : Sides) (size : Size)
      → CanBeRounded o request × (size ≡ size_of (rounded o request))
      → lost_area (sides_of size) (free_areas (nodes slots)) ≡ sum_by (unusable o request) (free_in now)
  unusable-rounded request size sized =
      subst (λ r. lost_area r (free_areas (nodes slots)) ≡ sum_by (unusable o request) (free_in now))
      (sym (sides_of-size size (rounded o request) sized.1))
      (lost-free now (free_areas (nodes slots)) are (rounded o request) ∙ sym (unusable-positive o request (free_in now) sized.0.positive))

  pub unusable-unrounded : (request : Sides) → (CanBeRounded o request → ⊥)
      → area_sum (free_areas (nodes slots)) ≡ sum_by (unusable o request) (free_in now)
  unusable-unrounded request misfit =
      let small = small-IsAtlas v a 0 in
      let none = no_room-unrounded v a request misfit (omega (arith, small.0)) (omega (arith, small.1)) in
      ap (λ l. area_sum (free_areas (nodes l))) same ∙ free_sum-IsAtlas v a 0 ∙ sym (unusable-all o (free_in now) request none)

  pub largest-IsAtlas : (result : Option Rectangle) → IfSome result (IsLargestOf (free_areas (nodes slots)))
      → IfSome result (λ r. IsLargest (free_in now) (box_of r))
  largest-IsAtlas (Some r) h = largest-free now (free_areas (nodes slots)) are r h
  largest-IsAtlas None h = tt

  pub none-IsAtlas : (result : Option Rectangle) → IfNone result (free_areas (nodes slots) ≡ []) → IfNone result (free_in now ≡ [])
  none-IsAtlas (Some r) h = tt
  none-IsAtlas None h = none-free now (free_areas (nodes slots)) are h
