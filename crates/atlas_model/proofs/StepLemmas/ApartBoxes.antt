-- Live boxes of different ids share no unit square, and lie apart.
use Rattle.std.proofs.Common.{◌≡◌, ℕ, zero, suc, ◌+◌, ◌≤◌, ◌<◌, ◌&&◌, ◌⊎◌, ◌≤ℤ◌, pos, Bool, true, false, map, refl, ap}
use Rattle.std.proofs.Common.{subst, sym, ◌∙◌, arith, Contains, inl, inr, Option, Some, None, IsSome, IfSome, ◌↔◌}
use Rattle.std.proofs.Common.{option_map}
use Rattle.std.proofs.lemmas.Bool.{eqb-true, false≢true, lt-ltb, le-leb, and_from, cases_lt}
use Rattle.std.proofs.lemmas.Int.{ints}
use Rattle.std.proofs.lemmas.List.Elements.{All-contains, Contains-append_left}
use Rattle.std.specs.List.{count_by, find}
use Rattle.atlas_model.specs.Boxes.{Sides, Box, covers, IsNonempty, IsWithin}
use Rattle.atlas_model.specs.Callers.{ShareNothing, BoxesLieApart, RectanglesLieApart, AllLieApart, AllLieWithin}
use Rattle.atlas_model.specs.Callers.{rectangle_in, LiveShareNothing, LiveLieWithin}
use Rattle.atlas_model.specs.Laws.RunLaws.{boxes_in}
use Rattle.atlas_model.specs.Pixels.{box_of, rectangle_of}
use Rattle.atlas_model.specs.Replies.{live_box}
use Rattle.atlas_model.specs.States.{State, live_in, free_in, IsSound, IsLive}
use Rattle.atlas_model.specs.Trees.{Grant}
use Rattle.atlas_model.specs.declared.geometry.Rectangle.{Rectangle}
use Rattle.atlas_model.proofs.ListLemmas.ListCounts.{count_by-append, counted_once}
use Rattle.atlas_model.proofs.StepLemmas.LiveBoxes.{sound_is_tiled, is_for, live_have_boxes}
use Rattle.atlas_model.proofs.ListLemmas.CallerLemmas.{Contains-find, Contains-map, count_by-map, find-counted}

-- A unit square of a box that lies within sides lies within them.
pub covered_within : (s : Sides) (b : Box) (x y : ℕ) → IsWithin s b → covers x y b ≡ true
    → (x < s.width) × (y < s.height)
covered_within s b x y within is = grind arith

-- A covered square lies in the atlas.
pub covered_inside : (s : State) → IsSound s → (x y : ℕ) → 1 ≤ count_by (covers x y) (boxes_in s)
    → (x < s.size.width) × (y < s.size.height)
covered_inside s sound x y some = grind (arith, find-counted, All-contains, sound_is_tiled, covered_within)

-- A square of the atlas lies in one box.
pub covered_once : (s : State) → IsSound s → (x y : ℕ) → (x < s.size.width) × (y < s.size.height)
    → count_by (covers x y) (boxes_in s) ≡ 1
covered_once s sound x y inside = (sound_is_tiled s sound).squares x y inside.0 inside.1

-- No unit square lies in more than one box.
pub covered_few : (s : State) → IsSound s → (x y : ℕ) → count_by (covers x y) (boxes_in s) ≤ 1
covered_few s sound x y = by_count (count_by (covers x y) (boxes_in s)) refl
  where
    by_count : (n : ℕ) → count_by (covers x y) (boxes_in s) ≡ n → count_by (covers x y) (boxes_in s) ≤ 1
    by_count zero e = omega (arith, e)
    by_count (suc n) e = omega (arith, covered_once s sound x y (covered_inside s sound x y (omega (arith, e))))

-- Live boxes and free ones are counted apart.
pub count_boxes : (s : State) (p : Box → Bool)
    → count_by p (boxes_in s) ≡ count_by (λ (g : Grant). p g.box) (live_in s) + count_by p (free_in s)
count_boxes s p = grind (arith, count_by-append, count_by-map)

-- The grant of a live box.
pub box_owner : (s : State) (id : ℕ) (b : Box) → live_box s id ≡ Some b
    → (g : Grant) × Contains (live_in s) g × (g.id ≡ id) × (g.box ≡ b) × (find (is_for id) (live_in s) ≡ Some g)
box_owner s id b is = by_found (find (is_for id) (live_in s)) refl is
  where
    by_found : (o : Option Grant) → find (is_for id) (live_in s) ≡ o → option_map (λ (g : Grant). g.box) o ≡ Some b
        → (g : Grant) × Contains (live_in s) g × (g.id ≡ id) × (g.box ≡ b) × (find (is_for id) (live_in s) ≡ Some g)
    by_found None e none = cc
    by_found (Some g) e some =
        let at = Contains-find (is_for id) (live_in s) g e in (g, at.0, eqb-true g.id id at.1, cc, e)

pub live_lie_within : LiveLieWithin
live_lie_within s id b sound is =
    let at = box_owner s id b is in
    let place : IsNonempty at.0.box × IsWithin s.size at.0.box =
    All-contains (λ k. IsNonempty k × IsWithin s.size k) (boxes_in s) at.0.box (sound_is_tiled s sound).boxes
    (Contains-append_left (map (λ (k : Grant). k.box) (live_in s)) (free_in s) at.0.box
    (Contains-map (λ (k : Grant). k.box) (live_in s) at.0 at.1)) in
    subst (λ k. IsNonempty k × IsWithin s.size k) at.3 place

pub share_nothing : (s : State) (i j : ℕ) (b c : Box) → IsSound s → (i ≡ j → ⊥) → live_box s i ≡ Some b
    → live_box s j ≡ Some c → ShareNothing b c
share_nothing s i j b c sound differ is is' x y = by_tests (covers x y b) (covers x y c) refl refl
  where
    by_tests : (p q : Bool) → covers x y b ≡ p → covers x y c ≡ q → (p && q) ≡ false
    by_tests false q here there = refl
    by_tests true false here there = refl
    by_tests true true here there =
        let g = box_owner s i b is in
        let h = box_owner s j c is' in
        let few : count_by (λ (k : Grant). covers x y k.box) (live_in s) ≤ 1 = omega
        (arith, covered_few s sound x y, count_boxes s (covers x y)) in
        let same : g.0 ≡ h.0 = counted_once (λ (k : Grant). covers x y k.box) (live_in s) g.0 h.0 few g.1 h.1
        (ap (covers x y) g.3 ∙ here) (ap (covers x y) h.3 ∙ there) in
        absurd (differ (sym g.2 ∙ ap (λ (k : Grant). k.id) same ∙ h.2))

-- Nonempty boxes that share no unit square lie apart.
pub lie_apart : (b c : Box) → IsNonempty b → IsNonempty c → ShareNothing b c → BoxesLieApart b c
lie_apart b c some_b some_c nothing =
    elim (cases_lt c.min.x b.max.x) [
      | inr left ↦ inl left
      | inl x ↦ elim (cases_lt b.min.x c.max.x) [
        | inr right ↦ inr (inl right)
        | inl x' ↦ elim (cases_lt c.min.y b.max.y) [
          | inr above ↦ inr (inr (inl above))
          | inl y ↦ elim (cases_lt b.min.y c.max.y) [
            | inr below ↦ inr (inr (inr below))
            | inl y' ↦ absurd (meeting x x' y y')
          ]
        ]
      ]
    ]
  where
    greater : (m n : ℕ) → (k : ℕ) × (m ≤ k) × (n ≤ k) × ((k ≡ m) ⊎ (k ≡ n))
    greater m n = elim (cases_lt m n) [
      | inl less ↦ (n, omega (arith, less), omega arith, inr refl)
      | inr more ↦ (m, omega arith, omega (arith, more), inl refl)
    ]

    below : (k m n limit : ℕ) → ((k ≡ m) ⊎ (k ≡ n)) → m < limit → n < limit → k < limit
    below k m n limit (inl e) h h' = omega (arith, e, h)
    below k m n limit (inr e) h h' = omega (arith, e, h')

    meeting : c.min.x < b.max.x → b.min.x < c.max.x → c.min.y < b.max.y → b.min.y < c.max.y → ⊥
    meeting x x' y y' =
        let u = greater b.min.x c.min.x in
        let v = greater b.min.y c.min.y in
        let in_b : covers u.0 v.0 b ≡ true = and_from _ _
        (and_from _ _ (le-leb b.min.x u.0 u.1) (lt-ltb u.0 b.max.x (below u.0 b.min.x c.min.x b.max.x u.3 some_b.0 x)))
        (and_from _ _ (le-leb b.min.y v.0 v.1) (lt-ltb v.0 b.max.y (below v.0 b.min.y c.min.y b.max.y v.3 some_b.1 y))) in
        let in_c : covers u.0 v.0 c ≡ true = and_from _ _
        (and_from _ _ (le-leb c.min.x u.0 u.2) (lt-ltb u.0 c.max.x (below u.0 b.min.x c.min.x c.max.x u.3 x' some_c.0)))
        (and_from _ _ (le-leb c.min.y v.0 v.2) (lt-ltb v.0 c.max.y (below v.0 b.min.y c.min.y c.max.y v.3 y' some_c.1))) in
        false≢true (sym (nothing u.0 v.0) ∙ and_from _ _ in_b in_c)

pub live_share_nothing : LiveShareNothing
live_share_nothing s i j b c sound differ is is' =
    let nothing = share_nothing s i j b c sound differ is is' in
    (nothing, lie_apart b c (live_lie_within s i b sound is).0 (live_lie_within s j c sound is').0 nothing)

-- The rectangle of a live box.
rectangle_box : (s : State) (id : ℕ) (r : Rectangle) → rectangle_in s id ≡ Some r
    → (b : Box) × (live_box s id ≡ Some b) × (rectangle_of b ≡ r)
rectangle_box s id r is = grind arith

whole_order : (m n : ℕ) → m ≤ n → pos m ≤ℤ pos n
whole_order m n h = omega (arith, ints)

rectangles_apart : (b c : Box) → BoxesLieApart b c → RectanglesLieApart (rectangle_of b) (rectangle_of c)
rectangles_apart b c (inl left) = inl (whole_order _ _ left)
rectangles_apart b c (inr (inl right)) = inr (inl (whole_order _ _ right))
rectangles_apart b c (inr (inr (inl above))) = inr (inr (inl (whole_order _ _ above)))
rectangles_apart b c (inr (inr (inr below))) = inr (inr (inr (whole_order _ _ below)))

pub all_lie_apart : (s : State) → IsSound s → AllLieApart s
all_lie_apart s sound i j r q differ is is' = grind (arith, rectangle_box, rectangles_apart, live_share_nothing)

pub all_lie_within : (s : State) → IsSound s → AllLieWithin s
all_lie_within s sound id = grind (arith, live_lie_within)

-- A shown rectangle lies within the atlas.
pub shown_within : (s : State) → IsSound s → (id : ℕ) (o : Option Rectangle) → o ≡ rectangle_in s id
    → IfSome o (λ r. IsWithin s.size (box_of r))
shown_within s sound id o is = subst (λ k. IfSome k (λ r. IsWithin s.size (box_of r))) (sym is)
    (weaker (rectangle_in s id) (all_lie_within s sound id))
  where
    weaker : (k : Option Rectangle) → IfSome k (λ r. IsNonempty (box_of r) × IsWithin s.size (box_of r))
        → IfSome k (λ r. IsWithin s.size (box_of r))
    weaker None h = tt
    weaker (Some r) h = h.1

-- Where an id's rectangle is shown, the id is live.
pub shown_live : (s : State) (id : ℕ) (o : Option Rectangle) → o ≡ rectangle_in s id → IsSome o ↔ IsLive s id
shown_live s id o is = (
  λ some. (live_have_boxes s id).1 (has_box (live_box s id) (subst (λ k. IsSome k) is some)),
  λ live. subst (λ k. IsSome k) (sym is) (has_rectangle (live_box s id) ((live_have_boxes s id).0 live)),
)
  where
    has_box : (k : Option Box) → IsSome (option_map rectangle_of k) → IsSome k
    has_box None some = some
    has_box (Some b) some = refl

    has_rectangle : (k : Option Box) → IsSome k → IsSome (option_map rectangle_of k)
    has_rectangle None some = some
    has_rectangle (Some b) some = refl
