-- A sound state has one list of free boxes from above to below and from left to right.
use Rattle.std.proofs.Common.{◌≡◌, ℕ, zero, suc, ◌+◌, ◌<◌, ◌≤◌, inl, inr, Bool, true, false, List, [], ◌∷◌, ◌++◌, length, get_or, map, refl}
use Rattle.std.proofs.Common.{sym, ap, ◌∙◌, subst, arith, add-one}
use Rattle.std.specs.List.{All, count_by}
use Rattle.std.proofs.lemmas.List.Elements.{All-cons, All-tail}
use Rattle.guillotiere.specs.declared.Rectangle.{Rectangle}
use Rattle.guillotiere.specs.Boxes.{Box, AreSameBoxes, IsNonempty, IsWithin, covers, same_box}
use Rattle.guillotiere.specs.Choice.{ComesFirst}
use Rattle.guillotiere.specs.Pixels.{rectangle_of}
use Rattle.guillotiere.specs.Trees.{Grant}
use Rattle.guillotiere.specs.States.{State, live_in, free_in, IsSound}
use Rattle.guillotiere.proofs.ListLemmas.ListCounts.{count_by-cons, count_by-append}
use Rattle.guillotiere.proofs.StepLemmas.LiveBoxes.{sound_is_tiled}
use Rattle.guillotiere.proofs.StepLemmas.ApartBoxes.{covered_few}
use Rattle.guillotiere.proofs.TreeLemmas.TreeBasics.{one_if, same_box-true, same_box-itself}
use Rattle.guillotiere.proofs.TreeLemmas.TreePlacements.{covers_corner}
use Rattle.guillotiere.proofs.ListLemmas.CallerLemmas.{count_by-all}
use Rattle.guillotiere.proofs.ChoiceLemmas.PickExistence.{first-then}
use Rattle.atlas_lines.specs.Machine.{AreInOrder, HoldsHoles}

-- ---- what is counted

-- A box that is counted in a list has what all its boxes have.
counted_has : (P : Box → Type 0) (y : Box) (xs : List Box) → 0 < count_by (same_box y) xs → All P xs → P y
counted_has P y [] some all = absurd (omega arith)
counted_has P y (x ∷ xs) some all = by_test (same_box y x) refl (λ more. counted_has P y xs more (All-tail P x xs all))
  where
    by_test : (t : Bool) → same_box y x ≡ t → (0 < count_by (same_box y) xs → P y) → P y
    by_test true e others = subst P (sym (same_box-true y x e)) (all 0 x (omega arith))
    by_test false e others =
        let rest : count_by (same_box y) (x ∷ xs) ≡ 0 + count_by (same_box y) xs = count_by-cons (same_box y) x xs ∙
        ap (λ t. one_if t + count_by (same_box y) xs) e in
        others (omega (arith, rest))

first_counted : (x : Box) (xs : List Box) → 0 < count_by (same_box x) (x ∷ xs)
first_counted x xs =
    let one : count_by (same_box x) (x ∷ xs) ≡ 1 + count_by (same_box x) xs = count_by-cons (same_box x) x xs ∙
    ap (λ t. one_if t + count_by (same_box x) xs) (same_box-itself x) in
    omega (arith, one)

-- ---- the corners of boxes that share no unit square

-- At most one of the boxes covers each unit square.
abbrev pub CoverOnce : List Box → Type 0
CoverOnce xs = (x y : ℕ) → count_by (covers x y) xs ≤ 1

covered_some : (y : Box) (a b : ℕ) (xs : List Box) → covers a b y ≡ true → 0 < count_by (same_box y) xs
    → 0 < count_by (covers a b) xs
covered_some y a b [] covered some = absurd (omega arith)
covered_some y a b (x ∷ xs) covered some = by_test (same_box y x) refl (λ more. covered_some y a b xs covered more)
  where
    by_test : (t : Bool) → same_box y x ≡ t → (0 < count_by (same_box y) xs → 0 < count_by (covers a b) xs)
        → 0 < count_by (covers a b) (x ∷ xs)
    by_test true e others =
        let one : count_by (covers a b) (x ∷ xs) ≡ 1 + count_by (covers a b) xs =
        count_by-cons (covers a b) x xs ∙ ap (λ t. one_if t + count_by (covers a b) xs)
        (ap (covers a b) (sym (same_box-true y x e)) ∙ covered) in
        omega (arith, one)
    by_test false e others =
        let rest : count_by (same_box y) (x ∷ xs) ≡ 0 + count_by (same_box y) xs = count_by-cons (same_box y) x xs ∙
        ap (λ t. one_if t + count_by (same_box y) xs) e in
        let more : count_by (covers a b) (x ∷ xs) ≡ one_if (covers a b x) + count_by (covers a b) xs = count_by-cons (covers a b) x xs in
        let some_rest = others (omega (arith, rest)) in
        omega (arith, more)

-- Of boxes that share no unit square, two with the same corner are one.
same_corner : (x y : Box) (xs : List Box) → CoverOnce (x ∷ xs) → IsNonempty x → IsNonempty y
    → 0 < count_by (same_box y) (x ∷ xs) → y.min.x ≡ x.min.x → y.min.y ≡ x.min.y → x ≡ y
same_corner x y xs once hx hy some ex ey = by_test (same_box y x) refl
  where
    by_test : (t : Bool) → same_box y x ≡ t → x ≡ y
    by_test true e = sym (same_box-true y x e)
    by_test false e =
        let rest : count_by (same_box y) (x ∷ xs) ≡ 0 + count_by (same_box y) xs = count_by-cons (same_box y) x xs ∙
        ap (λ t. one_if t + count_by (same_box y) xs) e in
        let P : ℕ → ℕ → Type 0 = λ a b. covers a b y ≡ true in
        let covered : covers x.min.x x.min.y y ≡ true = subst (λ b. P x.min.x b) ey (subst (λ a. P a y.min.y) ex (covers_corner y hy)) in
        let others = covered_some y x.min.x x.min.y xs covered (omega (arith, rest)) in
        let two : count_by (covers x.min.x x.min.y) (x ∷ xs) ≡ 1 + count_by (covers x.min.x x.min.y) xs =
        count_by-cons (covers x.min.x x.min.y) x xs ∙ ap (λ t. one_if t + count_by (covers x.min.x x.min.y) xs) (covers_corner x hx) in
        let most = once x.min.x x.min.y in
        absurd (omega (arith, two))

-- ---- the order

both_first : (a b : Box) → ComesFirst a b → ComesFirst b a → (b.min.x ≡ a.min.x) × (b.min.y ≡ a.min.y)
both_first a b (inl e) (inl f) = absurd (omega arith)
both_first a b (inl e) (inr f) = absurd (omega (arith, f.0))
both_first a b (inr e) (inl f) = absurd (omega (arith, e.0))
both_first a b (inr e) (inr f) = (omega (arith, e.1, f.1), f.0)

order_tail : (x : Box) (xs : List Box) → AreInOrder (x ∷ xs) → AreInOrder xs
order_tail x xs order k b h =
    let P : ℕ → ℕ → Type 0 = λ i j. ComesFirst (get_or (x ∷ xs) i b) (get_or (x ∷ xs) j b) in
    subst (λ j. P (suc k) j) (add-one (k + 1)) (subst (λ i. P i ((k + 1) + 1)) (add-one k) (order (k + 1) b (omega arith)))

first_of_two : (x y : Box) (ys : List Box) → AreInOrder (x ∷ y ∷ ys) → ComesFirst x y
first_of_two x y ys order = order 0 x (omega arith)

comes_itself : (x : Box) → ComesFirst x x
comes_itself x = inr (refl, omega arith)

each_after : (x : Box) (ys : List Box) → AreInOrder (x ∷ ys) → All (ComesFirst x) ys
each_after x [] order = λ k d h. absurd (omega arith)
each_after x (y ∷ ys) order =
    let first = first_of_two x y ys order in
    let others = each_after y ys (order_tail x (y ∷ ys) order) in
    All-cons (ComesFirst x) y ys first (λ k d h. first-then x y (get_or ys k d) first (others k d h))

least : (x : Box) (xs : List Box) → AreInOrder (x ∷ xs) → All (ComesFirst x) (x ∷ xs)
least x xs order = All-cons (ComesFirst x) x xs (comes_itself x) (each_after x xs order)

-- ---- lists with the same boxes in order

one_order : (xs ys : List Box) → AreSameBoxes xs ys → CoverOnce xs → All IsNonempty xs → AreInOrder xs → AreInOrder ys
    → xs ≡ ys
one_order [] [] same once nonempty order other = refl
one_order [] (y ∷ ys) same once nonempty order other = absurd (omega (arith, same (λ _. true), count_by-all (y ∷ ys)))
one_order (x ∷ xs) [] same once nonempty order other = absurd (omega (arith, same (λ _. true), count_by-all (x ∷ xs)))
one_order (x ∷ xs) (y ∷ ys) same once nonempty order other =
    let y_in : 0 < count_by (same_box y) (x ∷ xs) = subst (λ n. 0 < n) (sym (same (same_box y))) (first_counted y ys) in
    let x_in : 0 < count_by (same_box x) (y ∷ ys) = subst (λ n. 0 < n) (same (same_box x)) (first_counted x xs) in
    let corner = both_first x y (counted_has (ComesFirst x) y (x ∷ xs) y_in (least x xs order))
    (counted_has (ComesFirst y) x (y ∷ ys) x_in (least y ys other)) in
    let head : x ≡ y = same_corner x y xs once (nonempty 0 x (omega arith)) (counted_has IsNonempty y (x ∷ xs) y_in nonempty) y_in corner.0
    corner.1 in
    let tails : AreSameBoxes xs ys =
    λ p.
    let one = count_by-cons p x xs in
    let two = count_by-cons p y ys in
    let all = same p in
    let firsts : one_if (p x) ≡ one_if (p y) = ap (λ b. one_if (p b)) head in
    omega (arith, one, two, all, firsts)
    in
    let once_tail : CoverOnce xs = λ a b. (let more = count_by-cons (covers a b) x xs in let most = once a b in omega (arith, more)) in
    let tail : xs ≡ ys = one_order xs ys tails once_tail (All-tail IsNonempty x xs nonempty) (order_tail x xs order) (order_tail y ys other)
    in
    λ i. head i ∷ tail i

-- ---- the free boxes of a sound state

counted_at : (xs : List Box) (k : ℕ) (d : Box) → k < length xs → 0 < count_by (same_box (get_or xs k d)) xs
counted_at [] k d h = absurd (omega arith)
counted_at (x ∷ xs) zero d h = first_counted x xs
counted_at (x ∷ xs) (suc k) d h =
    let more = count_by-cons (same_box (get_or xs k d)) x xs in
    let some = counted_at xs k d (omega arith) in
    omega (arith, more)

all_same : (P : Box → Type 0) (xs ys : List Box) → AreSameBoxes xs ys → All P ys → All P xs
all_same P xs ys same all k d h =
    counted_has P (get_or xs k d) ys (subst (λ n. 0 < n) (same (same_box (get_or xs k d))) (counted_at xs k d h)) all

free_once : (state : State) → IsSound state → CoverOnce (free_in state)
free_once state sound x y =
    let all = count_by-append (covers x y) (map (λ (g : Grant). g.box) (live_in state)) (free_in state) in
    let few = covered_few state sound x y in
    omega (arith, all)

all_after : (P : Box → Type 0) (xs ys : List Box) → All P (xs ++ ys) → All P ys
all_after P [] ys all = all
all_after P (x ∷ xs) ys all = all_after P xs ys (All-tail P x (xs ++ ys) all)

free_nonempty : (state : State) → IsSound state → All IsNonempty (free_in state)
free_nonempty state sound k d h =
    (all_after (λ (b : Box). IsNonempty b × IsWithin state.size b) (map (λ (g : Grant). g.box) (live_in state)) (free_in state)
    (sound_is_tiled state sound).boxes k d h).0

pub same_holes : (state : State) (areas others : List Rectangle) → IsSound state → HoldsHoles state areas
    → HoldsHoles state others → areas ≡ others
same_holes state areas others sound a b =
    let once : CoverOnce a.0 = λ x y. (let same = a.1.free (covers x y) in let few = free_once state sound x y in omega (arith, same)) in
    let nonempty = all_same IsNonempty a.0 (free_in state) a.1.free (free_nonempty state sound) in
    let boxes : a.0 ≡ b.0 = one_order a.0 b.0 (λ p. a.1.free p ∙ sym (b.1.free p)) once nonempty a.1.ordered b.1.ordered in
    a.2 ∙ ap (map rectangle_of) boxes ∙ sym b.2
