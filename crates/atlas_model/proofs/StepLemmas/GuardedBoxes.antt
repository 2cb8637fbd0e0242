-- Guarded boxes: what grants, freeings and growths make of them.
use Rattle.std.proofs.Common.{◌≡◌, ℕ, zero, suc, ◌+◌, ◌≤◌, ◌<◌, Bool, true, false, not, List, [], ◌∷◌, ◌++◌, map}
use Rattle.std.proofs.Common.{length, refl, ap, subst, sym, ◌∙◌, arith, Contains, All, Some}
use Rattle.std.proofs.lemmas.Bool.{eq-eqb}
use Rattle.std.proofs.lemmas.List.Elements.{All-nil, All-cons, All-tail, All-weaker, All-contains, All-map}
use Rattle.std.proofs.lemmas.List.Filters.{sum_by-filter_both}
use Rattle.std.proofs.lemmas.List.Sorted.{Contains-permutation}
use Rattle.std.proofs.lemmas.List.Sums.{length-filter, count_by-le-length}
use Rattle.std.specs.List.{count_by, filter}
use Rattle.atlas_model.specs.Boxes.{Sides, Box, covers, IsNonempty, IsWithin, AreDisjoint, Fits}
use Rattle.atlas_model.specs.Callers.{AreGuarded, LiveAreGuarded}
use Rattle.atlas_model.specs.Laws.RunLaws.{boxes_in}
use Rattle.atlas_model.specs.Laws.StepLaws.{live_count, IsGrantStep, IsFreeingStep, IsGrowthStep}
use Rattle.atlas_model.specs.Replies.{live_box}
use Rattle.atlas_model.specs.States.{State, live_in, free_in, IsSound}
use Rattle.atlas_model.specs.Trees.{Grant}
use Rattle.atlas_model.proofs.TreeLemmas.TreeBasics.{one_if}
use Rattle.atlas_model.proofs.TreeLemmas.TreeIds.{Contains-first}
use Rattle.atlas_model.proofs.TreeLemmas.BoxLists.{live_in_place}
use Rattle.atlas_model.proofs.ListLemmas.ListCounts.{count_by-cons, count_by-append, counted_once}
use Rattle.atlas_model.proofs.ListLemmas.CallerLemmas.{count_by-permutation, find-counted, Contains-filter}
use Rattle.atlas_model.proofs.StepLemmas.LiveBoxes.{is_for}
use Rattle.atlas_model.proofs.StepLemmas.ApartBoxes.{covered_within, covered_inside, covered_once, covered_few, count_boxes, box_owner}

-- Boxes that are disjoint from each other and from the free boxes are disjoint from each other.
guarded : (s : State) (held : List Box) → All (IsWithin s.size) held → AreDisjoint (held ++ free_in s)
    → AreGuarded s held
guarded s held within disjoint = record {
  within = within;
  apart = λ x y. omega (arith, disjoint x y, count_by-append (covers x y) held (free_in s));
  disjoint = disjoint;
}

-- The live boxes are guarded together, and so is no box at all.
pub live_are_guarded : LiveAreGuarded
live_are_guarded s sound = (
  guarded s [] (All-nil (IsWithin s.size)) (λ x y. omega (arith, covered_few s sound x y, count_boxes s (covers x y))),
  guarded s (map (λ g. g.box) (live_in s))
      (All-map (IsWithin s.size) (λ (g : Grant). g.box) (live_in s)
      (All-weaker (λ (g : Grant). IsNonempty g.box × IsWithin s.size g.box) (λ (g : Grant). IsWithin s.size g.box) (λ g h. h.1) (live_in s)
      (live_in_place s.size s.tree sound.well_formed)))
      (covered_few s sound),
)

module _ (old new : State) (sound_old : IsSound old) (sound_new : IsSound new) where
  -- A grant joins what is guarded.
  module _ (same : new.size ≡ old.size) (r : Sides) (g : Grant) (step : IsGrantStep old r g new) (held : List Box)
      (were : AreGuarded old held) where
    once : (x y n : ℕ) → count_by (covers x y) (boxes_in new) ≡ n
        → count_by (covers x y) ((g.box ∷ held) ++ free_in new) ≤ 1
    once x y n e =
        let p : Grant → Bool = λ (k : Grant). covers x y k.box in
        let one : count_by (covers x y) (g.box ∷ held ++ free_in new) ≡ one_if (p g) + count_by (covers x y) (held ++ free_in new) =
        count_by-cons (covers x y) g.box (held ++ free_in new) in
        let parts : count_by (covers x y) (held ++ free_in new) ≡ count_by (covers x y) held + count_by (covers x y) (free_in new) =
        count_by-append (covers x y) held (free_in new) in
        let was : count_by (covers x y) (held ++ free_in old) ≡ count_by (covers x y) held + count_by (covers x y) (free_in old) =
        count_by-append (covers x y) held (free_in old) in
        let few : count_by (covers x y) (held ++ free_in old) ≤ 1 = were.disjoint x y in
        let more : count_by p (live_in new) ≡ one_if (p g) + count_by p (live_in old) =
        count_by-permutation p (g ∷ live_in old) (live_in new) step.live ∙ count_by-cons p g (live_in old) in
        let after : count_by (covers x y) (boxes_in new) ≡ count_by p (live_in new) + count_by (covers x y) (free_in new) =
        count_boxes new (covers x y) in
        let before : count_by (covers x y) (boxes_in old) ≡ count_by p (live_in old) + count_by (covers x y) (free_in old) =
        count_boxes old (covers x y) in
        by_count n e one parts was few more after before
      where
        by_count : (n : ℕ) → count_by (covers x y) (boxes_in new) ≡ n
            → count_by (covers x y) (g.box ∷ held ++ free_in new) ≡ one_if (covers x y g.box) + count_by (covers x y) (held ++ free_in new)
            → count_by (covers x y) (held ++ free_in new) ≡ count_by (covers x y) held + count_by (covers x y) (free_in new)
            → count_by (covers x y) (held ++ free_in old) ≡ count_by (covers x y) held + count_by (covers x y) (free_in old)
            → count_by (covers x y) (held ++ free_in old) ≤ 1
            → count_by (λ (k : Grant). covers x y k.box) (live_in new) ≡ one_if (covers x y g.box) + count_by
            (λ (k : Grant). covers x y k.box) (live_in old)
            → count_by (covers x y) (boxes_in new) ≡ count_by (λ (k : Grant). covers x y k.box) (live_in new) + count_by (covers x y)
            (free_in new)
            → count_by (covers x y) (boxes_in old) ≡ count_by (λ (k : Grant). covers x y k.box) (live_in old) + count_by (covers x y)
            (free_in old)
            → count_by (covers x y) ((g.box ∷ held) ++ free_in new) ≤ 1
        by_count zero e one parts was few more after before = omega arith
        by_count (suc n) e one parts was few more after before =
            let inside = covered_inside new sound_new x y (omega (arith, e)) in
            let all_new = covered_once new sound_new x y inside in
            let all_old = covered_once old sound_old x y (subst (λ s. (x < s.width) × (y < s.height)) same inside) in
            omega arith

    pub guarded_grant : AreGuarded new (g.box ∷ held)
    guarded_grant =
        let at : Contains (live_in new) g = Contains-permutation (g ∷ live_in old) (live_in new) g step.live
        (Contains-first g (live_in old)) in
        let place : IsNonempty g.box × IsWithin new.size g.box =
        All-contains (λ (k : Grant). IsNonempty k.box × IsWithin new.size k.box) (live_in new) g
        (live_in_place new.size new.tree sound_new.well_formed) at in
        guarded new (g.box ∷ held) (All-cons (IsWithin new.size) g.box held place.1
        (subst (λ s. All (IsWithin s) held) (sym same) were.within))
        (λ x y. once x y (count_by (covers x y) (boxes_in new)) refl)

  -- A freed box leaves what is guarded.
  module _ (same : new.size ≡ old.size) (id : ℕ) (b : Box) (step : IsFreeingStep old id new) (is : live_box old id ≡ Some b)
      (held : List Box) (were : AreGuarded old (b ∷ held)) where
    -- Of the freed id there is this box alone.
    freed_few : (x y : ℕ)
        → count_by (λ (k : Grant). covers x y k.box) (filter (is_for id) (live_in old)) ≤ one_if (covers x y b)
    freed_few x y = by_count (count_by (λ (k : Grant). covers x y k.box) (filter (is_for id) (live_in old))) refl
      where
        by_count : (n : ℕ) → count_by (λ (k : Grant). covers x y k.box) (filter (is_for id) (live_in old)) ≡ n
            → count_by (λ (k : Grant). covers x y k.box) (filter (is_for id) (live_in old)) ≤ one_if (covers x y b)
        by_count zero e = omega (arith, e)
        by_count (suc n) e =
            let owner = box_owner old id b is in
            let found = find-counted (λ (k : Grant). covers x y k.box) (filter (is_for id) (live_in old)) (omega (arith, e)) in
            let kept = Contains-filter (is_for id) (live_in old) found.0 found.2 in
            let alike : found.0 ≡ owner.0 = counted_once (is_for id) (live_in old) found.0 owner.0 (omega (arith, step.one)) kept.0 owner.1
            kept.1 (eq-eqb owner.0.id id owner.2) in
            let yes : covers x y b ≡ true = ap (covers x y) (sym owner.3 ∙ ap (λ (k : Grant). k.box) (sym alike)) ∙ found.3 in
            let one : one_if (covers x y b) ≡ 1 = ap one_if yes in
            let less : count_by (λ (k : Grant). covers x y k.box) (filter (is_for id) (live_in old)) ≤ length
            (filter (is_for id) (live_in old)) =
            count_by-le-length (λ (k : Grant). covers x y k.box) (filter (is_for id) (live_in old)) in
            let few : length (filter (is_for id) (live_in old)) ≡ live_count id old = length-filter (is_for id) (live_in old) in
            omega (arith, step.one)

    freed_once : (x y n : ℕ) → count_by (covers x y) (boxes_in new) ≡ n
        → count_by (covers x y) (held ++ free_in new) ≤ 1
    freed_once x y n e =
        let p : Grant → Bool = λ (k : Grant). covers x y k.box in
        let one : count_by (covers x y) (b ∷ held ++ free_in old) ≡ one_if (covers x y b) + count_by (covers x y) (held ++ free_in old) =
        count_by-cons (covers x y) b (held ++ free_in old) in
        let parts : count_by (covers x y) (held ++ free_in new) ≡ count_by (covers x y) held + count_by (covers x y) (free_in new) =
        count_by-append (covers x y) held (free_in new) in
        let was : count_by (covers x y) (held ++ free_in old) ≡ count_by (covers x y) held + count_by (covers x y) (free_in old) =
        count_by-append (covers x y) held (free_in old) in
        let few : count_by (covers x y) (b ∷ held ++ free_in old) ≤ 1 = were.disjoint x y in
        let left : count_by p (live_in new) ≡ count_by p (filter (λ g. not (is_for id g)) (live_in old)) = ap (count_by p) step.live in
        let both : count_by p (filter (λ g. not (is_for id g)) (live_in old)) + count_by p (filter (is_for id) (live_in old)) ≡ count_by p
        (live_in old) =
        sum_by-filter_both (λ g. not (is_for id g)) (is_for id) (λ g. twice (is_for id g)) (λ k. one_if (p k)) (live_in old) in
        let gone : count_by p (filter (is_for id) (live_in old)) ≤ one_if (covers x y b) = freed_few x y in
        let less : count_by p (live_in old) ≤ count_by p (live_in new) + one_if (covers x y b) = omega arith in
        let after : count_by (covers x y) (boxes_in new) ≡ count_by p (live_in new) + count_by (covers x y) (free_in new) =
        count_boxes new (covers x y) in
        let before : count_by (covers x y) (boxes_in old) ≡ count_by p (live_in old) + count_by (covers x y) (free_in old) =
        count_boxes old (covers x y) in
        by_count n e one parts was few less after before
      where
        twice : (c : Bool) → c ≡ not (not c)
        twice true = refl
        twice false = refl

        by_count : (n : ℕ) → count_by (covers x y) (boxes_in new) ≡ n
            → count_by (covers x y) (b ∷ held ++ free_in old) ≡ one_if (covers x y b) + count_by (covers x y) (held ++ free_in old)
            → count_by (covers x y) (held ++ free_in new) ≡ count_by (covers x y) held + count_by (covers x y) (free_in new)
            → count_by (covers x y) (held ++ free_in old) ≡ count_by (covers x y) held + count_by (covers x y) (free_in old)
            → count_by (covers x y) (b ∷ held ++ free_in old) ≤ 1
            → count_by (λ (k : Grant). covers x y k.box) (live_in old) ≤ count_by (λ (k : Grant). covers x y k.box) (live_in new) + one_if
            (covers x y b)
            → count_by (covers x y) (boxes_in new) ≡ count_by (λ (k : Grant). covers x y k.box) (live_in new) + count_by (covers x y)
            (free_in new)
            → count_by (covers x y) (boxes_in old) ≡ count_by (λ (k : Grant). covers x y k.box) (live_in old) + count_by (covers x y)
            (free_in old)
            → count_by (covers x y) (held ++ free_in new) ≤ 1
        by_count zero e one parts was few less after before = omega arith
        by_count (suc n) e one parts was few less after before =
            let inside = covered_inside new sound_new x y (omega (arith, e)) in
            let all_new = covered_once new sound_new x y inside in
            let all_old = covered_once old sound_old x y (subst (λ s. (x < s.width) × (y < s.height)) same inside) in
            omega arith

    pub guarded_freeing : AreGuarded new held
    guarded_freeing =
        guarded new held (subst (λ s. All (IsWithin s) held) (sym same) (All-tail (IsWithin old.size) b held were.within))
        (λ x y. freed_once x y (count_by (covers x y) (boxes_in new)) refl)

  -- A growth keeps what is guarded.
  module _ (larger : Fits old.size new.size) (step : IsGrowthStep old new) (held : List Box) (were : AreGuarded old held) where
    grown_once : (x y n : ℕ) → count_by (covers x y) held ≡ n → count_by (covers x y) (held ++ free_in new) ≤ 1
    grown_once x y n e =
        let p : Grant → Bool = λ (k : Grant). covers x y k.box in
        let parts : count_by (covers x y) (held ++ free_in new) ≡ count_by (covers x y) held + count_by (covers x y) (free_in new) =
        count_by-append (covers x y) held (free_in new) in
        let was : count_by (covers x y) (held ++ free_in old) ≡ count_by (covers x y) held + count_by (covers x y) (free_in old) =
        count_by-append (covers x y) held (free_in old) in
        let few : count_by (covers x y) (held ++ free_in old) ≤ 1 = were.disjoint x y in
        let kept : count_by p (live_in new) ≡ count_by p (live_in old) = ap (count_by p) step.live in
        let after : count_by (covers x y) (boxes_in new) ≡ count_by p (live_in new) + count_by (covers x y) (free_in new) =
        count_boxes new (covers x y) in
        let before : count_by (covers x y) (boxes_in old) ≡ count_by p (live_in old) + count_by (covers x y) (free_in old) =
        count_boxes old (covers x y) in
        by_count n e parts was few kept after before
      where
        by_count : (n : ℕ) → count_by (covers x y) held ≡ n
            → count_by (covers x y) (held ++ free_in new) ≡ count_by (covers x y) held + count_by (covers x y) (free_in new)
            → count_by (covers x y) (held ++ free_in old) ≡ count_by (covers x y) held + count_by (covers x y) (free_in old)
            → count_by (covers x y) (held ++ free_in old) ≤ 1
            → count_by (λ (k : Grant). covers x y k.box) (live_in new) ≡ count_by (λ (k : Grant). covers x y k.box) (live_in old)
            → count_by (covers x y) (boxes_in new) ≡ count_by (λ (k : Grant). covers x y k.box) (live_in new) + count_by (covers x y)
            (free_in new)
            → count_by (covers x y) (boxes_in old) ≡ count_by (λ (k : Grant). covers x y k.box) (live_in old) + count_by (covers x y)
            (free_in old)
            → count_by (covers x y) (held ++ free_in new) ≤ 1
        by_count zero e parts was few kept after before = omega (arith, covered_few new sound_new x y)
        by_count (suc n) e parts was few kept after before =
            let found = find-counted (covers x y) held (omega (arith, e)) in
            let inside = covered_within old.size found.0 x y (All-contains (IsWithin old.size) held found.0 were.within found.2) found.3 in
            let all_old = covered_once old sound_old x y inside in
            let all_new = covered_few new sound_new x y in
            omega arith

    pub guarded_growth : AreGuarded new held
    guarded_growth =
        guarded new held
        (All-weaker (IsWithin old.size) (IsWithin new.size) (λ b h. (omega (arith, h.0, larger.0), omega (arith, h.1, larger.1))) held
        were.within)
        (λ x y. grown_once x y (count_by (covers x y) held) refl)
