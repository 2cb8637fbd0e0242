-- A growth before or after a freeing.
use Rattle.std.proofs.Common.{◌≡◌, ℕ, ◌+◌, ◌<◌, ◌≤◌, Bool, true, false, [], ◌∷◌, refl, ap, ◌∙◌, arith}
use Rattle.std.proofs.lemmas.Bool.{true≢false, false≢true}
use Rattle.atlas_model.specs.Boxes.{Axis, Sides, other, side, whole_box, Fits}
use Rattle.atlas_model.specs.Changes.{free_before, seq_before, nf, mark, release, lengthened, lengthened_to, widened}
use Rattle.atlas_model.specs.Changes.{grown_members, grown}
use Rattle.atlas_model.specs.Trees.{Members, Tree, total, is_one_free, IsOneFree, IsWellFormed, free_boxes}
use Rattle.atlas_model.specs.Trees.Members.{End, Free, Alloc, Seq}
use Rattle.atlas_model.proofs.TreeLemmas.TreeBasics.{side_positive, longer_side}
use Rattle.atlas_model.specs.Laws.TreeLaws.{GrowthAndReleaseSwap}

lengthened-free_before : (d e : ℕ) (m : Members) → free_before e (lengthened d m) ≡ lengthened d (free_before e m)
lengthened-free_before d e (Free e' End) = ap (λ k. Free k End) (omega arith)
lengthened-free_before d e m = refl

free_longer : (s : ℕ → Bool) (d e : ℕ) (rest : Members)
    → nf (mark s (lengthened d rest)) ≡ lengthened d (nf (mark s rest))
    → free_before e (nf (mark s (lengthened d rest))) ≡ lengthened d (free_before e (nf (mark s rest)))
free_longer s d e rest h = ap (free_before e) h ∙ lengthened-free_before d e (nf (mark s rest))

nf_mark_lengthened : (s : ℕ → Bool) (d : ℕ) (m : Members) → nf (mark s (lengthened d m)) ≡ lengthened d (nf (mark s m))
nf_mark_lengthened s d (Free e (Free k rest)) = free_longer s d e (Free k rest) (nf_mark_lengthened s d (Free k rest))
nf_mark_lengthened s d (Free e (Alloc id k rest)) = free_longer s d e (Alloc id k rest) (nf_mark_lengthened s d (Alloc id k rest))
nf_mark_lengthened s d (Free e (Seq k inner rest)) =
    free_longer s d e (Seq k inner rest) (nf_mark_lengthened s d (Seq k inner rest))
nf_mark_lengthened s d (Alloc id e rest) = grind (arith, nf_mark_lengthened s d rest)
nf_mark_lengthened s d (Seq e inner rest) = grind (arith, nf_mark_lengthened s d rest)
nf_mark_lengthened s d m = refl

nf_mark_lengthened_to : (s : ℕ → Bool) (a b : ℕ) (m : Members)
    → nf (mark s (lengthened_to a b m)) ≡ lengthened_to a b (nf (mark s m))
nf_mark_lengthened_to s a b m = grind (arith, nf_mark_lengthened)

-- Totals

total-free_before : (e : ℕ) (m : Members) → total (free_before e m) ≡ e + total m
total-free_before e (Free k rest) = omega arith
total-free_before e m = refl

total-seq_before : (e : ℕ) (inner m : Members) → total (seq_before e inner m) ≡ e + total m
total-seq_before e (Free k End) m = total-free_before e m
total-seq_before e inner m = refl

pub total-nf : (m : Members) → total (nf m) ≡ total m
total-nf End = refl
total-nf (Free e rest) = total-free_before e (nf rest) ∙ ap (λ k. e + k) (total-nf rest)
total-nf (Alloc id e rest) = ap (λ k. e + k) (total-nf rest)
total-nf (Seq e inner rest) = total-seq_before e (nf inner) (nf rest) ∙ ap (λ k. e + k) (total-nf rest)

pub total-mark : (s : ℕ → Bool) (m : Members) → total (mark s m) ≡ total m
total-mark s End = refl
total-mark s (Free e rest) = ap (λ k. e + k) (total-mark s rest)
total-mark s (Alloc id e rest) = grind (arith, total-mark s rest)
total-mark s (Seq e inner rest) = ap (λ k. e + k) (total-mark s rest)

-- Trees that are one free leaf, and others.

pub grown-other : (old new : Sides) (axis : Axis) (m : Members) → is_one_free m ≡ false
    → grown_members old new axis m
    ≡ widened (side (other axis) old) (side (other axis) new) axis (lengthened_to (side axis old) (side axis new) m)
grown-other old new axis (Free e End) h = absurd (true≢false h)
grown-other old new axis m h = refl

lengthened_to-other : (a b : ℕ) (m : Members) → 0 < total m → is_one_free m ≡ false
    → is_one_free (lengthened_to a b m) ≡ false
lengthened_to-other a b m pos h = grind arith

release-widened : (s : ℕ → Bool) (u n : ℕ) (axis : Axis) (m : Members) → is_one_free (nf (mark s m)) ≡ false
    → release s (widened u n axis m) ≡ widened u n axis (nf (mark s m))
release-widened s u n axis m h = grind arith

released_other : (old new : Sides) (axis : Axis) (m : Members) (s : ℕ → Bool) → 0 < total m → is_one_free m ≡ false
    → is_one_free (nf (mark s m)) ≡ false
    → release s (grown_members old new axis m) ≡ grown_members old new axis (nf (mark s m))
released_other old new axis m s pos before after =
    grind (arith, grown-other, release-widened, nf_mark_lengthened_to, lengthened_to-other, total-nf, total-mark)

-- Where what is left is one free leaf.

pub one_free : (m : Members) → is_one_free m ≡ true → m ≡ Free (total m) End
one_free (Free e End) h = ap (λ k. Free k End) (omega arith)
one_free m h = absurd (false≢true h)

free_to : (a b : ℕ) → a ≤ b → lengthened_to a b (Free a End) ≡ Free b End
free_to a b h = grind arith

widened-free : (old new : Sides) (axis : Axis) (m : Members) (s : ℕ → Bool)
    → side (other axis) old ≤ side (other axis) new
    → nf (mark s m) ≡ Free (side axis new) End
    → IsOneFree new (release s (widened (side (other axis) old) (side (other axis) new) axis m))
widened-free old new axis m s wide is = grind arith

released_free : (old new : Sides) (axis : Axis) (m : Members) (s : ℕ → Bool) → total m ≡ side axis old → Fits old new
    → is_one_free (nf (mark s m)) ≡ true
    → IsOneFree new (release s (grown_members old new axis m))
released_free old new axis m s along fit after = by_test (is_one_free m) refl
  where
    left : nf (mark s m) ≡ Free (side axis old) End
    left = one_free (nf (mark s m)) after ∙ ap (λ k. Free k End) (total-nf (mark s m) ∙ total-mark s m ∙ along)

    by_test : (x : Bool) → is_one_free m ≡ x → IsOneFree new (release s (grown_members old new axis m))
    by_test true is = rw (one_free m is) refl
    by_test false is = grind (arith, grown-other, widened-free, longer_side, nf_mark_lengthened_to, left, free_to)

-- A growth may come before or after a freeing.
pub growth_released : (old new : Sides) (t : Tree) (s : ℕ → Bool) → IsWellFormed old t → Fits old new
    → is_one_free (release s t).members ≡ false
    → release s (grown old new t) ≡ grown old new (release s t)
growth_released old new t s well fit after = grind (arith, released_other, side_positive, true≢false, one_free)

pub growth_released_free : (old new : Sides) (t : Tree) (s : ℕ → Bool) → IsWellFormed old t → Fits old new
    → is_one_free (release s t).members ≡ true
    → IsOneFree new (release s (grown old new t)) × IsOneFree new (grown old new (release s t))
growth_released_free old new t s well fit after = grind (arith, released_free, one_free)

pub one_free_box : (size : Sides) (t : Tree) → IsOneFree size t → free_boxes size t ≡ whole_box size ∷ []
one_free_box size t is = grind arith

pub growth_and_release_swap : GrowthAndReleaseSwap
growth_and_release_swap = record { same = growth_released; one_free = growth_released_free; its_box = one_free_box }
