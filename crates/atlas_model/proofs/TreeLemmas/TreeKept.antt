-- Freeing and growing keep trees well formed and normal.
use Rattle.std.proofs.Common.{rules, ◌≡◌, ℕ, ◌+◌, ◌-◌, ◌%◌, ◌^◌, ◌<◌, ◌≤◌, ◌==◌, Bool, true, false, cond, ltb, List}
use Rattle.std.proofs.Common.{◌∷◌, ◌++◌, refl, ap, ap₂, subst, subst₂, sym, ◌∙◌, arith}
use Rattle.std.proofs.lemmas.Bool.{ltb-true, ltb-false, true≢false}
use Rattle.std.proofs.lemmas.List.{append-nil}
use Rattle.std.proofs.lemmas.List.Sums.{sum_by-cons, sum_by-append}
use Rattle.std.specs.List.{count_by}
use Rattle.atlas_model.specs.Boxes.{Axis, Sides, other, side, Fits, IsPositive}
use Rattle.atlas_model.specs.Changes.{free_before, seq_before, nf, mark, release, lengthened, lengthened_to, widened}
use Rattle.atlas_model.specs.Changes.{grown_members, grown}
use Rattle.atlas_model.specs.Laws.TreeLaws.{IsReleased}
use Rattle.atlas_model.specs.Trees.{slot_count, Members, Tree, ids, total, IsCut, IsWellFormed, is_idle, IsNormal}
use Rattle.atlas_model.specs.Trees.Members.{End, Free, Alloc, Seq}
use Rattle.atlas_model.proofs.TreeLemmas.TreeBasics.{one_if, other_twice, side_positive, longer_side}
use Rattle.atlas_model.proofs.TreeLemmas.TreeGrowth.{total-nf, total-mark}
use Rattle.atlas_model.proofs.TreeLemmas.TreeLive.{live_release}

-- The normal form is normal, where no sequence is empty.

normal-free_before : (e : ℕ) (m : Members) → IsNormal m → IsNormal (free_before e m)
normal-free_before e (Free k rest) n = n
normal-free_before e m n = (refl, n)

normal-seq_before : (e : ℕ) (inner m : Members) → 0 < total inner → IsNormal inner → IsNormal m
    → IsNormal (seq_before e inner m)
normal-seq_before e End m pos n k = absurd (omega arith)
normal-seq_before e (Free j End) m pos n k = normal-free_before e m k
normal-seq_before e inner m pos n k = (refl, n, k)

pub normal-nf : (across : ℕ) (m : Members) → 0 < across → IsCut across m → IsNormal (nf m)
normal-nf across End pos cut = tt
normal-nf across (Free e rest) pos cut = normal-free_before e (nf rest) (normal-nf across rest pos cut.1)
normal-nf across (Alloc id e rest) pos cut = normal-nf across rest pos cut.1
normal-nf across (Seq e inner rest) pos cut =
    grind (arith, normal-seq_before, total-nf, normal-nf e inner cut.0 cut.2, normal-nf across rest pos cut.3)

cut-free_before : (across e : ℕ) (m : Members) → 0 < e → IsCut across m → IsCut across (free_before e m)
cut-free_before across e (Free k rest) pos cut = (omega arith, cut.1)
cut-free_before across e m pos cut = (pos, cut)

cut-seq_before : (across e : ℕ) (inner m : Members) → 0 < e → total inner ≡ across → IsCut e inner → IsCut across m
    → IsCut across (seq_before e inner m)
cut-seq_before across e (Free k End) m pos sum cut rest = cut-free_before across e m pos rest
cut-seq_before across e inner m pos sum cut rest = (pos, sum, cut, rest)

cut-nf : (across : ℕ) (m : Members) → IsCut across m → IsCut across (nf m)
cut-nf across End cut = cut
cut-nf across (Free e rest) cut = cut-free_before across e (nf rest) cut.0 (cut-nf across rest cut.1)
cut-nf across (Alloc id e rest) cut = (cut.0, cut-nf across rest cut.1)
cut-nf across (Seq e inner rest) cut =
    cut-seq_before across e (nf inner) (nf rest) cut.0 (total-nf inner ∙ cut.1) (cut-nf e inner cut.2) (cut-nf across rest cut.3)

pub cut-mark : (s : ℕ → Bool) (across : ℕ) (m : Members) → IsCut across m → IsCut across (mark s m)
cut-mark s across End cut = cut
cut-mark s across (Free e rest) cut = (cut.0, cut-mark s across rest cut.1)
cut-mark s across (Alloc id e rest) cut = grind (arith, cut-mark s across rest cut.1)
cut-mark s across (Seq e inner rest) cut =
    (cut.0, total-mark s inner ∙ cut.1, cut-mark s e inner cut.2, cut-mark s across rest cut.3)

ids-free_before : (e : ℕ) (m : Members) → ids (free_before e m) ≡ ids m
ids-free_before e (Free k rest) = refl
ids-free_before e m = refl

ids-seq_before : (e : ℕ) (inner m : Members) → ids (seq_before e inner m) ≡ ids inner ++ ids m
ids-seq_before e (Free k End) m = ids-free_before e m
ids-seq_before e inner m = refl

pub ids-nf : (m : Members) → ids (nf m) ≡ ids m
ids-nf End = refl
ids-nf (Free e rest) = ids-free_before e (nf rest) ∙ ids-nf rest
ids-nf (Alloc id e rest) = ap (λ (k : List ℕ). id ∷ k) (ids-nf rest)
ids-nf (Seq e inner rest) = ids-seq_before e (nf inner) (nf rest) ∙ ap₂ ◌++◌ (ids-nf inner) (ids-nf rest)

ids-mark : (p : ℕ → Bool) (s : ℕ → Bool) (m : Members) → count_by p (ids (mark s m)) ≤ count_by p (ids m)
ids-mark p s End = omega arith
ids-mark p s (Free e rest) = ids-mark p s rest
ids-mark p s (Alloc id e rest) = by_test (s id) (ids-mark p s rest)
  where
    by_test : (b : Bool) → count_by p (ids (mark s rest)) ≤ count_by p (ids rest)
        → count_by p (ids (cond b (Free e (mark s rest)) (Alloc id e (mark s rest)))) ≤ count_by p (id ∷ ids rest)
    by_test true h =
        subst (λ k. count_by p (ids (mark s rest)) ≤ k) (sym (sum_by-cons (λ k. one_if (p k)) id (ids rest)))
        (let weak : count_by p (ids (mark s rest)) ≤ one_if (p id) + count_by p (ids rest) = omega arith in weak)
    by_test false h =
        subst₂ (λ j k. j ≤ k) (sym (sum_by-cons (λ k. one_if (p k)) id (ids (mark s rest))))
        (sym (sum_by-cons (λ k. one_if (p k)) id (ids rest)))
        (let weak : one_if (p id) + count_by p (ids (mark s rest)) ≤ one_if (p id) + count_by p (ids rest) = omega arith in weak)
ids-mark p s (Seq e inner rest) = grind (arith, ids-mark p s inner, ids-mark p s rest, sum_by-append, one_if)

pub release_well_formed : (size : Sides) (s : ℕ → Bool) (t : Tree) → IsWellFormed size t
    → IsWellFormed size (release s t)
release_well_formed size s t well = record {
  nonempty = well.nonempty;
  along = total-nf (mark s t.members) ∙ total-mark s t.members ∙ well.along;
  cut = cut-nf _ (mark s t.members) (cut-mark s _ t.members well.cut);
  apart = λ id.
      let few : slot_count id (ids (nf (mark s t.members))) ≤ slot_count id (ids t.members) =
      rw (ids-nf (mark s t.members)) (ids-mark (λ k. k % 2 ^ 24 == id % 2 ^ 24) s t.members) in
      let one : slot_count id (ids t.members) ≤ 1 = well.apart id in
      omega arith;
}

pub release_normal : (size : Sides) (s : ℕ → Bool) (t : Tree) → IsWellFormed size t → IsNormal (release s t).members
release_normal size s t well =
    normal-nf (side (other t.axis) size) (mark s t.members) (side_positive (other t.axis) size well.nonempty)
    (cut-mark s _ t.members well.cut)

pub release_keeps : (size : Sides) (s : ℕ → Bool) (t : Tree) → IsWellFormed size t → IsReleased size s t
release_keeps size s t well =
    record { well_formed = release_well_formed size s t well; normal = release_normal size s t well; live = live_release size s t }

-- Growth

pub total-lengthened : (d : ℕ) (m : Members) → total (lengthened d m) ≡ total m + d
total-lengthened d (Free e (Free k rest)) = ap (λ j. e + j) (total-lengthened d (Free k rest)) ∙ omega arith
total-lengthened d (Free e (Alloc id k rest)) = ap (λ j. e + j) (total-lengthened d (Alloc id k rest)) ∙ omega arith
total-lengthened d (Free e (Seq k inner rest)) = ap (λ j. e + j) (total-lengthened d (Seq k inner rest)) ∙ omega arith
total-lengthened d (Alloc id e rest) = ap (λ j. e + j) (total-lengthened d rest) ∙ omega arith
total-lengthened d (Seq e inner rest) = ap (λ j. e + j) (total-lengthened d rest) ∙ omega arith
total-lengthened d m = omega arith

cut-lengthened : (d across : ℕ) (m : Members) → 0 < d → IsCut across m → IsCut across (lengthened d m)
cut-lengthened d across End pos cut = (pos, tt)
cut-lengthened d across (Free e End) pos cut = (omega arith, tt)
cut-lengthened d across (Free e (Free k rest)) pos cut = (cut.0, cut-lengthened d across (Free k rest) pos cut.1)
cut-lengthened d across (Free e (Alloc id k rest)) pos cut = (cut.0, cut-lengthened d across (Alloc id k rest) pos cut.1)
cut-lengthened d across (Free e (Seq k inner rest)) pos cut = (cut.0, cut-lengthened d across (Seq k inner rest) pos cut.1)
cut-lengthened d across (Alloc id e rest) pos cut = (cut.0, cut-lengthened d across rest pos cut.1)
cut-lengthened d across (Seq e inner rest) pos cut = (cut.0, cut.1, cut.2, cut-lengthened d across rest pos cut.3)

ids-lengthened : (d : ℕ) (m : Members) → ids (lengthened d m) ≡ ids m
ids-lengthened d (Free e (Free k rest)) = ids-lengthened d (Free k rest)
ids-lengthened d (Free e (Alloc id k rest)) = ids-lengthened d (Alloc id k rest)
ids-lengthened d (Free e (Seq k inner rest)) = ids-lengthened d (Seq k inner rest)
ids-lengthened d (Alloc id e rest) = ap (λ (k : List ℕ). id ∷ k) (ids-lengthened d rest)
ids-lengthened d (Seq e inner rest) = ap (λ k. ids inner ++ k) (ids-lengthened d rest)
ids-lengthened d m = refl

normal-lengthened : (d : ℕ) (m : Members) → IsNormal m → IsNormal (lengthened d m)
normal-lengthened d (Free e (Free k rest)) n = absurd (true≢false n.0)
normal-lengthened d (Free e (Alloc id k rest)) n = (refl, normal-lengthened d (Alloc id k rest) n.1)
normal-lengthened d (Free e (Seq k inner rest)) n = (refl, normal-lengthened d (Seq k inner rest) n.1)
normal-lengthened d (Alloc id e rest) n = normal-lengthened d rest n
normal-lengthened d (Seq e inner rest) n = (n.0, n.1, normal-lengthened d rest n.2)
normal-lengthened d m n = (refl, tt)

-- What is kept when members that are not idle are lengthened to a new side.
record Kept (across b : ℕ) (m : Members) : Type 0 where
  pub sum : total m ≡ b
  pub cut : IsCut across m
  pub normal : IsNormal m
  pub busy : is_idle m ≡ false

busy-lengthened : (d : ℕ) (m : Members) → is_idle m ≡ false → is_idle (lengthened d m) ≡ false
busy-lengthened d End h = absurd (true≢false h)
busy-lengthened d (Free e End) h = h
busy-lengthened d (Free e (Free k End)) h = refl
busy-lengthened d (Free e (Free k (Free j rest))) h = refl
busy-lengthened d (Free e (Free k (Alloc id j rest))) h = refl
busy-lengthened d (Free e (Free k (Seq j inner rest))) h = refl
busy-lengthened d (Free e (Alloc id k rest)) h = refl
busy-lengthened d (Free e (Seq k inner rest)) h = refl
busy-lengthened d (Alloc id k rest) h = refl
busy-lengthened d (Seq k inner rest) h = refl

kept-lengthened_to : (across a b : ℕ) (m : Members) → a ≤ b → Kept across a m → Kept across b (lengthened_to a b m)
kept-lengthened_to across a b m le k = by_test (ltb a b) refl
  where
    by_test : (x : Bool) → ltb a b ≡ x → Kept across b (cond x (lengthened (b - a) m) m)
    by_test true is =
        let lt : a < b = ltb-true a b is in
        let d : 0 < b - a = omega arith in
        record {
          sum = total-lengthened (b - a) m ∙ ap (λ j. j + (b - a)) k.sum ∙ omega arith;
          cut = cut-lengthened (b - a) across m d k.cut;
          normal = normal-lengthened (b - a) m k.normal;
          busy = busy-lengthened (b - a) m k.busy;
        }
    by_test false is =
        let ge : b ≤ a = ltb-false a b is in record { sum = k.sum ∙ omega arith; cut = k.cut; normal = k.normal; busy = k.busy }

-- The top of a tree, as far as growth has it to be kept.
record KeptTree (size : Sides) (t : Tree) : Type 0 where
  pub sum : total t.members ≡ side t.axis size
  pub cut : IsCut (side (other t.axis) size) t.members
  pub normal : IsNormal t.members

kept-widened : (old new : Sides) (axis : Axis) (m : Members) → IsPositive old
    → side (other axis) old ≤ side (other axis) new → Kept (side (other axis) old) (side axis new) m
    → KeptTree new (widened (side (other axis) old) (side (other axis) new) axis m)
kept-widened old new axis m pos le k = by_test (ltb u n) refl
  where
    u : ℕ
    u = side (other axis) old

    n : ℕ
    n = side (other axis) new

    by_test : (x : Bool) → ltb u n ≡ x
        → KeptTree new (cond x (record { axis = other axis; members = Seq u m (Free (n - u) End) }) (record { axis = axis; members = m }))
    by_test true is =
        let lt : u < n = ltb-true u n is in
        record {
          sum = let back : u + (n - u + 0) ≡ n = omega arith in back;
          cut = (
            side_positive (other axis) old pos,
            k.sum ∙ ap (λ a. side a new) (sym (other_twice axis)),
            k.cut,
            (let d : 0 < n - u = omega arith in d, tt),
          );
          normal = (k.busy, k.normal, (refl, tt));
        }
    by_test false is =
        let ge : n ≤ u = ltb-false u n is in
        let same : u ≡ n = omega arith in
        record { sum = k.sum; cut = subst (λ j. IsCut j m) same k.cut; normal = k.normal }

pub longer_positive : (old new : Sides) → IsPositive old → Fits old new → IsPositive new
longer_positive old new p f = (omega (arith, p.0, f.0), omega (arith, p.1, f.1))

kept-grown : (old new : Sides) (axis : Axis) (m : Members) → IsPositive old → Fits old new → total m ≡ side axis old
    → IsCut (side (other axis) old) m → IsNormal m → KeptTree new (grown_members old new axis m)
kept-grown old new axis End pos fit sum cut normal = grind arith
kept-grown old new axis (Free e End) pos fit sum cut normal =
    record { sum = omega arith; cut = (side_positive axis new (longer_positive old new pos fit), tt); normal = (refl, tt) }
kept-grown old new axis m pos fit sum cut normal =
    kept-widened old new axis (lengthened_to (side axis old) (side axis new) m) pos (longer_side (other axis) old new fit)
    (kept-lengthened_to (side (other axis) old) (side axis old) (side axis new) m (longer_side axis old new fit)
    (record { sum = sum; cut = cut; normal = normal; busy = refl }))

ids-widened : (u n : ℕ) (axis : Axis) (m : Members) → ids (widened u n axis m).members ≡ ids m
ids-widened u n axis m = grind (arith, append-nil)

ids-lengthened_to : (a b : ℕ) (m : Members) → ids (lengthened_to a b m) ≡ ids m
ids-lengthened_to a b m = grind (arith, ids-lengthened)

pub ids-grown : (old new : Sides) (axis : Axis) (m : Members) → ids (grown_members old new axis m).members ≡ ids m
ids-grown old new axis (Free e End) = refl
ids-grown old new axis m = search (rules, ids-widened, ids-lengthened_to)

pub grown_kept : (old new : Sides) (t : Tree) → IsWellFormed old t → IsNormal t.members → Fits old new
    → IsWellFormed new (grown old new t) × IsNormal (grown old new t).members
grown_kept old new t well normal fit =
    let kept : KeptTree new (grown old new t) =
    kept-grown old new t.axis t.members well.nonempty fit well.along well.cut normal in (
      record {
        nonempty = longer_positive old new well.nonempty fit;
        along = kept.sum;
        cut = kept.cut;
        apart = λ id. rw (ids-grown old new t.axis t.members) (well.apart id);
      },
      kept.normal,
    )
