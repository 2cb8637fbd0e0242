-- What is live after normalising, freeing and growing.
use Rattle.std.proofs.Common.{◌≡◌, ℕ, ◌-◌, ◌≤◌, Bool, true, false, cond, not, ltb, ◌∷◌, ◌++◌, refl, ap, ap₂, sym, ◌∙◌}
use Rattle.std.proofs.Common.{arith}
use Rattle.std.proofs.lemmas.List.{append-nil}
use Rattle.std.proofs.lemmas.List.Elements.{filter-append}
use Rattle.std.specs.List.{filter}
use Rattle.atlas_model.specs.Boxes.{Axis, Position, Sides, other, side, moved, origin, Fits}
use Rattle.atlas_model.specs.Changes.{free_before, seq_before, nf, mark, release, lengthened, lengthened_to, widened}
use Rattle.atlas_model.specs.Changes.{grown_members, grown}
use Rattle.atlas_model.specs.Trees.{Grant, Members, Tree, live}
use Rattle.atlas_model.specs.Trees.Members.{End, Free, Alloc, Seq}
use Rattle.atlas_model.proofs.TreeLemmas.TreeBasics.{other_twice, longer_side, moved-twice, live_among, live_among-seq}

live-free_before : (axis : Axis) (o : Position) (across e : ℕ) (m : Members)
    → live_among axis o across (free_before e m) ≡ live_among axis (moved axis o e) across m
live-free_before axis o across e (Free k rest) = ap (λ p. live_among axis p across rest) (sym (moved-twice axis o e k))
live-free_before axis o across e m = refl

live-seq_before : (axis : Axis) (o : Position) (across e : ℕ) (inner m : Members)
    → live_among axis o across (seq_before e inner m)
    ≡ live_among (other axis) o e inner ++ live_among axis (moved axis o e) across m
live-seq_before axis o across e (Free k End) m = live-free_before axis o across e m
live-seq_before axis o across e inner m = live_among-seq axis o across e inner m

pub live-nf : (axis : Axis) (o : Position) (across : ℕ) (m : Members)
    → live_among axis o across (nf m) ≡ live_among axis o across m
live-nf axis o across End = refl
live-nf axis o across (Free e rest) = live-free_before axis o across e (nf rest) ∙ live-nf axis (moved axis o e) across rest
live-nf axis o across (Alloc id e rest) = ap₂ (λ (g : Grant) k. g ∷ k) refl (live-nf axis (moved axis o e) across rest)
live-nf axis o across (Seq e inner rest) =
    live-seq_before axis o across e (nf inner) (nf rest)
    ∙ ap₂ ◌++◌ (live-nf (other axis) o e inner) (live-nf axis (moved axis o e) across rest)
    ∙ sym (live_among-seq axis o across e inner rest)

pub live-mark : (s : ℕ → Bool) (axis : Axis) (o : Position) (across : ℕ) (m : Members)
    → live_among axis o across (mark s m) ≡ filter (λ p. not (s p.id)) (live_among axis o across m)
live-mark s axis o across End = refl
live-mark s axis o across (Free e rest) = live-mark s axis (moved axis o e) across rest
live-mark s axis o across (Alloc id e rest) = grind (arith, live-mark s axis (moved axis o e) across rest)
live-mark s axis o across (Seq e inner rest) =
    live_among-seq axis o across e (mark s inner) (mark s rest)
    ∙ ap₂ ◌++◌ (live-mark s (other axis) o e inner) (live-mark s axis (moved axis o e) across rest)
    ∙ sym
    (filter-append (λ (p : Grant). not (s p.id)) (live_among (other axis) o e inner) (live_among axis (moved axis o e) across rest))
    ∙ ap (filter (λ p. not (s p.id))) (sym (live_among-seq axis o across e inner rest))

-- A freeing takes away the boxes of its ids.
pub live_release : (size : Sides) (s : ℕ → Bool) (t : Tree)
    → live size (release s t) ≡ filter (λ p. not (s p.id)) (live size t)
live_release size s t =
    live-nf t.axis origin (side (other t.axis) size) (mark s t.members)
    ∙ live-mark s t.axis origin (side (other t.axis) size) t.members

-- Growth

live-lengthened : (d : ℕ) (axis : Axis) (o : Position) (across : ℕ) (m : Members)
    → live_among axis o across (lengthened d m) ≡ live_among axis o across m
live-lengthened d axis o across (Free e (Free k rest)) = live-lengthened d axis (moved axis o e) across (Free k rest)
live-lengthened d axis o across (Free e (Alloc id k rest)) = live-lengthened d axis (moved axis o e) across (Alloc id k rest)
live-lengthened d axis o across (Free e (Seq k inner rest)) = live-lengthened d axis (moved axis o e) across (Seq k inner rest)
live-lengthened d axis o across (Alloc id e rest) = ap₂ (λ (g : Grant) k. g ∷ k) refl (live-lengthened d axis (moved axis o e) across rest)
live-lengthened d axis o across (Seq e inner rest) =
    live_among-seq axis o across e inner (lengthened d rest)
    ∙ ap (λ k. live_among (other axis) o e inner ++ k) (live-lengthened d axis (moved axis o e) across rest)
    ∙ sym (live_among-seq axis o across e inner rest)
live-lengthened d axis o across m = refl

live-lengthened_to : (a b : ℕ) (axis : Axis) (o : Position) (across : ℕ) (m : Members)
    → live_among axis o across (lengthened_to a b m) ≡ live_among axis o across m
live-lengthened_to a b axis o across m = by_test (ltb a b)
  where
    by_test : (x : Bool) → live_among axis o across (cond x (lengthened (b - a) m) m) ≡ live_among axis o across m
    by_test true = live-lengthened (b - a) axis o across m
    by_test false = refl

live-widened : (old new : Sides) (axis : Axis) (m : Members) → side (other axis) old ≤ side (other axis) new
    → live new (widened (side (other axis) old) (side (other axis) new) axis m) ≡ live_among axis origin (side (other axis) old) m
live-widened old new axis m wide = by_test (ltb u n) refl
  where
    u : ℕ
    u = side (other axis) old

    n : ℕ
    n = side (other axis) new

    by_test : (x : Bool) → ltb u n ≡ x
        → live new (cond x (record { axis = other axis; members = Seq u m (Free (n - u) End) }) (record { axis = axis; members = m }))
        ≡ live_among axis origin u m
    by_test true lt =
        live_among-seq (other axis) origin (side (other (other axis)) new) u m (Free (n - u) End)
        ∙ append-nil (live_among (other (other axis)) origin u m)
        ∙ ap (λ a. live_among a origin u m) (other_twice axis)
    by_test false ge = grind arith

live-grown_members : (old new : Sides) (axis : Axis) (m : Members) → Fits old new
    → live new (grown_members old new axis m) ≡ live_among axis origin (side (other axis) old) m
live-grown_members old new axis (Free e End) fit = refl
live-grown_members old new axis m fit =
    live-widened old new axis (lengthened_to (side axis old) (side axis new) m) (longer_side (other axis) old new fit)
    ∙ live-lengthened_to (side axis old) (side axis new) axis origin (side (other axis) old) m

-- A growth keeps what is live.
pub live_grown : (old new : Sides) (t : Tree) → Fits old new → live new (grown old new t) ≡ live old t
live_grown old new t fit = live-grown_members old new t.axis t.members fit
