-- Marking, normalising and freeing.
use Rattle.std.proofs.Common.{◌≡◌, ℕ, ◌+◌, Bool, false, ◌||◌, refl, ap, ap₂, sym, ◌∙◌, arith}
use Rattle.std.proofs.lemmas.Bool.{true≢false}
use Rattle.atlas_model.specs.Changes.{free_before, seq_before, nf, mark, release}
use Rattle.atlas_model.specs.Trees.{Members, Tree, begins_free, IsNormal}
use Rattle.atlas_model.specs.Trees.Members.{End, Free, Alloc, Seq}

-- Two free extents before members are their sum before them.
pub free_before-twice : (a b : ℕ) (m : Members) → free_before a (free_before b m) ≡ free_before (a + b) m
free_before-twice a b (Free e rest) = ap (λ k. Free k rest) (omega arith)
free_before-twice a b m = refl

nf-mark-free_before : (s : ℕ → Bool) (e : ℕ) (m : Members)
    → nf (mark s (free_before e m)) ≡ free_before e (nf (mark s m))
nf-mark-free_before s e (Free e' rest) = sym (free_before-twice e e' (nf (mark s rest)))
nf-mark-free_before s e m = refl

nf-mark-seq_before : (s : ℕ → Bool) (e : ℕ) (inner m : Members)
    → nf (mark s (seq_before e inner m)) ≡ seq_before e (nf (mark s inner)) (nf (mark s m))
nf-mark-seq_before s e (Free e' End) m = nf-mark-free_before s e m
nf-mark-seq_before s e inner m = refl

-- Marking after normalising, and normalising again, is marking and normalising.
pub nf_mark_nf : (s : ℕ → Bool) (m : Members) → nf (mark s (nf m)) ≡ nf (mark s m)
nf_mark_nf s End = refl
nf_mark_nf s (Free e rest) = nf-mark-free_before s e (nf rest) ∙ ap (free_before e) (nf_mark_nf s rest)
nf_mark_nf s (Alloc id e rest) = grind (arith, nf_mark_nf s rest)
nf_mark_nf s (Seq e inner rest) = nf-mark-seq_before s e (nf inner) (nf rest) ∙ cc (nf_mark_nf s inner, nf_mark_nf s rest)

-- Normal members are their normal form.

free_before-normal : (e : ℕ) (m : Members) → begins_free m ≡ false → free_before e m ≡ Free e m
free_before-normal e (Free k rest) h = absurd (true≢false h)
free_before-normal e m h = refl

pub nf-normal : (m : Members) → IsNormal m → nf m ≡ m
nf-normal End n = refl
nf-normal (Free e rest) n = ap (free_before e) (nf-normal rest n.1) ∙ free_before-normal e rest n.0
nf-normal (Alloc id e rest) n = ap (Alloc id e) (nf-normal rest n)
nf-normal (Seq e inner rest) n = grind (arith, nf-normal inner n.1, nf-normal rest n.2)

pub mark-none : (m : Members) → mark (λ k. false) m ≡ m
mark-none End = refl
mark-none (Free e rest) = ap (Free e) (mark-none rest)
mark-none (Alloc id e rest) = ap (Alloc id e) (mark-none rest)
mark-none (Seq e inner rest) = ap₂ (Seq e) (mark-none inner) (mark-none rest)

-- Freeing nothing in a normal tree leaves the tree.
pub release-none : (t : Tree) → IsNormal t.members → release (λ k. false) t ≡ t
release-none t normal = ap (λ m. record { axis = t.axis; members = m }) (ap nf (mark-none t.members) ∙ nf-normal t.members normal)

-- One marking after another.

mark-mark : (s s' : ℕ → Bool) (m : Members) → mark s (mark s' m) ≡ mark (λ k. s' k || s k) m
mark-mark s s' End = refl
mark-mark s s' (Free e rest) = ap (Free e) (mark-mark s s' rest)
mark-mark s s' (Alloc id e rest) = grind (arith, mark-mark s s' rest)
mark-mark s s' (Seq e inner rest) = ap₂ (Seq e) (mark-mark s s' inner) (mark-mark s s' rest)

-- Sets with the same ids free the same.
pub release-like : (s s' : ℕ → Bool) (t : Tree) → ((k : ℕ) → s k ≡ s' k) → release s t ≡ release s' t
release-like s s' t h = ap (λ (f : ℕ → Bool). release f t) (λ i k. h k i)

-- Freeing a set and then another frees both.
pub release-release : (s s' : ℕ → Bool) (t : Tree) → release s (release s' t) ≡ release (λ k. s' k || s k) t
release-release s s' t = grind (arith, nf_mark_nf, mark-mark)
