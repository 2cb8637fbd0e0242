-- A tree with nothing live is one free leaf.
use Rattle.std.proofs.Common.{◌≡◌, ℕ, ◌<◌, true, List, [], ◌∷◌, ◌++◌, map, refl, ap, sym, ◌∙◌, arith}
use Rattle.std.proofs.lemmas.Bool.{false≢true}
use Rattle.atlas_model.specs.Boxes.{Sides, whole_box}
use Rattle.atlas_model.specs.Trees.{Members, Tree, Grant, ids, live, free_boxes, total, is_idle, IsNormal, IsWellFormed}
use Rattle.atlas_model.specs.Trees.{IsOneFree}
use Rattle.atlas_model.specs.Trees.Members.{End, Free, Alloc, Seq}
use Rattle.atlas_model.proofs.TreeLemmas.TreeBasics.{side_positive}
use Rattle.atlas_model.proofs.TreeLemmas.TreeGrowth.{one_free_box}
use Rattle.atlas_model.proofs.TreeLemmas.TreeIds.{ids-live}

none_of : (xs ys : List ℕ) → xs ++ ys ≡ [] → (xs ≡ []) × (ys ≡ [])
none_of [] ys h = (refl, h)
none_of (x ∷ xs) ys h = absurd (cc)

-- Normal members with nothing live are none or one free one.
idle : (m : Members) → IsNormal m → ids m ≡ [] → is_idle m ≡ true
idle End n h = refl
idle (Free e rest) n h = grind (arith, idle rest n.1 h)
idle (Alloc id e rest) n h = absurd (cc)
idle (Seq e inner rest) n h = absurd (false≢true (sym n.0 ∙ idle inner n.1 (none_of (ids inner) (ids rest) h).0))

one_free : (m : Members) → is_idle m ≡ true → 0 < total m → m ≡ Free (total m) End
one_free End h pos = absurd (omega arith)
one_free (Free e End) h pos = ap (λ k. Free k End) (omega arith)
one_free m h pos = absurd (false≢true h)

pub no_ids : (size : Sides) (t : Tree) → IsWellFormed size t → IsNormal t.members → ids t.members ≡ []
    → IsOneFree size t
no_ids size t well normal none = grind (arith, one_free, idle, side_positive)

pub nothing_live : (size : Sides) (t : Tree) → IsWellFormed size t → IsNormal t.members → live size t ≡ []
    → IsOneFree size t × (free_boxes size t ≡ whole_box size ∷ [])
nothing_live size t well normal none =
    let one : IsOneFree size t = no_ids size t well normal (sym (ids-live size t) ∙ ap (map (λ (g : Grant). g.id)) none) in
    (one, one_free_box size t one)
