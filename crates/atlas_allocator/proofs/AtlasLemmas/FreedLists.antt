-- Freeing the ids of a list one after another.
use Rattle.std.proofs.Common.{ℕ, ◌+◌, ◌≤◌, ◌<◌, ◌≡◌, Bool, true, false, cond, List, [], ◌∷◌, length, drop, get_or, refl}
use Rattle.std.proofs.Common.{sym, ap, subst, ◌∙◌, inl, inr, arith, Contains}
use Rattle.std.proofs.lemmas.Bool.{ne_eqb, eqb-false, or_parts}
use Rattle.std.proofs.lemmas.List.{drop_more, drop_all}
use Rattle.std.proofs.lemmas.List.Elements.{Contains-append_left, Contains-append_right, Contains-append_cases}
use Rattle.atlas_store.specs.Batches.{AreLiveOnce, AreNamedOnce}
use Rattle.atlas_model.specs.Changes.{mark, only}
use Rattle.atlas_model.specs.Laws.TreeLaws.{is_among}
use Rattle.atlas_store.specs.Slots.{nodes}
use Rattle.atlas_model.specs.States.{State, IsSound, IsLive, after_freeing}
use Rattle.atlas_store.specs.Stored.{Stored, IsAtlas, state_of}
use Rattle.atlas_model.specs.Trees.{Members, ids}
use Rattle.atlas_model.specs.Trees as tree
use Rattle.atlas_model.proofs.TreeLemmas.TreeIds.{Contains-first, Contains-later, Contains-cons_cases}
use Rattle.atlas_model.proofs.TreeLemmas.TreeKept.{ids-nf}
use Rattle.atlas_model.proofs.TreeLemmas.TreeCounts.{release_nodes}
use Rattle.atlas_model.proofs.TreeLemmas.TreeNormal.{release-none, release-release}
use Rattle.atlas_model.proofs.StepLemmas.SoundSteps.{freeing_sound}
use Rattle.atlas_store.proofs.WalkLemmas.FreedAtlas.{state-freed, live-named, named-live}

-- The state once the ids of a list are freed, one after another.
abbrev pub after_each : State → List ℕ → State
after_each s [] = s
after_each s (id ∷ rest) = after_each (after_freeing s (only id)) rest

freeing_twice : (s : State) (id : ℕ) (rest : List ℕ) → IsSound s
    → after_freeing (after_freeing s (only id)) (is_among rest) ≡ after_freeing s (is_among (id ∷ rest))
freeing_twice s id rest sound = grind (arith, release_nodes, state-freed, release-release)

-- Ids freed one after another are their set freed at once.
pub each-all : (s : State) (ids : List ℕ) → IsSound s → after_each s ids ≡ after_freeing s (is_among ids)
each-all s [] sound = state-freed s s (is_among []) (sym (release-none s.tree sound.normal)) refl refl refl refl sound
each-all s (id ∷ rest) sound =
    each-all (after_freeing s (only id)) rest (freeing_sound s (only id) sound) ∙ freeing_twice s id rest sound

-- An id that isn't freed stays live.

mark-live : (set : ℕ → Bool) (m : Members) (k : ℕ) → set k ≡ false → Contains (ids m) k → Contains (ids (mark set m)) k
mark-live set tree.End k out at = at
mark-live set (tree.Free e rest) k out at = mark-live set rest k out at
mark-live set (tree.Alloc id e rest) k out at = by_test (set id) refl (mark-live set rest k out)
  where
    by_test : (b : Bool) → set id ≡ b → (Contains (ids rest) k → Contains (ids (mark set rest)) k)
        → Contains (ids (cond b (tree.Free e (mark set rest)) (tree.Alloc id e (mark set rest)))) k
    by_test true is later = grind arith
    by_test false is later =
        elim (Contains-cons_cases id (ids rest) k at) [
          | inl q ↦ subst (λ v. Contains (v ∷ ids (mark set rest)) k) (sym q) (Contains-first k (ids (mark set rest)))
          | inr x ↦ Contains-later id (ids (mark set rest)) k (later x)
        ]
mark-live set (tree.Seq e inner rest) k out at =
    elim (Contains-append_cases (ids inner) (ids rest) k at) [
      | inl x ↦ Contains-append_left (ids (mark set inner)) (ids (mark set rest)) k (mark-live set inner k out x)
      | inr x ↦ Contains-append_right (ids (mark set inner)) (ids (mark set rest)) k (mark-live set rest k out x)
    ]

live-after : (s : State) (id k : ℕ) → IsLive s k → (k ≡ id → ⊥) → IsLive (after_freeing s (only id)) k
live-after s id k live ne =
    subst (λ v. Contains v k) (sym (ids-nf (mark (only id) s.tree.members))) (mark-live (only id) s.tree.members k (ne_eqb k id ne) live)

pub once-after : (s : State) (id : ℕ) (rest : List ℕ) → AreLiveOnce s rest → is_among rest id ≡ false
    → AreLiveOnce (after_freeing s (only id)) rest
once-after s id [] h out = tt
once-after s id (x ∷ rest) h out =
    let parts = or_parts (only x id) (is_among rest id) out in
    (live-after s id x h.0 (λ e. eqb-false id x parts.0 (sym e)), h.1, once-after s id rest h.2 parts.1)

-- A step of the loop over the list.
pub head-live : (s : State) (ids : List ℕ) (k id : ℕ) → k < length ids → id ≡ get_or ids k id
    → AreLiveOnce s (drop k ids) → AreLiveOnce s (id ∷ drop (k + 1) ids)
head-live s ids k id l is h = grind (arith, drop_more)

pub each-next : (s : State) (ids : List ℕ) (k id : ℕ) → k < length ids → id ≡ get_or ids k id
    → after_each s (drop k ids) ≡ after_each (after_freeing s (only id)) (drop (k + 1) ids)
each-next s ids k id l is = ap (after_each s) (drop_more ids k id l ∙ ap (λ v. v ∷ drop (k + 1) ids) (sym is))

pub each-none : (s : State) (ids : List ℕ) (k : ℕ) → length ids ≤ k → after_each s (drop k ids) ≡ s
each-none s ids k l = ap (after_each s) (drop_all k ids l)

-- Ids that name slots are live.

pub named-live_once : (v : Stored) (a : IsAtlas v) (turns : ℕ) (ids : List ℕ) → AreNamedOnce (nodes v.shelf.slots) ids
    → AreLiveOnce (state_of (record { stored = v; turns = turns; capacity = 0 })) ids
named-live_once v a turns [] h = tt
named-live_once v a turns (id ∷ rest) h = (named-live v a id h.0, h.1, named-live_once v a turns rest h.2)

pub live-named_once : (v : Stored) (a : IsAtlas v) (turns : ℕ) (ids : List ℕ)
    → AreLiveOnce (state_of (record { stored = v; turns = turns; capacity = 0 })) ids
    → AreNamedOnce (nodes v.shelf.slots) ids
live-named_once v a turns [] h = tt
live-named_once v a turns (id ∷ rest) h = (live-named v a id h.0, h.1, live-named_once v a turns rest h.2)
