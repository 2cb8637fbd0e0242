-- What a run leaves once what was granted in it is freed.
use Rattle.std.proofs.Common.{◌≡◌, ℕ, Bool, true, false, cond, List, [], ◌∷◌, refl, ap, subst, subst₂, sym, ◌∙◌, ◌⊎◌}
use Rattle.std.proofs.Common.{inl, inr, arith, All}
use Rattle.std.proofs.lemmas.Bool.{eqb-true, false≢true}
use Rattle.std.proofs.lemmas.List.Elements.{All-head, All-tail}
use Rattle.atlas_model.specs.Boxes.{Sides, Box, Fits}
use Rattle.atlas_model.specs.Changes.{nf, mark, only, and_id, release, grown}
use Rattle.atlas_model.specs.Choice.{rounded}
use Rattle.atlas_model.specs.Laws.RunLaws.{RunsLeaveNoTrace}
use Rattle.atlas_model.specs.Laws.StepLaws.{is_refusal}
use Rattle.atlas_model.specs.Runs.{Run, Since, since_start, since_call, since, but_id, is_plain, IsAsWithout}
use Rattle.atlas_model.specs.States.{State, IsSound, after_freeing, after_growth}
use Rattle.atlas_model.specs.Steps.{AtlasCall, AtlasReply, Step, Grants}
use Rattle.atlas_model.specs.Steps.AtlasCall.{Allocate, Deallocate, Grow}
use Rattle.atlas_model.specs.Steps.AtlasReply.{Allocated, Done}
use Rattle.atlas_model.specs.Trees.{Tree, Grant, ids, is_one_free, IsWellFormed, IsOneFree}
use Rattle.atlas_model.proofs.StepLemmas.Outcomes.{by_outcome}
use Rattle.atlas_model.proofs.StepLemmas.SoundSteps.{steps_keep}
use Rattle.atlas_model.proofs.TreeLemmas.TreeIds.{unused-absent}
use Rattle.atlas_model.proofs.TreeLemmas.TreeNormal.{release-none, release-like, release-release}
use Rattle.atlas_model.proofs.TreeLemmas.TreeUndone.{grant_undone}
use Rattle.atlas_model.proofs.TreeLemmas.TreeGrowth.{growth_released, growth_released_free}
use Rattle.atlas_model.proofs.TreeLemmas.TreeKept.{release_well_formed}

-- Sets of ids freed one after another.

freed_again : (s : ℕ → Bool) (id : ℕ) (t : Tree) → s id ≡ true
    → release (but_id s id) (release (only id) t) ≡ release s t
freed_again s id t h = grind (arith, release-release, release-like, eqb-true)

freed_too : (s : ℕ → Bool) (id : ℕ) (t : Tree) → release s (release (only id) t) ≡ release (only id) (release s t)
freed_too s id t = grind (arith, release-release, release-like)

one_free_stays : (size : Sides) (s : ℕ → Bool) (t : Tree) → IsOneFree size t → IsOneFree size (release s t)
one_free_stays size s t is = ap (λ m. nf (mark s m)) is

one_free_grows : (old new : Sides) (t : Tree) → IsOneFree old t → IsOneFree new (grown old new t)
one_free_grows old new t is = subst (λ m. IsOneFree new (grown old new (record { axis = t.axis; members = m }))) (sym is) refl

-- How one call changes both trees.

as_freed : (before size : Sides) (t u : Tree) (g : ℕ → Bool) (id : ℕ) → IsAsWithout before size (release g t) u
    → IsAsWithout before size (release g (release (only id) t)) (release (only id) u)
as_freed before size t u g id (inl same) = inl (freed_too g id t ∙ ap (release (only id)) same)
as_freed before size t u g id (inr both) = grind (arith, freed_too, one_free_stays)

same_or_not : (a b : Sides) → (a ≡ b) ⊎ (a ≡ b → ⊥)
same_or_not a b = grind arith

-- What has grown once has another size than before, whatever it grows to later.
stays_other : (before old new : Sides) → Fits before old → Fits old new → (old ≡ before → ⊥) → new ≡ before → ⊥
stays_other before old new first then unlike back = grind arith

grows_other : (before old new : Sides) → Fits before old → (new ≡ old → ⊥) → Fits old new → new ≡ before → ⊥
grows_other before old new first unlike then back = grind arith

-- A growth to the present size changes nothing.
pub grown_itself : (size : Sides) (t : Tree) → IsWellFormed size t → grown size size t ≡ t
grown_itself size t well = grind arith

as_grown : (before old new : Sides) (t u : Tree) (g : ℕ → Bool) → Fits before old → IsWellFormed old t → Fits old new
    → IsAsWithout before old (release g t) u → IsAsWithout before new (release g (grown old new t)) (grown old new u)
as_grown before old new t u g first well fit h = by_test (is_one_free (release g t).members) refl h
  where
    kept : release g t ≡ u → new ≡ old → release g (grown old new t) ≡ grown old new u
    kept same whole = grind (arith, grown_itself, release_well_formed)

    by_size : release g t ≡ u → is_one_free (release g t).members ≡ true → (new ≡ old) ⊎ (new ≡ old → ⊥)
        → IsAsWithout before new (release g (grown old new t)) (grown old new u)
    by_size same is (inl whole) = inl (kept same whole)
    by_size same is (inr unlike) = grind (arith, growth_released_free, grows_other)

    by_test : (b : Bool) → is_one_free (release g t).members ≡ b → IsAsWithout before old (release g t) u
        → IsAsWithout before new (release g (grown old new t)) (grown old new u)
    by_test false is (inl same) = inl (growth_released old new t g well fit is ∙ ap (grown old new) same)
    by_test true is (inl same) = by_size same is (same_or_not new old)
    by_test b is (inr free) = grind (arith, stays_other, growth_released_free, one_free_grows)

-- A state and what was gathered since, where freeing what is held leaves the tree gathered.
record IsWithout (before : Sides) (s : State) (k : Since) : Type 0 where
  pub size : k.size ≡ s.size
  pub fits : Fits before s.size
  pub tree : IsAsWithout before s.size (release k.held s.tree) k.tree

granted_without : (before : Sides) (old new : State) (k : Since) (r : Sides) (f : Box) (g : Grant)
    → Grants old r f g new
    → IsWithout before old k
    → IsWithout before new (record k { held = and_id k.held g.id })
granted_without before old new k r f g h w =
    let undone = grant_undone old.size old.tree f (rounded old.options r) g.id k.held
    (unused-absent g.id (ids old.tree.members) h.unused) h.takes.pick.best.candidate.fitting.fits in
    subst (λ s. IsWithout before s (record k { held = and_id k.held g.id })) (sym h.state)
    (record { size = w.size; fits = w.fits; tree = subst (λ t. IsAsWithout before old.size t k.tree) (sym undone) w.tree })

freed_without : (before : Sides) (old : State) (k : Since) (id : ℕ) → IsWithout before old k
    → IsWithout before (after_freeing old (only id)) (since_call k (Deallocate id) Done)
freed_without before old k id w = by_test (k.held id) refl
  where
    by_test : (b : Bool) → k.held id ≡ b
        → IsWithout before (after_freeing old (only id))
        (cond b (record k { held = but_id k.held id }) (record k { tree = release (only id) k.tree }))
    by_test true is = record {
      size = w.size;
      fits = w.fits;
      tree = subst (λ t. IsAsWithout before old.size t k.tree) (sym (freed_again k.held id old.tree is)) w.tree;
    }
    by_test false is = record {
      size = w.size;
      fits = w.fits;
      tree = as_freed before old.size old.tree k.tree k.held id w.tree;
    }

grown_without : (before : Sides) (old : State) (k : Since) (n : Sides) → IsSound old → Fits old.size n
    → IsWithout before old k
    → IsWithout before (after_growth old n) (record k { size = n; tree = grown k.size n k.tree })
grown_without before old k n sound fit w = record {
  size = refl;
  fits = (omega (arith, w.fits.0, fit.0), omega (arith, w.fits.1, fit.1));
  tree =
      subst (λ z. IsAsWithout before n (release k.held (grown old.size n old.tree)) (grown z n k.tree)) (sym w.size)
      (as_grown before old.size n old.tree k.tree k.held w.fits sound.well_formed fit w.tree);
}

-- A refused call gathers nothing.

unchanged_since : (k : Since) (call : AtlasCall) (reply : AtlasReply) → is_refusal reply ≡ true
    → since_call k call reply ≡ k
unchanged_since k (Allocate r) (Allocated g) h = absurd (false≢true h)
unchanged_since k (Deallocate id) Done h = absurd (false≢true h)
unchanged_since k (Grow n) Done h = absurd (false≢true h)
unchanged_since k call reply h = refl

-- And a step keeps what a state and what was gathered have in common.
step_without : (before : Sides) (old new : State) (k : Since) (call : AtlasCall) (reply : AtlasReply) → IsSound old
    → IsWithout before old k → Step old call reply new
    → is_plain call ≡ true → IsWithout before new (since_call k call reply)
step_without before old new k call reply sound w =
    by_outcome old new (λ call reply. is_plain call ≡ true → IsWithout before new (since_call k call reply))
    (λ call reply refused same plain. subst₂ (IsWithout before) (sym same) (sym (unchanged_since k call reply refused)) w)
    (λ r f g h plain. granted_without before old new k r f g h w)
    (λ id at is plain.
    subst (λ s. IsWithout before s (since_call k (Deallocate id) Done)) (sym is) (freed_without before old k id w))
    (λ n fit room is plain. subst (λ s. IsWithout before s (record k { size = n; tree = grown k.size n k.tree })) (sym is)
    (grown_without before old k n sound fit w))
    (λ is plain. absurd (false≢true plain))
    (λ n o pos valid is plain. absurd (false≢true plain))
    (λ call n list rare h plain. absurd (false≢true (sym rare ∙ plain)))
    call reply

run_without : (calls : List AtlasCall) (replies : List AtlasReply) (before : Sides) (old new : State) (k : Since)
    → IsSound old → All (λ c. is_plain c ≡ true) calls → IsWithout before old k
    → Run old calls replies new → IsWithout before new (since k calls replies)
run_without [] [] before old new k sound plain w h = subst (λ s. IsWithout before s k) (sym h) w
run_without [] (reply ∷ replies) before old new k sound plain w h = absurd h
run_without (call ∷ calls) [] before old new k sound plain w h = absurd h
run_without (call ∷ calls) (reply ∷ replies) before old new k sound plain w (mid, step, run) =
    run_without calls replies before mid new (since_call k call reply) (steps_keep old mid call reply sound step)
    (All-tail (λ c. is_plain c ≡ true) call calls plain)
    (step_without before old mid k call reply sound w step (All-head (λ c. is_plain c ≡ true) call calls plain)) run

pub runs_leave_no_trace : RunsLeaveNoTrace
runs_leave_no_trace old new calls replies sound plain h =
    let w = run_without calls replies old.size old new (since_start old) sound plain
    (record { size = refl; fits = (omega arith, omega arith); tree = inl (release-none old.tree sound.normal) }) h in
    record { size = w.size; tree = w.tree }
