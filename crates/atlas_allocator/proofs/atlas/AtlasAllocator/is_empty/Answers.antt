use Rattle.std.proofs.Common.{rules, ◌≡◌, sym, ap, ◌∙◌}
use Rattle.std.proofs.lemmas.Bool.{eqb-true, eq-eqb, true≢false}
use Rattle.atlas_store.specs.contracts.slots.NodeKind.{the_type}
use denote.Enum.Bare.{sameb}
use Rattle.atlas_store.specs.declared.slots.NodeKind.TheVariants as kind
use Rattle.atlas_store.proofs.WalkLemmas.StoredAtlas.{first-IsAtlas, idle-read, none_live-read}
use Rattle.atlas_model.proofs.ListLemmas.CallerLemmas.{empty_count}
use Rattle.atlas_allocator.proofs.atlas.AtlasAllocator.is_empty.Goals as goal

pub node-first-requires : goal.node-first-requires
node-first-requires g c = first-IsAtlas _ c.self.invariant

pub returns-then-eq-clause-empty : goal.returns-then-eq-clause-empty
returns-then-eq-clause-empty g c =
    let free : c.node-first.result.kind ≡ kind.Free = search rules in
    rw (← c.self.view_is) (
      λ last. idle-read _ c.self.invariant c.node-first.result c.node-first.ensures free (eqb-true _ _ last),
      λ none. eq-eqb _ _ (none_live-read _ c.self.invariant c.node-first.result c.node-first.ensures none).1,
    )

pub returns-else-eq-clause-empty : goal.returns-else-eq-clause-empty
returns-else-eq-clause-empty g c =
    rw (← c.self.view_is) (
      λ yes. absurd (true≢false (sym yes ∙ c.if-eq.false)),
      λ none. c.eq.ensures ∙ ap (λ k. sameb the_type k kind.Free) (none_live-read _ c.self.invariant c.node-first.result
          c.node-first.ensures none).0,
    )

pub returns-then-eq-clause-count : goal.returns-then-eq-clause-count
returns-then-eq-clause-count g c = empty_count _ _ (returns-then-eq-clause-empty g c)

pub returns-else-eq-clause-count : goal.returns-else-eq-clause-count
returns-else-eq-clause-count g c = empty_count _ _ (returns-else-eq-clause-empty g c)
