use Rattle.std.proofs.Common.{rules, ap, subst, arith}
use Rattle.atlas_model.specs.Pixels.{options_of, sides_of}
use Rattle.atlas_model.specs.States.{IsSound}
use Rattle.atlas_store.specs.Stored.{state_of}
use Rattle.atlas_allocator.proofs.AtlasLemmas.Reserves.{start-few}
use Rattle.atlas_store.proofs.StoreLemmas.TakenOnce.{once-first}
use Rattle.atlas_allocator.proofs.atlas.AtlasAllocator.restart.Goals as goal

pub returns-clause-state : goal.returns-clause-state
returns-clause-state g c = search rules

pub returns-clause-slots : goal.returns-clause-slots
returns-clause-slots g c = record {
  used =
      start-few (state_of c.args.self.now) _ (sides_of c.args.whole) (options_of c.args.options.now)
      (subst (λ w. IsSound (state_of w)) c.self.view_is c.self.invariant.sound) (returns-clause-state g c);
  capacity = omega (arith, ap (λ v. v.capacity) c.self.view_is, c.start.ensures.capacity);
}

pub returns-clause-anew : goal.returns-clause-anew
returns-clause-anew g c = once-first _ c.start.ensures.begun.once
