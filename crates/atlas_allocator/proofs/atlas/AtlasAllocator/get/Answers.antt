use Rattle.std.proofs.Common.{rules, subst}
use Rattle.atlas_model.specs.States.{IsSound}
use Rattle.atlas_store.specs.Stored.{state_of}
use Rattle.atlas_store.proofs.WalkLemmas.NamedSlots.{named-found, named-missed}
use Rattle.atlas_model.proofs.StepLemmas.ApartBoxes.{shown_live, shown_within}
use Rattle.atlas_model.proofs.StepLemmas.CallerGrants.{shown_lies}
use Rattle.atlas_allocator.proofs.atlas.AtlasAllocator.get.Goals as goal

pub returns-in_err-at-clause-rectangle : goal.returns-in_err-at-clause-rectangle
returns-in_err-at-clause-rectangle g c = search (rules, named-missed)

pub returns-clause-rectangle : goal.returns-clause-rectangle
returns-clause-rectangle g c = search (rules, named-found)

pub returns-in_err-at-clause-live : goal.returns-in_err-at-clause-live
returns-in_err-at-clause-live g c = shown_live (state_of c.args.self.now) c.args.id _ (returns-in_err-at-clause-rectangle g c)

pub returns-clause-live : goal.returns-clause-live
returns-clause-live g c = shown_live (state_of c.args.self.now) c.args.id _ (returns-clause-rectangle g c)

pub returns-in_err-at-clause-within : goal.returns-in_err-at-clause-within
returns-in_err-at-clause-within g c = search (rules, shown_within, returns-in_err-at-clause-rectangle)

pub returns-clause-within : goal.returns-clause-within
returns-clause-within g c =
    shown_within (state_of c.args.self.now) (subst (λ w. IsSound (state_of w)) c.self.view_is c.self.invariant.sound) c.args.id _
    (returns-clause-rectangle g c)

pub returns-clause-lies : goal.returns-clause-lies
returns-clause-lies g c =
    shown_lies (state_of c.args.self.now) (subst (λ w. IsSound (state_of w)) c.self.view_is c.self.invariant.sound) c.args.id _
    (returns-clause-rectangle g c)
