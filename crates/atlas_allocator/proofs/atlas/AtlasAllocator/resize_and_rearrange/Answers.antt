use Rattle.std.proofs.Common.{rules, refl, ap, subst, ◌∙◌}
use Rattle.atlas_model.specs.Pixels.{options_of, sides_of}
use Rattle.atlas_model.specs.Rearranging.{rearrangement_of}
use Rattle.atlas_model.specs.States.{IsSound, started}
use Rattle.atlas_store.specs.Stored.{state_of}
use Rattle.atlas_model.proofs.StepLemmas.SoundSteps.{steps_keep}
use Rattle.atlas_allocator.proofs.AtlasLemmas.RearrangedAtlas.{atlas-rearranged, atlas-moved, atlas-sides}
use Rattle.atlas_allocator.proofs.atlas.AtlasAllocator.resize_and_rearrange.Goals as goal

pub returns-clause-step : goal.returns-clause-step
returns-clause-step g c =
    let fresh = c.in_ok-placed.ensures.state ∙ ap (λ o. started (sides_of c.args.new_size) (options_of o) c.self.inside.limit)
    c.options-options.ensures
    ∙ ap (λ v. started (sides_of c.args.new_size) (state_of v).options (state_of v).limit) c.self.view_is in
    atlas-rearranged c.args.self.now c.in_ok-placed.placed c.refit.new.atlas c.become_like.new.self (sides_of c.args.new_size) c.requires
    fresh
    _ c.in_ok-order.ensures.order (rearrangement_of c.in_ok-list.list) c.in_ok-list.ensures.refits c.become_like.ensures.stored

pub returns-clause-moves : goal.returns-clause-moves
returns-clause-moves g c =
    let fresh = c.in_ok-placed.ensures.state ∙ ap (λ o. started (sides_of c.args.new_size) (options_of o) c.self.inside.limit)
    c.options-options.ensures
    ∙ ap (λ v. started (sides_of c.args.new_size) (state_of v).options (state_of v).limit) c.self.view_is in
    atlas-moved c.args.self.now c.in_ok-placed.placed c.refit.new.atlas c.become_like.new.self (sides_of c.args.new_size) c.requires fresh
    _ c.in_ok-order.ensures.order (rearrangement_of c.in_ok-list.list) c.in_ok-list.ensures.refits c.become_like.ensures.stored
    (subst (λ v. IsSound (state_of v)) c.self.view_is c.self.invariant.sound)

pub returns-clause-sides : goal.returns-clause-sides
returns-clause-sides g c =
    let fresh = c.in_ok-placed.ensures.state ∙ ap (λ o. started (sides_of c.args.new_size) (options_of o) c.self.inside.limit)
    c.options-options.ensures
    ∙ ap (λ v. started (sides_of c.args.new_size) (state_of v).options (state_of v).limit) c.self.view_is in
    atlas-sides c.args.self.now c.in_ok-placed.placed c.refit.new.atlas c.become_like.new.self (sides_of c.args.new_size) c.requires fresh
    _ c.in_ok-order.ensures.order (rearrangement_of c.in_ok-list.list) c.in_ok-list.ensures.refits c.become_like.ensures.stored
    (subst (λ v. IsSound (state_of v)) c.self.view_is c.self.invariant.sound) c.in_ok-list.list.changes.items refl

pub returns-clause-sound : goal.returns-clause-sound
returns-clause-sound g c = search (rules, steps_keep, returns-clause-step)
