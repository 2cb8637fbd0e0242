use Rattle.std.proofs.Common.{refl, sym, ◌∙◌}
use Rattle.std.proofs.lemmas.Bool.{false≢true}
use Rattle.atlas_model.specs.Steps.AtlasReply.{Done}
use Rattle.atlas_store.specs.Stored.{state_of}
use Rattle.atlas_model.proofs.StepLemmas.CallerSteps.{unlive_leaves, freeing_leaves, freeing_count}
use Rattle.atlas_model.proofs.StepLemmas.CallerGrants.{freeing_frame, freeing_kept}
use Rattle.atlas_allocator.proofs.atlas.AtlasAllocator.deallocate.Goals as goal

pub returns-then-not-is_live-clause-leaves : goal.returns-then-not-is_live-clause-leaves
returns-then-not-is_live-clause-leaves g c =
    unlive_leaves (state_of c.args.self.now) (state_of c.args.self.now) c.args.id c.is_live.ensures.sound
    (λ live. false≢true (sym c.if-not-is_live.true ∙ c.is_live.ensures.live.1 live)) refl

pub returns-clause-leaves : goal.returns-clause-leaves
returns-clause-leaves g c =
    freeing_leaves (state_of c.args.self.now) (state_of c.free.new.self) c.is_live.ensures.sound c.args.id Done
    (c.is_live.ensures.live.0 c.if-not-is_live.false, c.free.ensures.state)

pub returns-clause-count : goal.returns-clause-count
returns-clause-count g c =
    freeing_count (state_of c.args.self.now) (state_of c.free.new.self) c.is_live.ensures.sound c.args.id
    (c.is_live.ensures.live.0 c.if-not-is_live.false, c.free.ensures.state)

pub returns-clause-frame : goal.returns-clause-frame
returns-clause-frame g c = freeing_frame (state_of c.args.self.now) (state_of c.free.new.self) _ c.free.ensures.state

pub returns-clause-kept : goal.returns-clause-kept
returns-clause-kept g c =
    freeing_kept (state_of c.args.self.now) (state_of c.free.new.self) _ c.is_live.ensures.sound c.free.ensures.state
