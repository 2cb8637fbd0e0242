use Rattle.atlas_model.specs.Pixels.{sides_of}
use Rattle.atlas_model.specs.Replies.{allocate_reply}
use Rattle.atlas_model.proofs.StepLemmas.CallerSteps.{request_keeps}
use Rattle.atlas_allocator.proofs.AtlasLemmas.Requests.{request_adds, request_guarded}
use Rattle.atlas_allocator.proofs.atlas.AtlasAllocator.allocate.Goals as goal

pub returns-clause-adds : goal.returns-clause-adds
returns-clause-adds g c =
    request_adds _ _ c.request.ensures.sound c.args.requested_size
    c.request.result c.request.ensures.step

pub returns-clause-guarded : goal.returns-clause-guarded
returns-clause-guarded g c =
    request_guarded _ _ c.request.ensures.sound c.args.requested_size
    c.request.result c.request.ensures.step

pub returns-clause-keeps : goal.returns-clause-keeps
returns-clause-keeps g c =
    request_keeps _ _ c.request.ensures.sound (sides_of c.args.requested_size)
    (allocate_reply c.request.result) c.request.ensures.step
