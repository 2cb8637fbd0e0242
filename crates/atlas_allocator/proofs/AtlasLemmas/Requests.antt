-- What a request adds, whatever is answered.
use Rattle.std.proofs.Common.{Option, Some, None, Result, Ok, Err}
use Rattle.std.specs.Prelude.{IfOk, IfSome}
use Rattle.atlas_model.specs.Callers.{AddsBox, JoinsGuarded}
use Rattle.atlas_model.specs.Pixels.{box_of, sides_of}
use Rattle.atlas_model.specs.Replies.{allocate_reply, grant_of}
use Rattle.atlas_model.specs.States.{State, IsSound}
use Rattle.atlas_model.specs.Steps.{Step}
use Rattle.atlas_model.specs.Steps.AtlasCall.{Allocate}
use Rattle.atlas_model.specs.declared.allocation.Allocation.{Allocation}
use Rattle.atlas_model.specs.declared.error.AtlasError.{AtlasError}
use Rattle.atlas_model.specs.declared.geometry.Size.{Size}
use Rattle.atlas_model.proofs.StepLemmas.CallerSteps.{grant_adds, grant_guarded}

module _ (old new : State) (sound : IsSound old) (request : Size) where
  pub request_adds : (result : Result (Option Allocation) AtlasError)
      → Step old (Allocate (sides_of request)) (allocate_reply result) new
      → IfOk result (λ granted. IfSome granted (λ a. AddsBox old new a.id (box_of a.rectangle)))
  request_adds (Ok (Some a)) step = grant_adds old new sound (sides_of request) (grant_of a) step
  request_adds (Ok None) step = tt
  request_adds (Err e) step = tt

  pub request_guarded : (result : Result (Option Allocation) AtlasError)
      → Step old (Allocate (sides_of request)) (allocate_reply result) new
      → IfOk result (λ granted. IfSome granted (λ a. JoinsGuarded old new (box_of a.rectangle)))
  request_guarded (Ok (Some a)) step = grant_guarded old new sound (sides_of request) (grant_of a) step
  request_guarded (Ok None) step = tt
  request_guarded (Err e) step = tt
