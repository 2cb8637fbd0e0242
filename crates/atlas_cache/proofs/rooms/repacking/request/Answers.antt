use Rattle.std.proofs.Common.{◌≡◌, subst}
use Rattle.guillotiere.specs.Pixels.{sides_of}
use Rattle.guillotiere.specs.States.{IsSound}
use Rattle.guillotiere.specs.Steps.{Step}
use Rattle.guillotiere.specs.Steps.AtlasCall.{Allocate}
use Rattle.guillotiere.specs.Steps.AtlasReply.{Refused}
use Rattle.guillotiere.specs.Stored.{AtlasValue, state_of}
use Rattle.atlas_entries.specs.declared.error.CacheError.TheVariants.{Slots}
use Rattle.atlas_cache.proofs.RoomLemmas.PageReserves.{request_needs}
use Rattle.atlas_cache.proofs.rooms.repacking.request.Goals as goal

pub returns-in-Err-clause-short : goal.returns-in-Err-clause-short
returns-in-Err-clause-short g c = λ is.
    let a = c.args.atlas.now in
    let b = c.allocate.new.self in
    let r = sides_of c.size_of_box.result in
    let slots : c.refusal.result ≡ Slots = cc in
    let step = subst (λ e. Step (state_of a) (Allocate r) (Refused e) (state_of b)) (c.refusal.ensures.slots slots) c.in-Err.ensures.step in
    let sound = subst (λ (u : AtlasValue). IsSound (state_of u)) c.in-Err.ensures.refused c.allocate.ensures.keeps.sound in
    request_needs (state_of a) (state_of b) r sound step
