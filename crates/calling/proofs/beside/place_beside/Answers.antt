use Rattle.std.proofs.Common.{◌∷◌, subst}
use Rattle.std.specs.Option.{IfSome}
use Rattle.guillotiere.specs.Pixels.{box_of}
use Rattle.guillotiere.specs.Simple.{IsGuarded, live_boxes}
use Rattle.guillotiere.specs.SimpleStored.{simple_state_of}
use Rattle.guillotiere.specs.Stored.{state_of}
use Rattle.calling.proofs.beside.place_beside.Goals as goal

pub returns-in-Ok-Some : goal.returns-in-Ok-Some
returns-in-Ok-Some g c =
    let guarded = subst (λ o. IfSome o (λ r. IsGuarded (simple_state_of c.allocate.new.self)
    (box_of r ∷ live_boxes (state_of c.args.atlas.now)))) c.in-Ok-Some.field-0-is
    (c.in-Ok-Some.ensures.guarded _ c.in_ok-init_from_allocator.ensures.guarded) in
    c.guarded_are_disjoint.ensures _ _ guarded
