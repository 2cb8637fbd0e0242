use Rattle.std.proofs.Common.{◌≡◌, ◌↔◌, refl, subst}
use Rattle.std.specs.Bool.{IsTrue}
use Rattle.std.specs.List.{Any}
use Rattle.guillotiere.specs.FreeBoxes.BoxShelves.{box_shelf}
use Rattle.guillotiere.proofs.SimpleLemmas.StoredStates.{whole-listed}
use Rattle.guillotiere.proofs.simple.SimpleAtlasAllocator.is_empty.Goals as goal

pub returns : goal.returns
returns g c =
    let a = c.self.inside in
    let says = subst (λ bs. IsTrue c.is_listed.result ↔ Any (λ b. b.area ≡ c.from.result) bs) c.deref.ensures.value c.is_listed.ensures in
    rw (← c.self.view_is)
    (whole-listed (box_shelf a.boxes) a.boxes.entries.items a.size a.options c.from.result c.is_listed.result refl c.self.invariant.state
    c.from.ensures says)
