use Rattle.std.proofs.Common.{◌≡◌, arith, length, refl}
use Rattle.atlas_cache.specs.Caches.{entries_of}
use Rattle.atlas_cache.proofs.HoldingLemmas.{none_held}
use Rattle.atlas_cache.proofs.ReadyLemmas.{full_stays, still_ready}
use Rattle.atlas_cache.proofs.cache.TextureCache.clear.Goals as goal

pub invariant_of-self : goal.invariant_of-self
invariant_of-self g c =
    rw c.clear.ensures.entries (record { held = none_held _ c.clear-2.ensures.nothing; bordered = tt; frames = tt })

pub returns-clause-stays_ready : goal.returns-clause-stays_ready
returns-clause-stays_ready g c =
    let none : length (entries_of c.clear.new.self.entries) ≡ 0 = rw c.clear.ensures.entries refl in
    rw (← c.self.view_is) (still_ready _ _ c.clear-2.ensures.slots (omega (arith, c.clear.ensures.reserved)) (omega (arith, none))
    (full_stays _ _ c.clear-2.ensures.options c.clear-2.ensures.sizes))
