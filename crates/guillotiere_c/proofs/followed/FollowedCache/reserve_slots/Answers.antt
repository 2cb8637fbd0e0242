use Rattle.std.proofs.Common.{◌≡◌, Err, subst}
use Rattle.atlas_cache.specs.declared.CacheError.TheVariants.{Memory}
use Rattle.atlas_cache.specs.Reserving.{HaveSlots}
use Rattle.guillotiere_c.specs.Following.{Followed}
use Rattle.guillotiere_c.proofs.followed.FollowedCache.reserve_slots.Goals as goal

pub returns-clause-had : goal.returns-clause-had
returns-clause-had c =
    subst (λ (f : Followed). HaveSlots c.args.additional f.cache.pages → c.reserve_slots.result ≡ Err Memory → ⊥) c.self.view_is
    c.reserve_slots.ensures.had
