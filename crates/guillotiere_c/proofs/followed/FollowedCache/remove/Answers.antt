use Rattle.std.proofs.Common.{subst}
use Rattle.guillotiere_c.specs.CacheCalls.{IsRemoval}
use Rattle.guillotiere_c.specs.Following.{Followed}
use Rattle.guillotiere_c.proofs.followed.FollowedCache.remove.Goals as goal

pub returns-clause-removal : goal.returns-clause-removal
returns-clause-removal c =
    subst (λ (f : Followed). IsRemoval c.args.key c.remove.result f.cache c.remove.new.self) c.self.view_is (record {
      place = c.remove.ensures.place;
      removes = c.remove.ensures.removes;
      none = c.remove.ensures.none;
      told = c.remove.ensures.told;
      ready = c.remove.ensures.ready;
      reserves = c.remove.ensures.reserves;
      full = c.remove.ensures.full;
      allowed = c.remove.ensures.allowed;
      stays_ready = c.remove.ensures.stays_ready;
    })
