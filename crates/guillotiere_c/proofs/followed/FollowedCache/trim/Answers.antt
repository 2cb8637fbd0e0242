use Rattle.std.proofs.Common.{◌≡◌, ◌<◌, ◌≤◌, ◌∙◌, ap, arith, drop, length, rules, subst, vec_capacity, vec_len, IsOk}
use Rattle.guillotiere_c.specs.Following.{Followed}
use Rattle.guillotiere_c.proofs.followed.FollowedCache.trim.Goals as goal

pub returns-clause-room : goal.returns-clause-room
returns-clause-room c =
    let inside = c.self.inside in
    let left = c.drop_taken.new.changes in
    let waiting : vec_len left ≡ length (drop inside.taken inside.changes.items) =
    (let len : vec_len left ≡ length left.items = search rules in len ∙ ap length c.drop_taken.ensures.changes) in
    let capacity : vec_capacity left ≡ vec_capacity inside.changes = c.drop_taken.ensures.capacity in
    subst (λ (f : Followed). 0 < f.room → length f.cache.entries ≤ f.room → IsOk c.trim.result) c.self.view_is
    (λ some enough. c.trim.ensures.room (omega (arith, some, enough, waiting, capacity)))
