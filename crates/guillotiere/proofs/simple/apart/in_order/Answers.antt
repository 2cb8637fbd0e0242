use Rattle.std.proofs.Common.{◌≡◌, rules}
use Rattle.std.proofs.lemmas.Fn.{always_returns_same}
use Rattle.atlas_model.specs.declared.geometry.Rectangle.{Rectangle}
use Rattle.guillotiere.proofs.SimpleLemmas.ApartWithin.{order-of}
use Rattle.guillotiere.proofs.simple.apart.in_order.Goals as goal

pub returns-clause-order : goal.returns-clause-order
returns-clause-order g c =
    order-of _ (c.sort_unstable_by_key.ensures.sorted (λ (r : Rectangle). r.min.y)
    (always_returns_same _ (λ a r. r ≡ a.0.now.min.y) _ (λ a r q k. search rules)))
