use Rattle.std.proofs.Common.{◌≡◌, Bool, IfOk, IfSome, Some, map, refl, subst, sym}
use Rattle.atlas_pack.specs.Runs.{IsAllPacked}
use Rattle.atlas_pack.proofs.KnownResults.{all_known, known_together}
use Rattle.atlas_pack.proofs.packing.packed.Goals as goal

pub returns-then-dense-clause-whole : goal.returns-then-dense-clause-whole
returns-then-dense-clause-whole g c =
    let o = c.args.options.now in
    let sizes = c.args.sizes.now in
    let found = c.pack_dense.result in
    let known = c.pack_dense.ensures in
    subst (λ (dense : Bool). IfOk found (λ f. IfSome f (λ sheet. IsAllPacked dense o sizes sheet.size (map Some sheet.places.items))))
    (sym c.if-dense.true)
    (all_known _ _ _ _ _ found known.allowed known.each
    (known_together _ _ found known.padded known.larger)
    (λ (e : o.effort ≡ o.effort). known_together _ _ found known.way known.least)
    (λ sheet a b p d. record {
      allowed = a;
      all = sheet.places.items;
      whole = refl;
      each = b;
      apart = p.0;
      larger = p.1;
      order = sheet.order.items;
      way = (d refl).0;
      least = (d refl).1;
    }))

pub returns-clause-whole : goal.returns-clause-whole
returns-clause-whole g c =
    let o = c.args.options.now in
    let sizes = c.args.sizes.now in
    let found = c.pack_telling.result in
    let known = c.pack_telling.ensures in
    subst (λ (dense : Bool). IfOk found (λ f. IfSome f (λ sheet. IsAllPacked dense o sizes sheet.size (map Some sheet.places.items))))
    (sym c.if-dense.false)
    (all_known _ _ _ _ _ found known.allowed known.shown known.larger
    (λ (e : o.effort ≡ 0). known_together _ _ found (known.first e) (known.earliest e))
    (λ sheet a s l d. record {
      allowed = a;
      all = sheet.places.items;
      whole = refl;
      larger = l;
      order = sheet.order.items;
      way = record { shown = s; first = λ e. (d e).0; earliest = λ e. (d e).1 };
    }))
