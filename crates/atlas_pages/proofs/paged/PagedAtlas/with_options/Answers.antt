use Rattle.std.proofs.Common.{ap, arith, length, refl}
use Rattle.atlas_pages.proofs.paged.PagedAtlas.with_options.Goals as goal

pub invariant_of-result : goal.invariant_of-result
invariant_of-result g c =
    let start = c.in_ok-check_start.ensures.ok.0 refl in
    let none = ap length c.new.ensures.items in
    record {
      size = start.0;
      options = start.1;
      few = omega (arith, none);
    }

pub returns-clause-size : goal.returns-clause-size
returns-clause-size g c = (c.in_ok-check_start.ensures.ok.0 refl).0

pub returns-clause-valid : goal.returns-clause-valid
returns-clause-valid g c = (c.in_ok-check_start.ensures.ok.0 refl).1
