use Rattle.std.proofs.Common.{arith}
use Rattle.guillotiere_total.proofs.pages.deallocate_on.Goals as goal
use Rattle.guillotiere.proofs.Callers.{leaves_off_pages}

pub returns-then-page-pages-clause-leaves : goal.returns-then-page-pages-clause-leaves
returns-then-page-pages-clause-leaves g c =
    leaves_off_pages c.args.pages.now c.args.page c.args.id (omega (arith, c.if-page-pages.true))
