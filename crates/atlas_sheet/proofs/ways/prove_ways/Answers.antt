use Rattle.std.proofs.Common.{refl, arith}
use Rattle.std.specs.Prelude.{Contains}
use Rattle.atlas_sheet.specs.declared.orders.Key.{Key}
use Rattle.atlas_sheet.specs.declared.orders.Key.TheVariants as key
use Rattle.atlas_sheet.specs.declared.ways.Choice.{Choice}
use Rattle.atlas_sheet.specs.declared.ways.Choice.TheVariants as choice
use Rattle.atlas_sheet.specs.declared.ways.TheConstants.{WAYS}
use Rattle.atlas_sheet.proofs.ways.prove_ways.Goals as goal

there : (k : Key) (b : Choice) → Contains WAYS (record { key = k; choice = b })
there key.Area choice.Roomiest = (0, omega arith, refl)
there key.Area choice.Tightest = (1, omega arith, refl)
there key.Height choice.Tightest = (2, omega arith, refl)
there key.LesserSide choice.Tightest = (3, omega arith, refl)
there key.GreaterSide choice.Tightest = (4, omega arith, refl)
there key.HeightTimesGreaterSide choice.Tightest = (5, omega arith, refl)
there key.Height choice.Roomiest = (6, omega arith, refl)
there key.LesserSide choice.Roomiest = (7, omega arith, refl)
there key.GreaterSide choice.Roomiest = (8, omega arith, refl)
there key.HeightTimesGreaterSide choice.Roomiest = (9, omega arith, refl)

pub returns : goal.returns
returns c = there
