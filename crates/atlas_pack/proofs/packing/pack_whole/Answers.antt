use Rattle.std.proofs.Common.{false, None}
use Rattle.atlas_pack.proofs.packing.pack_whole.Goals as goal

pub returns-in-Err : goal.returns-in-Err
returns-in-Err g c = record { found = tt; fault = c.fault_of.ensures false c.args.dense None }
