use Rattle.std.proofs.Common.{Some}
use Rattle.atlas_pack.specs.Runs.{groups_of}
use Rattle.atlas_pack.proofs.packing.pack_several.Goals as goal

pub returns-in-Err : goal.returns-in-Err
returns-in-Err c = record {
  pages = tt;
  few = tt;
  fault = λ fill dense. c.fault_of.ensures fill dense
      (Some (record { most = c.args.most; groups = groups_of c.args.group c.args.sprites.now }));
}
