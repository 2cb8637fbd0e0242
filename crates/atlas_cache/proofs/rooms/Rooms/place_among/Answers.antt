use Rattle.std.proofs.Common.{arith}
use Rattle.atlas_cache.proofs.RoomLemmas.GrantedRoom.{placed_first}
use Rattle.atlas_cache.proofs.rooms.Rooms.place_among.Goals as goal

pub place_before-requires-clause-none : goal.place_before-requires-clause-none
place_before-requires-clause-none g c =
    λ k s below is room. let among = c.requires.others k s is room in omega (arith, among.0, below)

pub returns : goal.returns
returns g c =
    placed_first c.args.from c.args.to c.args.asked c.args.self.now c.place_before.new.self c.place_before.result c.requires.others
    c.place_before.ensures
