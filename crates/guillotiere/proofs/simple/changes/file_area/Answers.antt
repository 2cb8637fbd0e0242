use Rattle.std.proofs.Common.{◌≡◌, max, length, vec_len, ap, arith}
use Rattle.std.proofs.Math.Nat.{max-eq_right}
use Rattle.std.proofs.lemmas.List.{length-map}
use Rattle.guillotiere.specs.FreeBoxes.BoxShelves.{BoxShelf, box_shelf, stored_item}
use Rattle.guillotiere.proofs.simple.changes.file_area.Goals as goal

pub returns-clause-used : goal.returns-clause-used
returns-clause-used g c =
    let now_used : (box_shelf c.make_room.new.self).used ≡ c.args.boxes.now.used =
    ap (λ (v : BoxShelf). v.used) c.in_ok-make_room.ensures.same in
    let now_long : length (box_shelf c.make_room.new.self).entries ≡ length (box_shelf c.args.boxes.now).entries =
    ap (λ (v : BoxShelf). length v.entries) c.in_ok-make_room.ensures.same in
    let more : max (vec_len c.make_room.new.self.entries) c.add.new.self.used ≡ c.add.new.self.used =
    max-eq_right (omega (
      arith,
      now_used,
      now_long,
      c.requires.used,
      c.add.ensures.entries.used,
      length-map c.make_room.new.self.entries.items stored_item,
      c.make_room.new.self.entries.ok,
    )) in
    omega (arith, more, c.add.ensures.entries.length, length-map c.add.new.self.entries.items stored_item, c.add.new.self.entries.ok)
