use Rattle.std.proofs.Common.{[], refl, sym, subst₂, arith}
use Rattle.std.proofs.lemmas.Option.{slice_get_within}
use Rattle.atlas_cache.specs.Rooms.{AreKnown, KeepsRooms, rooms_of}
use Rattle.atlas_cache.proofs.rooms.Rooms.new.Goals as goal

pub invariant_of-result : goal.invariant_of-result
invariant_of-result g c =
    subst₂ (λ pages known. KeepsRooms (rooms_of c.args.options pages) × AreKnown pages known) (sym c.new.ensures.items)
    (sym c.new-2.ensures.items) (
      record { usable = c.requires; few = omega arith; each = λ k s on. absurd (omega (arith, slice_get_within [] k s on)) },
      record { as_many = refl; each = λ n s k on. absurd (omega (arith, slice_get_within [] n s on)) },
    )
