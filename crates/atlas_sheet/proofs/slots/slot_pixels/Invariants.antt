use Rattle.std.proofs.Common.{◌+◌, ◌≤◌, ℕ, drop, get_or}
use Rattle.atlas_sheet.specs.Grouping.{members, pixels_together}
use Rattle.atlas_sheet.proofs.slots.slot_pixels.Given as goal

abbrev pub invariant-loop-number : goal.invariant-loop-number
invariant-loop-number g l =
    (s : ℕ) → get_or l.pixels.items s 0 + pixels_together (members s (drop l.number l.slots) (drop l.number l.sprites))
    ≤ pixels_together (members s l.slots l.sprites)
