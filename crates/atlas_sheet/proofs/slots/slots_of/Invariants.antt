use Rattle.std.proofs.Common.{◌≡◌, length, take}
use Rattle.std.specs.List.{AllZip}
use Rattle.atlas_sheet.specs.Grouping.{IsSlotIn}
use Rattle.atlas_sheet.proofs.slots.slots_of.Given as goal

abbrev pub invariant-loop-number : goal.invariant-loop-number
invariant-loop-number g l = record {
  long : length l.slots.items ≡ l.number-index;
  slots : AllZip (IsSlotIn l.sorted.items) (take l.number-index l.groups) l.slots.items;
}
