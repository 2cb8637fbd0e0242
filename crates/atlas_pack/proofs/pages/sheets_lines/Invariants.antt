use Rattle.std.proofs.Common.{◌≡◌, flat_map, take}
use Rattle.atlas_pack.specs.Texts.{sheet_line}
use Rattle.atlas_pack.proofs.pages.sheets_lines.Given as goal

abbrev pub invariant-loop-sheet : goal.invariant-loop-sheet
invariant-loop-sheet l = l.text.items ≡ flat_map sheet_line (take l.sheet-index l.sheets)
