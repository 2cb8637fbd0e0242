use Rattle.atlas_words.proofs.Keywords.{in_parts}
use Rattle.atlas_words.proofs.commands.parse_line.Goals as goal

pub returns-clause-only : goal.returns-clause-only
returns-clause-only c command spells = c.parse_words.ensures.only command (in_parts command _ _ _ c.first_word.ensures spells)
