use Rattle.std.proofs.Common.{◌∙◌, List, map, subst}
use Rattle.atlas_pack.specs.declared.sprites.Sprite.{Sprite}
use Rattle.atlas_pack.specs.Runs.{Answers, sheet_options}
use Rattle.atlas_pack.proofs.Inputs.{same_left, same_text}
use Rattle.atlas_pack.proofs.run.one_sheet.Goals as goal

pub returns-clause-packs : goal.returns-clause-packs
returns-clause-packs g c =
    let parts = c.in_ok-frames.ensures in
    record {
      sheet = c.in_ok-sheet.sheet;
      places = c.in_ok-sheet.places.items;
      answered = subst (λ (all : List Sprite). Answers c.args.settings.fill c.args.settings.dense (sheet_options c.args.settings)
          (map (λ sprite. sprite.size) all)
          c.in_ok-sheet.sheet c.in_ok-sheet.places.items) c.deref.ensures.value c.in_ok-sheet.ensures.answers;
      left = same_left _ _ _ _ _ parts.1 c.in_ok-pairs.ensures c.deref-2.ensures.value;
      told = c.in_ok-text.ensures ∙ same_text c.args.settings.json c.in_ok-sheet.sheet _ _ _ _ _ _ _ _ parts.0 parts.1 c.in_ok-pairs.ensures
          c.deref-2.ensures.value c.deref-3.ensures.value c.deref-4.ensures.value;
    }
