use Rattle.std.proofs.Common.{◌≡◌, List, length}
use Rattle.atlas_pack.specs.declared.settings.Setting.{Setting}
use Rattle.atlas_pack.specs.Settings.{SpellsSettings, changed_by}
use Rattle.atlas_pack.specs.declared.settings.TheConstants.{DEFAULT_SETTINGS}
use Rattle.atlas_pack.proofs.settings.read_settings.Given as goal

abbrev pub invariant-loop-rest : goal.invariant-loop-rest
invariant-loop-rest l = record {
  found : (more : List Setting) → SpellsSettings more l.rest
      → (all : List Setting) × SpellsSettings all l.text
      × (changed_by DEFAULT_SETTINGS all ≡ changed_by l.settings more);
  only : (all : List Setting) → SpellsSettings all l.text
      → (more : List Setting) × SpellsSettings more l.rest
      × (changed_by DEFAULT_SETTINGS all ≡ changed_by l.settings more);
}

abbrev pub decreases-loop-rest : goal.decreases-loop-rest
decreases-loop-rest l = length l.rest
