use Rattle.atlas_model.proofs.StepLemmas.LiveBoxes.{sound_is_tiled}
use Rattle.atlas_model.proofs.StepLemmas.ApartBoxes.{all_lie_apart, all_lie_within}
use Rattle.atlas_model.proofs.StepLemmas.GuardedBoxes.{live_are_guarded}
use Rattle.atlas_allocator.proofs.atlas.AtlasAllocator.prove_sound.Goals as goal

pub returns-clause-tiled : goal.returns-clause-tiled
returns-clause-tiled g c = sound_is_tiled _ c.size-size.ensures.sound

pub returns-clause-apart : goal.returns-clause-apart
returns-clause-apart g c = all_lie_apart _ c.size-size.ensures.sound

pub returns-clause-within : goal.returns-clause-within
returns-clause-within g c = all_lie_within _ c.size-size.ensures.sound

pub returns-clause-guarded : goal.returns-clause-guarded
returns-clause-guarded g c = (live_are_guarded _ c.size-size.ensures.sound).0
