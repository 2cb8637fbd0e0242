-- Each run keeps an atlas in order.
use Rattle.std.proofs.Common.{◌≤◌, List, [], ◌∷◌, sym, subst, arith}
use Rattle.atlas_model.specs.Laws.RunLaws.{IsTiled, IsInOrder, IsOwed, IsRunInOrder, RunsKeepOrder}
use Rattle.atlas_model.specs.Laws.StepLaws.{live_count}
use Rattle.atlas_model.specs.Runs.{Run}
use Rattle.atlas_model.specs.States.{State, IsSound}
use Rattle.atlas_model.specs.Steps.{AtlasCall, AtlasReply, Step}
use Rattle.atlas_model.specs.Trees.{ids, slot_count}
use Rattle.atlas_model.proofs.TreeLemmas.BoxLists.{squares_in_one, areas_of_boxes, boxes_in_place, live_few}
use Rattle.atlas_model.proofs.StepLemmas.SoundSteps.{steps_keep}
use Rattle.atlas_model.proofs.StepLemmas.StepEffects.{steps_do}
use Rattle.atlas_model.proofs.StepLemmas.DueAnswers.{steps_answer_as_due}
use Rattle.atlas_model.proofs.TreeLemmas.TreeIdle.{nothing_live}

tiled : (s : State) → IsSound s → IsTiled s
tiled s sound = record {
  tree = sound.well_formed;
  normal = sound.normal;
  squares = squares_in_one s.size s.tree sound.well_formed;
  boxes = boxes_in_place s.size s.tree sound.well_formed;
  areas = areas_of_boxes s.size s.tree sound.well_formed;
  ids = λ id.
      let few : live_count id s ≤ slot_count id (ids s.tree.members) = live_few id s.size s.tree in
      let one : slot_count id (ids s.tree.members) ≤ 1 = sound.well_formed.apart id in
      omega arith;
  alone = λ none. (nothing_live s.size s.tree sound.well_formed sound.normal none).1;
}

in_order : (s : State) → IsSound s → IsInOrder s
in_order s sound = record { sound = sound; tiled = tiled s sound }

owed : (old new : State) (call : AtlasCall) (reply : AtlasReply) → IsSound old → Step old call reply new
    → IsOwed old call reply new
owed old new call reply sound h = grind (arith, steps_answer_as_due, steps_do)

kept_along : (calls : List AtlasCall) (replies : List AtlasReply) (old new : State) → IsSound old
    → Run old calls replies new → IsRunInOrder old calls replies new × IsInOrder new
kept_along [] [] old new sound h = ((in_order old sound, h), subst IsInOrder (sym h) (in_order old sound))
kept_along [] (reply ∷ replies) old new sound h = absurd h
kept_along (call ∷ calls) [] old new sound h = absurd h
kept_along (call ∷ calls) (reply ∷ replies) old new sound (mid, step, run) =
    let rest = kept_along calls replies mid new (steps_keep old mid call reply sound step) run in
    ((in_order old sound, mid, owed old mid call reply sound step, rest.0), rest.1)

pub runs_keep_order : RunsKeepOrder
runs_keep_order old new calls replies sound h = kept_along calls replies old new sound h
