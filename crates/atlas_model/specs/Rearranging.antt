-- What a rearranging answers, as the model sees it.
use Rattle.std.specs.Prelude.{◌≡◌, All, map, Result, Ok, Err}
use Rattle.atlas_model.specs.declared.allocation.Allocation.{Allocation}
use Rattle.atlas_model.specs.declared.change.Change.{Change}
use Rattle.atlas_model.specs.declared.change.ChangeList.{ChangeList}
use Rattle.atlas_model.specs.declared.error.AtlasError.{AtlasError}
use Rattle.atlas_model.specs.Boxes.{box_sides}
use Rattle.atlas_model.specs.Pixels.{box_of}
use Rattle.atlas_model.specs.Refits.{Transfer, Rearrangement}
use Rattle.atlas_model.specs.Replies.{grant_of, IsExact}
use Rattle.atlas_model.specs.Steps.{AtlasReply}
use Rattle.atlas_model.specs.Steps.AtlasReply.{Changed, Refused}

abbrev pub transfer_of : Change → Transfer
transfer_of c = record { old = grant_of c.old; new = grant_of c.new }

-- Both lists, in their order.
abbrev pub rearrangement_of : {A : Type 0} → ChangeList A → Rearrangement
rearrangement_of list =
    record { changes = map transfer_of list.changes.items; failures = map grant_of list.failures.items }

-- Both rectangles of a change have the coordinates of boxes.
abbrev pub IsExactChange : Change → Type 0
IsExactChange c = IsExact c.old.rectangle × IsExact c.new.rectangle

-- The new rectangle has the sides of the old one.
abbrev pub KeepsSides : Change → Type 0
KeepsSides c = box_sides (box_of c.new.rectangle) ≡ box_sides (box_of c.old.rectangle)

-- Each rectangle of both lists has the coordinates of a box.
pub record AreExactChanges {A : Type 0} (list : ChangeList A) : Type 0 where
  pub changes : All IsExactChange list.changes.items
  pub failures : All (λ (a : Allocation). IsExact a.rectangle) list.failures.items

abbrev pub change_reply : {A : Type 0} → Result (ChangeList A) AtlasError → AtlasReply
change_reply (Ok list) = Changed (rearrangement_of list)
change_reply (Err error) = Refused error
