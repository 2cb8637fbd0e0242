-- The reply that an answer of the code stands for, and its way to a device.
use Rattle.std.specs.Prelude.{ℕ, Option, List, ◌++◌}
use Rattle.atlas_words.specs.declared.commands.Command.{Command}
use Rattle.atlas_lines.specs.declared.replies.Answer.{Answer}
use Rattle.atlas_lines.specs.declared.replies.Answer.TheVariants.{OneLine, LiveLines, HoleLines, ChangeLines}
use Rattle.atlas_words.specs.Blocks.{IsGathered}
use Rattle.atlas_words.specs.Devices.{WritesBeginning}
use Rattle.atlas_lines.specs.Machine.{ToolReply, ToolState, ToolStep}
use Rattle.atlas_lines.specs.Replies.{reply_text}

abbrev pub shown_by : {A : Type 0} → Answer A → ToolReply
shown_by (OneLine reply) = ToolReply.OneLine reply
shown_by (LiveLines found) = ToolReply.LiveLines found.items
shown_by (HoleLines found) = ToolReply.HoleLines found.items
shown_by (ChangeLines list) = ToolReply.ChangeLines list.changes.items list.failures.items

-- The command was carried out, and its reply follows the text that waited.
pub record Replies (old : ToolState) (command : Command) (new : ToolState) (out_old out_new : Option (List ℕ))
    (before after : List ℕ) : Type 0 where
  pub reply : ToolReply
  pub step : ToolStep old command reply new
  pub gathered : IsGathered out_old out_new after (before ++ reply_text reply)

-- The command was carried out, and a beginning of the text that waited and of its reply was written.
pub record BeginsToReply (old : ToolState) (command : Command) (new : ToolState) (out_old out_new : Option (List ℕ))
    (before : List ℕ) : Type 0 where
  pub reply : ToolReply
  pub step : ToolStep old command reply new
  pub written : WritesBeginning out_old out_new (before ++ reply_text reply)
