-- How far a run has come, for the private functions of `run`.
use Rattle.std.specs.Prelude.{◌≡◌, ℕ, ◌+◌, ◌<◌, ◌⊎◌, Bool, false, Option, Some, None, Result, Ok, Err, List, [], ◌∷◌}
use Rattle.std.specs.Prelude.{◌++◌, length}
use Rattle.std.specs.List.{AllByRecursion}
use Rattle.std.specs.Io.KnownBytes.{Appends, Consumes}
use Rattle.atlas_lines.specs.declared.run.ToolEnd.{ToolEnd}
use Rattle.atlas_lines.specs.declared.run.ToolEnd.TheVariants.{BadLine}
use Rattle.atlas_lines.specs.declared.run.ToolFault.{ToolFault}
use Rattle.atlas_lines.specs.declared.run.ToolFault.TheVariants.{Write}
use Rattle.atlas_lines.specs.declared.standing.Standing.TheVariants.{Nothing}
use Rattle.atlas_words.specs.Blocks.{IsGathered}
use Rattle.atlas_words.specs.Devices.{WritesBeginning}
use Rattle.atlas_lines.specs.Ends.{is_write_fault}
use Rattle.atlas_words.specs.Lines.{HasNoEnd, all_ended}
use Rattle.atlas_lines.specs.Machine.{ToolState, Held, tool_state_of}
use Rattle.atlas_lines.specs.Replies.{bad_line_text}
use Rattle.atlas_lines.specs.Texts.{IsBadLine, LineOwes, OwesText}

-- The tool's state, the line that has begun, and how many lines came before it.
pub record Place : Type 0 where
  pub held : Held
  pub line : List ℕ
  pub number : ℕ

abbrev pub state_at : Place → ToolState
state_at place = tool_state_of place.held

abbrev pub place_at_start : Place
place_at_start = record { held = record { stand = Nothing; simple = None }; line = []; number = 0 }

-- These bytes, which follow the line that has begun, lead from old to new and owe this text.
pub record Advances (old : Place) (bytes text : List ℕ) (new : Place) : Type 0 where
  pub lines : List (List ℕ)
  pub whole : old.line ++ bytes ≡ all_ended lines ++ new.line
  pub each : AllByRecursion HasNoEnd lines
  pub number : new.number ≡ old.number + length lines
  pub owed : OwesText (state_at old) lines text (state_at new)

-- A line is bad for certain: more than 120 bytes of it are there, or all of it.
abbrev pub IsCertainlyBad : (line after : List ℕ) → Type 0
IsCertainlyBad line after = (120 < length line) ⊎ (IsBadLine line × (more : List ℕ) × (after ≡ 10 ∷ more))

-- Among these bytes is a bad line, and this is the text up to it and with its answer.
pub record MeetsBadLine (old : Place) (bytes : List ℕ) (number : ℕ) (text : List ℕ) : Type 0 where
  pub lines : List (List ℕ)
  pub bad : List ℕ
  pub after : List ℕ
  pub before : List ℕ
  pub state : ToolState
  pub whole : old.line ++ bytes ≡ all_ended lines ++ (bad ++ after)
  pub each : AllByRecursion HasNoEnd lines
  pub no_end : HasNoEnd bad
  pub certain : IsCertainlyBad bad after
  pub number_is : number ≡ (old.number + length lines) + 1
  pub owed : OwesText (state_at old) lines before state
  pub text_is : text ≡ before ++ bad_line_text number

-- Some first of these bytes owe this text.
pub record OwesBeginning (old : Place) (bytes text : List ℕ) : Type 0 where
  pub first : List ℕ
  pub later : List ℕ
  pub new : Place
  pub whole : bytes ≡ first ++ later
  pub advances : Advances old first text new

-- Below, `before` is the text that waited to be written, and `after` the text that waits then.

-- The run ended among these bytes.
abbrev pub Stops : Result ToolEnd ToolFault → Place → (bytes : List ℕ) → (out_old out_new : Option (List ℕ))
    → (before : List ℕ) → Type 0
Stops (Ok (BadLine number)) old bytes out_old out_new before =
    (text : List ℕ) × MeetsBadLine old bytes number text × Appends out_old out_new (before ++ text)
Stops (Err Write) old bytes out_old out_new before =
    (text : List ℕ) × (OwesBeginning old bytes text ⊎ ((number : ℕ) × MeetsBadLine old bytes number text))
    × WritesBeginning out_old out_new (before ++ text)
Stops _ old bytes out_old out_new before = ⊥

-- The bytes were all taken and the run goes on, or it ended among them.
abbrev pub Continues : Option (Result ToolEnd ToolFault) → (old : Place) → (bytes : List ℕ) → (new : Place)
    → (out_old out_new : Option (List ℕ)) → (before after : List ℕ) → Type 0
Continues None old bytes new out_old out_new before after =
    (text : List ℕ) × Advances old bytes text new × IsGathered out_old out_new after (before ++ text)
Continues (Some end) old bytes new out_old out_new before after = Stops end old bytes out_old out_new before

-- The answer to a bad line was written, or a beginning of it.
abbrev pub EndsBadly : Result ToolEnd ToolFault → (old : Place) → (out_old out_new : Option (List ℕ))
    → (before : List ℕ) → Type 0
EndsBadly (Ok (BadLine number)) old out_old out_new before =
    (number ≡ old.number + 1) × Appends out_old out_new (before ++ bad_line_text number)
EndsBadly (Err Write) old out_old out_new before =
    WritesBeginning out_old out_new (before ++ bad_line_text (old.number + 1))
EndsBadly _ old out_old out_new before = ⊥

-- The reply to a line that isn't bad was written in part.
pub record EndsInReply (old : Place) (out_old out_new : Option (List ℕ)) (before : List ℕ) : Type 0 where
  pub held : Held
  pub text : List ℕ
  pub owed : LineOwes (state_at old) old.line text (tool_state_of held)
  pub written : WritesBeginning out_old out_new (before ++ text)

-- The reply to a line that isn't bad was given.
pub record RepliesTo (old : Place) (new : Place) (out_old out_new : Option (List ℕ))
    (before after : List ℕ) : Type 0 where
  pub text : List ℕ
  pub owed : LineOwes (state_at old) old.line text (state_at new)
  pub gathered : IsGathered out_old out_new after (before ++ text)
  pub line : new.line ≡ []
  pub number : new.number ≡ old.number + 1

-- What one line does, of which all has come.
abbrev pub LineEnds : Option (Result ToolEnd ToolFault) → (old : Place) → (new : Place)
    → (out_old out_new : Option (List ℕ)) → (before after : List ℕ) → Type 0
LineEnds None old new out_old out_new before after = RepliesTo old new out_old out_new before after
LineEnds (Some end) old new out_old out_new before after =
    (IsBadLine old.line × EndsBadly end old out_old out_new before)
    ⊎ ((end ≡ Err Write) × EndsInReply old out_old out_new before)

abbrev pub is_write_end : Option (Result ToolEnd ToolFault) → Bool
is_write_end None = false
is_write_end (Some end) = is_write_fault end

-- Since the run began so many bytes were read; they lead to a place, and the text that they owe was written.
pub record HasRun (in_old in_new out_old out_new : Option (List ℕ)) (place : Place) (count : ℕ) : Type 0 where
  pub bytes : List ℕ
  pub text : List ℕ
  pub read : Consumes in_old in_new bytes
  pub counted : length bytes ≡ count
  pub advances : Advances place_at_start bytes text place
  pub written : Appends out_old out_new text
