-- The text of each reply.
use Rattle.std.specs.Prelude.{ℕ, ℤ, Bool, true, false, List, ◌++◌, codes, decimal, length, flat_map, Result, Ok, Err}
use Rattle.std.specs.Fmt.{signed_decimal}
use Rattle.guillotiere.specs.declared.Allocation.{Allocation}
use Rattle.guillotiere.specs.declared.Change.{Change}
use Rattle.guillotiere.specs.declared.Rectangle.{Rectangle}
use Rattle.guillotiere.specs.declared.AtlasError.{AtlasError}
use Rattle.guillotiere.specs.declared.AtlasError.TheVariants.{Memory, Slots, NotLive}
use Rattle.guillotiere_recording.specs.declared.replay.ReplayFault.{ReplayFault}
use Rattle.guillotiere_recording.specs.declared.replay.ReplayFault.TheVariants as fault
use Rattle.atlas_lines.specs.declared.replies.ReplayCounts.{ReplayCounts}
use Rattle.atlas_lines.specs.declared.replies.Reply.{Reply}
use Rattle.atlas_lines.specs.declared.replies.Reply.TheVariants.{Completed, Placed, NotPlaced, Allocated, Extent, Truth}
use Rattle.atlas_lines.specs.declared.replies.Reply.TheVariants.{NoAtlas, NoSimple, Invalid, Declined, NoNames}
use Rattle.atlas_lines.specs.declared.replies.Reply.TheVariants.{NoRecording, Replayed}
use Rattle.atlas_words.specs.Lines.{ended}
use Rattle.atlas_lines.specs.Machine.{ToolReply}
use Rattle.atlas_lines.specs.Machine.ToolReply.{OneLine, LiveLines, HoleLines, ChangeLines}

-- A space and a number.
abbrev pub spaced_number : ℤ → List ℕ
spaced_number z = codes " " ++ signed_decimal z

-- The corners of a rectangle: ` X0 Y0 X1 Y1`.
abbrev pub corners_text : Rectangle → List ℕ
corners_text r = spaced_number r.min.x ++ spaced_number r.min.y ++ spaced_number r.max.x ++ spaced_number r.max.y

abbrev pub refusal_text : AtlasError → List ℕ
refusal_text Memory = codes "refused memory"
refusal_text Slots = codes "refused slots"
refusal_text NotLive = codes "refused not live"

abbrev pub truth_text : Bool → List ℕ
truth_text true = codes "true"
truth_text false = codes "false"

-- A word and a count.
abbrev pub counted_text : (word : List ℕ) → (count : ℕ) → List ℕ
counted_text word count = word ++ decimal count

-- What a replay counted.
abbrev pub counts_text : ReplayCounts → List ℕ
counts_text counts =
    counted_text (codes "replayed allocations ") counts.allocations
    ++ counted_text (codes " deallocations ") counts.deallocations
    ++ counted_text (codes " failed ") counts.failed_allocations ++ counted_text (codes " live ") counts.live

-- Why a replay ended early.
abbrev pub fault_text : ReplayFault → List ℕ
fault_text fault.Memory = codes "refused memory"
fault_text fault.Slots = codes "refused slots"
fault_text (fault.Differs i) = codes "differs " ++ decimal i
fault_text (fault.BadEvent i) = codes "bad event " ++ decimal i

-- What a replay answers.
abbrev pub replay_text : Result ReplayCounts ReplayFault → List ℕ
replay_text (Ok counts) = counts_text counts
replay_text (Err fault) = codes "replay " ++ fault_text fault

-- A reply line with its LF.
abbrev pub line_text : Reply → List ℕ
line_text Completed = ended (codes "ok")
line_text (Placed r) = ended (codes "at" ++ corners_text r)
line_text NotPlaced = ended (codes "none")
line_text (Allocated a) = ended (codes "id " ++ decimal a.id ++ codes " at" ++ corners_text a.rectangle)
line_text (Extent size) = ended (codes "size" ++ spaced_number size.width ++ spaced_number size.height)
line_text (Truth answer) = ended (truth_text answer)
line_text NoAtlas = ended (codes "no atlas")
line_text NoSimple = ended (codes "no simple")
line_text Invalid = ended (codes "bad call")
line_text (Declined error) = ended (refusal_text error)
line_text NoNames = ended (codes "refused names")
line_text NoRecording = ended (codes "no recording")
line_text (Replayed outcome) = ended (replay_text outcome)

-- The line of a live rectangle.
abbrev pub live_line : Allocation → List ℕ
live_line a = ended (codes "box " ++ decimal a.id ++ corners_text a.rectangle)

-- The line of a free rectangle.
abbrev pub hole_line : Rectangle → List ℕ
hole_line r = ended (codes "hole" ++ corners_text r)

-- The line of a rectangle that was placed anew.
abbrev pub change_line : Change → List ℕ
change_line c =
    ended
    (codes "moved " ++ decimal c.old.id ++ corners_text c.old.rectangle ++ codes " to " ++ decimal c.new.id
    ++ corners_text c.new.rectangle)

-- The line of a rectangle that found no room.
abbrev pub lost_line : Allocation → List ℕ
lost_line a = ended (codes "lost " ++ decimal a.id ++ corners_text a.rectangle)

-- How many were placed anew, and how many found no room.
abbrev pub counts_line : (changes failures : ℕ) → List ℕ
counts_line changes failures = ended (codes "changes " ++ decimal changes ++ codes " failures " ++ decimal failures)

-- A word and a count.
abbrev pub count_line : (word : List ℕ) → (count : ℕ) → List ℕ
count_line word count = ended (word ++ decimal count)

-- The reply lines, each with its LF.
abbrev pub reply_text : ToolReply → List ℕ
reply_text (OneLine reply) = line_text reply
reply_text (LiveLines granted) = flat_map live_line granted ++ count_line (codes "live ") (length granted)
reply_text (HoleLines areas) = flat_map hole_line areas ++ count_line (codes "holes ") (length areas)
reply_text (ChangeLines changes failures) =
    flat_map change_line changes ++ (flat_map lost_line failures ++ counts_line (length changes) (length failures))

-- The answer to a bad line with this number.
abbrev pub bad_line_text : ℕ → List ℕ
bad_line_text n = ended (codes "bad line " ++ decimal n)
