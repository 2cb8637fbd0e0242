-- What an error says: the condition that fails, where those that are tested before it hold; or all hold, and the call
-- beneath was refused.
use Rattle.std.specs.Prelude.{◌≡◌, ◌≤◌, ◌<◌, ◌<ℤ◌, ℕ}
use Rattle.guillotiere.specs.declared.AtlasError.{AtlasError}
use Rattle.guillotiere.specs.declared.AtlasError.TheVariants.{Memory, Slots, NotLive}
use Rattle.guillotiere.specs.Boxes.{Sides, Fits, IsPositive}
use Rattle.guillotiere.specs.Choice.{Options, AreValid}
use Rattle.guillotiere_recording.specs.declared.error.RecordingError.{RecordingError}
use Rattle.guillotiere_recording.specs.declared.error.RecordingError.TheVariants as refusal
use Rattle.guillotiere_total.specs.declared.error.CallError.{CallError}
use Rattle.guillotiere_total.specs.declared.error.CallError.TheVariants as fault

-- A limit on slots that an atlas may have.
abbrev pub IsLimit : ℕ → Type 0
IsLimit limit = (1 ≤ limit) × (limit ≤ 16777216)

abbrev pub IsMemory : AtlasError → Type 0
IsMemory error = error ≡ Memory

-- Of a call that asks a size, and may then be refused so.
abbrev pub IsSizeFault : (May : AtlasError → Type 0) → Sides → CallError → Type 0
IsSizeFault May n fault.EmptySize = IsPositive n → ⊥
IsSizeFault May n (fault.Refused e) = IsPositive n × May e
IsSizeFault May n e = ⊥

-- Of a call that asks a size and options, and may then be refused for memory.
abbrev pub IsOptionsFault : Sides → Options → CallError → Type 0
IsOptionsFault n o fault.EmptySize = IsPositive n → ⊥
IsOptionsFault n o fault.Alignment = IsPositive n × (IsPositive o.alignment → ⊥)
IsOptionsFault n o fault.Thresholds = IsPositive n × IsPositive o.alignment × (o.large_threshold <ℤ o.small_threshold)
IsOptionsFault n o (fault.Refused e) = IsPositive n × AreValid o × (e ≡ Memory)
IsOptionsFault n o e = ⊥

-- Of a call that also asks a limit.
abbrev pub IsLimitFault : Sides → Options → (limit : ℕ) → CallError → Type 0
IsLimitFault n o limit fault.SlotLimit = IsPositive n × AreValid o × (IsLimit limit → ⊥)
IsLimitFault n o limit (fault.Refused e) = IsPositive n × AreValid o × IsLimit limit × (e ≡ Memory)
IsLimitFault n o limit e = IsOptionsFault n o e

-- Of a growth from one size to another.
abbrev pub IsGrowthFault : (May : AtlasError → Type 0) → (old new : Sides) → CallError → Type 0
IsGrowthFault May old new fault.Shrinks = Fits old new → ⊥
IsGrowthFault May old new (fault.Refused e) = Fits old new × May e
IsGrowthFault May old new e = ⊥

-- Of a call of one of so many pages.
abbrev pub IsPageFault : (May : AtlasError → Type 0) → (pages page : ℕ) → CallError → Type 0
IsPageFault May pages page fault.NoPage = pages ≤ page
IsPageFault May pages page (fault.Refused e) = (page < pages) × May e
IsPageFault May pages page e = ⊥

-- A refusal of a recording allocator; no call asks a name of it here.
abbrev pub call_error : RecordingError → CallError
call_error refusal.Memory = fault.Refused Memory
call_error refusal.Slots = fault.Refused Slots
call_error refusal.NotLive = fault.Refused NotLive
call_error refusal.Names = fault.Refused Slots
