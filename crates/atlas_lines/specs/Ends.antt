-- How a run of the tool ends, and what was written by then.
use Rattle.std.specs.Prelude.{◌≡◌, ℕ, ◌+◌, ◌-◌, ◌^◌, ◌≤◌, ◌⊎◌, Bool, true, false, Option, Result, Ok, Err, List, ◌∷◌}
use Rattle.std.specs.Prelude.{◌++◌}
use Rattle.std.specs.Prelude.{length}
use Rattle.std.specs.Io.KnownBytes.{Appends, Consumes, IsAtEnd}
use Rattle.atlas_lines.specs.declared.run.ToolEnd.{ToolEnd}
use Rattle.atlas_lines.specs.declared.run.ToolEnd.TheVariants.{Done, BadLine, Limit}
use Rattle.atlas_lines.specs.declared.run.ToolFault.{ToolFault}
use Rattle.atlas_lines.specs.declared.run.ToolFault.TheVariants.{Read, Write}
use Rattle.atlas_words.specs.Devices.{HoldsBytes, ReadsBeginning, WritesBeginning}
use Rattle.atlas_words.specs.Lines.{ArePieces, AreLines}
use Rattle.atlas_lines.specs.Machine.{ToolState, at_start}
use Rattle.atlas_lines.specs.Replies.{bad_line_text}
use Rattle.atlas_lines.specs.Texts.{IsBadLine, OwesText}

-- The first lines of an input, none of them bad, owe this text; others follow.
pub record OwesFirst (input : List ℕ) (lines others : List (List ℕ)) (text : List ℕ) : Type 0 where
  pub state : ToolState
  pub lines_are : AreLines input (lines ++ others)
  pub owed : OwesText at_start lines text state

-- The whole lines read, none of them bad, owe this text; the rest is no whole line, and not so long that it is bad.
pub record OwesRead (bytes text : List ℕ) : Type 0 where
  pub lines : List (List ℕ)
  pub rest : List ℕ
  pub state : ToolState
  pub pieces : ArePieces bytes lines rest
  pub short : length rest ≤ 120
  pub owed : OwesText at_start lines text state

-- The first bad line of the input has this number, and this is the text up to it and with its answer.
pub record OwesToBadLine (input : List ℕ) (number : ℕ) (text : List ℕ) : Type 0 where
  pub lines : List (List ℕ)
  pub bad : List ℕ
  pub others : List (List ℕ)
  pub before : List ℕ
  pub owes : OwesFirst input lines (bad ∷ others) before
  pub is_bad : IsBadLine bad
  pub number_is : number ≡ length lines + 1
  pub text_is : text ≡ before ++ bad_line_text number

-- At the reader's end: the text over all lines of the input.
pub record EndsAtEnd (in_old in_new out_old out_new : Option (List ℕ)) : Type 0 where
  pub input : List ℕ
  pub lines : List (List ℕ)
  pub text : List ℕ
  pub state : ToolState
  pub holds : HoldsBytes in_old input
  pub at_end : IsAtEnd in_new
  pub lines_are : AreLines input lines
  pub owed : OwesText at_start lines text state
  pub written : Appends out_old out_new text

-- At the first bad line of the input.
pub record EndsAtBadLine (number : ℕ) (in_old out_old out_new : Option (List ℕ)) : Type 0 where
  pub input : List ℕ
  pub text : List ℕ
  pub holds : HoldsBytes in_old input
  pub owes : OwesToBadLine input number text
  pub written : Appends out_old out_new text

-- At the most bytes that a run reads.
pub record EndsAtLimit (in_old in_new out_old out_new : Option (List ℕ)) : Type 0 where
  pub bytes : List ℕ
  pub text : List ℕ
  pub read : Consumes in_old in_new bytes
  pub counted : length bytes ≡ 2 ^ 64 - 1
  pub owes : OwesRead bytes text
  pub written : Appends out_old out_new text

-- At a read that failed.
pub record EndsAtRead (in_old in_new out_old out_new : Option (List ℕ)) : Type 0 where
  pub bytes : List ℕ
  pub text : List ℕ
  pub read : ReadsBeginning in_old in_new bytes
  pub owes : OwesRead bytes text
  pub written : Appends out_old out_new text

-- The first lines, which are lines of the bytes read and of the whole input, owe this text; of both other lines follow.
pub record OwesBegun (bytes unread : List ℕ) (lines : List (List ℕ)) (text : List ℕ) : Type 0 where
  pub others : List (List ℕ)
  pub others_read : List (List ℕ)
  pub owed : OwesFirst (bytes ++ unread) lines others text
  pub read : OwesFirst bytes lines others_read text

-- The first bad line of the input is among the bytes read, and this is the text up to it and with its answer.
pub record OwesToBadRead (bytes unread : List ℕ) (number : ℕ) (text : List ℕ) : Type 0 where
  pub owed : OwesToBadLine (bytes ++ unread) number text
  pub read : OwesToBadLine bytes number text

-- At a write that failed: a beginning of the text over the first lines read, which the answer to a bad line may end.
pub record EndsAtWrite (in_old in_new out_old out_new : Option (List ℕ)) : Type 0 where
  pub bytes : List ℕ
  pub unread : List ℕ
  pub text : List ℕ
  pub read : Consumes in_old in_new bytes
  pub holds : HoldsBytes in_old (bytes ++ unread)
  pub owes : ((lines : List (List ℕ)) × OwesBegun bytes unread lines text)
      ⊎ ((number : ℕ) × OwesToBadRead bytes unread number text)
  pub written : WritesBeginning out_old out_new text

-- How a run ended, by the bytes that its devices tell before and after it.
abbrev pub Ends : Result ToolEnd ToolFault → (in_old in_new out_old out_new : Option (List ℕ)) → Type 0
Ends (Ok Done) in_old in_new out_old out_new = EndsAtEnd in_old in_new out_old out_new
Ends (Ok (BadLine number)) in_old in_new out_old out_new = EndsAtBadLine number in_old out_old out_new
Ends (Ok Limit) in_old in_new out_old out_new = EndsAtLimit in_old in_new out_old out_new
Ends (Err Read) in_old in_new out_old out_new = EndsAtRead in_old in_new out_old out_new
Ends (Err Write) in_old in_new out_old out_new = EndsAtWrite in_old in_new out_old out_new

abbrev pub is_read_fault : Result ToolEnd ToolFault → Bool
is_read_fault (Err Read) = true
is_read_fault (Err Write) = false
is_read_fault (Ok end) = false

abbrev pub is_write_fault : Result ToolEnd ToolFault → Bool
is_write_fault (Err Write) = true
is_write_fault (Err Read) = false
is_write_fault (Ok end) = false
