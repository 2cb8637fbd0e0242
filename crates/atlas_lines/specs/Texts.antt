-- The text that the tool owes for a list of lines.
use Rattle.std.specs.Prelude.{◌≡◌, ℕ, ◌<◌, ◌≢◌, ◌⊎◌, List, [], ◌∷◌, ◌++◌, length}
use Rattle.atlas_words.specs.declared.commands.Command.{Command}
use Rattle.atlas_words.specs.Grammar.{Spells}
use Rattle.atlas_lines.specs.Machine.{ToolReply, ToolState, ToolStep}
use Rattle.atlas_lines.specs.Replies.{reply_text}

-- A line of more than 120 bytes is bad, and so is every other one that spells no command and isn't empty.
abbrev pub IsBadLine : List ℕ → Type 0
IsBadLine line = (120 < length line) ⊎ ((line ≢ []) × ((command : Command) → Spells command line → ⊥))

-- From old, a line that isn't bad owes this text and leads to new.
abbrev pub LineOwes : ToolState → List ℕ → List ℕ → ToolState → Type 0
LineOwes old [] text new = (text ≡ []) × (new ≡ old)
LineOwes old (byte ∷ bytes) text new =
    (command : Command) × (reply : ToolReply)
    × Spells command (byte ∷ bytes) × ToolStep old command reply new × (text ≡ reply_text reply)

-- From old, these lines, none of them bad, owe this text and lead to new.
abbrev pub OwesText : ToolState → List (List ℕ) → List ℕ → ToolState → Type 0
OwesText old [] text new = (text ≡ []) × (new ≡ old)
OwesText old (line ∷ lines) text new =
    (middle : ToolState) × (first : List ℕ) × (others : List ℕ)
    × LineOwes old line first middle × OwesText middle lines others new × (text ≡ first ++ others)
