-- The lines of an input.
use Rattle.std.specs.Prelude.{◌≡◌, ℕ, ◌≢◌, ◌⊎◌, List, [], ◌∷◌, ◌++◌, flat_map}
use Rattle.std.specs.List.{AllByRecursion}

-- No byte of it is an LF.
abbrev pub HasNoEnd : List ℕ → Type 0
HasNoEnd line = AllByRecursion (λ byte. byte ≢ 10) line

-- A first line and what stands after its LF; the last line may lack it.
pub record BeginsWithLine (text line rest : List ℕ) : Type 0 where
  pub no_end : HasNoEnd line
  pub whole : (text ≡ line ++ 10 ∷ rest) ⊎ ((text ≡ line) × (rest ≡ []))

-- A line with its LF.
abbrev pub ended : List ℕ → List ℕ
ended line = line ++ 10 ∷ []

-- Lines, each with its LF.
abbrev pub all_ended : List (List ℕ) → List ℕ
all_ended lines = flat_map ended lines

-- The bytes are these lines, each with its LF, and then less than a whole line.
pub record ArePieces (bytes : List ℕ) (lines : List (List ℕ)) (rest : List ℕ) : Type 0 where
  pub whole : bytes ≡ all_ended lines ++ rest
  pub each : AllByRecursion HasNoEnd lines
  pub partial : HasNoEnd rest

-- What stands after the last LF is a line too, if it isn't empty.
abbrev pub last_line : List ℕ → List (List ℕ)
last_line [] = []
last_line (byte ∷ bytes) = (byte ∷ bytes) ∷ []

-- The lines of a whole input.
pub record AreLines (bytes : List ℕ) (lines : List (List ℕ)) : Type 0 where
  pub before : List (List ℕ)
  pub rest : List ℕ
  pub pieces : ArePieces bytes before rest
  pub lines_are : lines ≡ before ++ last_line rest
