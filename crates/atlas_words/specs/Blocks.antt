-- Text that is gathered in a block before it is written, for the private functions of `listing`.
use Rattle.std.specs.Prelude.{◌≡◌, ℕ, Option, List, ◌++◌}
use Rattle.std.specs.Io.KnownBytes.{Appends}

-- Of this text a beginning was written, and the rest stands in the block.
pub record IsGathered (out_old out_new : Option (List ℕ)) (block text : List ℕ) : Type 0 where
  pub done : List ℕ
  pub written : Appends out_old out_new done
  pub whole : text ≡ done ++ block
