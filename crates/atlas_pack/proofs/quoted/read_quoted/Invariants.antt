use Rattle.std.proofs.Common.{◌≡◌, ◌++◌, ℕ, List, flat_map, length}
use Rattle.atlas_pack.specs.declared.quoted.Piece.{Piece}
use Rattle.atlas_pack.specs.Quoted.{SpellsPieces, piece_bytes}
use Rattle.atlas_pack.proofs.quoted.read_quoted.Given as goal

abbrev pub invariant-loop-piece : goal.invariant-loop-piece
invariant-loop-piece l = record {
  found : (more : List Piece) (end : List ℕ) → SpellsPieces more l.rest end
      → (all : List Piece) × SpellsPieces all l.text end
      × (flat_map piece_bytes all ≡ l.name.items ++ flat_map piece_bytes more);
  only : (all : List Piece) (end : List ℕ) → SpellsPieces all l.text end
      → (more : List Piece) × SpellsPieces more l.rest end
      × (flat_map piece_bytes all ≡ l.name.items ++ flat_map piece_bytes more);
}

abbrev pub decreases-loop-piece : goal.decreases-loop-piece
decreases-loop-piece l = length l.rest
