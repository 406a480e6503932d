-- Pieces of an error line.
use Rattle.std.specs.Prelude.{ℕ, List, decimal}
use Rattle.std.specs.List.{flat_map}
use Rattle.refusals.specs.declared.piece.Piece.{Piece}
use Rattle.refusals.specs.declared.piece.Piece.TheVariants.{Text, Number}

-- the bytes of a piece
abbrev pub piece_bytes : Piece → List ℕ
piece_bytes (Text bytes) = bytes.now
piece_bytes (Number number) = decimal number

-- the pieces, joined
abbrev pub joined : List Piece → List ℕ
joined pieces = flat_map piece_bytes pieces
