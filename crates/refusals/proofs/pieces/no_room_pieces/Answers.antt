use Rattle.std.proofs.Common.{◌∙◌, refl}
use Rattle.refusals.proofs.pieces.no_room_pieces.Goals as goal

pub returns : goal.returns
returns c =
    rw (c.as_bytes.ensures.value ∙ c.name.ensures)
    (rw c.identifier_pieces.ensures (rw c.is_of_identifier.ensures refl))
