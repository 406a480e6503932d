use Rattle.std.proofs.Common.{ℕ, List, Option, ap, ◌∙◌, ◌≡◌, arith}
use Rattle.entry_codec.specs.Header.{header_of}
use Rattle.tree_meaning.specs.Ids.{ids_in}
use Rattle.tree_file.specs.BlocksWanted.{blocks_wanted}
use Rattle.tree_file.proofs.RoomLemmas.{wanted_held}
use Rattle.tree_file.proofs.laws.a_file_has_room_for_its_value.Goals as goal

pub returns : goal.returns
returns c = λ tells named header coming limit seen value blocks most same held lacks.
    let wanted : blocks ≡ (header_of held.file).blocks =
    lacks.needs ∙ ap (λ (file : Option (List ℕ)). blocks_wanted value.format file (ids_in value.records)) held.there
    ∙ wanted_held held.file value held.stands in
    omega (arith, same, wanted, lacks.may, lacks.passes, held.few)
