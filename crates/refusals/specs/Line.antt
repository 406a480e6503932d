-- Error lines.
use Rattle.std.specs.Prelude.{ℕ, Bool, true, false, List, [], ◌∷◌, ◌++◌, Option, Some, None, codes, decimal}
use Rattle.std.specs.List.{concat}
use Rattle.quota_types.specs.Damage.{damage_name, names_identifier}
use Rattle.quota_types.specs.Field.{field_name, is_of_identifier}
use Rattle.quota_types.specs.declared.damage.DamageKind.{DamageKind}
use Rattle.quota_types.specs.declared.damage.DamageKind.TheVariants.{PartialRecord}
use Rattle.refusals.specs.declared.cause.Cause.{Cause}
use Rattle.refusals.specs.declared.cause.Cause.TheVariants.{StoreFault, NoFile, TooLarge, SourceFault, SinkFault}
use Rattle.refusals.specs.declared.cause.Cause.TheVariants.{LinkFault, Memory, NotQuota, WrongKind, UnknownVersion}
use Rattle.refusals.specs.declared.cause.Cause.TheVariants.{BadBlockCount, OtherFormat, Damaged, Full, NoRoom}
use Rattle.refusals.specs.declared.cause.Cause.TheVariants.{UnknownName, BadNumber, TargetExists, SameName, BadForm}
use Rattle.refusals.specs.declared.cause.Cause.TheVariants.{BadLine, LongLine, Conflict, Usage}
use Rattle.refusals.specs.declared.cause.UsageKind.{UsageKind}
use Rattle.refusals.specs.declared.cause.UsageKind.TheVariants.{NoCommand, UnknownCommand, UnknownOption, MissingValue}
use Rattle.refusals.specs.declared.cause.UsageKind.TheVariants.{BadValue, Repeated, Excludes, MissingOption}
use Rattle.refusals.specs.declared.cause.UsageKind.TheVariants.{WrongOperands, BadFileName}
use Rattle.refusals.specs.declared.reason.Place.{Place}
use Rattle.refusals.specs.declared.reason.Refusal.{Refusal}

-- the name of a kind of fault in the words
abbrev pub usage_name : UsageKind → List ℕ
usage_name NoCommand = codes "NoCommand"
usage_name UnknownCommand = codes "UnknownCommand"
usage_name UnknownOption = codes "UnknownOption"
usage_name MissingValue = codes "MissingValue"
usage_name BadValue = codes "BadValue"
usage_name Repeated = codes "Repeated"
usage_name Excludes = codes "Excludes"
usage_name MissingOption = codes "MissingOption"
usage_name WrongOperands = codes "WrongOperands"
usage_name BadFileName = codes "BadFileName"

-- what a damage is in: a record of a flat file, or a block
abbrev pub place_text : DamageKind → List ℕ
place_text PartialRecord = codes " at record "
place_text _ = codes " at block "

-- the identifier that is named at the end of a line, where one is
abbrev pub identifier_text : Bool → ℕ → List (List ℕ)
identifier_text true id = codes " of " ∷ decimal id ∷ []
identifier_text false id = []

-- what an error line calls an input: its file, or the standard input where it has no name
abbrev pub input_called : List ℕ → List ℕ
input_called [] = codes "input"
input_called name = name

-- what an error line says of a cause and the file or the word that it is about, in pieces
abbrev pub text_of : Cause → List ℕ → List (List ℕ)
text_of StoreFault name = codes "store fault" ∷ []
text_of NoFile name = name ∷ codes ": no such file" ∷ []
text_of TooLarge name = input_called name ∷ codes ": too large" ∷ []
text_of SourceFault name = codes "input fault" ∷ []
text_of SinkFault name = codes "output fault" ∷ []
text_of LinkFault name = codes "link fault" ∷ []
text_of Memory name = codes "want of memory" ∷ []
text_of NotQuota name = name ∷ codes ": not a quota file" ∷ []
text_of WrongKind name = name ∷ codes ": wrong kind" ∷ []
text_of UnknownVersion name = name ∷ codes ": unknown version" ∷ []
text_of BadBlockCount name = name ∷ codes ": bad block count" ∷ []
text_of OtherFormat name = name ∷ codes ": other format" ∷ []
text_of (Damaged damage) name =
    name ∷ codes ": damaged: " ∷ damage_name damage.kind ∷ place_text damage.kind ∷ decimal damage.block
    ∷ identifier_text (names_identifier damage.kind) damage.id
text_of (Full blocks limit) name = name ∷ codes ": full: " ∷ decimal blocks ∷ codes " blocks of " ∷ decimal limit ∷ []
text_of (NoRoom out) name =
    name ∷ codes ": no room for " ∷ field_name out.field ∷ codes " " ∷ decimal out.value
    ∷ identifier_text (is_of_identifier out.field) out.id
text_of UnknownName name = codes "unknown name " ∷ name ∷ []
text_of BadNumber name = codes "bad number " ∷ name ∷ []
text_of TargetExists name = name ∷ codes ": exists already" ∷ []
text_of SameName name = name ∷ codes ": same name" ∷ []
text_of (BadForm line) name = codes "bad form at line " ∷ decimal line ∷ []
text_of (BadLine line) name = input_called name ∷ codes ": bad line " ∷ decimal line ∷ []
text_of (LongLine line) name = input_called name ∷ codes ": long line " ∷ decimal line ∷ []
text_of (Conflict line first) name =
    input_called name ∷ codes ": line " ∷ decimal line ∷ codes " conflicts with line " ∷ decimal first ∷ []
text_of (Usage kind word) name = codes "usage: " ∷ usage_name kind ∷ codes " at word " ∷ decimal word ∷ []

-- the number of a line in front of what is said, where something stands in one
abbrev pub line_text : List ℕ → Option ℕ → List (List ℕ)
line_text front None = []
line_text front (Some line) = front ∷ decimal line ∷ codes ": " ∷ []

-- the lines that something stands in are named in front: that of a script, and then that of an input
abbrev pub front_of : Place → List ℕ
front_of place =
    concat (line_text (codes "line ") place.line) ++ concat (line_text (codes "input line ") place.input_line)

-- the error line of a refusal
unfoldable pub error_line : Refusal → List ℕ
error_line refusal =
    codes "quota: " ++ front_of refusal.place ++ concat (text_of refusal.cause refusal.name) ++ codes "\n"

-- what is said at the end of a command
abbrev pub closing_line : Option Refusal → List ℕ
closing_line None = []
closing_line (Some refusal) = error_line refusal
