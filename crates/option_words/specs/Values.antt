-- What the values of options stand for, and the numbers among the operands. Source: the formats' names are those of
-- quotacheck(8), and a port is one of RFC 768; the other ranges are this project's own.
use Rattle.std.specs.Prelude.{ℕ, Bool, ◌&&◌, nat_le, if◌then◌else◌, List, [], ◌∷◌, length, Option, Some, None, codes}
use Rattle.std.specs.Option.{option_and_then}
use Rattle.quota_types.specs.declared.file_kind.Format.{Format}
use Rattle.quota_types.specs.declared.file_kind.Format.TheVariants.{V1, V1R32, V2R0, V2R1}
use Rattle.quota_types.specs.declared.file_kind.Kind.{Kind}
use Rattle.quota_types.specs.declared.file_kind.Kind.TheVariants.{User, Group, Project}
use Rattle.input_text.specs.Numeral.{number_of}
use Rattle.option_words.specs.declared.given.Conversion.{Conversion}
use Rattle.option_words.specs.Parts.{parted}
use Rattle.option_words.specs.Tools.{look_up}

-- the format of a name
abbrev pub format_of : List ℕ → Option Format
format_of word =
    look_up ((codes "vfsold", V1) ∷ (codes "vfsold32", V1R32) ∷ (codes "vfsv0", V2R0) ∷ (codes "vfsv1", V2R1) ∷ []) word

-- the kind of files that is exported under a word
abbrev pub kind_of : List ℕ → Option Kind
kind_of word = look_up ((codes "user", User) ∷ (codes "group", Group) ∷ (codes "project", Project) ∷ []) word

-- a number, where it is from one number to another
abbrev pub within : ℕ → ℕ → ℕ → Option ℕ
within low high number = if nat_le low number && nat_le number high then Some number else None

-- the number that a word spells, where it is from one number to another
abbrev pub number_within : ℕ → ℕ → List ℕ → Option ℕ
number_within low high word = option_and_then (within low high) (number_of word)

-- the formats of a conversion
abbrev pub conversion : Option Format → Option Format → Option Conversion
conversion (Some old) (Some new) = Some (record { old = old; new = new })
conversion (Some old) None = None
conversion None new = None

-- what two words stand for as formats
abbrev pub conversion_parts : Option (List ℕ × List ℕ) → Option Conversion
conversion_parts (Some parts) = conversion (format_of parts.0) (format_of parts.1)
conversion_parts None = None

-- the old and the new format, with a comma between them
abbrev pub conversion_of : List ℕ → Option Conversion
conversion_of word = conversion_parts (parted 44 word)

-- the path of an export has 1 to 1,024 bytes
abbrev pub is_export_path : List ℕ → Bool
is_export_path path = nat_le 1 (length path) && nat_le (length path) 1024
