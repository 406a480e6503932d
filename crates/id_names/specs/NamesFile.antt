-- Files of names, whose bytes may be any. Source: passwd(5), group(5) and projid(5).
use Rattle.std.specs.Prelude.{ℕ, ◌+◌, ◌^◌, Bool, true, ◌&&◌, not, ◌==◌, nat_lt, nat_le, is_none, if◌then◌else◌, List}
use Rattle.std.specs.Prelude.{[], ◌∷◌, length, position, Option, Some, None, codes}
use Rattle.std.specs.List.{slice_split, slice_index_or, list_all, list_any, filter_map}
use Rattle.std.specs.Option.{option_map}
use Rattle.std.specs.Str.{all_ascii_digits}
use Rattle.std.specs.Str.Parse.{digits_value}
use Rattle.quota_types.specs.declared.file_kind.Kind.{Kind}
use Rattle.quota_types.specs.declared.file_kind.Kind.TheVariants.{User, Group, Project}

-- a line of names: a name, as its bytes, and the identifier that it stands for
pub record NameLine : Type 0 where
  pub name : List ℕ
  pub id : ℕ

-- the parts of bytes around each byte that is the separator
abbrev pub parts_of : ℕ → List ℕ → List (List ℕ)
parts_of separator bytes = slice_split (λ byte. byte == separator) bytes

-- The lines of a file, which newlines separate. What stands behind the last newline is a line too; where it is empty,
-- it says nothing, like any empty line.
abbrev pub lines_in : List ℕ → List (List ℕ)
lines_in file = parts_of 10 file

-- the fields of a line, which colons separate
abbrev pub fields_of : List ℕ → List (List ℕ)
fields_of line = parts_of 58 line

-- a line says nothing where it is empty, or begins with one of the three characters of comments and of the
-- compatibility mode of nsswitch.conf(5)
abbrev pub is_passed_over : List ℕ → Bool
is_passed_over [] = true
is_passed_over (first ∷ behind) = list_any (λ mark. first == mark) (codes "#+-")

-- how many fields a line has
abbrev pub fields_in : Kind → ℕ
fields_in User = 7
fields_in Group = 4
fields_in Project = 2

-- the place of the field of the identifier, counted from 0
abbrev pub id_place : Kind → ℕ
id_place User = 2
id_place Group = 2
id_place Project = 1

-- a byte that may stand in a name: no control character and not the space
abbrev pub is_name_byte : ℕ → Bool
is_name_byte byte = nat_le 33 byte && not (byte == 127)

-- a name has 1 to 255 bytes that may stand in one; with the zero byte that ends it in C, 256 is `LOGIN_NAME_MAX` of
-- limits.h
abbrev pub is_name : List ℕ → Bool
is_name name = nat_le 1 (length name) && nat_le (length name) 255 && list_all is_name_byte name

-- The identifier that a field spells: one or more decimal digits, whose value is below 2^32, as a `uid_t` is. Leading
-- zeros are digits like any others.
abbrev pub id_of_field : List ℕ → Option ℕ
id_of_field field =
    if nat_lt 0 (length field) && all_ascii_digits field && nat_lt (digits_value 10 field) (2 ^ 32)
    then Some (digits_value 10 field) else None

-- the line of names of a name and the field of its identifier, where they are such
abbrev pub named : List ℕ → List ℕ → Option NameLine
named name field =
    if is_name name then option_map (λ number. record { name = name; id = number }) (id_of_field field) else None

-- the line of names that a line of the file spells: it has as many fields as the lines of its kind, of which the first
-- is the name, and the third the identifier, or the second in a line of projects
abbrev pub line_of : Kind → List ℕ → Option NameLine
line_of kind line =
    if length (fields_of line) == fields_in kind
    then named (slice_index_or (fields_of line) 0 []) (slice_index_or (fields_of line) (id_place kind) []) else None

-- what a line of the file tells, if anything
abbrev pub told_by : Kind → List ℕ → Option NameLine
told_by kind line = if is_passed_over line then None else line_of kind line

-- a line breaks the rules: it is not passed over, and spells no line of names
abbrev pub is_bad : Kind → List ℕ → Bool
is_bad kind line = not (is_passed_over line) && is_none (line_of kind line)

-- the lines of names that a file tells, in its order
unfoldable pub names_in : Kind → List ℕ → List NameLine
names_in kind file = filter_map (told_by kind) (lines_in file)

-- the number, counted from 1, of the first line of a file that breaks the rules
unfoldable pub bad_line : Kind → List ℕ → Option ℕ
bad_line kind file = option_map (λ place. place + 1) (position (is_bad kind) (lines_in file))
