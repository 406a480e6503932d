-- The names of files. Source: this project's own, since the program keeps some endings for itself.
use Rattle.std.specs.Prelude.{ℕ, Bool, not, ◌&&◌, nat_le, List, length, drop, codes, ◌-◌}
use Rattle.std.specs.List.{list_all}
use Rattle.std.specs.Str.{bytes_eq}

-- the bytes end so
abbrev pub ends_so : List ℕ → List ℕ → Bool
ends_so bytes ending = bytes_eq (drop (length bytes - length ending) bytes) ending

-- a byte from `!` to `~`
abbrev pub is_graphic : ℕ → Bool
is_graphic byte = nat_le 33 byte && nat_le byte 126

-- The name of a file has 1 to 250 bytes from `!` to `~`, and no ending that the program keeps for itself.
abbrev pub is_file_name : List ℕ → Bool
is_file_name name = nat_le 1 (length name) && nat_le (length name) 250 && list_all is_graphic name
    && not (ends_so name (codes ".new")) && not (ends_so name (codes ".undo")) && not (ends_so name (codes ".und"))
