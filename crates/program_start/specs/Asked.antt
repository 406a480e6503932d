-- Whether the reasons of statuses are told. Source: this project's own, with the words of ls(1) for `--color`.
use Rattle.std.specs.Prelude.{ℕ, Bool, true, false, if◌then◌else◌, List, Option, Some, None, codes}
use Rattle.std.specs.Str.{bytes_eq}

-- whether they are asked for, by what the variable is, where it is set, and whether the error output is a terminal
abbrev pub asked_by : Option (List ℕ) → Bool → Bool
asked_by None is_terminal = is_terminal
asked_by (Some value) is_terminal =
    if bytes_eq value (codes "always") then true
    else if bytes_eq value (codes "never") then false
    else is_terminal
