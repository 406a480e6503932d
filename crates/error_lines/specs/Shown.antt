-- Which bytes a text has that is shown on a terminal. Source: ascii(7).
use Rattle.std.specs.Prelude.{ℕ, Bool, nat_le, ◌&&◌}

-- whether a byte is printed as itself: a space, or one that is seen
abbrev pub is_printed : ℕ → Bool
is_printed byte = nat_le 32 byte && nat_le byte 126
