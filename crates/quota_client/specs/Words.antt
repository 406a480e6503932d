-- The words of a client: MODE PORT UID GID and 1 to 16 paths. Source: this project's own; a port is one of RFC 768, and
-- a path has as many bytes as `RQ_PATHLEN` of `rquota.x`.
use Rattle.std.specs.Prelude.{ℕ, ◌+◌, Bool, not, ◌&&◌, nat_lt, List, [], ◌∷◌, length, position, Option, Some, None}
use Rattle.std.specs.Prelude.{Result, Ok, Err, codes}
use Rattle.std.specs.List.{list_all}
use Rattle.refusals.specs.declared.cause.UsageKind.TheVariants.{BadValue, WrongOperands}
use Rattle.option_words.specs.Fault.{fault, unless, with_value, ◌>>=◌}
use Rattle.option_words.specs.FileName.{is_graphic}
use Rattle.option_words.specs.Tools.{look_up}
use Rattle.option_words.specs.Values.{is_export_path, number_within}
use Rattle.option_words.specs.declared.word_fault.Fault.{Fault}
use Rattle.quota_client.specs.declared.client.Client.{Client}
use Rattle.quota_client.specs.declared.mode.Mode.{Mode}
use Rattle.quota_client.specs.declared.mode.Mode.TheVariants.{Quota, Warn}

-- the mode of a word
abbrev pub mode_of : List ℕ → Option Mode
mode_of word = look_up ((codes "quota", Quota) ∷ (codes "warn", Warn) ∷ []) word

-- a path has 1 to 1,024 bytes from `!` to `~`
abbrev pub is_path : List ℕ → Bool
is_path word = is_export_path word && list_all is_graphic word

-- who asks, at which port, and what is printed, or the first fault in the words that say it
abbrev pub client_of : (mode port uid gid : List ℕ) → Result Client Fault
client_of mode port uid gid =
    with_value (mode_of mode) (fault BadValue 0) (λ mode.
    with_value (number_within 1 65535 port) (fault BadValue 1) (λ port.
    with_value (number_within 0 4294967295 uid) (fault BadValue 2) (λ uid.
    with_value (number_within 0 4294967295 gid) (fault BadValue 3) (λ gid.
    Ok (record { mode = mode; port = port; uid = uid; gid = gid })))))

-- what is asked for
pub record Asked : Type 0 where
  pub client : Client
  pub paths : List (List ℕ)

-- the paths, which begin at word 4, where no word among them is another one
abbrev pub with_paths : Client → List (List ℕ) → Option ℕ → Result Asked Fault
with_paths client paths None = Ok (record { client = client; paths = paths })
with_paths client paths (Some place) = Err (fault BadValue (4 + place))

-- What words ask for, or the first fault in them: their number, and then each word from left to right.
abbrev pub asked_of : List (List ℕ) → Result Asked Fault
asked_of (mode ∷ port ∷ uid ∷ gid ∷ path ∷ paths) =
    unless (nat_lt 16 (1 + length paths)) (fault WrongOperands (5 + length paths))
    (client_of mode port uid gid >>= λ client.
    with_paths client (path ∷ paths) (position (λ word. not (is_path word)) (path ∷ paths)))
asked_of words = Err (fault WrongOperands (length words))
