-- What is added behind an error line where reasons are asked for: what the system refused, and why, or what a text
-- tells. Source: this project's own, in the form of the GNU coding standards, on error messages.
use Rattle.std.specs.Prelude.{◌≡◌, ◌≢◌, ◌<◌, ◌⊎◌, ℕ, Bool, true, false, List, ◌∷◌, ◌++◌, codes, decimal, get_or, length}
use Rattle.std.specs.declared.io.ErrorKind.{ErrorKind}
use Rattle.std.specs.declared.io.ErrorKind.TheVariants.{InvalidData}
use Rattle.program_start.specs.declared.reason.Failed.{Failed}
use Rattle.program_start.specs.declared.reason.Failed.TheVariants.{Input, Output, UdpPort, TcpPort, File}
use Rattle.program_start.specs.declared.reason.Reason.{Reason}
use Rattle.program_start.specs.declared.reason.Reason.TheVariants.{Refused, Text}

-- whether the words are refused since one of them is not UTF-8
abbrev pub is_unreadable : ErrorKind → Bool
is_unreadable InvalidData = true
is_unreadable _ = false

-- what something is called on which the system refused a call
abbrev pub failed_name : Failed → List ℕ
failed_name Input = codes "standard input"
failed_name Output = codes "standard output"
failed_name (UdpPort port) = codes "UDP port " ++ decimal port
failed_name (TcpPort port) = codes "TCP port " ++ decimal port
failed_name (File name) = name.now

-- The name of a program that was called by a path: what stands behind its last slash, or all of it where it has none.
pub record IsNameIn (path name : List ℕ) : Type 0 where
  pub part : (name ≡ path) ⊎ ((front : List ℕ) × (path ≡ front ++ 47 ∷ name))
  pub last : (at : ℕ) → at < length name → get_or name at 0 ≢ 47

-- What a text tells of a reason: on what the system refused a call, and why in some words; or a text itself.
abbrev pub TellsOf : Reason → List ℕ → Type 0
TellsOf (Refused failed error left) text = (words : List ℕ) × (text ≡ failed_name failed ++ codes ": " ++ words)
TellsOf (Text told) text = text ≡ told.now

-- a line of a program that was called by this path, which tells of a reason
abbrev pub IsReasonLine : (called : List ℕ) → Reason → List ℕ → Type 0
IsReasonLine called reason line =
    (name text : List ℕ) × IsNameIn called name × TellsOf reason text
    × (line ≡ name ++ codes ": " ++ text ++ codes "\n")
