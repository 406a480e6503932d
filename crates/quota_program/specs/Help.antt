-- What the program tells of itself. Source: the GNU coding standards, on `--help` and `--version`.
use Rattle.std.specs.Prelude.{◌≡◌, ℕ, ◌++◌, IsSomeAnd, IsTrue, List, Option, Some, None, codes, nat_eq}
use Rattle.std.specs.List.{starts_with}
use Rattle.option_words.specs.declared.tool.Tool.{Tool}
use Rattle.option_words.specs.declared.tool.Tool.TheVariants.{Repquota, Setquota, Edquota, Quotacheck, Convertquota}
use Rattle.option_words.specs.declared.tool.Tool.TheVariants.{Rquotad, Script, Generate}
use Rattle.option_words.specs.Tools.{tool_of}
use Rattle.program_help.specs.About.{Question, OfHelp, OfVersion, OfCommand}

-- the name of a command
abbrev pub name_of : Tool → List ℕ
name_of Repquota = codes "repquota"
name_of Setquota = codes "setquota"
name_of Edquota = codes "edquota"
name_of Quotacheck = codes "quotacheck"
name_of Convertquota = codes "convertquota"
name_of Rquotad = codes "rquotad"
name_of Script = codes "script"
name_of Generate = codes "generate"

-- with what a text begins that says how a command is used
abbrev pub usage_of : Tool → List ℕ
usage_of tool = codes "Usage: quota_cli " ++ name_of tool

-- a text is told that begins so
abbrev pub IsTextFrom : (front : List ℕ) → Option (List ℕ) → Type 0
IsTextFrom front text = IsSomeAnd text (λ text. IsTrue (starts_with nat_eq text front))

-- of a command it is told how that is used, and of no command nothing
abbrev pub IsUsage : Option Tool → Option (List ℕ) → Type 0
IsUsage (Some tool) text = IsTextFrom (usage_of tool) text
IsUsage None text = text ≡ None

-- the text that is told where this is asked, and none where nothing is
abbrev pub IsTold : Option Question → Option (List ℕ) → Type 0
IsTold (Some OfHelp) text = IsTextFrom (codes "Usage: quota_cli COMMAND ") text
IsTold (Some OfVersion) text = text ≡ Some (codes "quota_cli 0.1.0 (vfsold, vfsold32, vfsv0, vfsv1)\n")
IsTold (Some (OfCommand name)) text = IsUsage (tool_of name) text
IsTold None text = text ≡ None
