-- The options of each command, over all of its forms. Source: the manual pages of the commands; what stands with two
-- hyphens is this project's own.
use Rattle.std.specs.Prelude.{ℕ, List, [], ◌∷◌, Option, codes}
use Rattle.option_words.specs.declared.tool.Tool.{Tool}
use Rattle.option_words.specs.declared.tool.Tool.TheVariants.{Repquota, Setquota, Edquota, Quotacheck, Convertquota}
use Rattle.option_words.specs.declared.tool.Tool.TheVariants.{Rquotad, Script, Generate}
use Rattle.option_words.specs.declared.switch.Switch.{Switch}
use Rattle.option_words.specs.declared.switch.Switch.TheVariants.{Flagged, Setting, Export}
use Rattle.option_words.specs.declared.switch.Flag.TheVariants.{Users, Groups, Projects, Verbose, Numeric, Raw, Batch}
use Rattle.option_words.specs.declared.switch.Flag.TheVariants.{Grace, Times, Print, Apply, Fresh}
use Rattle.option_words.specs.declared.switch.Setting.TheVariants.{QuotaFormat, Names, Proto, Input, Device, Formats}
use Rattle.option_words.specs.declared.switch.Setting.TheVariants.{Calls, Port}
use Rattle.option_words.specs.Tools.{look_up}

-- The letters of a command's options: flags, which have no value, and settings, which have one.
abbrev pub letters : Tool → List (List ℕ × Switch)
letters Repquota =
    (codes "u", Flagged Users) ∷ (codes "g", Flagged Groups) ∷ (codes "P", Flagged Projects)
    ∷ (codes "v", Flagged Verbose)
    ∷ (codes "n", Flagged Numeric) ∷ (codes "p", Flagged Raw) ∷ (codes "F", Setting QuotaFormat) ∷ []
letters Setquota =
    (codes "u", Flagged Users) ∷ (codes "g", Flagged Groups) ∷ (codes "P", Flagged Projects)
    ∷ (codes "b", Flagged Batch) ∷ (codes "t", Flagged Grace)
    ∷ (codes "T", Flagged Times) ∷ (codes "F", Setting QuotaFormat) ∷ (codes "p", Setting Proto) ∷ []
letters Edquota =
    (codes "u", Flagged Users) ∷ (codes "g", Flagged Groups) ∷ (codes "P", Flagged Projects)
    ∷ (codes "F", Setting QuotaFormat) ∷ []
letters Quotacheck =
    (codes "u", Flagged Users) ∷ (codes "g", Flagged Groups) ∷ (codes "P", Flagged Projects)
    ∷ (codes "c", Flagged Fresh)
    ∷ (codes "F", Setting QuotaFormat) ∷ []
letters Convertquota =
    (codes "u", Flagged Users) ∷ (codes "g", Flagged Groups) ∷ (codes "P", Flagged Projects)
    ∷ (codes "f", Setting Formats) ∷ []
letters Rquotad = []
letters Script = []
letters Generate = []

-- The long options of a command. An export takes three words.
abbrev pub long_options : Tool → List (List ℕ × Switch)
long_options Repquota = (codes "--names", Setting Names) ∷ []
long_options Setquota = (codes "--names", Setting Names) ∷ (codes "--input", Setting Input) ∷ []
long_options Edquota =
    (codes "--names", Setting Names) ∷ (codes "--input", Setting Input)
    ∷ (codes "--print", Flagged Print) ∷ (codes "--apply", Flagged Apply) ∷ []
long_options Quotacheck = (codes "--device", Setting Device) ∷ (codes "--input", Setting Input) ∷ []
long_options Convertquota = []
long_options Rquotad =
    (codes "--format", Setting QuotaFormat) ∷ (codes "--calls", Setting Calls) ∷ (codes "--port", Setting Port)
    ∷ (codes "--export", Export) ∷ []
long_options Script = []
long_options Generate = []

-- the option of a command that a letter stands for
abbrev pub letter_switch : Tool → ℕ → Option Switch
letter_switch tool letter = look_up (letters tool) (letter ∷ [])

-- the long option of a command that is written so
abbrev pub long_switch : Tool → List ℕ → Option Switch
long_switch tool written = look_up (long_options tool) written
