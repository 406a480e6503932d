-- The commands by their names, which word 0 is. Source: the manual pages repquota(8), setquota(8), edquota(8),
-- quotacheck(8), convertquota(8) and rpc.rquotad(8); `script` and `generate` are this project's own.
use Rattle.std.specs.Prelude.{ℕ, List, [], ◌∷◌, Option, codes, find}
use Rattle.std.specs.Option.{option_map}
use Rattle.std.specs.Str.{bytes_eq}
use Rattle.option_words.specs.declared.tool.Tool.{Tool}
use Rattle.option_words.specs.declared.tool.Tool.TheVariants.{Repquota, Setquota, Edquota, Quotacheck, Convertquota}
use Rattle.option_words.specs.declared.tool.Tool.TheVariants.{Rquotad, Script, Generate}

-- what a word stands for in a table of words
abbrev pub look_up : {V : Type 0} → List (List ℕ × V) → List ℕ → Option V
look_up table word = option_map (λ entry. entry.1) (find (λ entry. bytes_eq entry.0 word) table)

-- the names of the commands
abbrev pub tools : List (List ℕ × Tool)
tools =
    (codes "repquota", Repquota)
    ∷ (codes "setquota", Setquota)
    ∷ (codes "edquota", Edquota)
    ∷ (codes "quotacheck", Quotacheck)
    ∷ (codes "convertquota", Convertquota)
    ∷ (codes "rquotad", Rquotad)
    ∷ (codes "script", Script)
    ∷ (codes "generate", Generate)
    ∷ []

-- the command of a name
abbrev pub tool_of : List ℕ → Option Tool
tool_of word = look_up tools word
