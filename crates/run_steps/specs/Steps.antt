-- The steps of a command. They come in order, each from what the steps before it left outside, and the first one that
-- is refused ends the command. Each form of steps holds the steps that come behind it. What steps mean, whole, begun,
-- and sure to succeed, is said of these forms once, in Meaning.
use Rattle.std.specs.Prelude.{ℕ, Bool, List, [], ◌∷◌, Option, Some, None}
use Rattle.quota_types.specs.declared.file_kind.Kind.{Kind}
use Rattle.outside.specs.Seen.{Datagram}
use Rattle.outside.specs.World.{World}
use Rattle.quota_value.specs.QuotaValue.{QuotaValue}
use Rattle.id_names.specs.NamesFile.{NameLine}
use Rattle.refusals.specs.declared.reason.Refusal.{Refusal}
use Rattle.refusals.specs.Outcome.{Outcome, Passed, Refused}
use Rattle.run_steps.specs.Act.{Act}
use Rattle.run_steps.specs.Naming.{names_seen}
use Rattle.quota_map.specs.Asked.{Asked}

-- Steps are one of these: the end, with a refusal or none; an act, and the steps behind it; a look at the files as they
-- are; a quota file of a kind that is opened, in the format that is asked for, by its name, and what comes of its
-- value; the standard input, the whole of it where its bytes ask for that, and what comes of its bytes; a link that is
-- started at a port, and the steps behind it; the first datagram that is left, and what comes of it; steps, and the
-- ones behind them where they pass; and steps that stand in a line of a script.
pub data Steps : Type 0 where
  Ending : Option Refusal → Steps
  Doing : Act → Steps → Steps
  Looking : (World → Steps) → Steps
  Opening : Kind → Asked → List ℕ → (QuotaValue → Steps) → Steps
  Reading : (List ℕ → Bool) → (List ℕ → Steps) → Steps
  Starting : ℕ → Steps → Steps
  Receiving : (Datagram → Steps) → Steps
  Before : Steps → Steps → Steps
  InLine : ℕ → Steps → Steps

-- all steps passed
abbrev pub Finish : Steps
Finish = Ending None

-- a step is refused
abbrev pub Stop : Refusal → Steps
Stop refusal = Ending (Some refusal)

-- a step with one answer, and where it passed the next ones
abbrev pub Then : {V : Type 0} → Outcome V → (V → Steps) → Steps
Then (Passed value) next = next value
Then (Refused refusal) next = Stop refusal

-- the names are read from the file of names, where there is one, and then comes what the next steps say of them
abbrev pub Naming : Kind → Option (List ℕ) → (List NameLine → Steps) → Steps
Naming kind names next = Looking (λ (files : World). Then (names_seen kind names files) next)

-- acts are done in order, and then come the next steps
abbrev pub DoingAll : List Act → Steps → Steps
DoingAll [] next = next
DoingAll (act ∷ acts) next = Doing act (DoingAll acts next)
