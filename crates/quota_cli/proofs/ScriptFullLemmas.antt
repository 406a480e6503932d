-- A script that ends with a refusal since a file is full.
use Rattle.std.proofs.Common.{◌≡◌, ◌+◌, ℕ, Bool, true, false, cond, List, [], ◌∷◌, Option, None, Some, inl, inr, refl}
use Rattle.std.proofs.Common.{sym, ◌∙◌}
use Rattle.std.specs.Prelude.{IfSome}
use Rattle.std.specs.Str.{is_utf8}
use Rattle.input_text.specs.InputLines.{InputLines, NoLine, LineThen, LongNext, PastNext, input_lines}
use Rattle.input_text.specs.Words.{words_of}
use Rattle.refusals.specs.declared.cause.Cause.{Cause}
use Rattle.refusals.specs.declared.cause.Cause.TheVariants.{TooLarge, LongLine, BadLine, Full}
use Rattle.refusals.specs.declared.reason.Refusal.{Refusal}
use Rattle.refusals.specs.Outcome.{Passed, Refused}
use Rattle.refusals.specs.Refusals.{in_line}
use Rattle.command_words.specs.Asked.{command_of}
use Rattle.run_steps.specs.Act.{Act}
use Rattle.run_steps.specs.Done.{Outside}
use Rattle.run_steps.specs.InputLine.{says_nothing}
use Rattle.run_steps.specs.Meaning.{EndsBy}
use Rattle.run_steps.specs.declared.invocation.Invocation.{Invocation}
use Rattle.script_lines.specs.Script.{LineSaid, ScriptMayRefuse, ScriptSaid, lines_say, says_then, script_refusal}
use Rattle.script_lines.specs.Script.{script_said}
use Rattle.script_lines.specs.ScriptReading.{IsOfScript}
use Rattle.command_table.specs.Table.{described}
use Rattle.descriptions.specs.Sound.{IsFullSo}
use Rattle.command_table.proofs.AskedLemmas.{asked_full}
use Rattle.command_table.proofs.SoundLemmas.{sound}
use Rattle.quota_cli.specs.Script.{IsFullInLine, LinesSteps, asked_in_script, line_invocation, scripting}

-- The refusal of a script itself is of no file.

own_then : (nothing utf8 : Bool) (number : ℕ) (line : List ℕ) (more : ScriptSaid) → IfSome more.refusal IsOfScript
    → IfSome (says_then
    (cond nothing (Passed None)
    (cond utf8 (Passed (Some (record { number = number; text = line }))) (Refused (script_refusal (BadLine number)))))
    more).refusal IsOfScript
own_then true utf8 number line more own = own
own_then false true number line more own = own
own_then false false number line more own = record { may = refl; place = refl }

own_lines : (lines : InputLines) (number : ℕ) → IfSome (lines_say number lines).refusal IsOfScript
own_lines NoLine number = tt
own_lines (LineThen line more) number =
    own_then (says_nothing line) (is_utf8 line) number line (lines_say (number + 1) more) (own_lines more (number + 1))
own_lines LongNext number = record { may = refl; place = refl }
own_lines PastNext number = record { may = refl; place = refl }

not_full : (cause : Cause) (name : List ℕ) (blocks limit : ℕ) → ScriptMayRefuse cause name
    → cause ≡ Full blocks limit → ⊥
not_full (Full needed most) name blocks limit may is = may
not_full (BadLine line) name blocks limit may is = absurd (cc)
not_full (LongLine line) name blocks limit may is = absurd (cc)
not_full TooLarge name blocks limit may is = absurd (cc)
not_full _ name blocks limit may is = may

-- A line that is refused.

-- what a line is refused for, and about which file, its steps are
line_full : (now : ℕ) (line : LineSaid) (old new : Outside) (acts : List Act) (own : Option Refusal) (refusal : Refusal)
    (blocks limit : ℕ) → Some refusal ≡ in_line line.number own
    → EndsBy ((asked_in_script line.text).steps (line_invocation now line)) old acts new own
    → refusal.cause ≡ Full blocks limit
    → (mine : Refusal) × (Some refusal ≡ in_line line.number (Some mine))
    × (asked_in_script line.text).full (line_invocation now line) old new.files mine blocks limit
line_full now line old new acts None refusal blocks limit same ends is = absurd (cc)
line_full now line old new acts (Some own) refusal blocks limit same ends is =
    let cause : refusal.cause ≡ own.cause = cc in (
      own,
      same,
      asked_full described (command_of true (words_of line.text)) (line_invocation now line)
          (λ command. (sound command).full (line_invocation now line)) old acts new own blocks limit ends
          (sym cause ∙ is),
    )

lines_full : (now : ℕ) (lines : List LineSaid) (own : Option Refusal) (old new : Outside) (acts : List Act)
    (refusal : Refusal) (blocks limit : ℕ) → IfSome own IsOfScript
    → EndsBy (LinesSteps now lines own) old acts new (Some refusal) → refusal.cause ≡ Full blocks limit
    → IsFullInLine now lines old new.files refusal blocks limit
lines_full now [] None old new acts refusal blocks limit of ends is =
    let none : Some refusal ≡ None = ends.ends in absurd (cc (none))
lines_full now [] (Some own) old new acts refusal blocks limit of ends is =
    let some : Some refusal ≡ Some own = ends.ends in
    let same : own.cause ≡ refusal.cause = cc (some) in
    absurd (not_full own.cause own.name blocks limit of.may (same ∙ is))
lines_full now (line ∷ lines) own old new acts refusal blocks limit of (inl (stop, same, (mine, told, ends))) is =
    inl (line_full now line old new acts mine refusal blocks limit (same ∙ told) ends is)
lines_full now (line ∷ lines) own old new acts refusal blocks limit of
    (inr (first, middle, rest, all, one, others)) is =
    inr (first, middle, one, lines_full now lines own middle new rest refusal blocks limit of others is)

-- a script that is refused so leaves what its description says
pub script_full : (invocation : Invocation) → IsFullSo scripting invocation
script_full invocation = λ old acts new refusal blocks limit ends is. (
  ends.0,
  lines_full invocation.now (script_said old.input).lines (script_said old.input).refusal
      (record old { input = ends.0 }) new acts refusal blocks limit
      (own_lines (input_lines 4096 16777216 old.input) 1) ends.2 is,
)
