-- What a line of a script asks for, and what was done of it.
use Rattle.std.proofs.Common.{◌≡◌, ◌≤◌, ◌+◌, ℕ, Bool, true, false, IsTrue, List, [], Option, None, Some}
use Rattle.std.proofs.Common.{Ok, Err, Result, inl, inr, refl, sym, subst, arith}
use Rattle.std.specs.Prelude.{⊤, IfErr, IfSome, is_ok}
use Rattle.std.specs.Result.{result_err}
use Rattle.std.proofs.lemmas.Option.{none-some}
use Rattle.outside.specs.ManyCalls.{Syncs}
use Rattle.input_text.specs.Words.{words_of}
use Rattle.outside.proofs.FrameLemmas.{syncs-none}
use Rattle.refusals.specs.declared.cause.Cause.{Cause}
use Rattle.refusals.specs.declared.cause.Cause.TheVariants.{LinkFault, Memory}
use Rattle.refusals.specs.declared.reason.Refusal.{Refusal}
use Rattle.refusals.specs.Refusals.{in_line, refusal_of}
use Rattle.run_steps.specs.Done.{RunSeen, RunTells, IsWorldTold}
use Rattle.run_steps.specs.Run.{HasReason, Uses, IsDoneInPart}
use Rattle.run_steps.specs.Carrying.{cause_in}
use Rattle.run_steps.specs.declared.invocation.Invocation.{Invocation}
use Rattle.run_steps.proofs.CarryingLemmas.{MayUseAll, carried_in_line}
use Rattle.run_steps.proofs.CarryingLemmas.{lined}
use Rattle.run_steps.proofs.ReasonLemmas.{reason_but_stated}
use Rattle.run_steps.proofs.PhaseLemmas.{carries_more, nothing_carried}
use Rattle.run_steps.proofs.PhaseLemmas.{placed_nowhere}
use Rattle.script_lines.specs.Script.{LineSaid}
use Rattle.command_words.specs.Asked.{command_of}
use Rattle.command_table.specs.CarriedOut.{IsCarriedOut}
use Rattle.command_table.specs.Table.{asked_by, described}
use Rattle.command_table.proofs.CommandLemmas.{only_itself}
use Rattle.quota_cli.specs.Carrying.{IsLineCarried}
use Rattle.quota_cli.specs.Script.{RunningMayRefuse, asked_in_script}
use Rattle.quota_cli.specs.Script.{line_invocation, script_uses}
use Rattle.run_steps.specs.Steps.{Steps}
use Rattle.run_steps.proofs.RowLemmas.{part_in_line}

-- What a line asks for.

-- a script may do all that a line does
widest : MayUseAll script_uses
widest = record { link = refl; changes = refl; whole = refl; warns = refl; commands = refl; edits = refl }

-- a line ended well where what it asks for did
same_in_line : (line : ℕ) (done result : Result (Unit {0}) Refusal) → result_err result ≡ in_line line (result_err done)
    → is_ok result ≡ is_ok done
same_in_line line (Ok passed) (Ok value) is = refl
same_in_line line (Err refused) (Ok value) is = absurd (none-some _ is)
same_in_line line (Ok passed) (Err refusal) is = absurd (none-some _ (sym is))
same_in_line line (Err refused) (Err refusal) is = refl

-- what facts say of a refusal holds of it in a line
err_in_line : (line : ℕ) (first second third fourth holds : Refusal → Type 0) (done result : Result (Unit {0}) Refusal)
    → result_err result ≡ in_line line (result_err done)
    → ((refusal : Refusal) → first refusal → second refusal → third refusal → fourth refusal
    → holds (lined line refusal)) → IfErr done first → IfErr done second → IfErr done third → IfErr done fourth
    → IfErr result holds
err_in_line line first second third fourth holds (Ok passed) (Ok value) is so one two three four = tt
err_in_line line first second third fourth holds (Ok passed) (Err refusal) is so one two three four =
    absurd (none-some refusal (sym is))
err_in_line line first second third fourth holds (Err refusal) (Ok value) is so one two three four = tt
err_in_line line first second third fourth holds (Err refusal) (Err said) is so one two three four =
    let same : said ≡ lined line refusal = cc in
    subst holds (sym same) (so refusal one two three four)

-- what was done in part of steps that were refused
part_of_err : (steps : Steps) (tells : RunTells) (old new : RunSeen) (result : Result (Unit {0}) Refusal)
    → (IsWorldTold tells → IsDoneInPart steps tells (cause_in result) old new)
    → IfErr result (λ (refusal : Refusal). IsWorldTold tells → IsDoneInPart steps tells (Some refusal.cause) old new)
part_of_err steps tells old new (Ok passed) part = tt
part_of_err steps tells old new (Err refusal) part = part

-- the link fails only for a command that uses it
link_used : (uses : Uses) (old new : RunSeen) (stated : Type 0) (cause : Cause) → HasReason uses old new stated cause
    → cause ≡ LinkFault → IsTrue uses.link
link_used uses old new stated cause reason is = (subst (λ (c : Cause). HasReason uses old new stated c) is reason).0

-- what a line asks for was carried out, and so was the line
pub line_carried : (now : ℕ) (line : LineSaid) (tells : RunTells) (old new : RunSeen)
    (done result : Result (Unit {0}) Refusal) → result_err result ≡ in_line line.number (result_err done)
    → ((asked_in_script line.text).uses.link ≡ false → new.link ≡ old.link)
    → IsCarriedOut (asked_in_script line.text) (line_invocation now line) tells old new done
    → IsLineCarried now line tells old new result
line_carried now line tells old new done result is unlinked carried =
    let asked = asked_in_script line.text in
    let carries = carried_in_line line.number (asked.steps (line_invocation now line)) asked.uses script_uses
    RunningMayRefuse tells old new done result widest is
    (carries_more (asked.steps (line_invocation now line)) asked.uses asked.may RunningMayRefuse tells old new done
    (λ cause name may. inr (inr (inr (line.text, may)))) carried.carries) in
    record {
      carries = carries;
      synced = λ told. subst (λ (d : Bool). Syncs d old.store new.store) (sym (same_in_line line.number done result is))
          (carried.synced told);
      unlinked = unlinked;
      of_line = err_in_line line.number _ _ _ _ _ done result is
          (λ refusal reason may left begun. record {
            named = refl;
            may = may;
            reason = reason_but_stated asked.uses old new _ ⊤ refusal.cause (λ stated. tt) reason;
            unfinished = λ failed. (link_used asked.uses old new _ refusal.cause reason failed, left failed);
            part = λ told. part_in_line line.number (asked.steps (line_invocation now line)) tells old new (begun told);
          })
          carried.carries.refused carried.carries.may_refuse carried.unfinished
          (part_of_err (asked.steps (line_invocation now line)) tells old new done carried.carries.part);
    }

-- words of a line were carried out
pub text_carried : (text : List ℕ) (invocation : Invocation) (tells : RunTells) (old new : RunSeen)
    (result : Result (Unit {0}) Refusal)
    → IsCarriedOut (asked_by described (command_of true (words_of text))) invocation tells old new result
    → IsCarriedOut (asked_in_script text) invocation tells old new result
text_carried text invocation tells old new result carried = record {
  carries =
      carries_more _ _ _ (asked_in_script text).may tells old new result (λ cause name may. inr may) carried.carries;
  named = carried.named;
  edited = carried.edited;
  unwritten = carried.unwritten;
  within = record {
    files = record { alone = carried.within.files.alone; anew = carried.within.files.anew };
    few = carried.within.few;
  };
  reads = carried.reads;
  made = carried.made;
  synced = carried.synced;
  unfinished = carried.unfinished;
  untaken = carried.untaken;
  unlinked = carried.unlinked;
  unbegun = carried.unbegun;
}

every_file : (file : Option (List ℕ)) (holds : List ℕ → Type 0) → ((one : List ℕ) → holds one) → IfSome file holds
every_file None holds all = tt
every_file (Some one) holds all = all one

-- as many calls as there were are no more than others
as_many : (most : Option ℕ) (writes : ℕ) → IfSome most (λ (m : ℕ). writes ≤ writes + m)
as_many None writes = tt
as_many (Some m) writes = omega arith

-- there was not enough memory for the words of a line
pub text_wanting : (text : List ℕ) (invocation : Invocation) (tells : RunTells) (old : RunSeen)
    → IsCarriedOut (asked_in_script text) invocation tells old old (Err (refusal_of Memory []))
text_wanting text invocation tells old =
    let asked = asked_in_script text in
    record {
      carries = nothing_carried (asked.steps invocation) asked.uses asked.may tells old (refusal_of Memory [])
          (λ is. cc) tt (inl refl) (placed_nowhere asked.uses (refusal_of Memory []) refl);
      named = every_file asked.replaces _ (λ file told. refl);
      edited = every_file asked.edits _ (λ file told other. inl refl);
      unwritten = λ said memory. record { files = refl; writes = refl };
      within = record { files = only_itself asked old.store.files; few = as_many asked.most_writes old.store.writes };
      reads = tt;
      made = tt;
      synced = λ told. syncs-none old.store;
      unfinished = λ failed. absurd (cc);
      untaken = λ one five. refl;
      unlinked = λ told none. refl;
      unbegun = λ reads stopped none. record { store = refl; out = refl; err = refl; link = refl };
    }
