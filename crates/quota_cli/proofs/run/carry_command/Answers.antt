use Rattle.std.proofs.Common.{Bool, refl, sym, subst}
use Rattle.std.proofs.lemmas.Bool.{false≢true}
use Rattle.std.proofs.lemmas.Option.{none-some}
use Rattle.command_table.specs.Table.{described}
use Rattle.quota_cli.specs.Script.{script_or}
use Rattle.quota_cli.proofs.AskedLemmas.{reads_no_commands}
use Rattle.quota_cli.proofs.run.carry_command.Goals as goal

pub carry_out-requires : goal.carry_out-requires
carry_out-requires g c = record {
  known = subst (λ (b : Bool). (script_or b (described c.args.command)).known) (sym c.if-is_script.ensures) c.requires;
}

pub returns-then-is_script-clause-carries : goal.returns-then-is_script-clause-carries
returns-then-is_script-clause-carries g c = rw (sym c.if-is_script.ensures) c.run_script.ensures.carries

pub returns-then-is_script-clause-stands : goal.returns-then-is_script-clause-stands
returns-then-is_script-clause-stands g c = λ reads. c.run_script.ensures.stands

pub returns-then-is_script-clause-word : goal.returns-then-is_script-clause-word
returns-then-is_script-clause-word g c = rw (sym c.if-is_script.ensures) (λ refusal is. absurd (none-some refusal is))

pub returns-then-is_script-clause-quiet : goal.returns-then-is_script-clause-quiet
returns-then-is_script-clause-quiet g c = rw (sym c.if-is_script.ensures) (λ refusal is. absurd (none-some refusal is))

pub returns-then-is_script-clause-store : goal.returns-then-is_script-clause-store
returns-then-is_script-clause-store g c = rw (sym c.if-is_script.ensures) (λ refusal is. absurd (none-some refusal is))

pub returns-then-is_script-clause-input : goal.returns-then-is_script-clause-input
returns-then-is_script-clause-input g c = rw (sym c.if-is_script.ensures) (λ no. absurd (false≢true (sym no)))

pub returns-then-is_script-clause-out : goal.returns-then-is_script-clause-out
returns-then-is_script-clause-out g c = rw (sym c.if-is_script.ensures) (λ no. absurd (false≢true (sym no)))

pub returns-then-is_script-clause-link : goal.returns-then-is_script-clause-link
returns-then-is_script-clause-link g c = rw (sym c.if-is_script.ensures) (λ no. absurd (false≢true (sym no)))

pub returns-else-is_script-clause-carries : goal.returns-else-is_script-clause-carries
returns-else-is_script-clause-carries g c = rw (sym c.if-is_script.ensures) c.carry_out.ensures.carries

pub returns-else-is_script-clause-stands : goal.returns-else-is_script-clause-stands
returns-else-is_script-clause-stands g c =
    λ reads. absurd (reads_no_commands c.args.command c.if-is_script.ensures reads)

pub returns-else-is_script-clause-word : goal.returns-else-is_script-clause-word
returns-else-is_script-clause-word g c = rw (sym c.if-is_script.ensures) c.carry_out.ensures.word

pub returns-else-is_script-clause-quiet : goal.returns-else-is_script-clause-quiet
returns-else-is_script-clause-quiet g c = rw (sym c.if-is_script.ensures) c.carry_out.ensures.quiet

pub returns-else-is_script-clause-store : goal.returns-else-is_script-clause-store
returns-else-is_script-clause-store g c = rw (sym c.if-is_script.ensures) c.carry_out.ensures.store

pub returns-else-is_script-clause-input : goal.returns-else-is_script-clause-input
returns-else-is_script-clause-input g c = rw (sym c.if-is_script.ensures) c.carry_out.ensures.input

pub returns-else-is_script-clause-out : goal.returns-else-is_script-clause-out
returns-else-is_script-clause-out g c = rw (sym c.if-is_script.ensures) c.carry_out.ensures.out

pub returns-else-is_script-clause-link : goal.returns-else-is_script-clause-link
returns-else-is_script-clause-link g c = rw (sym c.if-is_script.ensures) c.carry_out.ensures.link

pub returns-then-is_script-clause-commits : goal.returns-then-is_script-clause-commits
returns-then-is_script-clause-commits g c =
    rw (sym c.if-is_script.ensures) (λ told. c.run_script.ensures.commits (record {
      store = told.store;
      input = told.input refl;
      link = told.link refl;
    }))

pub returns-else-is_script-clause-commits : goal.returns-else-is_script-clause-commits
returns-else-is_script-clause-commits g c = rw (sym c.if-is_script.ensures) c.carry_out.ensures.commits
