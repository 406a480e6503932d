use Rattle.std.proofs.Common.{inl, inr, ◌∙◌}
use Rattle.outside.proofs.FrameLemmas.{syncs-after_read, syncs-read}
use Rattle.run_steps.proofs.PhaseLemmas.{carries_naming, naming_refused}
use Rattle.edit_commands.proofs.WordLemmas.{faulty_word_given, faulty_word_none}
use Rattle.edit_commands.proofs.print.print_by_word.Goals as goal

pub returns-in-Ok-clause-carries : goal.returns-in-Ok-clause-carries
returns-in-Ok-clause-carries g c = λ input err link input_tells err_tells link_tells now line.
    let read = c.in-Ok.ensures in
    carries_naming _ c.args.common.kind c.args.common.names c.in-Ok.names _ _ _ _ _ _ _ _ _ read.leaves read.read
    (λ cause said may. inr (c.in-Ok.names, read.given, may))
    (c.print_named.ensures.carries input err link input_tells err_tells link_tells)

pub returns-in-Ok-clause-word : goal.returns-in-Ok-clause-word
returns-in-Ok-clause-word g c = λ refusal faulty.
    c.print_named.ensures.word refusal
    (faulty_word_given c.args.word c.args.common.names c.in-Ok.names refusal c.in-Ok.ensures.given faulty)

pub returns-in-Ok-clause-store : goal.returns-in-Ok-clause-store
returns-in-Ok-clause-store g c = λ refusal faulty.
    c.print_named.ensures.store refusal
    (faulty_word_given c.args.word c.args.common.names c.in-Ok.names refusal c.in-Ok.ensures.given faulty)
    ∙ c.in-Ok.ensures.untouched (faulty_word_none c.args.word c.args.common.names refusal faulty)

pub returns-in-Err-clause-carries : goal.returns-in-Err-clause-carries
returns-in-Err-clause-carries g c = λ input err link input_tells err_tells link_tells now line.
    let read = c.in-Err.ensures in
    naming_refused c.args.common.kind c.args.common.names _ _ _ _ _ _ _ read.leaves read.refused read.may
    (λ may. inl may) read.placed

pub returns-in-Err-clause-word : goal.returns-in-Err-clause-word
returns-in-Err-clause-word g c = λ refusal faulty.
    absurd (rw (faulty_word_none c.args.word c.args.common.names refusal faulty) at c.in-Err.ensures.may)

pub returns-in-Err-clause-store : goal.returns-in-Err-clause-store
returns-in-Err-clause-store g c = λ refusal faulty.
    c.in-Err.ensures.untouched (faulty_word_none c.args.word c.args.common.names refusal faulty)

pub returns-in-Ok-clause-synced : goal.returns-in-Ok-clause-synced
returns-in-Ok-clause-synced g c = syncs-after_read _ _ _ _ c.in-Ok.ensures.leaves c.print_named.ensures.synced

pub returns-in-Err-clause-synced : goal.returns-in-Err-clause-synced
returns-in-Err-clause-synced g c = syncs-read _ _ _ c.in-Err.ensures.leaves
