use Rattle.std.proofs.Common.{inl, inr, ap, ◌∙◌}
use Rattle.std.proofs.lemmas.Result.{IfErr-weaker}
use Rattle.outside.specs.World.{World}
use Rattle.outside.proofs.FrameLemmas.{syncs-after_read, syncs-read}
use Rattle.run_steps.proofs.PhaseLemmas.{carries_naming, naming_refused}
use Rattle.edit_commands.proofs.RefusedEditLemmas.{left_for-read}
use Rattle.edit_commands.proofs.WordLemmas.{faulty_word_given, faulty_word_none}
use Rattle.edit_commands.proofs.AloneLemmas.{edits_alone-after, edits_alone-read}
use Rattle.edit_commands.proofs.CommittedLemmas.{comes_named, committed_since, read_committed}
use Rattle.edit_commands.proofs.apply.apply_by_word.Goals as goal

pub returns-in-Ok-clause-carries : goal.returns-in-Ok-clause-carries
returns-in-Ok-clause-carries g c = λ out link out_tells link_tells.
    let read = c.in-Ok.ensures in
    carries_naming _ c.args.common.kind c.args.common.names c.in-Ok.names _ _ _ _ _ _ _ _ _ read.leaves read.read
    (λ cause said may. inr (c.in-Ok.names, read.given, may))
    (c.apply_named.ensures.carries out link out_tells link_tells)

pub returns-in-Ok-clause-word : goal.returns-in-Ok-clause-word
returns-in-Ok-clause-word g c = λ refusal faulty.
    c.apply_named.ensures.word refusal
    (faulty_word_given c.args.word c.args.common.names c.in-Ok.names refusal c.in-Ok.ensures.given faulty)

pub returns-in-Ok-clause-store : goal.returns-in-Ok-clause-store
returns-in-Ok-clause-store g c = λ refusal faulty.
    c.apply_named.ensures.store refusal
    (faulty_word_given c.args.word c.args.common.names c.in-Ok.names refusal c.in-Ok.ensures.given faulty)
    ∙ c.in-Ok.ensures.untouched (faulty_word_none c.args.word c.args.common.names refusal faulty)

pub returns-in-Ok-clause-synced : goal.returns-in-Ok-clause-synced
returns-in-Ok-clause-synced g c =
    λ told. syncs-after_read _ _ _ _ c.in-Ok.ensures.leaves (c.apply_named.ensures.synced told)

pub returns-in-Err-clause-carries : goal.returns-in-Err-clause-carries
returns-in-Err-clause-carries g c = λ out link out_tells link_tells.
    let read = c.in-Err.ensures in
    naming_refused c.args.common.kind c.args.common.names _ _ _ _ _ _ _ read.leaves read.refused read.may
    (λ may. inl may) read.placed

pub returns-in-Err-clause-word : goal.returns-in-Err-clause-word
returns-in-Err-clause-word g c = λ refusal faulty.
    absurd (rw (faulty_word_none c.args.word c.args.common.names refusal faulty) at c.in-Err.ensures.may)

pub returns-in-Err-clause-store : goal.returns-in-Err-clause-store
returns-in-Err-clause-store g c = λ refusal faulty.
    c.in-Err.ensures.untouched (faulty_word_none c.args.word c.args.common.names refusal faulty)

pub returns-in-Ok-clause-named : goal.returns-in-Ok-clause-named
returns-in-Ok-clause-named g c =
    IfErr-weaker c.apply_named.result _ _
    (λ refusal left told. left_for-read refusal.cause _ _ _
    (ap (λ (w : World). w c.args.file) c.in-Ok.ensures.leaves.files) (left told)) c.apply_named.ensures.named

pub returns-in-Err-clause-named : goal.returns-in-Err-clause-named
returns-in-Err-clause-named g c = λ told. inl (ap (λ (w : World). w c.args.file) c.in-Err.ensures.leaves.files)

pub returns-in-Ok-clause-alone : goal.returns-in-Ok-clause-alone
returns-in-Ok-clause-alone g c =
    edits_alone-after c.args.file _ _ _ _ c.in-Ok.ensures.leaves c.apply_named.ensures.alone

pub returns-in-Err-clause-alone : goal.returns-in-Err-clause-alone
returns-in-Err-clause-alone g c = edits_alone-read c.args.file _ _ _ c.in-Err.ensures.leaves

pub returns-in-Err-clause-synced : goal.returns-in-Err-clause-synced
returns-in-Err-clause-synced g c = λ told. syncs-read _ _ _ c.in-Err.ensures.leaves

pub returns-in-Ok-clause-commits : goal.returns-in-Ok-clause-commits
returns-in-Ok-clause-commits g c = λ datagrams told heard.
    let read = c.in-Ok.ensures in
    committed_since _ _ _ c.args.file _ _ _ _ _ datagrams _ _ read.leaves.files
    (λ worlds it. g.met.S.Store.commits_behind_none worlds _ _ _ read.commits it)
    (λ world to. comes_named c.args.common.kind c.args.common.names c.in-Ok.names _ _ world (read.read told) to)
    (c.apply_named.ensures.commits datagrams told heard)

pub returns-in-Err-clause-commits : goal.returns-in-Err-clause-commits
returns-in-Err-clause-commits g c = λ datagrams told heard.
    read_committed _ c.args.file _ _ _ (λ worlds. g.met.S.Store.commits_more worlds _ _) c.in-Err.ensures.commits
    c.in-Err.ensures.leaves.files
