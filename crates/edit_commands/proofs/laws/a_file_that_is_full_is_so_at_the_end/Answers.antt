use Rattle.edit_commands.proofs.FullLemmas.{form_full, words_full}
use Rattle.edit_commands.proofs.laws.a_file_that_is_full_is_so_at_the_end.Goals as goal

pub returns-clause-words : goal.returns-clause-words
returns-clause-words c common words file invocation old new acts refusal blocks limit ends is =
    words_full common words file invocation old acts new refusal blocks limit ends is

pub returns-clause-form : goal.returns-clause-form
returns-clause-form c common from word file invocation old new acts refusal blocks limit ends is =
    form_full common from word file invocation old acts new refusal blocks limit ends is
