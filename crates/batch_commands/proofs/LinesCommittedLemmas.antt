-- What edits of lines commit: files that their steps come to.
use Rattle.std.proofs.Common.{◌≡◌, ◌≤◌, ⊎_elim, arith, inl, inr, Bool, true, IsTrue, ℕ, ◌+◌, List, [], ◌∷◌, ◌++◌}
use Rattle.std.proofs.Common.{Option, None, Some, Result, sym, ap, subst, ◌∙◌, refl, append-nil, length-append}
use Rattle.std.specs.Prelude.{All, IsOkAnd, ⊤}
use Rattle.std.proofs.lemmas.List.Elements.{All-append, All-cons, All-nil, All-weaker}
use Rattle.quota_value.specs.QuotaValue.{QuotaValue}
use Rattle.id_names.specs.NamesFile.{NameLine}
use Rattle.outside.specs.Frame.{OnlyReads}
use Rattle.outside.specs.ManyCalls.{replaced_files}
use Rattle.outside.specs.Replacement.{ReplacesOnly, replacement_name}
use Rattle.outside.specs.Seen.{Datagram, LinkSeen, SourceSeen, StoreSeen}
use Rattle.outside.specs.World.{KeepsOthers, World, with_file}
use Rattle.outside.proofs.WorldLemmas.{with_file-same}
use Rattle.opened_file.specs.Committed.{CommitsOnce}
use Rattle.quota_map.specs.Asked.{Asked}
use Rattle.quota_map.proofs.ReplacedLemmas.{replaced-only}
use Rattle.refusals.specs.declared.reason.Refusal.{Refusal}
use Rattle.refusals.specs.Outcome.{Outcome, Passed}
use Rattle.run_steps.specs.Act.{Act, Change, Together, Way}
use Rattle.run_steps.specs.Committed.{ComesTo, CommitsSteps}
use Rattle.run_steps.specs.Done.{Outside, outside_of, seen_of, tells_of}
use Rattle.run_steps.specs.Meaning.{HasBegun}
use Rattle.run_steps.specs.Steps.{Doing, DoingAll, Steps, Then}
use Rattle.run_steps.specs.Taking.{input_said}
use Rattle.run_steps.proofs.CommittedLemmas.{comes_last, comes_same, comes_taking, committed_within, looked_committed}
use Rattle.run_steps.proofs.CommittedLemmas.{one_committed}
use Rattle.run_steps.proofs.MeaningLemmas.{sure_ends, unbegun}
use Rattle.run_steps.proofs.RowLemmas.{LeadsBy}
use Rattle.run_steps.proofs.TakingLemmas.{HasTaken}
use Rattle.set_edit.specs.Editing.{Edit}
use Rattle.edit_steps.specs.EditStep.{value_left}
use Rattle.edit_steps.proofs.CommittedLemmas.{IsStepped}
use Rattle.edit_steps.proofs.EditLemmas.{IsMade, acts_of}
use Rattle.batch_commands.specs.declared.batch_line.LineEdit.{LineEdit}
use Rattle.batch_commands.specs.declared.together.Attempt.{Attempt}
use Rattle.batch_commands.specs.declared.together.Attempt.TheVariants.{Ended, NotMade}
use Rattle.batch_commands.specs.declared.together.Edited.{Edited}
use Rattle.batch_commands.specs.AtOnce.{MakeTogether}
use Rattle.batch_commands.specs.Batch.{Applying, AskedEdits, ReadSteps, batch_step, edit_of, is_to_end, met_at}
use Rattle.batch_commands.specs.Batch.{way_behind, way_of}
use Rattle.batch_commands.specs.BatchReading.{LineSteps}
use Rattle.batch_commands.specs.FullForLines.{AllFit}
use Rattle.batch_commands.specs.LinesCommitted.{ComeInTurn, CommitsEach, CommitsFrom, CommitsUpTo}
use Rattle.batch_commands.specs.Together.{IfEnded, IsMadeInMemory, StandsAlone, memory_seen, refusal_in}
use Rattle.batch_commands.proofs.BatchLemmas.{AreMade, lines_add, made_more, made_none, more_acts, none_acts}
use Rattle.batch_commands.proofs.SoundLemmas.{lines_sure}
use Rattle.batch_commands.proofs.MemoryLemmas.{no_link, no_sink, no_source}
use Rattle.batch_commands.proofs.OverLemmas.{lines_over}
use Rattle.batch_commands.proofs.TogetherLemmas.{only_file-at}

-- nothing was committed, and no file was changed
pub unchanged_committed : (once : Type 0) (ended : Bool) (steps : Steps) (file : List ℕ) (old new : World)
    (commits : List World → Type 0) → ((worlds : List World) → commits [] → commits worlds)
    → commits [] → new ≡ old → CommitsFrom once ended steps (ReplacesOnly file old) old new commits
unchanged_committed once ended steps file old new commits more none same = λ input datagrams.
    looked_committed once ended steps (ReplacesOnly file old)
    (record { files = old; input = input; datagrams = datagrams }) new commits more none same
    (λ other differ differs. refl)

-- Moments in turn.

-- what comes behind moments in turn
turn_on : (steps : Steps) (old : Outside) (first middle last : List Act) (worlds more : List World)
    → ComeInTurn steps old first middle worlds → ComeInTurn steps old middle last more
    → ComeInTurn steps old first last (worlds ++ more)
turn_on steps old first middle last [] more same behind =
    subst (λ (acts : List Act). ComeInTurn steps old acts last more) same behind
turn_on steps old first middle last (world ∷ worlds) more (to, acts, is, turn) behind =
    (to, acts, is, turn_on steps old to.done middle last worlds more turn behind)

-- steps come to the files of each
turn_reached : (steps : Steps) (old : Outside) (first last : List Act) (worlds : List World)
    → ComeInTurn steps old first last worlds → All (ComesTo steps old) worlds
turn_reached steps old first last [] same = All-nil (ComesTo steps old)
turn_reached steps old first last (world ∷ worlds) (to, acts, is, turn) =
    All-cons (ComesTo steps old) world worlds to (turn_reached steps old to.done last worlds turn)

-- Lines whose edits were made in their place, one after another.

-- The edits of the lines before these were made, and what was committed comes in turn up to behind the acts of theirs.
abbrev pub AreCommitted : (way : Way) (file : List ℕ) (now : ℕ) (lines rest : List LineEdit) (start : QuotaValue)
    (made : ℕ) (old store : StoreSeen) (holds : QuotaValue → Type 0)
    → (commits : List World → Type 0) → Type 0
AreCommitted way file now lines rest start made old store holds commits =
    (are : AreMade way file now lines rest start made old store holds)
    × CommitsUpTo (LineSteps way file now lines start) (KeepsOthers file old.files) old.files made are.acts commits

-- none was made yet
pub none_made : {done : Bool} (way : Way) (file : List ℕ) (now : ℕ) (lines : List LineEdit) (start : QuotaValue)
    (name : List ℕ) (old store : StoreSeen) (holds : QuotaValue → Type 0)
    (commits : List World → Type 0) → OnlyReads done name old store → holds start → commits []
    → AreCommitted way file now lines lines start 0 old store holds commits
none_made {done} way file now lines start name old store holds commits reads held none = (
  made_none {done = done} way file now lines start name old store holds reads held,
  record {
    worlds = [];
    commits_them = none;
    few = omega arith;
    within = All-nil (KeepsOthers file old.files);
    turn = λ input datagrams. none_acts {done = done} way file now lines start name old store holds reads held;
  },
)

-- Files that were committed behind those that come in turn.
turn_more : (steps : Steps) (allowed : World → Type 0) (old after : World) (most : ℕ) (first last : List Act)
    (former latter commits : List World → Type 0)
    → ((worlds more : List World) → former worlds → latter more → commits (worlds ++ more))
    → latter (after ∷ []) → allowed after
    → ((input : List ℕ) (datagrams : List Datagram)
    → (to : ComesTo steps (record { files = old; input = input; datagrams = datagrams }) after) × (to.done ≡ last))
    → (more : List Act) → last ≡ first ++ more
    → CommitsUpTo steps allowed old most first former → CommitsUpTo steps allowed old (most + 1) last commits
turn_more steps allowed old after most first last former latter commits on it may to more is those = record {
  worlds = those.worlds ++ after ∷ [];
  few = let all = length-append those.worlds (after ∷ []) in omega (arith, all, those.few);
  commits_them = on those.worlds (after ∷ []) those.commits_them it;
  within = All-append allowed those.worlds (after ∷ []) those.within (All-cons allowed after [] may (All-nil allowed));
  turn = λ input datagrams.
      let from : Outside = record { files = old; input = input; datagrams = datagrams } in
      let there = to input datagrams in
      turn_on steps from [] first last those.worlds (after ∷ []) (those.turn input datagrams)
      (there.0, more, there.1 ∙ is, sym there.1);
}

-- files that come behind acts which lead to the next steps
comes_behind_all : (acts : List Act) (next : Steps) (here : Outside) (steps : Steps) (from : Outside) (files : World)
    → LeadsBy acts next here steps from
    → (to : ComesTo next here files) → (behind : ComesTo steps from files) × (behind.done ≡ acts ++ to.done)
comes_behind_all acts next here steps from files leads to = (
  record {
    done = acts ++ to.done;
    hand = to.hand;
    now = to.now;
    begun = leads.begun to.done to.hand to.now to.begun;
    there = to.there;
  },
  refl,
)

-- those behind all edits that were made
made_comes : (way : Way) (file : List ℕ) (now : ℕ) (lines rest : List LineEdit) (start : QuotaValue) (made : ℕ)
    (old store : StoreSeen) (holds : QuotaValue → Type 0)
    → (are : AreMade way file now lines rest start made old store holds) → (input : List ℕ) (datagrams : List Datagram)
    → (to : ComesTo (LineSteps way file now lines start)
    (record { files = old.files; input = input; datagrams = datagrams }) store.files) × (to.done ≡ are.acts)
made_comes way file now lines rest start made old store holds are input datagrams =
    let steps = LineSteps way file now lines start in
    let from : Outside = record { files = old.files; input = input; datagrams = datagrams } in
    let here : Outside = record from { files = store.files } in
    let at = unbegun (LineSteps are.next file now rest are.value) here in
    let begun = (are.leads from refl).begun [] at.0 here at.1 in (
      record {
        done = are.acts;
        hand = at.0;
        now = here;
        begun = subst (λ (acts : List Act). HasBegun steps from acts at.0 here) (append-nil are.acts) begun;
        there = refl;
      },
      refl,
    )

-- what was committed at most once by an edit was the files that it left
once_committed : (latter : List World → Type 0) (whole : Type 0) (after : World)
    → ((worlds : List World) → latter [] → latter worlds) → CommitsOnce latter whole after → latter (after ∷ [])
once_committed latter whole after more once = ⊎_elim (λ none. more (after ∷ []) none) (λ one. one.0) once

-- one more was made
pub one_more : (way : Way) (file : List ℕ) (now : ℕ) (lines : List LineEdit) (line : LineEdit) (rest : List LineEdit)
    (start : QuotaValue) (made : ℕ) (old before after : StoreSeen) (holds after_holds : QuotaValue → Type 0)
    (told : Type 0) (former latter commits : List World → Type 0) (whole : Type 0) → told
    → (both : AreCommitted way file now lines (line ∷ rest) start made old before holds former)
    → IsMade file (edit_of line now) both.0.value told before after
    → IsOkAnd ((edit_of line now).edited both.0.value) after_holds
    → ((worlds more : List World) → former worlds → latter more → commits (worlds ++ more))
    → ((worlds : List World) → latter [] → latter worlds)
    → CommitsOnce latter whole after.files → KeepsOthers file old.files after.files
    → AreCommitted way file now lines rest start (made + 1) old after after_holds commits
one_more way file now lines line rest start made old before after holds after_holds told former latter commits whole is
    both one held on more once may =
    let are = both.0 in
    let edit = edit_of line now in
    let now_are =
    made_more way file now lines line rest start made old before after holds after_holds told is are one held in (
      now_are,
      turn_more (LineSteps way file now lines start) (KeepsOthers file old.files) old.files after.files made are.acts
          now_are.acts former latter commits on
          (once_committed latter whole after.files more once) may
          (made_comes way file now lines rest start (made + 1) old after after_holds now_are)
          (acts_of are.next file edit are.value)
          (more_acts way file now lines line rest start made old before after holds after_holds told is are one held)
          both.1,
    )

-- The edit of a line that was refused.

-- the acts behind which its edit left the files
abbrev line_acts : (way : Way) (file : List ℕ) (edit : Edit) (value : QuotaValue) (old after : World)
    → IsStepped way file edit value old after → List Act
line_acts way file edit value old after (inl same) = []
line_acts way file edit value old after (inr (new, step, follows)) = Change way file new ∷ []

-- the steps of lines come to the files that the edit of the first one leaves, behind these acts
line_comes : (way : Way) (file : List ℕ) (now : ℕ) (line : LineEdit) (rest : List LineEdit) (value : QuotaValue)
    (old : Outside) (after : World)
    → (stepped : IsStepped way file (edit_of line now) value old.files after)
    → (to : ComesTo (LineSteps way file now (line ∷ rest) value) old after)
    × (to.done ≡ line_acts way file (edit_of line now) value old.files after stepped)
line_comes way file now line rest value old after (inl same) =
    let at = unbegun (LineSteps way file now (line ∷ rest) value) old in
    (record { done = []; hand = at.0; now = old; begun = at.1; there = same }, refl)
line_comes way file now line rest value old after (inr (new, step, follows)) =
    let edit = edit_of line now in
    let next = LineSteps (way_behind way (edit.is_idle value)) file now rest (value_left (edit.edited value) value) in
    let behind = λ (acts : List Act). DoingAll acts next in
    let here : Outside = record old { files = after } in
    let at = unbegun next here in
    let change : HasBegun (Doing (Change way file new) next) old (Change way file new ∷ []) at.0 here =
    inr ([], after, refl, follows, at.1) in (
      record {
        done = Change way file new ∷ [];
        hand = at.0;
        now = here;
        begun = subst (λ (o : Outcome (List Act)).
            HasBegun (Then (met_at line.number o) behind) old (Change way file new ∷ []) at.0 here) (sym step) change;
        there = refl;
      },
      refl,
    )

-- what was committed up to a line, and then by its edit, which was refused
pub refused_committed : (way : Way) (file : List ℕ) (now : ℕ) (lines : List LineEdit) (line : LineEdit)
    (rest : List LineEdit) (start : QuotaValue) (made : ℕ)
    (old before after : StoreSeen) (holds : QuotaValue → Type 0) (former latter commits : List World → Type 0)
    (whole : Type 0)
    → (both : AreCommitted way file now lines (line ∷ rest) start made old before holds former)
    → ((worlds more : List World) → former worlds → latter more → commits (worlds ++ more))
    → ((worlds : List World) → latter [] → latter worlds) → CommitsOnce latter whole after.files
    → (whole → IsStepped both.0.next file (edit_of line now) both.0.value before.files after.files)
    → KeepsOthers file old.files before.files → KeepsOthers file old.files after.files
    → CommitsEach (LineSteps way file now lines start) (KeepsOthers file old.files) old.files (made + 1) commits
refused_committed way file now lines line rest start made old before after holds former latter commits whole both on
    more (inl none) stepped was may =
    let are = both.0 in (
      are.acts,
      turn_more (LineSteps way file now lines start) (KeepsOthers file old.files) old.files before.files made are.acts
          are.acts former latter commits on
          (more (before.files ∷ []) none) was
          (made_comes way file now lines (line ∷ rest) start made old before holds are) []
          (sym (append-nil are.acts)) both.1,
    )
refused_committed way file now lines line rest start made old before after holds former latter commits whole both on
    more (inr (once, is)) stepped was may =
    let are = both.0 in
    let steps = LineSteps way file now lines start in
    let next = LineSteps are.next file now (line ∷ rest) are.value in
    let own = line_acts are.next file (edit_of line now) are.value before.files after.files (stepped is) in (
      are.acts ++ own,
      turn_more steps (KeepsOthers file old.files) old.files after.files made are.acts (are.acts ++ own) former latter
          commits on once may
          (λ input datagrams.
          let from : Outside = record { files = old.files; input = input; datagrams = datagrams } in
          let here : Outside = record from { files = before.files } in
          let there = line_comes are.next file now line rest are.value here after.files (stepped is) in
          let all = comes_behind_all are.acts next here steps from after.files (are.leads from refl) there.0 in
          (all.0, all.1 ∙ ap (λ (done : List Act). are.acts ++ done) there.1))
          own refl both.1,
    )

-- Lines whose edits were made in memory.

-- the file that is put in the place of the one that was read whole is the one behind all edits that were made
pub replaced_committed : (ended : Bool) (others : ℕ) (file : List ℕ) (now : ℕ) (lines : List LineEdit)
    (value : QuotaValue) (bytes : List ℕ) (edited : Edited) (old new : World)
    (commits : List World → Type 0) → StandsAlone old file bytes
    → IsMadeInMemory (LineSteps (Together others) file now lines value) file bytes edited
    → commits (replaced_files old file edited.bytes.items ∷ [])
    → (IsTrue ended → new ≡ replaced_files old file edited.bytes.items)
    → CommitsFrom ⊤ ended (LineSteps (Together others) file now lines value) (ReplacesOnly file old) old new commits
replaced_committed ended others file now lines value bytes edited old new commits alone made once told =
    λ input datagrams.
    let steps = LineSteps (Together others) file now lines value in
    let from : Outside = record { files = old; input = input; datagrams = datagrams } in
    let source : SourceSeen = record no_source { left = input } in
    let link : LinkSeen = record no_link { left = datagrams } in
    let first = outside_of (seen_of (memory_seen file bytes 0) source no_sink no_sink link) in
    let last = outside_of (seen_of (memory_seen file edited.bytes.items edited.writes) source no_sink no_sink link) in
    let refusal = refusal_in edited.lines.ended in
    let has = made source no_sink no_sink link (tells_of true true true true true) in
    let by = lines_over (Together others) file now lines value first from last has.acts refusal
    (alone.named ∙ sym (only_file-at file bytes)) has.by_steps in
    let behind = with_file old file (last.files file) in
    let world = replaced_files old file edited.bytes.items in
    let there : world ≡ behind =
    ap (λ (w : World). with_file w file (Some edited.bytes.items))
    (with_file-same old (replacement_name file) None alone.no_other)
    ∙ ap (λ (f : Option (List ℕ)). with_file old file f) (sym (only_file-at file edited.bytes.items)) in
    one_committed ⊤ ended steps (ReplacesOnly file old) from new world commits once
    (comes_same steps from behind world
    (comes_last steps from has.acts (record from { files = behind }) refusal by) there)
    (replaced-only old file edited.bytes.items) (λ well. sym (told well))

-- a fact of how edits ended that were to be made together, by another
pub ended_weaker : (attempt : Attempt) (P Q : Result (Unit {0}) Refusal → Type 0)
    → ((result : Result (Unit {0}) Refusal) → P result → Q result) → IfEnded attempt P
    → IfEnded attempt Q
ended_weaker (Ended result) P Q weaker is = weaker result is
ended_weaker (NotMade name) P Q weaker is = tt

-- Lines that fit are not refused in memory.
pub fit_unrefused : (others : ℕ) (file : List ℕ) (now : ℕ) (lines : List LineEdit) (value : QuotaValue) (bytes : List ℕ)
    (edited : Edited) (files : World) → files file ≡ Some bytes
    → AllFit (Together others) file now lines files value
    → IsMadeInMemory (LineSteps (Together others) file now lines value) file bytes edited
    → refusal_in edited.lines.ended ≡ None
fit_unrefused others file now lines value bytes edited files named fit made =
    let from : Outside = record { files = files; input = []; datagrams = [] } in
    let first = outside_of
    (seen_of (memory_seen file bytes 0) (record no_source { left = [] }) no_sink no_sink (record no_link {
      left = [];
    })) in
    let last = outside_of
    (seen_of (memory_seen file edited.bytes.items edited.writes) (record no_source { left = [] }) no_sink no_sink
    (record no_link { left = [] })) in
    let has = made (record no_source { left = [] }) no_sink no_sink (record no_link { left = [] })
    (tells_of true true true true true) in
    let by = lines_over (Together others) file now lines value first from last has.acts (refusal_in edited.lines.ended)
    (named ∙ sym (only_file-at file bytes)) has.by_steps in
    sure_ends (LineSteps (Together others) file now lines value) from has.acts
    (record from { files = with_file files file (last.files file) }) (refusal_in edited.lines.ended)
    (lines_sure (Together others) file now lines value from fit) by

-- Phases before that only looked.

-- what the next steps commit behind a phase that committed nothing, where the steps come to all that these come to
pub phase_committed : (once also : Type 0) (ended last : Bool) (next steps : Steps) (file : List ℕ)
    (old middle new : World) (input left : List ℕ) (datagrams : List Datagram)
    (latter commits : List World → Type 0) → middle ≡ old → (also → once) → (IsTrue last → IsTrue ended)
    → ((worlds : List World) → latter worlds → commits worlds)
    → ((world : World) → ComesTo next (record { files = old; input = left; datagrams = datagrams }) world
    → ComesTo steps (record { files = old; input = input; datagrams = datagrams }) world)
    → CommitsSteps once ended next (ReplacesOnly file middle)
    (record { files = middle; input = left; datagrams = datagrams }) new latter
    → CommitsSteps also last steps (ReplacesOnly file old)
    (record { files = old; input = input; datagrams = datagrams }) new commits
phase_committed once also ended last next steps file old middle new input left datagrams latter commits same single well
    more comes those =
    committed_within once also ended last next steps (ReplacesOnly file old) (ReplacesOnly file old)
    (record { files = old; input = left; datagrams = datagrams })
    (record { files = old; input = input; datagrams = datagrams }) new latter commits single well more comes
    (λ world may. may)
    (subst (λ (w : World). CommitsSteps once ended next (ReplacesOnly file w)
    (record { files = w; input = left; datagrams = datagrams }) new latter) same those)

-- edits behind calls that only looked
pub looked_before : (once also : Type 0) (ended : Bool) (steps : Steps) (file : List ℕ) (old middle new : World)
    (latter commits : List World → Type 0)
    → middle ≡ old → (also → once) → ((worlds : List World) → latter worlds → commits worlds)
    → CommitsFrom once ended steps (ReplacesOnly file middle) middle new latter
    → CommitsFrom also ended steps (ReplacesOnly file old) old new commits
looked_before once also ended steps file old middle new latter commits same single more those = λ input datagrams.
    phase_committed once also ended ended steps steps file old middle new input input datagrams latter commits same
    single (λ well. well) more (λ world to. to) (those input datagrams)

-- edits in their place change the one file alone, and are not made together
pub placed_committed : (once : Type 0) (ended : Bool) (steps : Steps) (file : List ℕ) (old new : World) (edits : ℕ)
    (commits : List World → Type 0) → (once → ⊥)
    → CommitsEach steps (KeepsOthers file old) old edits commits
    → CommitsFrom once ended steps (ReplacesOnly file old) old new commits
placed_committed once ended steps file old new edits commits apart (last, those) = λ input datagrams.
    let from : Outside = record { files = old; input = input; datagrams = datagrams } in
    record {
      worlds = those.worlds;
      commits_them = those.commits_them;
      reached = turn_reached steps from [] last those.worlds (those.turn input datagrams);
      within = All-weaker (KeepsOthers file old) (ReplacesOnly file old)
          (λ world keeps other apart differs. keeps other apart) those.worlds those.within;
      one = λ is. absurd (apart is);
    }

-- as many edits, or more
pub each_fewer : (steps : Steps) (allowed : World → Type 0) (old : World) (edits more : ℕ)
    (commits : List World → Type 0) → edits ≤ more → CommitsEach steps allowed old edits commits
    → CommitsEach steps allowed old more commits
each_fewer steps allowed old edits more commits le (last, those) = (
  last,
  record {
    worlds = those.worlds;
    commits_them = those.commits_them;
    few = omega (arith, le, those.few);
    within = those.within;
    turn = those.turn;
  },
)

-- one moment is one where it is asked for
pub once_anyhow : (once : Type 0) (ended : Bool) (steps : Steps) (file : List ℕ) (old new : World)
    (commits : List World → Type 0) → CommitsFrom ⊤ ended steps (ReplacesOnly file old) old new commits
    → CommitsFrom once ended steps (ReplacesOnly file old) old new commits
once_anyhow once ended steps file old new commits those =
    looked_before ⊤ once ended steps file old old new commits commits refl (λ is. tt) (λ worlds it. it) those

-- lines behind which a refusal comes
comes_applying : (file : List ℕ) (now : ℕ) (value : QuotaValue) (asked : AskedEdits) (old : Outside) (files : World)
    → ComesTo (LineSteps (way_of asked.edits) file now asked.edits value) old files
    → ComesTo (Applying file now value asked) old files
comes_applying file now value asked old files to =
    let adds = lines_add (way_of asked.edits) file now asked.edits value asked.refusal in
    record {
      done = to.done;
      hand = to.hand;
      now = to.now;
      begun = adds.begun old to.done to.hand to.now to.begun;
      there = to.there;
    }

-- lines of an input are made together where those that are read are
abbrev pub ReadTogether : (names : List NameLine) (from : Option (List ℕ)) (format : Asked) (file : List ℕ) (now : ℕ)
    (value : QuotaValue) (files : World) (input : List ℕ) → Type 0
ReadTogether names from format file now value files input =
    (asked : AskedEdits) → input_said from (batch_step names from) files input ≡ Passed asked
    → MakeTogether format file now asked.edits files value

-- an input that was read, and the edits of its lines, behind which a refusal may come
pub applied_committed : (ended last : Bool) (names : List NameLine) (from : Option (List ℕ)) (format : Asked)
    (file : List ℕ) (now : ℕ) (value : QuotaValue) (asked : AskedEdits) (old middle new : World)
    (input left : List ℕ) (datagrams : List Datagram) (latter commits : List World → Type 0) → middle ≡ old
    → (IsTrue last → IsTrue ended) → ((worlds : List World) → latter worlds → commits worlds)
    → input_said from (batch_step names from) old input ≡ Passed asked → HasTaken from (is_to_end asked) input left
    → CommitsFrom (MakeTogether format file now asked.edits middle value) ended
    (LineSteps (way_of asked.edits) file now asked.edits value) (ReplacesOnly file middle) middle new latter
    → CommitsSteps (ReadTogether names from format file now value old input) last (ReadSteps names from file now value)
    (ReplacesOnly file old)
    (record { files = old; input = input; datagrams = datagrams }) new commits
applied_committed ended last names from format file now value asked old middle new input left datagrams latter commits
    same well more said taken those =
    let start : Outside = record { files = old; input = input; datagrams = datagrams } in
    phase_committed (MakeTogether format file now asked.edits middle value)
    (ReadTogether names from format file now value old input) ended last
    (LineSteps (way_of asked.edits) file now asked.edits value) (ReadSteps names from file now value)
    file old middle new
    input left datagrams latter commits same
    (λ all. subst (λ (w : World). MakeTogether format file now asked.edits w value) (sym same) (all asked said))
    well more
    (λ world to.
    comes_taking from is_to_end (batch_step names from) (Applying file now value) asked start left world said taken
    (comes_applying file now value asked (record start { input = left }) world to))
    (those left datagrams)
