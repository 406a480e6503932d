-- What the commands over whole files commit: files at one moment, to which their steps come.
use Rattle.std.proofs.Common.{◌≡◌, ◌≤◌, ℕ, Bool, true, false, IsTrue, List, [], ◌∷◌, Option, None, Some, Ok, ⊎_elim}
use Rattle.std.proofs.Common.{refl, sym, subst, arith}
use Rattle.std.specs.Prelude.{⊤}
use Rattle.std.proofs.lemmas.Bool.{false≢true}
use Rattle.quota_types.specs.declared.file_kind.Format.{Format}
use Rattle.quota_types.specs.declared.file_kind.Kind.{Kind}
use Rattle.quota_types.specs.declared.record.Entry.{Entry}
use Rattle.outside.specs.ManyCalls.{replaced_files}
use Rattle.outside.specs.Replacement.{ReplacesOnly, replacement_name}
use Rattle.outside.specs.World.{World, with_file}
use Rattle.outside.proofs.WorldLemmas.{with_file-at}
use Rattle.quota_value.specs.Listed.{ids_of, value_of}
use Rattle.quota_value.specs.QuotaValue.{QuotaValue}
use Rattle.quota_map.specs.Asked.{InFormat}
use Rattle.quota_map.specs.Replacing.{CommitsReplaced, flags_in}
use Rattle.quota_map.specs.Size.{blocks_needed, blocks_of}
use Rattle.quota_map.specs.View.{IsView, most_blocks}
use Rattle.quota_map.proofs.ReplacedLemmas.{replaced-only}
use Rattle.refusals.specs.Outcome.{Outcome}
use Rattle.run_steps.specs.Act.{Act, IsSeenAs, Replace}
use Rattle.run_steps.specs.Committed.{ComesTo, CommitsSteps}
use Rattle.run_steps.specs.Done.{Outside}
use Rattle.run_steps.specs.Steps.{Doing, DoingAll, Finish, Steps, Then}
use Rattle.run_steps.proofs.CommittedLemmas.{comes_behind, comes_first, committed_within, one_committed}
use Rattle.file_commands.specs.declared.file_value.FileValue.{FileValue}
use Rattle.file_commands.specs.Check.{ReplaceSteps}
use Rattle.file_commands.specs.FileValue.{IsInOrder, value_in}
use Rattle.file_commands.proofs.ReplacingLemmas.{needed_of, room_for}

-- Files that steps come to.

-- those behind a replacement of a file by one that is seen as a value
pub comes_replaced : (file : List ℕ) (new : QuotaValue) (next : Steps) (old : Outside) (files : World)
    → IsSeenAs file new files → ReplacesOnly file old.files files
    → ComesTo (Doing (Replace file new) next) old files
comes_replaced file new next old files seen only =
    comes_behind (Replace file new) next old files files (seen, only) (comes_first next (record old { files = files }))

-- where there is room for it
pub comes_fitting : (file : List ℕ) (new : QuotaValue) (old : Outside) (files : World) → blocks_of new ≤ most_blocks
    → IsSeenAs file new files → ReplacesOnly file old.files files
    → ComesTo (ReplaceSteps file (Ok new)) old files
comes_fitting file new old files few seen only =
    subst (λ (o : Outcome (List Act)). ComesTo (Then o (λ (acts : List Act). DoingAll acts Finish)) old files)
    (sym (room_for file new few)) (comes_replaced file new Finish old files seen only)

-- The bytes of a file that is built of a value.

-- what is known of them, by the list of the records
abbrev pub StandsBuilt : FileValue → List Entry → List ℕ → Type 0
StandsBuilt value list bytes =
    (blocks_needed value.format (ids_of list) ≤ most_blocks)
    × (most_blocks ≤ most_blocks
    → IsView (Some bytes) value.kind (InFormat value.format)
    (Ok (value_of value.kind value.format value.grace (flags_in value.format value.flags) list)))

-- there is room for the value
pub built_few : (value : FileValue) (list : List Entry) (bytes : List ℕ) → IsInOrder value → list ≡ value.entries.items
    → StandsBuilt value list bytes → blocks_of (value_in value) ≤ most_blocks
built_few value list bytes order is stands =
    rw (needed_of value order)
    (subst (λ (l : List Entry). blocks_needed value.format (ids_of l) ≤ most_blocks) is stands.0)

-- bytes are seen in the files that have them
pub seen_in : (old : World) (name bytes : List ℕ) (kind : Kind) (format : Format) (value : QuotaValue)
    → IsView (Some bytes) kind (InFormat format) (Ok value)
    → IsView (replaced_files old name bytes name) kind (InFormat format) (Ok value)
seen_in old name bytes kind format value view =
    subst (λ (file : Option (List ℕ)). IsView file kind (InFormat format) (Ok value))
    (sym (with_file-at (with_file old (replacement_name name) None) name (Some bytes))) view

-- the file is seen as the value
pub built_seen : (value : FileValue) (list : List Entry) (bytes file : List ℕ) (old : World)
    → list ≡ value.entries.items → StandsBuilt value list bytes
    → IsSeenAs file (value_in value) (replaced_files old file bytes)
built_seen value list bytes file old is stands =
    seen_in old file bytes value.kind value.format (value_in value)
    (subst (λ (l : List Entry). IsView (Some bytes) value.kind (InFormat value.format)
    (Ok (value_of value.kind value.format value.grace (flags_in value.format value.flags) l))) is
    (stands.1 (omega arith)))

-- What is committed.

-- where nothing was, it is the files of the end, if it ended well, and otherwise those of the start
none_committed : (ended : Bool) (steps : Steps) (name : List ℕ) (old : Outside) (new : World)
    (commits : List World → Type 0) → ((worlds : List World) → commits [] → commits worlds)
    → (IsTrue ended → ComesTo steps old new) → ReplacesOnly name old.files new → commits []
    → CommitsSteps ⊤ ended steps (ReplacesOnly name old.files) old new commits
none_committed true steps name old new commits more last only none =
    one_committed ⊤ true steps (ReplacesOnly name old.files) old new new commits (more (new ∷ []) none) (last refl)
    only (λ well. refl)
none_committed false steps name old new commits more last only none =
    one_committed ⊤ false steps (ReplacesOnly name old.files) old new old.files commits (more (old.files ∷ []) none)
    (comes_first steps old) (λ other differ differs. refl)
    (λ well. absurd (false≢true well))

-- where steps come to the files with a new one in the place of another, and it was at most that one which was committed
pub replaced_committed : (ended : Bool) (steps : Steps) (name : List ℕ) (stands : List ℕ → Type 0) (old : Outside)
    (new : World) (commits : List World → Type 0)
    → ((worlds : List World) → commits [] → commits worlds)
    → ((bytes : List ℕ) → stands bytes → ComesTo steps old (replaced_files old.files name bytes))
    → (IsTrue ended → ComesTo steps old new) → ReplacesOnly name old.files new
    → CommitsReplaced ended name stands old.files new commits
    → CommitsSteps ⊤ ended steps (ReplacesOnly name old.files) old new commits
replaced_committed ended steps name stands old new commits more comes last only committed =
    ⊎_elim
    (λ none. none_committed ended steps name old new commits more last only none)
    (λ once. one_committed ⊤ ended steps (ReplacesOnly name old.files) old new
    (replaced_files old.files name once.bytes) commits once.commits_it (comes once.bytes once.stands_so)
    (replaced-only old.files name once.bytes) (λ well. sym (once.told well)))
    committed

-- what steps commit behind others that only looked is committed by all of them
pub committed_since : (ended : Bool) (next steps : Steps) (file : List ℕ) (start old : Outside) (new : World)
    (commits wide : List World → Type 0) → start.files ≡ old.files
    → ((worlds : List World) → commits worlds → wide worlds)
    → ((world : World) → ComesTo next (record start { files = old.files }) world → ComesTo steps old world)
    → CommitsSteps ⊤ ended next (ReplacesOnly file start.files) start new commits
    → CommitsSteps ⊤ ended steps (ReplacesOnly file old.files) old new wide
committed_since ended next steps file start old new commits wide same more comes those =
    committed_within ⊤ ⊤ ended ended next steps (ReplacesOnly file old.files) (ReplacesOnly file old.files)
    (record start { files = old.files }) old new commits wide (λ single. single) (λ well. well) more comes
    (λ world may. may)
    (subst (λ (files : World).
    CommitsSteps ⊤ ended next (ReplacesOnly file files) (record start { files = files }) new commits) same those)
