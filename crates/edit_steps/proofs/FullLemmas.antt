-- What comes of steps that are refused since a file is full, which those before an edit never are.
use Rattle.std.proofs.Common.{◌≡◌, ℕ, ◌<◌, Bool, true, false, cond, List, length, Option, None, Some, Ok, refl, sym, ap}
use Rattle.std.proofs.Common.{subst, ◌∙◌}
use Rattle.std.specs.Prelude.{⊤, nat_lt}
use Rattle.std.proofs.lemmas.Bool.{false≢true}
use Rattle.id_names.specs.NamesFile.{NameLine, bad_line, names_in}
use Rattle.quota_types.specs.declared.file_kind.Kind.{Kind}
use Rattle.quota_value.specs.QuotaValue.{QuotaValue}
use Rattle.input_text.specs.InputLeft.{left_from}
use Rattle.outside.specs.World.{World}
use Rattle.opened_file.specs.declared.quota_file.OpenFault.{OpenFault}
use Rattle.opened_file.specs.declared.quota_file.OpenFault.TheVariants.{Store}
use Rattle.quota_map.specs.Asked.{Asked}
use Rattle.quota_map.specs.View.{IsView, most_blocks}
use Rattle.set_edit.specs.Editing.{Edit}
use Rattle.refusals.specs.declared.cause.Cause.{Cause}
use Rattle.refusals.specs.declared.cause.Cause.TheVariants.{Full}
use Rattle.refusals.specs.declared.reason.Refusal.{Refusal}
use Rattle.refusals.specs.Outcome.{Outcome, Passed, Refused}
use Rattle.run_steps.specs.Act.{Act}
use Rattle.quota_map.specs.Size.{blocks_after}
use Rattle.run_steps.specs.Done.{Outside}
use Rattle.run_steps.specs.Meaning.{EndsBy}
use Rattle.run_steps.specs.Naming.{most_names, names_of_file, names_seen, unless_bad}
use Rattle.run_steps.specs.Opening.{opening_cause}
use Rattle.run_steps.specs.Steps.{Steps, Then}
use Rattle.run_steps.specs.Taking.{Taking, file_said, input_said}
use Rattle.edit_steps.specs.EditStep.{is_too_large}
use Rattle.edit_steps.specs.Fits.{IsFullFor}
use Rattle.edit_steps.proofs.EditFileLemmas.{both_of, less_of}

-- the cause is that a file is full
abbrev pub is_full : Cause → Bool
is_full (Full blocks limit) = true
is_full _ = false

-- an outcome that is refused for other causes alone
abbrev pub NeverFull : {V : Type 0} → Outcome V → Type 0
NeverFull (Passed value) = ⊤
NeverFull (Refused refusal) = is_full refusal.cause ≡ false

-- a refusal for another cause is none for this one
other_cause : {R : Type 0} (refusal : Refusal) (blocks limit : ℕ) → refusal.cause ≡ Full blocks limit
    → is_full refusal.cause ≡ false → R
other_cause refusal blocks limit is never = absurd (false≢true (sym never ∙ ap is_full is))

-- the same, of a refusal that is another one
pub other_refusal : {R : Type 0} (refusal other : Refusal) (blocks limit : ℕ) → refusal.cause ≡ Full blocks limit
    → Some refusal ≡ Some other → is_full other.cause ≡ false → R
other_refusal refusal other blocks limit is same never =
    let one : refusal ≡ other = cc in
    other_cause refusal blocks limit is (ap (λ (r : Refusal). is_full r.cause) one ∙ never)

never_if : {V : Type 0} (test : Bool) (one other : Outcome V) → NeverFull one → NeverFull other
    → NeverFull (cond test one other)
never_if true one other a b = a
never_if false one other a b = b

never_bad : (name : List ℕ) (bad : Option ℕ) (lines : List NameLine) → NeverFull (unless_bad name bad lines)
never_bad name None lines = tt
never_bad name (Some line) lines = refl

never_file : (kind : Kind) (name : List ℕ) (file : Option (List ℕ)) → NeverFull (names_of_file kind name file)
never_file kind name None = refl
never_file kind name (Some bytes) =
    never_if (nat_lt most_names (length bytes)) _ (unless_bad name (bad_line kind bytes) (names_in kind bytes)) refl
    (never_bad name (bad_line kind bytes) (names_in kind bytes))

pub never_names : (kind : Kind) (names : Option (List ℕ)) (files : World) → NeverFull (names_seen kind names files)
never_names kind None files = tt
never_names kind (Some name) files = never_file kind name (files name)

never_file_said : {V : Type 0} (name : List ℕ) (read : List ℕ → Outcome V) → ((bytes : List ℕ) → NeverFull (read bytes))
    → (file : Option (List ℕ)) → NeverFull (file_said name read file)
never_file_said name read each None = refl
never_file_said name read each (Some bytes) = each (left_from (Some bytes) 0)

pub never_opened : (fault : OpenFault) → is_full (opening_cause fault) ≡ false
never_opened Store = refl
never_opened _ = refl

-- What comes behind them.

pub then_passed : {V : Type 0} (outcome : Outcome V) (next : V → Steps) (old : Outside) (acts : List Act)
    (new : Outside) (refusal : Refusal) (blocks limit : ℕ) → refusal.cause ≡ Full blocks limit → NeverFull outcome
    → EndsBy (Then outcome next) old acts new (Some refusal)
    → (value : V) × (outcome ≡ Passed value) × EndsBy (next value) old acts new (Some refusal)
then_passed (Passed value) next old acts new refusal blocks limit is never ends = (value, refl, ends)
then_passed (Refused other) next old acts new refusal blocks limit is never ends =
    other_refusal refusal other blocks limit is ends.ends never

pub taking_passed : {V : Type 0} (from : Option (List ℕ)) (is_whole : V → Bool) (read : List ℕ → Outcome V)
    (next : V → Steps) (old : Outside) (acts : List Act) (new : Outside) (refusal : Refusal) (blocks limit : ℕ)
    → refusal.cause ≡ Full blocks limit → ((bytes : List ℕ) → NeverFull (read bytes))
    → EndsBy (Taking from is_whole read next) old acts new (Some refusal)
    → (value : V) × (left : List ℕ) × (input_said from read old.files old.input ≡ Passed value)
    × EndsBy (next value) (record old { input = left }) acts new (Some refusal)
taking_passed None is_whole read next old acts new refusal blocks limit is never ends =
    let passed = then_passed (read old.input) next (record old { input = ends.0 }) acts new refusal blocks limit is
    (never old.input) ends.2 in
    (passed.0, ends.0, passed.1, passed.2)
taking_passed (Some name) is_whole read next old acts new refusal blocks limit is never ends =
    let passed = then_passed (file_said name read (old.files name)) next old acts new refusal blocks limit is
    (never_file_said name read never (old.files name)) ends in
    (passed.0, old.input, passed.1, passed.2)

-- The edit of a value.

-- what is said of a value for which there is no room
pub full_for : (kind : Kind) (asked : Asked) (file : List ℕ) (edit : Edit) (value new : QuotaValue) (files : World)
    (refusal said : Refusal) (blocks limit : ℕ) → IsView (files file) kind asked (Ok value)
    → edit.edited value ≡ Ok new → edit.is_idle value ≡ false → is_too_large edit (files file) new ≡ true
    → refusal.cause ≡ Full blocks limit → Some refusal ≡ Some said
    → said.cause ≡ Full (blocks_after (files file) new) most_blocks → said.name ≡ file
    → (refusal.name ≡ file) × IsFullFor kind asked edit (files file) blocks limit
full_for kind asked file edit value new files refusal said blocks limit view set idle large is same cause name =
    let one : refusal ≡ said = cc in
    let needed = blocks_after (files file) new in
    let numbers : Full blocks limit ≡ Full needed most_blocks = sym is ∙ ap (λ (r : Refusal). r.cause) one ∙ cause in
    let needs : blocks ≡ needed = cc in
    let allowed : limit ≡ most_blocks = cc in
    let more = both_of edit.needs_room (nat_lt most_blocks needed) large in
    let passes : most_blocks < needed = less_of most_blocks needed more.1 in (
      ap (λ (r : Refusal). r.name) one ∙ name,
      record {
        value = value;
        new = new;
        seen = view;
        edited = set;
        wanted = idle;
        changes = more.0;
        needs = needs;
        allowed = allowed;
        passes = subst (λ (l : ℕ). l < blocks) (sym allowed) (subst (λ (b : ℕ). most_blocks < b) (sym needs) passes);
      },
    )
