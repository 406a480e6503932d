-- A file for which the edit of a line was refused since it is full is so at the end.
use Rattle.std.proofs.Common.{◌≡◌, inl, inr, ℕ, ◌+◌, Bool, true, false, List, [], ◌∷◌, Option, None, Some, Ok, Err}
use Rattle.std.proofs.Common.{Result, refl, sym, ap, subst}
use Rattle.std.specs.Prelude.{IfSome}
use Rattle.std.proofs.lemmas.Option.{none-some}
use Rattle.id_names.specs.NamesFile.{NameLine}
use Rattle.quota_types.specs.declared.field.Field.{Field}
use Rattle.quota_types.specs.declared.file_kind.Kind.{Kind}
use Rattle.input_text.specs.InputLines.{InputLines, NoLine, LineThen, LongNext, PastNext, input_lines}
use Rattle.quota_value.specs.QuotaValue.{QuotaValue}
use Rattle.input_text.specs.InputLeft.{left_from}
use Rattle.outside.specs.World.{World}
use Rattle.quota_map.specs.Asked.{Asked, asked_of}
use Rattle.quota_map.specs.View.{IsView}
use Rattle.command_words.specs.declared.command.Common.{Common}
use Rattle.refusals.specs.declared.cause.Cause.{Cause}
use Rattle.refusals.specs.declared.cause.Cause.TheVariants.{Full}
use Rattle.refusals.specs.declared.reason.Refusal.{Refusal}
use Rattle.refusals.specs.Outcome.{Outcome, Passed, Refused}
use Rattle.run_steps.specs.Act.{Act, Behind, InPlace, Together, Way}
use Rattle.run_steps.specs.Changing.{written}
use Rattle.quota_map.specs.Size.{blocks_after}
use Rattle.run_steps.specs.Done.{Outside}
use Rattle.run_steps.specs.Meaning.{EndsBy}
use Rattle.run_steps.specs.Naming.{names_seen}
use Rattle.run_steps.specs.Steps.{DoingAll, Opening, Then}
use Rattle.run_steps.specs.Taking.{file_said, input_said}
use Rattle.run_steps.specs.declared.invocation.Invocation.{Invocation}
use Rattle.quota_map.proofs.SeenAgainLemmas.{seen_again}
use Rattle.batch_commands.specs.Batch.{Applying, AskedEdits, BatchSteps, EditsThen, LineMayRefuse, ReadSteps, asks_then}
use Rattle.batch_commands.specs.Batch.{batch_step, edit_of, is_to_end, line_asks, lines_ask, met_at, way_behind, way_of}
use Rattle.batch_commands.specs.BatchReading.{IsOfInputLine}
use Rattle.edit_steps.specs.EditStep.{value_left, changed, is_too_large}
use Rattle.edit_steps.specs.Fits.{IsFullFor}
use Rattle.batch_commands.specs.FullForLines.{IsFullForLine, IsFullForOne}
use Rattle.batch_commands.specs.declared.batch_line.LineEdit.{LineEdit}
use Rattle.batch_commands.proofs.BatchInputLemmas.{asks_line}
use Rattle.edit_steps.proofs.LimitsLemmas.{idle_same, set_format, set_kind}
use Rattle.edit_steps.proofs.OutcomeLemmas.{OnlyRefused}
use Rattle.edit_steps.proofs.FullLemmas.{is_full, NeverFull, other_refusal, never_names, never_opened, then_passed}
use Rattle.edit_steps.proofs.FullLemmas.{taking_passed, full_for}

-- The lines of an input.

never_may : (names : List NameLine) (place : List ℕ) (cause : Cause) (said : List ℕ)
    → LineMayRefuse names place cause said → is_full cause ≡ false
never_may names place (Full blocks limit) said may = absurd may
never_may names place _ said may = refl

never_of_line : {V : Type 0} (names : List NameLine) (place : List ℕ) (outcome : Outcome V)
    → OnlyRefused (IsOfInputLine names place) outcome → NeverFull outcome
never_of_line names place (Passed value) only = tt
never_of_line names place (Refused refusal) only = never_may names place refusal.cause refusal.name only.may

-- a refusal, where there is one, is for another cause
abbrev pub IfOther : Option Refusal → Type 0
IfOther refusal = IfSome refusal (λ (r : Refusal). is_full r.cause ≡ false)

never_then : (outcome : Outcome (Option LineEdit)) (more : AskedEdits) → NeverFull outcome → IfOther more.refusal
    → IfOther (asks_then outcome more).refusal
never_then (Passed None) more one other = other
never_then (Passed (Some edit)) more one other = other
never_then (Refused refusal) more one other = one

never_lines : (names : List NameLine) (place : List ℕ) (lines : InputLines) (number : ℕ)
    → IfOther (lines_ask names place number lines).refusal
never_lines names place NoLine number = tt
never_lines names place (LineThen line more) number =
    never_then (line_asks names place number line) (lines_ask names place (number + 1) more)
    (never_of_line names place (line_asks names place number line) (asks_line names place number line))
    (never_lines names place more (number + 1))
never_lines names place LongNext number = refl
never_lines names place PastNext number = refl

-- Edits of lines.

-- one of these lines, and of one more before them
one_more : (kind : Kind) (asked : Asked) (now : ℕ) (line : LineEdit) (lines : List LineEdit) (file : Option (List ℕ))
    (blocks limit : ℕ) → IsFullForOne kind asked now lines file blocks limit
    → IsFullForOne kind asked now (line ∷ lines) file blocks limit
one_more kind asked now line lines file blocks limit one = record {
  before = line ∷ one.before;
  line = one.line;
  behind = one.behind;
  whole = ap (λ (l : List LineEdit). line ∷ l) one.whole;
  full = one.full;
}

-- the lines behind one of which the edit left this value end so that one of them has no room
abbrev pub RestFull : Way → Kind → Asked → List ℕ → ℕ → List LineEdit → Option Refusal → Outside → Refusal
    → (blocks limit : ℕ) → Type 0
RestFull way kind asked file now lines more to refusal blocks limit =
    (value : QuotaValue) (old : Outside) (acts : List Act) → IsView (old.files file) kind asked (Ok value)
    → EndsBy (EditsThen way file now lines value more) old acts to (Some refusal)
    → (refusal.name ≡ file) × IsFullForOne kind asked now lines (to.files file) blocks limit

line_written : (way after : Way) (kind : Kind) (asked : Asked) (file : List ℕ) (now : ℕ) (line : LineEdit)
    (lines : List LineEdit) (more : Option Refusal) (value new : QuotaValue) (old : Outside)
    (acts : List Act) (to : Outside)
    (refusal : Refusal) (blocks limit : ℕ) → refusal.cause ≡ Full blocks limit
    → RestFull after kind asked file now lines more to refusal blocks limit
    → IsView (old.files file) kind asked (Ok value) → (edit_of line now).edited value ≡ Ok new
    → (idle : Bool) → (edit_of line now).is_idle value ≡ idle → (large : Bool)
    → is_too_large (edit_of line now) (old.files file) new ≡ large
    → EndsBy (Then (met_at line.number (written way file (blocks_after (old.files file) new) new idle large))
    (λ (done : List Act). DoingAll done (EditsThen after file now lines new more))) old acts to (Some refusal)
    → (refusal.name ≡ file) × IsFullForOne kind asked now (line ∷ lines) (to.files file) blocks limit
line_written InPlace after kind asked file now line lines more value new old acts to refusal blocks limit is rest view
    set true idle large over ends =
    let same = idle_same value new line.id line.limits now idle set in
    let found =
    rest new old acts (subst (λ (v : QuotaValue). IsView (old.files file) kind asked (Ok v)) (sym same) view) ends in
    (found.0, one_more kind asked now line lines (to.files file) blocks limit found.1)
line_written (Together others) after kind asked file now line lines more value new old acts to refusal blocks limit is
    rest view set true idle large over ends =
    let same = idle_same value new line.id line.limits now idle set in
    let seen : IsView (ends.1 file) kind asked (Ok value) =
    subst (λ (w : World). IsView (w file) kind asked (Ok value)) (sym ends.3) view in
    let found = rest new (record old { files = ends.1 }) ends.0
    (subst (λ (v : QuotaValue). IsView (ends.1 file) kind asked (Ok v)) (sym same) seen) ends.4 in
    (found.0, one_more kind asked now line lines (to.files file) blocks limit found.1)
line_written Behind after kind asked file now line lines more value new old acts to refusal blocks limit is rest view
    set true idle large over ends =
    let same = idle_same value new line.id line.limits now idle set in
    let seen : IsView (ends.1 file) kind asked (Ok value) =
    subst (λ (w : World). IsView (w file) kind asked (Ok value)) (sym ends.3) view in
    let found = rest new (record old { files = ends.1 }) ends.0
    (subst (λ (v : QuotaValue). IsView (ends.1 file) kind asked (Ok v)) (sym same) seen) ends.4 in
    (found.0, one_more kind asked now line lines (to.files file) blocks limit found.1)
line_written way after kind asked file now line lines more value new old acts to refusal blocks limit is rest view set
    false idle true over ends =
    let full = subst
    (λ (o : Outside). (refusal.name ≡ file) × IsFullFor kind asked (edit_of line now) (o.files file) blocks limit)
    (sym ends.same)
    (full_for kind asked file (edit_of line now) value new old.files refusal _ blocks limit view set idle over is
    ends.ends refl refl) in
    (full.0, record { before = []; line = line; behind = lines; whole = refl; full = full.1 })
line_written way after kind asked file now line lines more value new old acts to refusal blocks limit is rest view set
    false idle false over ends =
    let kinds = set_kind value new line.id line.limits now set in
    let formats = set_format value new line.id line.limits now set in
    let found = rest new (record old { files = ends.1 }) ends.0
    (seen_again kind asked (old.files file) (ends.1 file) value new view kinds formats ends.3.0) ends.4 in
    (found.0, one_more kind asked now line lines (to.files file) blocks limit found.1)

line_full : (way after : Way) (kind : Kind) (asked : Asked) (file : List ℕ) (now : ℕ) (line : LineEdit)
    (lines : List LineEdit) (more : Option Refusal) (value : QuotaValue) (old : Outside)
    (acts : List Act) (to : Outside)
    (refusal : Refusal) (blocks limit : ℕ) → refusal.cause ≡ Full blocks limit
    → RestFull after kind asked file now lines more to refusal blocks limit
    → IsView (old.files file) kind asked (Ok value) → (edited : Result QuotaValue (Field × ℕ))
    → (edit_of line now).edited value ≡ edited
    → EndsBy (Then (met_at line.number (changed way file (edit_of line now) (old.files file) value edited))
    (λ (done : List Act). DoingAll done (EditsThen after file now lines (value_left edited value) more))) old acts
    to (Some refusal)
    → (refusal.name ≡ file) × IsFullForOne kind asked now (line ∷ lines) (to.files file) blocks limit
line_full way after kind asked file now line lines more value old acts to refusal blocks limit is rest view
    (Ok new) set ends =
    line_written way after kind asked file now line lines more value new old acts to refusal blocks limit is rest view
    set ((edit_of line now).is_idle value) refl (is_too_large (edit_of line now) (old.files file) new) refl ends
line_full way after kind asked file now line lines more value old acts to refusal blocks limit is rest view (Err out)
    set ends = other_refusal refusal _ blocks limit is ends.ends refl

-- a refusal for another cause is none of these
other_end : {R : Type 0} (more : Option Refusal) (refusal : Refusal) (blocks limit : ℕ)
    → refusal.cause ≡ Full blocks limit → IfOther more → Some refusal ≡ more → R
other_end None refusal blocks limit is never same = absurd (none-some refusal (sym same))
other_end (Some other) refusal blocks limit is never same = other_refusal refusal other blocks limit is same never

pub applied_full : (way : Way) (kind : Kind) (asked : Asked) (file : List ℕ) (now : ℕ) (lines : List LineEdit)
    (more : Option Refusal) (to : Outside) (refusal : Refusal) (blocks limit : ℕ)
    → refusal.cause ≡ Full blocks limit → IfOther more
    → RestFull way kind asked file now lines more to refusal blocks limit
applied_full way kind asked file now [] more to refusal blocks limit is never =
    λ value old acts view ends. other_end more refusal blocks limit is never ends.ends
applied_full way kind asked file now (line ∷ lines) more to refusal blocks limit is never = λ value old acts view ends.
    let after = way_behind way ((edit_of line now).is_idle value) in
    line_full way after kind asked file now line lines more value old acts to refusal blocks limit is
    (applied_full after kind asked file now lines more to refusal blocks limit is never) view
    ((edit_of line now).edited value) refl ends

applying_full : (common : Common) (from : Option (List ℕ)) (file : List ℕ) (invocation : Invocation)
    (names : List NameLine) (value : QuotaValue) (old : Outside) (acts : List Act) (new : Outside) (refusal : Refusal)
    (blocks limit : ℕ)
    → refusal.cause ≡ Full blocks limit → names_seen common.kind common.names old.files ≡ Passed names
    → IsView (old.files file) common.kind (asked_of common.format) (Ok value)
    → EndsBy (ReadSteps names from file invocation.now value) old acts new (Some refusal)
    → (refusal.name ≡ file) × IsFullForLine common from file invocation.now old new.files blocks limit
applying_full common from file invocation names value old acts new refusal blocks limit is known view ends =
    let said = taking_passed from is_to_end (batch_step names from) (Applying file invocation.now value) old acts new
    refusal blocks limit is (λ bytes. tt) ends in
    let asked = said.0 in
    let never : IfOther asked.refusal = never_asked from (old.files) old.input asked said.2 in
    let one = applied_full (way_of asked.edits) common.kind (asked_of common.format) file invocation.now asked.edits
    asked.refusal new refusal blocks limit is never value (record old { input = said.1 }) acts view said.3 in
    (one.0, record { names = names; asked = asked; known = known; said = said.2; one = one.1 })
  where
    of_passed : (asked other : AskedEdits) → Passed asked ≡ Passed other → IfOther asked.refusal → IfOther other.refusal
    of_passed asked other same never =
        let one : asked ≡ other = cc in subst (λ (a : AskedEdits). IfOther a.refusal) one never

    of_file : (name : List ℕ) (file_there : Option (List ℕ)) (asked : AskedEdits)
        → file_said name (batch_step names (Some name)) file_there ≡ Passed asked → IfOther asked.refusal
    of_file name None asked passed = absurd (cc)
    of_file name (Some bytes) asked passed =
        of_passed _ asked passed (never_lines names name (input_lines 1024 16777216 (left_from (Some bytes) 0)) 1)

    never_asked : (taken : Option (List ℕ)) (files : World) (input : List ℕ) (asked : AskedEdits)
        → input_said taken (batch_step names taken) files input ≡ Passed asked → IfOther asked.refusal
    never_asked None files input asked passed =
        of_passed _ asked passed (never_lines names [] (input_lines 1024 16777216 input) 1)
    never_asked (Some name) files input asked passed = of_file name (files name) asked passed

opened_full : (common : Common) (from : Option (List ℕ)) (file : List ℕ) (invocation : Invocation)
    (names : List NameLine) (old : Outside) (acts : List Act) (new : Outside) (refusal : Refusal) (blocks limit : ℕ)
    → refusal.cause ≡ Full blocks limit → names_seen common.kind common.names old.files ≡ Passed names
    → EndsBy (Opening common.kind (asked_of common.format) file (ReadSteps names from file invocation.now)) old acts
    new (Some refusal)
    → (refusal.name ≡ file) × IsFullForLine common from file invocation.now old new.files blocks limit
opened_full common from file invocation names old acts new refusal blocks limit is known (inl seen) =
    applying_full common from file invocation names seen.0 old acts new refusal blocks limit is known seen.1 seen.2
opened_full common from file invocation names old acts new refusal blocks limit is known (inr bad) =
    other_refusal refusal _ blocks limit is bad.2.ends (never_opened bad.0)

pub lines_full : (common : Common) (from : Option (List ℕ)) (file : List ℕ) (invocation : Invocation) (old : Outside)
    (acts : List Act) (new : Outside) (refusal : Refusal) (blocks limit : ℕ)
    → EndsBy (BatchSteps common from file invocation) old acts new (Some refusal) → refusal.cause ≡ Full blocks limit
    → (refusal.name ≡ file) × IsFullForLine common from file invocation.now old new.files blocks limit
lines_full common from file invocation old acts new refusal blocks limit ends is =
    let opens =
    λ (n : List NameLine). Opening common.kind (asked_of common.format) file (ReadSteps n from file invocation.now) in
    let named = then_passed (names_seen common.kind common.names old.files) opens old acts new refusal blocks limit is
    (never_names common.kind common.names old.files) ends in
    opened_full common from file invocation named.0 old acts new refusal blocks limit is named.1 named.2
