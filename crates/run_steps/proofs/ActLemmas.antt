-- Acts in a row, and acts that were done in part.
use Rattle.std.proofs.Common.{◌≡◌, ℕ, Bool, IsTrue, List, [], ◌∷◌, ◌++◌, take, Option, None, Some, inl, refl, sym, ap}
use Rattle.std.proofs.Common.{subst, ◌∙◌, append_assoc, append-nil}
use Rattle.outside.specs.Seen.{SinkSeen, Started, started_at}
use Rattle.outside.specs.Text.{AppendsPrefix}
use Rattle.outside.specs.World.{KeepsOthers, World}
use Rattle.refusals.specs.declared.reason.Refusal.{Refusal}
use Rattle.refusals.specs.Line.{closing_line, error_line}
use Rattle.run_steps.specs.Act.{Act, Behind, InPlace, LeavesOthers, Together, ToOut, ToErr, Start, Answer, Change}
use Rattle.run_steps.specs.Act.{Replace, Way, Follows, FollowsInPart, answers, err_bytes, out_bytes, started_by}
use Rattle.run_steps.specs.Done.{AreDone, RunSeen, RunTells}
use Rattle.run_steps.specs.Carrying.{AreDoneInPart}
use Rattle.run_steps.specs.Meaning.{closing}
use Rattle.run_steps.specs.Writes.{WritesInPart}
use Rattle.run_steps.proofs.WritesLemmas.{writes_for-before, writes_in_part-next}

pub out_bytes-append : (acts more : List Act) → out_bytes (acts ++ more) ≡ out_bytes acts ++ out_bytes more
out_bytes-append [] more = refl
out_bytes-append (ToOut bytes ∷ acts) more =
    ap (λ (b : List ℕ). bytes ++ b) (out_bytes-append acts more)
    ∙ sym (append_assoc bytes (out_bytes acts) (out_bytes more))
out_bytes-append (_ ∷ acts) more = out_bytes-append acts more

pub err_bytes-append : (acts more : List Act) → err_bytes (acts ++ more) ≡ err_bytes acts ++ err_bytes more
err_bytes-append [] more = refl
err_bytes-append (ToErr bytes ∷ acts) more =
    ap (λ (b : List ℕ). bytes ++ b) (err_bytes-append acts more)
    ∙ sym (append_assoc bytes (err_bytes acts) (err_bytes more))
err_bytes-append (_ ∷ acts) more = err_bytes-append acts more

pub answers-append : (acts more : List Act) → answers (acts ++ more) ≡ answers acts ++ answers more
answers-append [] more = refl
answers-append (Answer bytes ∷ acts) more = ap (λ (b : List (List ℕ)). bytes ∷ b) (answers-append acts more)
answers-append (_ ∷ acts) more = answers-append acts more

-- after acts and then others a link was started by the ones, and then by the others
pub started_by-append : (acts more : List Act) (before : Started)
    → started_by (acts ++ more) before ≡ started_by more (started_by acts before)
started_by-append [] more before = refl
started_by-append (Start port left ∷ acts) more before = started_by-append acts more (started_at before port left)
started_by-append (_ ∷ acts) more before = started_by-append acts more before

-- files that follow an act and then others
pub follows-append : (acts more : List Act) (old middle new : World) → Follows acts old middle → Follows more middle new
    → Follows (acts ++ more) old new
follows-append [] more old middle new same then = subst (λ (w : World). Follows more w new) same then
follows-append (act ∷ acts) more old middle new first then =
    (first.0, first.1, follows-append acts more first.0 middle new first.2 then)

-- an error line leaves the files
pub follows_closing : (refusal : Option Refusal) (files : World) → Follows (closing refusal) files files
follows_closing None files = refl
follows_closing (Some refusal) files = (files, refl, refl)

pub out_bytes-closing : (refusal : Option Refusal) → out_bytes (closing refusal) ≡ []
out_bytes-closing None = refl
out_bytes-closing (Some refusal) = refl

pub err_bytes-closing : (refusal : Option Refusal) → err_bytes (closing refusal) ≡ closing_line refusal
err_bytes-closing None = refl
err_bytes-closing (Some refusal) = append-nil (error_line refusal)

pub answers-closing : (refusal : Option Refusal) → answers (closing refusal) ≡ []
answers-closing None = refl
answers-closing (Some refusal) = refl

pub started_by-closing : (refusal : Option Refusal) (before : Started) → started_by (closing refusal) before ≡ before
started_by-closing None before = refl
started_by-closing (Some refusal) before = refl

-- files that are as they were follow any acts of which none was begun
pub none_in_part : (acts : List Act) (old new : World) → new ≡ old → FollowsInPart acts old new
none_in_part (Change InPlace name value ∷ acts) old new same =
    (inl (ap (λ (w : World). w name) same), λ other differ. ap (λ (w : World). w other) same)
none_in_part (Change (Together others) name value ∷ acts) old new same =
    (inl (ap (λ (w : World). w name) same), inl (λ other differ. ap (λ (w : World). w other) same))
none_in_part (Change Behind name value ∷ acts) old new same =
    (inl (ap (λ (w : World). w name) same), λ other differ. ap (λ (w : World). w other) same)
none_in_part (Replace name value ∷ acts) old new same =
    (ap (λ (w : World). w name) same, λ other differ differs. ap (λ (w : World). w other) same)
none_in_part _ old new same = same

-- nothing is a prefix of all bytes
pub appends_nothing : (old new bytes : List ℕ) → new ≡ old → AppendsPrefix old new bytes
appends_nothing old new bytes same =
    record { done = []; rest = bytes; appended = same ∙ sym (append-nil old); prefix = refl }

-- files of which more acts were to follow
more_in_part : (rest more : List Act) (middle new : World) → FollowsInPart rest middle new
    → FollowsInPart (rest ++ more) middle new
more_in_part [] more middle new same = none_in_part more middle new same
more_in_part (Change way name value ∷ rest) more middle new kept = kept
more_in_part (Replace name value ∷ rest) more middle new kept = kept
more_in_part (_ ∷ rest) more middle new same = same

-- what is nothing together is nothing
pub nothing_before : (done rest : List ℕ) → done ++ rest ≡ [] → done ≡ []
nothing_before [] rest is = refl
nothing_before (b ∷ done) rest is = absurd (cc)

pub none_appended : (old new : List ℕ) → AppendsPrefix old new [] → new ≡ old
none_appended old new p =
    p.appended ∙ ap (λ (b : List ℕ). old ++ b) (nothing_before p.done p.rest p.prefix) ∙ append-nil old

first_out : (rest more : List Act) (old new : List ℕ) → AppendsPrefix old new (out_bytes (take 1 rest))
    → AppendsPrefix old new (out_bytes (take 1 (rest ++ more)))
first_out [] more old new p = appends_nothing old new (out_bytes (take 1 more)) (none_appended old new p)
first_out (act ∷ rest) more old new p = p

first_err : (rest more : List Act) (old new : List ℕ) → AppendsPrefix old new (err_bytes (take 1 rest))
    → AppendsPrefix old new (err_bytes (take 1 (rest ++ more)))
first_err [] more old new p = appends_nothing old new (err_bytes (take 1 more)) (none_appended old new p)
first_err (act ∷ rest) more old new p = p

first_writes : (done rest more : List Act) (old new : ℕ) → WritesInPart (take 1 rest) (done ++ take 1 rest) old new
    → WritesInPart (take 1 (rest ++ more)) (done ++ take 1 (rest ++ more)) old new
first_writes done [] more old new writes =
    writes_in_part-next (take 1 more) done old new
    (subst (λ (acts : List Act). WritesInPart [] acts old new) (append-nil done) writes)
first_writes done (act ∷ rest) more old new writes = writes

-- whatever its way, an edit that leaves all other files leaves what its way does
pub leaves_others : (way : Way) (name : List ℕ) (old new : World) → KeepsOthers name old new
    → LeavesOthers way name old new
leaves_others InPlace name old new keeps = keeps
leaves_others (Together others) name old new keeps = inl keeps
leaves_others Behind name old new keeps = keeps

-- acts that were done in part are some of more acts
pub part_of_more : (tells : RunTells) (acts more : List Act) (old new : RunSeen) → AreDoneInPart tells acts old new
    → AreDoneInPart tells (acts ++ more) old new
part_of_more tells acts more old new part = record {
  done = part.done;
  rest = part.rest ++ more;
  whole = ap (λ (a : List Act). a ++ more) part.whole ∙ append_assoc part.done part.rest more;
  files = (part.files.0, part.files.1, more_in_part part.rest more part.files.0 new.store.files part.files.2);
  out = λ told. first_out part.rest more (old.out.written ++ out_bytes part.done) new.out.written (part.out told);
  err = λ told. first_err part.rest more (old.err.written ++ err_bytes part.done) new.err.written (part.err told);
  answered = part.answered;
  started = part.started;
  writes = first_writes part.done part.rest more old.store.writes new.store.writes part.writes;
}

pub more_out : (refusal : Option Refusal) (acts : List Act) → out_bytes (acts ++ closing refusal) ≡ out_bytes acts
more_out refusal acts =
    out_bytes-append acts (closing refusal) ∙ ap (λ (b : List ℕ). out_bytes acts ++ b) (out_bytes-closing refusal)
    ∙ append-nil (out_bytes acts)

pub more_err : (refusal : Option Refusal) (acts : List Act)
    → err_bytes (acts ++ closing refusal) ≡ err_bytes acts ++ closing_line refusal
more_err refusal acts =
    err_bytes-append acts (closing refusal) ∙ ap (λ (b : List ℕ). err_bytes acts ++ b) (err_bytes-closing refusal)

pub more_answers : (refusal : Option Refusal) (acts : List Act) → answers (acts ++ closing refusal) ≡ answers acts
more_answers refusal acts =
    answers-append acts (closing refusal) ∙ ap (λ (b : List (List ℕ)). answers acts ++ b) (answers-closing refusal)
    ∙ append-nil (answers acts)

pub more_started : (refusal : Option Refusal) (acts : List Act) (before : Started)
    → started_by (acts ++ closing refusal) before ≡ started_by acts before
more_started refusal acts before =
    started_by-append acts (closing refusal) before ∙ started_by-closing refusal (started_by acts before)

-- Acts were done, and then the error line of a refusal was written, where there is one.
pub done_and_said : (tells : RunTells) (refusal : Option Refusal) (acts : List Act) (old new : RunSeen)
    (said : SinkSeen) (err_tells : Bool)
    → AreDone tells acts old new
    → (IsTrue err_tells → said.written ≡ old.err.written ++ err_bytes (acts ++ closing refusal))
    → AreDone (record tells { err = err_tells }) (acts ++ closing refusal) old (record new { err = said })
done_and_said tells refusal acts old new said err_tells are whole = record {
  files = follows-append acts (closing refusal) old.store.files new.store.files new.store.files are.files
      (follows_closing refusal new.store.files);
  out = λ told. are.out told ∙ ap (λ (b : List ℕ). old.out.written ++ b) (sym (more_out refusal acts));
  err = whole;
  answered = are.answered ∙ ap (λ (b : List (List ℕ)). old.link.answers ++ b) (sym (more_answers refusal acts));
  started = are.started ∙ sym (more_started refusal acts old.link.started);
  writes = writes_for-before acts (closing refusal) old.store.writes new.store.writes are.writes;
}
