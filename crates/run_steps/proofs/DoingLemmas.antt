-- Acts that are done in order, and then a refusal, if there is one; and acts that only change files.
use Rattle.std.proofs.Common.{◌≡◌, ℕ, List, [], ◌∷◌, ◌++◌, take, Option, refl, sym, ap, subst, ◌∙◌, append-nil, Bool}
use Rattle.outside.specs.Frame.{OnlyReads}
use Rattle.outside.specs.Seen.{Started, StoreSeen}
use Rattle.outside.specs.World.{World}
use Rattle.refusals.specs.declared.reason.Refusal.{Refusal}
use Rattle.run_steps.specs.Act.{Act, Follows, FollowsInPart, answers, err_bytes, out_bytes, started_by}
use Rattle.run_steps.specs.Done.{AreDone, Outside, RunSeen, RunTells, outside_of}
use Rattle.run_steps.specs.Carrying.{AreDoneInPart, AreDoneThen}
use Rattle.run_steps.specs.Meaning.{EndsBy}
use Rattle.run_steps.specs.Run.{HasSteps}
use Rattle.run_steps.proofs.ActLemmas.{answers-append, appends_nothing, err_bytes-append, follows-append}
use Rattle.run_steps.proofs.ActLemmas.{out_bytes-append, started_by-append}
use Rattle.run_steps.proofs.OpeningLemmas.{with_store}
use Rattle.run_steps.specs.Writes.{WritesFor}
use Rattle.run_steps.proofs.WritesLemmas.{writes_for-same, writes_for-then, writes_in_part}

-- the end is the stated one
pub doing_ends : (acts : List Act) (end : Option Refusal) (from : Outside) (done : List Act) (to : Outside)
    (ended : Option Refusal) → EndsBy (AreDoneThen acts end) from done to ended → ended ≡ end
doing_ends [] end from done to ended is = is.ends
doing_ends (act ∷ acts) end from done to ended doing =
    doing_ends acts end (record from { files = doing.1 }) doing.0 to ended doing.4

do_then : (acts : List Act) (end : Option Refusal) (from : Outside) (files : World) → Follows acts from.files files
    → EndsBy (AreDoneThen acts end) from acts (record from { files = files }) end
do_then [] end from files same =
    record { acts_none = refl; same = ap (λ (w : World). record from { files = w }) same; ends = refl }
do_then (act ∷ acts) end from files follows =
    (acts, follows.0, refl, follows.1, do_then acts end (record from { files = follows.0 }) files follows.2)

-- acts that were done, and then this end
pub done_steps : (acts : List Act) (end : Option Refusal) (tells : RunTells) (old new : RunSeen)
    → new.input.left ≡ old.input.left → new.link.left ≡ old.link.left → AreDone tells acts old new
    → HasSteps (AreDoneThen acts end) tells end old new
done_steps acts end tells old new input left done = record {
  acts = acts;
  by_steps = subst (λ (o : Outside). EndsBy (AreDoneThen acts end) (outside_of old) acts o end)
      (λ i. record { files = new.store.files; input = sym input i; datagrams = sym left i })
      (do_then acts end (outside_of old) new.store.files done.files);
  done = done;
}

-- Acts that only change files.

-- these acts were done to the store, and nothing else was done
pub record AreWritten (acts : List Act) (old new : StoreSeen) : Type 0 where
  pub files : Follows acts old.files new.files
  pub writes : WritesFor acts old.writes new.writes
  pub out : out_bytes acts ≡ []
  pub err : err_bytes acts ≡ []
  pub answered : answers acts ≡ []
  pub started : (before : Started) → started_by acts before ≡ before

pub written_none : {done : Bool} (name : List ℕ) (old new : StoreSeen) → OnlyReads done name old new
    → AreWritten [] old new
written_none name old new reads = record {
  files = reads.files;
  writes = writes_for-same [] old.writes new.writes reads.writes;
  out = refl;
  err = refl;
  answered = refl;
  started = λ before. refl;
}

-- nothing was done yet
pub written_yet : (seen : StoreSeen) → AreWritten [] seen seen
written_yet seen = record {
  files = refl;
  writes = writes_for-same [] seen.writes seen.writes refl;
  out = refl;
  err = refl;
  answered = refl;
  started = λ before. refl;
}

pub written_both : (acts more : List Act) (old middle new : StoreSeen) → AreWritten acts old middle
    → AreWritten more middle new → AreWritten (acts ++ more) old new
written_both acts more old middle new one two = record {
  files = follows-append acts more old.files middle.files new.files one.files two.files;
  writes = writes_for-then acts more old.writes middle.writes new.writes one.writes two.writes;
  out = out_bytes-append acts more ∙ ap (λ (b : List ℕ). b ++ out_bytes more) one.out ∙ two.out;
  err = err_bytes-append acts more ∙ ap (λ (b : List ℕ). b ++ err_bytes more) one.err ∙ two.err;
  answered = answers-append acts more ∙ ap (λ (b : List (List ℕ)). b ++ answers more) one.answered ∙ two.answered;
  started = λ before. started_by-append acts more before ∙ two.started (started_by acts before) ∙ one.started before;
}

-- they were done
pub done_of : (acts : List Act) (tells : RunTells) (old : RunSeen) (store : StoreSeen) → AreWritten acts old.store store
    → AreDone tells acts old (with_store old store)
done_of acts tells old store written = record {
  files = written.files;
  out = λ told. sym (append-nil old.out.written) ∙ ap (λ (b : List ℕ). old.out.written ++ b) (sym written.out);
  err = λ told. sym (append-nil old.err.written) ∙ ap (λ (b : List ℕ). old.err.written ++ b) (sym written.err);
  answered =
      sym (append-nil old.link.answers) ∙ ap (λ (b : List (List ℕ)). old.link.answers ++ b) (sym written.answered);
  started = sym (written.started old.link.started);
  writes = written.writes;
}

-- they were done, and of the rest the first in part
pub part_of : (acts rest : List Act) (tells : RunTells) (old : RunSeen) (middle store : StoreSeen)
    → AreWritten acts old.store middle → FollowsInPart rest middle.files store.files
    → WritesFor (take 1 rest) middle.writes store.writes → AreDoneInPart tells (acts ++ rest) old (with_store old store)
part_of acts rest tells old middle store written in_part writes = record {
  done = acts;
  rest = rest;
  whole = refl;
  files = (middle.files, written.files, in_part);
  out = λ told. appends_nothing (old.out.written ++ out_bytes acts) old.out.written (out_bytes (take 1 rest))
      (sym (append-nil old.out.written) ∙ ap (λ (b : List ℕ). old.out.written ++ b) (sym written.out));
  err = λ told. appends_nothing (old.err.written ++ err_bytes acts) old.err.written (err_bytes (take 1 rest))
      (sym (append-nil old.err.written) ∙ ap (λ (b : List ℕ). old.err.written ++ b) (sym written.err));
  answered =
      sym (append-nil old.link.answers) ∙ ap (λ (b : List (List ℕ)). old.link.answers ++ b) (sym written.answered);
  started = sym (written.started old.link.started);
  writes = writes_in_part (take 1 rest) (acts ++ take 1 rest) old.store.writes store.writes
      (writes_for-then acts (take 1 rest) old.store.writes middle.writes store.writes written.writes writes);
}
