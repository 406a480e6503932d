-- Steps that were done in part.
use Rattle.std.proofs.Common.{◌≡◌, ◌≢◌, ◌⊎◌, ℕ, Bool, true, false, IsTrue, List, [], ◌∷◌, ◌++◌, take, Option, None}
use Rattle.std.proofs.Common.{Some, Ok, inl, inr, refl, sym, ap, subst, ◌∙◌, append-nil}
use Rattle.std.proofs.lemmas.Bool.{false≢true}
use Rattle.std.proofs.lemmas.Option.{none-some}
use Rattle.outside.specs.Count.{Rose}
use Rattle.outside.specs.Seen.{SinkSeen, SourceSeen, StoreSeen}
use Rattle.outside.specs.Text.{AppendsPrefix}
use Rattle.outside.specs.World.{World}
use Rattle.refusals.specs.declared.cause.Cause.{Cause}
use Rattle.refusals.specs.declared.cause.Cause.TheVariants.{SinkFault}
use Rattle.refusals.specs.declared.reason.Refusal.{Refusal}
use Rattle.run_steps.specs.Act.{Act, Change, Replace, ToErr, ToOut, Follows, FollowsInPart, out_bytes, err_bytes}
use Rattle.run_steps.specs.Done.{IsLater, IsUnwritten, IsWorldTold, Outside, RunSeen, RunTells, outside_of}
use Rattle.run_steps.specs.Carrying.{AreDoneInPart, CarriesOut, AreDoneThen}
use Rattle.run_steps.specs.Meaning.{EndsBy, HasBegun}
use Rattle.run_steps.specs.OneCommand.{IsFirstPart, LooksFirstBy, UnlessFull}
use Rattle.run_steps.specs.Run.{FailsAtHand, HasSteps, IsDoneInPart, Uses}
use Rattle.run_steps.specs.Steps.{Steps}
use Rattle.run_steps.proofs.ActLemmas.{appends_nothing, none_appended, none_in_part}
use Rattle.run_steps.proofs.MeaningLemmas.{begun_follow, ended_begun, first_part, looks_same, unbegun}
use Rattle.run_steps.proofs.RoomLemmas.{unless_full}
use Rattle.run_steps.specs.Writes.{WritesInPart}
use Rattle.run_steps.proofs.WritesLemmas.{writes_for-before, writes_for-same, writes_in_part, writes_in_part-next}

-- an output that failed since a later moment failed since an earlier one
pub fails_before : (hand : List Act) (out out' err err' : Type 0) → (out → out') → (err → err')
    → FailsAtHand hand out err → FailsAtHand hand out' err'
fails_before (ToOut bytes ∷ acts) out out' err err' more_out more_err failed = more_out failed
fails_before (ToErr bytes ∷ acts) out out' err err' more_out more_err failed = more_err failed
fails_before _ out out' err err' more_out more_err failed = absurd failed

-- nothing was done
pub nothing_begun : {why : Option Cause} (steps : Steps) (tells : RunTells) (old new : RunSeen) → why ≢ Some SinkFault
    → new.store.files ≡ old.store.files → (IsTrue tells.out → new.out.written ≡ old.out.written)
    → (IsTrue tells.err → new.err.written ≡ old.err.written) → new.link.answers ≡ old.link.answers
    → new.link.started ≡ old.link.started → new.link.left ≡ old.link.left → new.store.writes ≡ old.store.writes
    → IsDoneInPart steps tells why old new
nothing_begun steps tells old new other files out err sent started left writes =
    let start = unbegun steps (outside_of old) in
    record {
      done = [];
      hand = start.0;
      now = outside_of old;
      begun = start.1;
      files = none_in_part start.0 old.store.files new.store.files files;
      out = λ told. appends_nothing (old.out.written ++ []) new.out.written (out_bytes start.0)
          (out told ∙ sym (append-nil old.out.written));
      err = λ told. appends_nothing (old.err.written ++ []) new.err.written (err_bytes start.0)
          (err told ∙ sym (append-nil old.err.written));
      answered = sent ∙ sym (append-nil old.link.answers);
      started = started;
      datagrams = left;
      writes = writes_in_part start.0 start.0 old.store.writes new.store.writes
          (writes_for-same start.0 old.store.writes new.store.writes writes);
      failed = λ is told. absurd (other is);
    }

-- what was done whole was done in part
pub whole_begun : (steps : Steps) (tells : RunTells) (refusal : Option Refusal) (old new : RunSeen)
    → HasSteps steps tells refusal old new → IsDoneInPart steps tells None old new
whole_begun steps tells refusal old new has = record {
  done = has.acts;
  hand = [];
  now = outside_of new;
  begun = ended_begun steps (outside_of old) has.acts (outside_of new) refusal has.by_steps;
  files = refl;
  out = λ told. appends_nothing (old.out.written ++ out_bytes has.acts) new.out.written [] (has.done.out told);
  err = λ told. appends_nothing (old.err.written ++ err_bytes has.acts) new.err.written [] (has.done.err told);
  answered = has.done.answered;
  started = has.done.started;
  datagrams = refl;
  writes = writes_in_part [] (has.acts ++ []) old.store.writes new.store.writes
      (writes_for-before has.acts [] old.store.writes new.store.writes has.done.writes);
  failed = λ is told. absurd (none-some SinkFault is);
}

-- a command whose steps ended with no refusal was carried out
pub carried_whole : (steps : Steps) (uses : Uses) (may : Cause → List ℕ → Type 0) (tells : RunTells) (old new : RunSeen)
    (passed : Unit {0})
    → (IsWorldTold tells → HasSteps steps tells None old new) → (uses.changes ≡ false → IsUnwritten old.store new.store)
    → (uses.warns ≡ false → new.err ≡ old.err) → IsLater old new
    → CarriesOut steps uses may tells old new (Ok passed)
carried_whole steps uses may tells old new passed has unwritten quiet later = record {
  done = has;
  refused = tt;
  part = λ told. whole_begun steps tells None old new (has told);
  may_refuse = tt;
  placed = tt;
  only_reads = unwritten;
  all_or_nothing = λ whole. tt;
  quiet = quiet;
  later = later;
}

-- Steps were done in part where steps were that they lead to, once the store was read and the input was used.
pub part_from : {why : Option Cause} (next steps : Steps) (tells : RunTells) (old : RunSeen) (store : StoreSeen)
    (input : SourceSeen) (new : RunSeen)
    → store.writes ≡ old.store.writes
    → ((done hand : List Act) (now : Outside)
    → HasBegun next (outside_of (record old { store = store; input = input })) done hand now
    → HasBegun steps (outside_of old) done hand now)
    → IsDoneInPart next tells why (record old { store = store; input = input }) new
    → IsDoneInPart steps tells why old new
part_from next steps tells old store input new same leads part = record {
  done = part.done;
  hand = part.hand;
  now = part.now;
  begun = leads part.done part.hand part.now part.begun;
  files = part.files;
  out = part.out;
  err = part.err;
  answered = part.answered;
  started = part.started;
  datagrams = part.datagrams;
  writes = subst (λ (w : ℕ). WritesInPart part.hand (part.done ++ part.hand) w new.store.writes) same part.writes;
  failed = part.failed;
}

-- acts of which the first ones were done have begun
acts_begun : (done rest : List Act) (end : Option Refusal) (from : Outside) (files : World)
    → Follows done from.files files
    → HasBegun (AreDoneThen (done ++ rest) end) from done (take 1 rest) (record from { files = files })
acts_begun [] [] end from files same =
    record { done_none = refl; at_hand = refl; same = ap (λ (w : World). record from { files = w }) same }
acts_begun [] (act ∷ rest) end from files same =
    inl (record { done_none = refl; at_hand = refl; same = ap (λ (w : World). record from { files = w }) same })
acts_begun (act ∷ done) rest end from files follows =
    inr (done, follows.0, refl, follows.1, acts_begun done rest end (record from { files = follows.0 }) files follows.2)

-- of acts that follow in part only the first counts
first_in_part : (rest : List Act) (old new : World) → FollowsInPart rest old new → FollowsInPart (take 1 rest) old new
first_in_part (Change way name value ∷ rest) old new follows = follows
first_in_part (Replace name value ∷ rest) old new follows = follows
first_in_part [] old new follows = follows
first_in_part (_ ∷ rest) old new follows = follows

all_in_part : (rest : List Act) (old new : World) → FollowsInPart (take 1 rest) old new → FollowsInPart rest old new
all_in_part (Change way name value ∷ rest) old new follows = follows
all_in_part (Replace name value ∷ rest) old new follows = follows
all_in_part [] old new follows = follows
all_in_part (_ ∷ rest) old new follows = follows

-- acts that were done in part are steps that were done in part
pub acts_in_part : {why : Option Cause} (acts : List Act) (end : Option Refusal) (tells : RunTells) (old new : RunSeen)
    → new.link.left ≡ old.link.left
    → (part : AreDoneInPart tells acts old new)
    → (why ≡ Some SinkFault → IsTrue tells.err
    → FailsAtHand (take 1 part.rest) (Rose old.out.faults new.out.faults) (Rose old.err.faults new.err.faults))
    → IsDoneInPart (AreDoneThen acts end) tells why old new
acts_in_part acts end tells old new left part failed = record {
  done = part.done;
  hand = take 1 part.rest;
  now = record (outside_of old) { files = part.files.0 };
  begun =
      subst (λ (a : List Act). HasBegun (AreDoneThen a end) (outside_of old) part.done (take 1 part.rest)
      (record (outside_of old) { files = part.files.0 })) (sym part.whole)
      (acts_begun part.done part.rest end (outside_of old) part.files.0 part.files.1);
  files = first_in_part part.rest part.files.0 new.store.files part.files.2;
  out = part.out;
  err = part.err;
  answered = part.answered;
  started = part.started;
  datagrams = left;
  writes = part.writes;
  failed = failed;
}

-- so for another cause, unless it is that an output failed
pub part_but_output : {why other : Option Cause} (steps : Steps) (tells : RunTells) (old new : RunSeen)
    → other ≢ Some SinkFault → IsDoneInPart steps tells why old new → IsDoneInPart steps tells other old new
part_but_output steps tells old new not part = record {
  done = part.done;
  hand = part.hand;
  now = part.now;
  begun = part.begun;
  files = part.files;
  out = part.out;
  err = part.err;
  answered = part.answered;
  started = part.started;
  datagrams = part.datagrams;
  writes = part.writes;
  failed = λ is told. absurd (not is);
}

-- what the error output got does not count where it is left out
pub part_but_err : {why : Option Cause} (steps : Steps) (tells : RunTells) (old new : RunSeen) (said : SinkSeen)
    → IsDoneInPart steps tells why old new
    → IsDoneInPart steps (record tells { err = false }) None old (record new { err = said })
part_but_err steps tells old new said part = record {
  done = part.done;
  hand = part.hand;
  now = part.now;
  begun = part.begun;
  files = part.files;
  out = part.out;
  err = λ told. absurd (false≢true told);
  answered = part.answered;
  started = part.started;
  datagrams = part.datagrams;
  writes = part.writes;
  failed = λ is told. absurd (none-some SinkFault is);
}

-- What was done in part of one command is a first part of every end of it.

-- what is at hand is nothing, or the first of the rest
hand_in_part : (hand rest : List Act) (old new : World) → (hand ≡ []) ⊎ (hand ≡ take 1 rest)
    → FollowsInPart hand old new → FollowsInPart rest old new
hand_in_part hand rest old new (inl none) follows =
    none_in_part rest old new (subst (λ (a : List Act). FollowsInPart a old new) none follows)
hand_in_part hand rest old new (inr first) follows =
    all_in_part rest old new (subst (λ (a : List Act). FollowsInPart a old new) first follows)

hand_prefix : (bytes_of : List Act → List ℕ) (hand rest : List Act) (old new : List ℕ) → bytes_of [] ≡ []
    → (hand ≡ []) ⊎ (hand ≡ take 1 rest) → AppendsPrefix old new (bytes_of hand)
    → AppendsPrefix old new (bytes_of (take 1 rest))
hand_prefix bytes_of hand rest old new nothing (inl none) prefix =
    appends_nothing old new (bytes_of (take 1 rest))
    (none_appended old new (subst (λ (b : List ℕ). AppendsPrefix old new b) (ap bytes_of none ∙ nothing) prefix))
hand_prefix bytes_of hand rest old new nothing (inr first) prefix =
    subst (λ (a : List Act). AppendsPrefix old new (bytes_of a)) first prefix

hand_writes : (done hand rest : List Act) (old new : ℕ) → (hand ≡ []) ⊎ (hand ≡ take 1 rest)
    → WritesInPart hand (done ++ hand) old new → WritesInPart (take 1 rest) (done ++ take 1 rest) old new
hand_writes done hand rest old new (inl none) writes =
    writes_in_part-next (take 1 rest) done old new
    (subst (λ (a : List Act). WritesInPart [] a old new) (append-nil done)
    (subst (λ (a : List Act). WritesInPart a (done ++ a) old new) none writes))
hand_writes done hand rest old new (inr first) writes =
    subst (λ (a : List Act). WritesInPart a (done ++ a) old new) first writes

pub part_of_end : {why : Option Cause} (rooms : Bool) (steps : Steps) (tells : RunTells) (old new : RunSeen)
    (acts : List Act) (to : Outside) (refusal : Option Refusal) → LooksFirstBy rooms true true steps
    → IsDoneInPart steps tells why old new
    → EndsBy steps (outside_of old) acts to refusal → UnlessFull rooms refusal (AreDoneInPart tells acts old new)
part_of_end rooms steps tells old new acts to refusal looks part ends =
    unless_full rooms refusal refusal (λ full. full) (λ (first : IsFirstPart part.done part.hand acts). record {
      done = part.done;
      rest = first.rest;
      whole = first.whole;
      files = (
        part.now.files,
        begun_follow steps (outside_of old) part.done part.hand part.now part.begun,
        hand_in_part part.hand first.rest part.now.files new.store.files first.next part.files,
      );
      out = λ told. hand_prefix out_bytes part.hand first.rest (old.out.written ++ out_bytes part.done) new.out.written
          refl first.next (part.out told);
      err = λ told. hand_prefix err_bytes part.hand first.rest (old.err.written ++ err_bytes part.done) new.err.written
          refl first.next (part.err told);
      answered = part.answered;
      started = part.started;
      writes = hand_writes part.done part.hand first.rest old.store.writes new.store.writes first.next part.writes;
    })
    (first_part rooms true true steps (outside_of old) (outside_of old) part.done part.hand acts part.now to refusal
    looks (looks_same true true (outside_of old)) part.begun ends)
