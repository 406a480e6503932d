-- Lines that are written.
use Rattle.std.proofs.Common.{◌≡◌, ℕ, ◌-◌, ◌≤◌, Bool, true, IsTrue, List, [], ◌∷◌, ◌++◌, Result, Ok, Err, refl, ap}
use Rattle.std.proofs.Common.{subst, ◌∙◌, append_assoc, arith}
use Rattle.std.specs.Prelude.{codes, decimal, if◌then◌else◌, OnErr, OnOk}
use Rattle.std.specs.List.{concat}
use Rattle.outside.specs.Seen.{SinkSeen}
use Rattle.outside.specs.declared.sink.SinkFault.{SinkFault}
use Rattle.outside.specs.Count.{Rose}
use Rattle.outside.specs.Text.{AppendsPrefix}
use Rattle.outside.specs.Gathering.{IsGathered}
use Rattle.outside.proofs.CountLemmas.{Rose-since}
use Rattle.outside.proofs.TextLemmas.{appends_front, appends_more}
use Rattle.refusals.proofs.PieceLemmas.{gathered_flushed, prefix_flushed}
use Rattle.quota_client.specs.declared.usage.Usage.{Usage}
use Rattle.quota_client.specs.Line.{block_warning, grace_of}
use Rattle.quota_client.specs.Writing.{Appends, FailsToAppend, Writes}

-- a sink that failed in the first of two texts
pub fails-first : (tells : Bool) (one two : List ℕ) (old new : SinkSeen) → FailsToAppend tells one old new
    → FailsToAppend tells (one ++ two) old new
fails-first tells one two old new fails = record {
  part = λ told. appends_more old.written new.written one two (fails.part told);
  failed = fails.failed;
  later = fails.later;
}

-- the second of two texts
pub writes-second : (tells : Bool) (one two : List ℕ) (old between new : SinkSeen)
    (result : Result (Unit {0}) SinkFault) → Appends tells one old between → Writes tells two between new result
    → Writes tells (one ++ two) old new result
writes-second tells one two old between new (Ok done) first second = record {
  whole =
      λ told. second.whole told ∙ ap (λ (w : List ℕ). w ++ two) (first.whole told) ∙ append_assoc old.written one two;
  later = omega (arith, first.later, second.later);
}
writes-second tells one two old between new (Err fault) first second = record {
  part = λ told. appends_front old.written one new.written two
      (let P : List ℕ → Type 0 = λ w. AppendsPrefix w new.written two in rw (first.whole told) at (second.part told));
  failed = Rose-since old.faults between.faults new.faults first.later second.failed;
  later = omega (arith, first.later, second.later);
}

chosen : (test : Bool) (text : List ℕ) → test ≡ true → text ≡ (if test then text else [])
chosen test text is = rw is refl

-- the line on blocks
pub block_line : (tells : Bool) (path grace : List ℕ) (blocks : Usage) (number : ℕ) (old new : SinkSeen)
    (result : Result (Unit {0}) SinkFault) → blocks.exceeded ≡ true → number ≡ blocks.used - blocks.soft
    → grace ≡ grace_of blocks
    → Writes tells (concat
    (path ∷ codes ": over block limit by " ∷ decimal number ∷ codes " KiB, grace " ∷ grace ∷ codes "\n" ∷ [])) old new
    result → Writes tells (block_warning path blocks) old new result
block_line tells path grace blocks number old new result exceeded by left writes =
    let P : List ℕ → Type 0 = λ text. Writes tells text old new result in
    let told : concat
    (path ∷ codes ": over block limit by " ∷ decimal number ∷ codes " KiB, grace " ∷ grace ∷ codes "\n" ∷ [])
    ≡ concat (path ∷ codes ": over block limit by " ∷ decimal (blocks.used - blocks.soft) ∷ codes " KiB, grace "
    ∷ grace_of blocks ∷ codes "\n" ∷ []) = rw (by, left) refl in
    subst P (told ∙ chosen blocks.exceeded _ exceeded) writes

-- what was gathered is flushed
pub flushed : (tells : Bool) (text : List ℕ) (old between new : SinkSeen) (buffered : List ℕ)
    (result : Result (Unit {0}) SinkFault) → old.faults ≤ between.faults
    → (IsTrue tells → IsGathered old.written text between.written buffered)
    → OnOk result (IsTrue tells → new.written ≡ between.written ++ buffered)
    → OnErr result (IsTrue tells → AppendsPrefix between.written new.written buffered)
    → OnErr result (Rose between.faults new.faults) → between.faults ≤ new.faults → Writes tells text old new result
flushed tells text old between new buffered (Ok done) first gathered ok err cause later = record {
  whole = λ told. gathered_flushed old.written text between.written buffered new.written (gathered told) (ok told);
  later = omega (arith, first, later);
}
flushed tells text old between new buffered (Err fault) first gathered ok err cause later = record {
  part = λ told. prefix_flushed old.written text between.written buffered new.written (gathered told) (err told);
  failed = Rose-since old.faults between.faults new.faults first cause;
  later = omega (arith, first, later);
}
