-- A connection, from its first piece to its last one.
use Rattle.std.proofs.Common.{◌≡◌, ℕ, ◌+◌, ◌-◌, ◌≤◌, false, List, [], ◌++◌, length, take, drop, Option, Some, refl, sym}
use Rattle.std.proofs.Common.{ap, ◌∙◌, append_assoc, length-append, arith}
use Rattle.std.specs.Option.{option_map}
use Rattle.std.proofs.lemmas.Bool.{false≢true}
use Rattle.std.proofs.lemmas.List.{append-nil, take_all}
use Rattle.std.proofs.Math.Seq.{take-append-add, take-append_seam}
use Rattle.network.specs.Connections.{Arrival, Connection, accepted, unread, with_failed_read, with_failed_write}
use Rattle.network.specs.Connections.{with_taken, with_written}
use Rattle.rpc_marks.specs.Marker.{front_at}
use Rattle.rpc_marks.specs.Records.{front_of, records_in}
use Rattle.rpc_marks.specs.declared.marker.Marker.{Marker}
use Rattle.rpc_marks.proofs.MarkerLemmas.{records-nothing, records-start}
use Rattle.rquota_serve.specs.ExportedValues.{ExportedValues}
use Rattle.rpc_record.specs.Answers.{answers_of, answers_to}
use Rattle.rpc_record.specs.Hearing.{Answers, AnswersInPart, TakesPiece, awaited_at, nothing_awaited}
use Rattle.rpc_record.specs.Serving.{Begins, IsBegun, IsServed}

-- a connection that came so, of which so many bytes were taken, and on which these were written; nothing failed
abbrev pub hearing : Arrival → (taken : ℕ) → (written : List ℕ) → Connection
hearing arrival taken written = record {
  moment = arrival.moment;
  bytes = arrival.bytes;
  taken = taken;
  written = written;
  read_failed = false;
  write_failed = false;
}

-- The open connection came so, and these bytes of it were heard. What they are to have was written, and the marker
-- gives what comes behind them.
pub record IsHearing (serves : ExportedValues → Type 0) (now : ℕ) (arrival : Arrival) (marker : Marker) (left : ℕ)
    (current : Option Connection) : Type 0 where
  pub heard : List ℕ
  pub written : List ℕ
  pub is : current ≡ Some (hearing arrival (length heard) written)
  pub front : arrival.bytes ≡ heard ++ drop (length heard) arrival.bytes
  pub few : length heard + left ≡ 16777216
  pub awaited : (exported : ExportedValues) → serves exported → (bytes : List ℕ)
      → answers_to exported now (records_in (heard ++ bytes)) ≡ written ++ awaited_at now marker exported bytes

-- nothing was heard yet
pub hearing-start : (serves : ExportedValues → Type 0) (now : ℕ) (arrival : Arrival) (marker : Marker)
    (current : Option Connection)
    → ((bytes : List ℕ) → front_at marker bytes ≡ front_of bytes) → current ≡ Some (accepted arrival)
    → IsHearing serves now arrival marker 16777216 current
hearing-start serves now arrival marker current anew is = record {
  heard = [];
  written = [];
  is = is;
  front = refl;
  few = refl;
  awaited = λ exported serve bytes. ap (answers_to exported now) (sym (records-start marker anew bytes));
}

-- the open connection behind a piece, before it was heard
pub behind-piece : (serves : ExportedValues → Type 0) (now : ℕ) (arrival : Arrival) (marker : Marker) (left : ℕ)
    (piece : List ℕ) (old new : Option Connection)
    → (so_far : IsHearing serves now arrival marker left old) → TakesPiece piece old new
    → (new ≡ Some (hearing arrival (length so_far.heard + length piece) so_far.written))
    × (arrival.bytes ≡ so_far.heard ++ (piece ++ drop (length so_far.heard + length piece) arrival.bytes))
behind-piece serves now arrival marker left piece old new so_far takes =
    let is : new ≡ Some (hearing arrival (length so_far.heard + length piece) so_far.written) =
    takes.taken ∙ ap (option_map (with_taken (length piece))) so_far.is in (
      is,
      so_far.front ∙ ap (λ (l : List ℕ). so_far.heard ++ l)
          (sym (ap unread so_far.is) ∙ takes.bytes ∙ ap (λ (c : Option Connection). piece ++ unread c) is),
    )

-- a piece was heard
pub hearing-more : (serves : ExportedValues → Type 0) (now : ℕ) (arrival : Arrival) (marker next : Marker) (left : ℕ)
    (piece : List ℕ) (old between new : Option Connection)
    → length piece ≤ left → IsHearing serves now arrival marker left old → TakesPiece piece old between
    → Answers serves piece (awaited_at now marker) (awaited_at now next) between new
    → IsHearing serves now arrival next (left - length piece) new
hearing-more serves now arrival marker next left piece old between new fits so_far takes answers =
    let at = behind-piece serves now arrival marker left piece old between so_far takes in
    let size : length so_far.heard + length piece ≡ length (so_far.heard ++ piece) =
    sym (length-append so_far.heard piece) in
    record {
      heard = so_far.heard ++ piece;
      written = so_far.written ++ answers.written;
      is = answers.current ∙ ap (option_map (with_written answers.written)) at.0
          ∙ ap (λ (n : ℕ). Some (hearing arrival n (so_far.written ++ answers.written))) size;
      front = at.1 ∙ sym (append_assoc so_far.heard piece (drop (length so_far.heard + length piece) arrival.bytes))
          ∙ ap (λ (n : ℕ). (so_far.heard ++ piece) ++ drop n arrival.bytes) size;
      few = omega (arith, so_far.few, size, fits);
      awaited = λ exported serve bytes.
          ap (λ (l : List ℕ). answers_to exported now (records_in l)) (append_assoc so_far.heard piece bytes)
          ∙ so_far.awaited exported serve (piece ++ bytes)
          ∙ ap (λ (l : List ℕ). so_far.written ++ l) (answers.awaited exported serve bytes)
          ∙ sym (append_assoc so_far.written answers.written (awaited_at now next exported bytes));
    }

-- Ends.

-- what was written are the answers of what was heard
written-heard : (serves : ExportedValues → Type 0) (now : ℕ) (arrival : Arrival) (marker : Marker) (left : ℕ)
    (current : Option Connection) (so_far : IsHearing serves now arrival marker left current)
    (exported : ExportedValues) → serves exported → (bytes : List ℕ) → take 16777216 bytes ≡ so_far.heard
    → so_far.written ≡ answers_of exported bytes now
written-heard serves now arrival marker left current so_far exported serve bytes cut =
    sym (append-nil so_far.written)
    ∙ ap (λ (l : List (List ℕ)). so_far.written ++ answers_to exported now l) (sym (records-nothing marker))
    ∙ sym (so_far.awaited exported serve [])
    ∙ ap (λ (l : List ℕ). answers_to exported now (records_in l)) (append-nil so_far.heard ∙ sym cut)

-- bytes of which all were heard
all-heard : (heard bytes : List ℕ) → length heard ≤ 16777216 → bytes ≡ heard → take 16777216 bytes ≡ heard
all-heard heard bytes few is = ap (take 16777216) is ∙ take_all 16777216 heard few

-- bytes of which as many were heard as may be
most-heard : (heard bytes behind : List ℕ) → length heard ≡ 16777216 → bytes ≡ heard ++ behind
    → take 16777216 bytes ≡ heard
most-heard heard bytes behind most is =
    ap (take 16777216) is ∙ ap (λ (n : ℕ). take n (heard ++ behind)) (sym most) ∙ take-append_seam heard behind

-- it ended
pub served-end : (serves : ExportedValues → Type 0) (now : ℕ) (arrival : Arrival) (marker : Marker) (left : ℕ)
    (piece : List ℕ) (old new : Option Connection)
    → now ≡ arrival.moment → IsHearing serves now arrival marker left old → TakesPiece piece old new → unread old ≡ []
    → IsServed serves arrival new
served-end serves now arrival marker left piece old new came so_far takes end = record {
  connection = hearing arrival (length so_far.heard + length piece) so_far.written;
  is = (behind-piece serves now arrival marker left piece old new so_far takes).0;
  came = refl;
  few = omega (arith, so_far.few, ap length (sym end ∙ takes.bytes), length-append piece (unread new));
  answered = λ exported serve. record {
    whole = λ read write.
        written-heard serves now arrival marker left old so_far exported serve arrival.bytes
        (all-heard so_far.heard arrival.bytes (omega (arith, so_far.few))
        (so_far.front ∙ ap (λ (l : List ℕ). so_far.heard ++ l) (sym (ap unread so_far.is) ∙ end)
        ∙ append-nil so_far.heard))
        ∙ ap (answers_of exported arrival.bytes) came;
    unread = λ no. absurd (false≢true no);
    unwritten = λ no. absurd (false≢true no);
  };
}

-- as many bytes were taken of it as may be
pub served-full : (serves : ExportedValues → Type 0) (now : ℕ) (arrival : Arrival) (marker : Marker) (left : ℕ)
    (current : Option Connection)
    → now ≡ arrival.moment → left ≤ 0 → IsHearing serves now arrival marker left current
    → IsServed serves arrival current
served-full serves now arrival marker left current came none so_far = record {
  connection = hearing arrival (length so_far.heard) so_far.written;
  is = so_far.is;
  came = refl;
  few = omega (arith, so_far.few);
  answered = λ exported serve. record {
    whole = λ read write.
        written-heard serves now arrival marker left current so_far exported serve arrival.bytes
        (most-heard so_far.heard arrival.bytes (drop (length so_far.heard) arrival.bytes)
        (omega (arith, so_far.few, none)) so_far.front)
        ∙ ap (answers_of exported arrival.bytes) came;
    unread = λ no. absurd (false≢true no);
    unwritten = λ no. absurd (false≢true no);
  };
}

-- a read on it failed
pub served-unread : (serves : ExportedValues → Type 0) (now : ℕ) (arrival : Arrival) (marker : Marker) (left : ℕ)
    (old new : Option Connection)
    → now ≡ arrival.moment → IsHearing serves now arrival marker left old → new ≡ option_map with_failed_read old
    → IsServed serves arrival new
served-unread serves now arrival marker left old new came so_far failed = record {
  connection = with_failed_read (hearing arrival (length so_far.heard) so_far.written);
  is = failed ∙ ap (option_map with_failed_read) so_far.is;
  came = refl;
  few = omega (arith, so_far.few);
  answered = λ exported serve. record {
    whole = λ read write. absurd (false≢true (sym read));
    unread = λ read.
        written-heard serves now arrival marker left old so_far exported serve
        (take (length so_far.heard) arrival.bytes)
        (all-heard so_far.heard (take (length so_far.heard) arrival.bytes) (omega (arith, so_far.few))
        (ap (take (length so_far.heard)) so_far.front
        ∙ take-append_seam so_far.heard (drop (length so_far.heard) arrival.bytes)))
        ∙ ap (answers_of exported (take (length so_far.heard) arrival.bytes)) came;
    unwritten = λ no. absurd (false≢true no);
  };
}

-- the first bytes of those that begin so
cut-behind : (front behind : List ℕ) → length front ≤ 16777216
    → (rest : List ℕ) × (take 16777216 (front ++ behind) ≡ front ++ rest)
cut-behind front behind few =
    let more : 16777216 ≡ length front + (16777216 - length front) = omega (arith, few) in (
      take (16777216 - length front) behind,
      ap (λ (n : ℕ). take n (front ++ behind)) more ∙ take-append-add front behind (16777216 - length front),
    )

-- the records of a connection of which a further piece was taken, as they stand behind what was heard
cut-piece : (now : ℕ) (exported : ExportedValues) (heard piece behind bytes : List ℕ)
    → length heard + length piece ≤ 16777216 → bytes ≡ heard ++ (piece ++ behind)
    → (rest : List ℕ)
    × (answers_of exported bytes now ≡ answers_to exported now (records_in (heard ++ (piece ++ rest))))
cut-piece now exported heard piece behind bytes few is =
    let cut = cut-behind (heard ++ piece) behind (omega (arith, length-append heard piece, few)) in (
      cut.0,
      ap (λ (l : List ℕ). answers_to exported now (records_in l))
          (ap (take 16777216) (is ∙ sym (append_assoc heard piece behind)) ∙ cut.1 ∙ append_assoc heard piece cut.0),
    )

-- a record of it is too long
pub served-long : (serves : ExportedValues → Type 0) (now : ℕ) (arrival : Arrival) (marker : Marker) (left : ℕ)
    (piece : List ℕ) (old between new : Option Connection)
    → now ≡ arrival.moment → length piece ≤ left → IsHearing serves now arrival marker left old
    → TakesPiece piece old between → Answers serves piece (awaited_at now marker) nothing_awaited between new
    → IsServed serves arrival new
served-long serves now arrival marker left piece old between new came fits so_far takes answers =
    let at = behind-piece serves now arrival marker left piece old between so_far takes in
    record {
      connection = hearing arrival (length so_far.heard + length piece) (so_far.written ++ answers.written);
      is = answers.current ∙ ap (option_map (with_written answers.written)) at.0;
      came = refl;
      few = omega (arith, so_far.few, fits);
      answered = λ exported serve. record {
        whole = λ read write.
            let cut = cut-piece now exported so_far.heard piece
            (drop (length so_far.heard + length piece) arrival.bytes) arrival.bytes
            (omega (arith, so_far.few, fits)) at.1 in
            sym (cut.1 ∙ so_far.awaited exported serve (piece ++ cut.0)
            ∙ ap (λ (l : List ℕ). so_far.written ++ l)
            (answers.awaited exported serve cut.0 ∙ append-nil answers.written))
            ∙ ap (answers_of exported arrival.bytes) came;
        unread = λ no. absurd (false≢true no);
        unwritten = λ no. absurd (false≢true no);
      };
    }

-- a part of what a piece is to have was written
begins-part : (serves : ExportedValues → Type 0) (now : ℕ) (arrival : Arrival) (marker : Marker) (left : ℕ)
    (piece : List ℕ) (change : List ℕ → Connection → Connection) (old between new : Option Connection)
    → now ≡ arrival.moment → length piece ≤ left → (so_far : IsHearing serves now arrival marker left old)
    → TakesPiece piece old between → (part : AnswersInPart serves piece (awaited_at now marker) change between new)
    → (exported : ExportedValues) → serves exported
    → Begins (so_far.written ++ part.written) (answers_of exported arrival.bytes arrival.moment)
begins-part serves now arrival marker left piece change old between new came fits so_far takes part exported serve =
    let at = behind-piece serves now arrival marker left piece old between so_far takes in
    let cut = cut-piece now exported so_far.heard piece (drop (length so_far.heard + length piece) arrival.bytes)
    arrival.bytes (omega (arith, so_far.few, fits)) at.1 in
    let rest = part.awaited exported serve cut.0 in (
      rest.0,
      ap (answers_of exported arrival.bytes) (sym came) ∙ cut.1 ∙ so_far.awaited exported serve (piece ++ cut.0)
          ∙ ap (λ (l : List ℕ). so_far.written ++ l) rest.1
          ∙ sym (append_assoc so_far.written part.written rest.0),
    )

-- a write on it failed
pub served-unwritten : (serves : ExportedValues → Type 0) (now : ℕ) (arrival : Arrival) (marker : Marker) (left : ℕ)
    (piece : List ℕ) (old between new : Option Connection)
    → now ≡ arrival.moment → length piece ≤ left → IsHearing serves now arrival marker left old
    → TakesPiece piece old between → AnswersInPart serves piece (awaited_at now marker) with_failed_write between new
    → IsServed serves arrival new
served-unwritten serves now arrival marker left piece old between new came fits so_far takes part =
    let at = behind-piece serves now arrival marker left piece old between so_far takes in
    record {
      connection = with_failed_write part.written (hearing arrival (length so_far.heard + length piece) so_far.written);
      is = part.current ∙ ap (option_map (with_failed_write part.written)) at.0;
      came = refl;
      few = omega (arith, so_far.few, fits);
      answered = λ exported serve. record {
        whole = λ read write. absurd (false≢true (sym write));
        unread = λ no. absurd (false≢true no);
        unwritten = λ failed. begins-part serves now arrival marker left piece with_failed_write old between new came
            fits so_far takes part exported serve;
      };
    }

-- an exported file failed
pub begun-part : (serves : ExportedValues → Type 0) (now : ℕ) (arrival : Arrival) (marker : Marker) (left : ℕ)
    (piece : List ℕ) (old between new : Option Connection)
    → now ≡ arrival.moment → length piece ≤ left → IsHearing serves now arrival marker left old
    → TakesPiece piece old between → AnswersInPart serves piece (awaited_at now marker) with_written between new
    → IsBegun serves arrival new
begun-part serves now arrival marker left piece old between new came fits so_far takes part =
    let at = behind-piece serves now arrival marker left piece old between so_far takes in
    record {
      connection = hearing arrival (length so_far.heard + length piece) (so_far.written ++ part.written);
      is = part.current ∙ ap (option_map (with_written part.written)) at.0;
      came = refl;
      few = omega (arith, so_far.few, fits);
      answered =
          begins-part serves now arrival marker left piece with_written old between new came fits so_far takes part;
    }
