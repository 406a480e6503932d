-- Pieces of a connection that are heard one after another.
use Rattle.std.proofs.Common.{◌≡◌, ℕ, ◌+◌, true, false, List, [], ◌++◌, take, drop, Option, None, Some, Result, Ok, Err}
use Rattle.std.proofs.Common.{OnErr, OnOk, refl, sym, ap, subst, ◌∙◌, append_assoc}
use Rattle.std.proofs.lemmas.Bool.{false≢true}
use Rattle.std.proofs.lemmas.List.{append-nil, take-append-drop}
use Rattle.std.proofs.Math.Seq.{take-add}
use Rattle.std.specs.Option.{option_map}
use Rattle.std.specs.Result.{is_err}
use Rattle.network.specs.Connections.{Connection, FailsToWrite, with_failed_write, with_written}
use Rattle.rpc_marks.specs.Marker.{Takes, body_of, front_at}
use Rattle.rpc_marks.specs.Records.{front_of}
use Rattle.rpc_marks.specs.declared.marker.Marker.{Marker}
use Rattle.rpc_marks.specs.declared.step.Step.TheVariants.{TooLong, Whole}
use Rattle.rpc_marks.proofs.MarkerLemmas.{records-long, records-whole}
use Rattle.rquota_xdr.specs.declared.reply.Reply.{Reply}
use Rattle.rquota_serve.specs.ExportedValues.{ExportedValues}
use Rattle.rquota_serve.specs.Reply.{reply_of}
use Rattle.rpc_record.specs.Answers.{answers_to, reply_bytes}
use Rattle.rpc_record.specs.Hearing.{Answers, AnswersInPart, Awaited, awaited_at, nothing_awaited}

-- Writes on the open connection.

-- nothing was written
pub written-none : (current : Option Connection) → current ≡ option_map (with_written []) current
written-none None = refl
written-none (Some connection) =
    ap (λ (bytes : List ℕ). Some (record connection { written = bytes })) (sym (append-nil connection.written))

-- a change of the open one that writes bytes behind others that were written
abbrev pub WritesBehind : (List ℕ → Connection → Connection) → Type 0
WritesBehind change =
    (first second : List ℕ) (connection : Connection)
    → change second (with_written first connection) ≡ change (first ++ second) connection

pub written-behind : WritesBehind with_written
written-behind first second connection =
    ap (λ (bytes : List ℕ). record connection { written = bytes }) (append_assoc connection.written first second)

pub failed-behind : WritesBehind with_failed_write
failed-behind first second connection =
    ap (λ (bytes : List ℕ). record connection { written = bytes; write_failed = true })
    (append_assoc connection.written first second)

pub changed-behind : (change : List ℕ → Connection → Connection) → WritesBehind change
    → (first second : List ℕ) (old : Option Connection)
    → option_map (change second) (option_map (with_written first) old) ≡ option_map (change (first ++ second)) old
changed-behind change behind first second None = refl
changed-behind change behind first second (Some connection) =
    ap (λ (c : Connection). Some c) (behind first second connection)

-- Pieces.

-- a piece was heard, and then another one
pub answers-then : (serves : ExportedValues → Type 0) (first second : List ℕ) (before between behind : Awaited)
    (old mid new : Option Connection)
    → Answers serves first before between old mid → Answers serves second between behind mid new
    → Answers serves (first ++ second) before behind old new
answers-then serves first second before between behind old mid new one two = record {
  written = one.written ++ two.written;
  current = two.current ∙ ap (option_map (with_written two.written)) one.current
      ∙ changed-behind with_written written-behind one.written two.written old;
  awaited = λ exported is bytes.
      ap (before exported) (append_assoc first second bytes) ∙ one.awaited exported is (second ++ bytes)
      ∙ ap (λ (l : List ℕ). one.written ++ l) (two.awaited exported is bytes)
      ∙ sym (append_assoc one.written two.written (behind exported bytes));
}

-- a piece was heard, and then a part of another one
pub in_part-then : (change : List ℕ → Connection → Connection) → WritesBehind change
    → (serves : ExportedValues → Type 0) (first second : List ℕ) (before between : Awaited)
    (old mid new : Option Connection)
    → Answers serves first before between old mid → AnswersInPart serves second between change mid new
    → AnswersInPart serves (first ++ second) before change old new
in_part-then change write serves first second before between old mid new one two = record {
  written = one.written ++ two.written;
  current = two.current ∙ ap (option_map (change two.written)) one.current
      ∙ changed-behind change write one.written two.written old;
  awaited = λ exported is bytes.
      let rest = two.awaited exported is bytes in (
        rest.0,
        ap (before exported) (append_assoc first second bytes) ∙ one.awaited exported is (second ++ bytes)
            ∙ ap (λ (l : List ℕ). one.written ++ l) rest.1
            ∙ sym (append_assoc one.written two.written rest.0),
      );
}

-- A record.

-- a record is too long
pub heard-long : (serves : ExportedValues → Type 0) (now : ℕ) (taken : List ℕ) (old new : Marker)
    (current : Option Connection) → Takes taken old new TooLong
    → Answers serves taken (awaited_at now old) nothing_awaited current current
heard-long serves now taken old new current takes = record {
  written = [];
  current = written-none current;
  awaited = λ exported is bytes. ap (answers_to exported now) (records-long taken old new takes bytes);
}

-- what a record is to have, and the bytes behind it
awaited-whole : (now : ℕ) (taken : List ℕ) (old new : Marker) → Takes taken old new Whole
    → ((bytes : List ℕ) → front_at new bytes ≡ front_of bytes)
    → (exported : ExportedValues) (bytes : List ℕ)
    → awaited_at now old exported (taken ++ bytes)
    ≡ reply_bytes (reply_of exported (body_of new) now) ++ awaited_at now new exported bytes
awaited-whole now taken old new takes anew exported bytes =
    ap (answers_to exported now) (records-whole taken old new takes anew bytes)

-- a record ended, and its answer was written
pub heard-whole : (serves : ExportedValues → Type 0) (now : ℕ) (taken : List ℕ) (old new : Marker)
    (reply : Option Reply) (current changed : Option Connection)
    → Takes taken old new Whole → ((bytes : List ℕ) → front_at new bytes ≡ front_of bytes)
    → ((exported : ExportedValues) → serves exported → reply ≡ reply_of exported (body_of new) now)
    → changed ≡ option_map (with_written (reply_bytes reply)) current
    → Answers serves taken (awaited_at now old) (awaited_at now new) current changed
heard-whole serves now taken old new reply current changed takes anew is sent = record {
  written = reply_bytes reply;
  current = sent;
  awaited = λ exported serve bytes.
      awaited-whole now taken old new takes anew exported bytes
      ∙ ap (λ (r : Option Reply). reply_bytes r ++ awaited_at now new exported bytes) (sym (is exported serve));
}

-- its answer was written in part
pub heard-unsent : (serves : ExportedValues → Type 0) (now : ℕ) (taken : List ℕ) (old new : Marker)
    (reply : Option Reply) (current changed : Option Connection)
    → Takes taken old new Whole → ((bytes : List ℕ) → front_at new bytes ≡ front_of bytes)
    → ((exported : ExportedValues) → serves exported → reply ≡ reply_of exported (body_of new) now)
    → FailsToWrite (reply_bytes reply) current changed
    → AnswersInPart serves taken (awaited_at now old) with_failed_write current changed
heard-unsent serves now taken old new reply current changed takes anew is unsent = record {
  written = unsent.done;
  current = unsent.current;
  awaited = λ exported serve bytes. (
    unsent.rest ++ awaited_at now new exported bytes,
    awaited-whole now taken old new takes anew exported bytes
        ∙ ap (λ (r : Option Reply). reply_bytes r ++ awaited_at now new exported bytes) (sym (is exported serve))
        ∙ ap (λ (l : List ℕ). l ++ awaited_at now new exported bytes) (sym unsent.prefix)
        ∙ append_assoc unsent.done unsent.rest (awaited_at now new exported bytes),
  );
}

-- nothing was written of what bytes are to have
pub heard-nothing : (serves : ExportedValues → Type 0) (taken : List ℕ) (awaited : Awaited)
    (current : Option Connection) → AnswersInPart serves taken awaited with_written current current
heard-nothing serves taken awaited current = record {
  written = [];
  current = written-none current;
  awaited = λ exported is bytes. (awaited exported (taken ++ bytes), refl);
}

-- what was heard of a part of a piece is so of the piece
pub in_part-longer : (change : List ℕ → Connection → Connection) (serves : ExportedValues → Type 0)
    (first second : List ℕ) (before : Awaited) (old new : Option Connection)
    → AnswersInPart serves first before change old new → AnswersInPart serves (first ++ second) before change old new
in_part-longer change serves first second before old new part = record {
  written = part.written;
  current = part.current;
  awaited = λ exported is bytes.
      let rest = part.awaited exported is (second ++ bytes) in
      (rest.0, ap (before exported) (append_assoc first second bytes) ∙ rest.1);
}

-- and where nothing more is to have an answer
pub long-longer : (serves : ExportedValues → Type 0) (first second : List ℕ) (before : Awaited)
    (old new : Option Connection)
    → Answers serves first before nothing_awaited old new
    → Answers serves (first ++ second) before nothing_awaited old new
long-longer serves first second before old new heard = record {
  written = heard.written;
  current = heard.current;
  awaited = λ exported is bytes.
      ap (before exported) (append_assoc first second bytes) ∙ heard.awaited exported is (second ++ bytes);
}

-- A piece, up to where its records were heard.

-- where a piece is parted twice
parts : (piece : List ℕ) (at count : ℕ)
    → (take at piece ++ take count (drop at piece)) ++ drop count (drop at piece) ≡ piece
parts piece at count =
    append_assoc (take at piece) (take count (drop at piece)) (drop count (drop at piece))
    ∙ ap (λ (l : List ℕ). take at piece ++ l) (take-append-drop count (drop at piece)) ∙ take-append-drop at piece

pub long-piece : (serves : ExportedValues → Type 0) (now : ℕ) (piece : List ℕ) (at count : ℕ)
    (marker between next : Marker) (old new : Option Connection)
    → Answers serves (take at piece) (awaited_at now marker) (awaited_at now between) old new
    → Takes (take count (drop at piece)) between next TooLong
    → Answers serves piece (awaited_at now marker) nothing_awaited old new
long-piece serves now piece at count marker between next old new so_far takes =
    subst (λ (l : List ℕ). Answers serves l (awaited_at now marker) nothing_awaited old new) (parts piece at count)
    (long-longer serves (take at piece ++ take count (drop at piece)) (drop count (drop at piece))
    (awaited_at now marker) old new
    (answers-then serves (take at piece) (take count (drop at piece)) (awaited_at now marker) (awaited_at now between)
    nothing_awaited old new new so_far
    (heard-long serves now (take count (drop at piece)) between next new takes)))

pub stopped-piece : (serves : ExportedValues → Type 0) (now : ℕ) (piece : List ℕ) (at : ℕ) (marker between : Marker)
    (old new : Option Connection)
    → Answers serves (take at piece) (awaited_at now marker) (awaited_at now between) old new
    → AnswersInPart serves piece (awaited_at now marker) with_written old new
stopped-piece serves now piece at marker between old new so_far =
    subst (λ (l : List ℕ). AnswersInPart serves l (awaited_at now marker) with_written old new)
    (take-append-drop at piece)
    (in_part-then with_written written-behind serves (take at piece) (drop at piece) (awaited_at now marker)
    (awaited_at now between) old new new so_far
    (heard-nothing serves (drop at piece) (awaited_at now between) new))

pub unsent-piece : (serves : ExportedValues → Type 0) (now : ℕ) (piece : List ℕ) (at count : ℕ)
    (marker between next : Marker) (reply : Option Reply) (old mid new : Option Connection)
    → Answers serves (take at piece) (awaited_at now marker) (awaited_at now between) old mid
    → Takes (take count (drop at piece)) between next Whole
    → ((bytes : List ℕ) → front_at next bytes ≡ front_of bytes)
    → ((exported : ExportedValues) → serves exported → reply ≡ reply_of exported (body_of next) now)
    → FailsToWrite (reply_bytes reply) mid new
    → AnswersInPart serves piece (awaited_at now marker) with_failed_write old new
unsent-piece serves now piece at count marker between next reply old mid new so_far takes anew is unsent =
    subst (λ (l : List ℕ). AnswersInPart serves l (awaited_at now marker) with_failed_write old new)
    (parts piece at count)
    (in_part-longer with_failed_write serves (take at piece ++ take count (drop at piece)) (drop count (drop at piece))
    (awaited_at now marker) old new
    (in_part-then with_failed_write failed-behind serves (take at piece) (take count (drop at piece))
    (awaited_at now marker) (awaited_at now between) old mid new so_far
    (heard-unsent serves now (take count (drop at piece)) between next reply mid new takes anew is unsent)))

pub more-piece : (serves : ExportedValues → Type 0) (now : ℕ) (piece : List ℕ) (at count : ℕ)
    (marker between next : Marker) (reply : Option Reply) (old mid new : Option Connection)
    → Answers serves (take at piece) (awaited_at now marker) (awaited_at now between) old mid
    → Takes (take count (drop at piece)) between next Whole
    → ((bytes : List ℕ) → front_at next bytes ≡ front_of bytes)
    → ((exported : ExportedValues) → serves exported → reply ≡ reply_of exported (body_of next) now)
    → new ≡ option_map (with_written (reply_bytes reply)) mid
    → Answers serves (take (at + count) piece) (awaited_at now marker) (awaited_at now next) old new
more-piece serves now piece at count marker between next reply old mid new so_far takes anew is sent =
    subst (λ (l : List ℕ). Answers serves l (awaited_at now marker) (awaited_at now next) old new)
    (sym (take-add at count piece))
    (answers-then serves (take at piece) (take count (drop at piece)) (awaited_at now marker) (awaited_at now between)
    (awaited_at now next) old mid new so_far
    (heard-whole serves now (take count (drop at piece)) between next reply mid new takes anew is sent))

-- what is served behind a look-up is served before it
pub answers-before : (serves behind : ExportedValues → Type 0) (piece : List ℕ) (before after : Awaited)
    (old new : Option Connection) → ((exported : ExportedValues) → serves exported → behind exported)
    → Answers behind piece before after old new → Answers serves piece before after old new
answers-before serves behind piece before after old new stays answers = record {
  written = answers.written;
  current = answers.current;
  awaited = λ exported is. answers.awaited exported (stays exported is);
}

pub in_part-before : (change : List ℕ → Connection → Connection) (serves behind : ExportedValues → Type 0)
    (piece : List ℕ) (before : Awaited) (old new : Option Connection)
    → ((exported : ExportedValues) → serves exported → behind exported)
    → AnswersInPart behind piece before change old new → AnswersInPart serves piece before change old new
in_part-before change serves behind piece before old new stays part = record {
  written = part.written;
  current = part.current;
  awaited = λ exported is. part.awaited exported (stays exported is);
}

-- A result.

pub of_refused : {T E : Type 0} (P : Type 0) (result : Result T E) → is_err result ≡ true → OnErr result P → P
of_refused P (Ok value) is on = absurd (false≢true is)
of_refused P (Err fault) is on = on

pub of_passed : {T E : Type 0} (P : Type 0) (result : Result T E) → is_err result ≡ false → OnOk result P → P
of_passed P (Ok value) is on = on
of_passed P (Err fault) is on = absurd (false≢true (sym is))
