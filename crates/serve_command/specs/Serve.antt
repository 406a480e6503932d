-- `rquotad`. Source: the manual page of rpc.rquotad; that a given number of calls is answered, and that quota files are
-- named together with the paths under which they are told of, is this project's own.
use Rattle.std.specs.Prelude.{◌⊎◌, ◌+◌, ◌*◌, ℕ, zero, suc, List, Option, Some, None, ◌<◌, IsTrue, [], map}
use Rattle.outside.specs.Seen.{Datagram}
use Rattle.outside.specs.World.{World}
use Rattle.rquota_xdr.specs.Reply.{spelling_of}
use Rattle.rquota_xdr.specs.declared.reply.Reply.{Reply}
use Rattle.rquota_serve.specs.Adding.{reads_of}
use Rattle.rquota_serve.specs.ExportedValues.{ExportedValues, nothing_exported}
use Rattle.rquota_serve.specs.Serving.{datagram_reply, Stopped}
use Rattle.option_words.specs.declared.export_option.ExportOption.{ExportOption}
use Rattle.refusals.specs.declared.cause.Cause.{Cause}
use Rattle.run_steps.specs.Act.{Answer}
use Rattle.run_steps.specs.Steps.{Doing, Finish, Receiving, Starting, Steps}
use Rattle.run_steps.specs.declared.invocation.Invocation.{Invocation}
use Rattle.serve_steps.specs.Exporting.{AnsweringMayRefuse, ExportingMayRefuse, OpeningAll, first_file, news_of}
use Rattle.serve_steps.specs.Exporting.{AreExported, MayExport, serve_uses}
use Rattle.quota_map.specs.Asked.{Asked}
use Rattle.run_steps.specs.Done.{Outside, RunSeen, RunTells}
use Rattle.run_steps.specs.SameViews.{FileAsked}
use Rattle.descriptions.specs.Description.{Description, looks_at, row}

-- The steps.

-- a reply is sent, where there is one, and then come the next steps
abbrev pub Replying : Option Reply → Steps → Steps
Replying None next = next
Replying (Some reply) next = Doing (Answer (spelling_of reply)) next

-- this many datagrams are received, and the reply to each is sent, at the datagram's own moment
abbrev pub AnsweringSteps : ExportedValues → (calls : ℕ) → Steps
AnsweringSteps exported zero = Finish
AnsweringSteps exported (suc calls) =
    Receiving (λ (datagram : Datagram).
    Replying (datagram_reply exported datagram) (AnsweringSteps exported calls))

-- the files are exported, then the link is started at the port, once, and then this many datagrams are answered
abbrev pub ServeSteps : Asked → (calls port : ℕ) → List ExportOption → Invocation → Steps
ServeSteps asked calls port exports invocation =
    OpeningAll asked exports nothing_exported
    (λ (exported : ExportedValues). Starting port (AnsweringSteps exported calls))

-- What is exported.

-- How many calls of `read` it takes at most to answer `calls` datagrams out of these files: those of opening each, and
-- five for each datagram.
abbrev pub serving_reads : Asked → (calls : ℕ) → List ExportOption → World → ℕ
serving_reads asked calls exports files = reads_of asked files (news_of exports) + 5 * calls

-- What is said.

-- The causes for which `rquotad` may be refused, whatever is told, with the name that is said. What was not seen when
-- the files were opened is said of the first one.
abbrev pub ServeMayRefuse : Asked → List ExportOption → Cause → List ℕ → Type 0
ServeMayRefuse asked exports cause name =
    ExportingMayRefuse asked exports cause name ⊎ AnsweringMayRefuse asked (first_file exports) cause name

-- The description.

-- the file of an export
abbrev pub file_of : Asked → ExportOption → FileAsked
file_of asked export = record { kind = export.kind; asked = asked; name = export.file }

-- Calls that are answered out of exported files. One call is to be answered at least, and the files may be exported one
-- after another: no words ask for anything else. The link is said to have failed only where fewer datagrams were taken,
-- or the last reply was not sent.
abbrev pub serving : Asked → (calls port : ℕ) → List ExportOption → Description
serving asked calls port exports =
    record (row (ServeSteps asked calls port exports) serve_uses (ServeMayRefuse asked exports)) {
      most_reads = λ (old : Outside). Some (serving_reads asked calls exports old.files);
      looks = looks_at (map (file_of asked) exports) None None;
      known = (0 < calls) × MayExport [] exports;
      unfinished = λ (invocation : Invocation) (tells : RunTells) (old new : RunSeen). IsTrue tells.link
          → Stopped (λ (exported : ExportedValues). IsTrue tells.store
          × AreExported asked old.store.files exports nothing_exported exported) calls old.link new.link;
      suffices = λ (invocation : Invocation) (old : Outside).
          (exported : ExportedValues) × AreExported asked old.files exports nothing_exported exported;
    }
