-- What is shown of the command: how its steps look, receive and end, and that its description is sound.
use Rattle.std.proofs.Common.{Bool, ℕ, zero, suc, true, List, [], ◌∷◌, Option, None, Some, refl, subst, map, sym, inl}
use Rattle.std.proofs.Common.{inr}
use Rattle.quota_value.specs.QuotaValue.{QuotaValue}
use Rattle.option_words.specs.declared.export_option.ExportOption.{ExportOption}
use Rattle.rquota_xdr.specs.declared.reply.Reply.{Reply}
use Rattle.rquota_serve.specs.ExportedValues.{ExportedValues, with_export, nothing_exported}
use Rattle.rquota_serve.specs.Serving.{datagram_reply}
use Rattle.run_steps.specs.Done.{Outside}
use Rattle.run_steps.specs.Meaning.{IsSure}
use Rattle.run_steps.specs.OneCommand.{LooksFirst}
use Rattle.run_steps.specs.Received.{Receives}
use Rattle.run_steps.specs.Steps.{Steps, Starting}
use Rattle.run_steps.proofs.OneCommandLemmas.{sure_opening}
use Rattle.serve_command.specs.Serve.{AnsweringSteps, Replying, ServeSteps, file_of, ServeMayRefuse, serving}
use Rattle.serve_steps.specs.Exporting.{AreExported, OpeningAll, AnsweringMayRefuse, ExportingMayRefuse, first_file}
use Rattle.serve_steps.specs.Exporting.{serve_uses}
use Rattle.quota_map.specs.Asked.{Asked}
use Rattle.std.specs.Prelude.{Contains}
use Rattle.std.proofs.lemmas.List.Elements.{Contains-append_left, Contains-append_right, Contains-push}
use Rattle.outside.specs.World.{World}
use Rattle.run_steps.specs.SameViews.{FileAsked, LooksAlike, Opens}
use Rattle.run_steps.specs.declared.invocation.Invocation.{Invocation}
use Rattle.run_steps.proofs.LookLemmas.{opens_opening}
use Rattle.run_steps.specs.Run.{Uses}
use Rattle.descriptions.specs.Sound.{IsSound, Spares}
use Rattle.descriptions.proofs.SoundLemmas.{never, spares_both, spares_opening}

-- They look first.

looks_replying : (takes : Bool) (reply : Option Reply) (next : Steps) → LooksFirst true takes next
    → LooksFirst true takes (Replying reply next)
looks_replying takes None next looks = looks
looks_replying takes (Some reply) next looks = looks

pub looks_answering : (takes : Bool) (exported : ExportedValues) (calls : ℕ)
    → LooksFirst true takes (AnsweringSteps exported calls)
looks_answering takes exported zero = tt
looks_answering takes exported (suc calls) =
    λ datagram. looks_replying takes (datagram_reply exported datagram) (AnsweringSteps exported calls)
    (looks_answering takes exported calls)

pub looks_opening_all : (takes : Bool) (asked : Asked) (exports : List ExportOption) (before : ExportedValues)
    (next : ExportedValues → Steps) → ((exported : ExportedValues) → LooksFirst true takes (next exported))
    → LooksFirst true takes (OpeningAll asked exports before next)
looks_opening_all takes asked [] before next each = each before
looks_opening_all takes asked (export ∷ exports) before next each =
    (refl, λ value. looks_opening_all takes asked exports (with_export before export.path export.kind value) next each)

-- They receive their datagrams.

receives_replying : (count : ℕ) (reply : Option Reply) (next : Steps) → Receives count next
    → Receives count (Replying reply next)
receives_replying count None next receives = receives
receives_replying count (Some reply) next receives = receives

pub receives_answering : (exported : ExportedValues) (calls : ℕ) → Receives calls (AnsweringSteps exported calls)
receives_answering exported zero = refl
receives_answering exported (suc calls) = (
  calls,
  refl,
  λ datagram. receives_replying calls (datagram_reply exported datagram) (AnsweringSteps exported calls)
      (receives_answering exported calls),
)

pub receives_opening_all : (count : ℕ) (asked : Asked) (exports : List ExportOption) (before : ExportedValues)
    (next : ExportedValues → Steps) → ((exported : ExportedValues) → Receives count (next exported))
    → Receives count (OpeningAll asked exports before next)
receives_opening_all count asked [] before next each = each before
receives_opening_all count asked (export ∷ exports) before next each =
    λ value. receives_opening_all count asked exports (with_export before export.path export.kind value) next each

-- They are sure.

sure_replying : (reply : Option Reply) (next : Steps) (old : Outside) → ((from : Outside) → IsSure next from)
    → IsSure (Replying reply next) old
sure_replying None next old sure = sure old
sure_replying (Some reply) next old sure = λ middle follows. sure (record old { files = middle })

pub sure_answering : (exported : ExportedValues) (calls : ℕ) (old : Outside)
    → IsSure (AnsweringSteps exported calls) old
sure_answering exported zero old = refl
sure_answering exported (suc calls) old =
    λ datagram left is. sure_replying (datagram_reply exported datagram) (AnsweringSteps exported calls)
    (record old { datagrams = left }) (sure_answering exported calls)

pub sure_opening_all : (asked : Asked) (exports : List ExportOption) (before exported : ExportedValues)
    (next : ExportedValues → Steps) (old : Outside) → AreExported asked old.files exports before exported
    → IsSure (next exported) old
    → IsSure (OpeningAll asked exports before next) old
sure_opening_all asked [] before exported next old are sure =
    subst (λ (e : ExportedValues). IsSure (next e) old) are sure
sure_opening_all asked (export ∷ exports) before exported next old are sure =
    sure_opening export.kind asked export.file
    (λ (value : QuotaValue). OpeningAll asked exports (with_export before export.path export.kind value) next)
    are.0 old are.1
    (sure_opening_all asked exports (with_export before export.path export.kind are.0) exported next old are.2 sure)

-- It looks at no file but by opening it.

replying_alike : (one other : World) (reply : Option Reply) (next : Steps) → LooksAlike one other next
    → LooksAlike one other (Replying reply next)
replying_alike one other None next alike = alike
replying_alike one other (Some reply) next alike = alike

answering_alike : (one other : World) (exported : ExportedValues) (calls : ℕ)
    → LooksAlike one other (AnsweringSteps exported calls)
answering_alike one other exported zero = tt
answering_alike one other exported (suc calls) =
    λ datagram. replying_alike one other (datagram_reply exported datagram) (AnsweringSteps exported calls)
    (answering_alike one other exported calls)

opening_all_alike : (one other : World) (asked : Asked) (exports : List ExportOption) (before : ExportedValues)
    (next : ExportedValues → Steps) → ((exported : ExportedValues) → LooksAlike one other (next exported))
    → LooksAlike one other (OpeningAll asked exports before next)
opening_all_alike one other asked [] before next each = each before
opening_all_alike one other asked (export ∷ exports) before next each =
    λ value. opening_all_alike one other asked exports (with_export before export.path export.kind value) next each

serve_alike : (one other : World) (asked : Asked) (calls port : ℕ) (exports : List ExportOption)
    (invocation : Invocation) → LooksAlike one other (ServeSteps asked calls port exports invocation)
serve_alike one other asked calls port exports invocation =
    opening_all_alike one other asked exports nothing_exported
    (λ (exported : ExportedValues). Starting port (AnsweringSteps exported calls))
    (λ exported. answering_alike one other exported calls)

-- The files that it opens.

replying_opens : (holds : Type 0) (reply : Option Reply) (next : Steps) (old : Outside) (opened : FileAsked)
    → (Opens next old opened → holds) → Opens (Replying reply next) old opened → holds
replying_opens holds None next old opened each opens = each opens
replying_opens holds (Some reply) next old opened each opens = each opens

answering_opens : (holds : Type 0) (exported : ExportedValues) (calls : ℕ) (old : Outside) (opened : FileAsked)
    → Opens (AnsweringSteps exported calls) old opened → holds
answering_opens holds exported zero old opened opens = absurd opens
answering_opens holds exported (suc calls) old opened (datagram, left, is, opens) =
    replying_opens holds (datagram_reply exported datagram) (AnsweringSteps exported calls)
    (record old { datagrams = left }) opened
    (answering_opens holds exported calls (record old { datagrams = left }) opened) opens

opening_all_opens : (asked : Asked) (exports : List ExportOption) (before : ExportedValues)
    (next : ExportedValues → Steps) (old : Outside) (opened : FileAsked)
    → ((exported : ExportedValues) → Opens (next exported) old opened → Contains (map (file_of asked) []) opened)
    → Opens (OpeningAll asked exports before next) old opened → Contains (map (file_of asked) exports) opened
opening_all_opens asked [] before next old opened each opens = each before opens
opening_all_opens asked (export ∷ exports) before next old opened each opens =
    let rest = map (file_of asked) exports in
    opens_opening (Contains (file_of asked export ∷ rest) opened) export.kind asked export.file
    (λ (value : QuotaValue). OpeningAll asked exports (with_export before export.path export.kind value) next)
    old opened
    (λ is. subst (λ (f : FileAsked). Contains (file_of asked export ∷ rest) f) (sym is)
    (Contains-append_left (file_of asked export ∷ []) rest (file_of asked export)
    (Contains-push [] (file_of asked export))))
    (λ value opens. Contains-append_right (file_of asked export ∷ []) rest opened
    (opening_all_opens asked exports (with_export before export.path export.kind value) next old opened each opens))
    opens

serve_opens : (asked : Asked) (calls port : ℕ) (exports : List ExportOption) (invocation : Invocation) (old : Outside)
    (opened : FileAsked) → Opens (ServeSteps asked calls port exports invocation) old opened
    → Contains (map (file_of asked) exports) opened
serve_opens asked calls port exports invocation old opened opens =
    opening_all_opens asked exports nothing_exported
    (λ (exported : ExportedValues). Starting port (AnsweringSteps exported calls)) old opened
    (λ exported. answering_opens _ exported calls old opened) opens

spares_exporting : (uses : Uses) (asked : Asked) (exports : List ExportOption)
    → Spares uses (ExportingMayRefuse asked exports)
spares_exporting uses asked [] cause name barred may = may
spares_exporting uses asked (export ∷ exports) cause name barred (inl may) =
    spares_opening uses asked export.file cause name barred may
spares_exporting uses asked (export ∷ exports) cause name barred (inr may) =
    spares_exporting uses asked exports cause name barred may

spares_serve : (uses : Uses) (asked : Asked) (exports : List ExportOption) → Spares uses (ServeMayRefuse asked exports)
spares_serve uses asked exports cause name barred (inl may) = spares_exporting uses asked exports cause name barred may
spares_serve uses asked exports cause name barred (inr may) =
    spares_both uses (AnsweringMayRefuse asked (first_file exports)) (λ name none may. may)
    (λ kind word name none may. may) cause name barred may

pub serve_sound : (asked : Asked) (calls port : ℕ) (exports : List ExportOption)
    → IsSound (serving asked calls port exports)
serve_sound asked calls port exports =
    let answering = λ (exported : ExportedValues). Starting port (AnsweringSteps exported calls) in
    record {
      looks_first = λ invocation. looks_opening_all true asked exports nothing_exported answering
          (λ exported. looks_answering true exported calls);
      rooms = never;
      reads_to_end = λ invocation. never;
      sees_alike = λ one other invocation reads. serve_alike one other asked calls port exports invocation;
      opens = serve_opens asked calls port exports;
      full = λ invocation old acts new refusal blocks limit ends is. tt;
      sure = λ invocation old can.
          sure_opening_all asked exports nothing_exported can.0 answering old can.1 (sure_answering can.0 calls old);
      spares = spares_serve serve_uses asked exports;
    }
