-- Files that are exported one after another.
use Rattle.std.proofs.Common.{◌≡◌, ◌⊎◌, ℕ, Bool, true, false, IsTrue, ◌+◌, ◌<◌, ◌++◌, length, List, [], ◌∷◌, zero, suc}
use Rattle.std.proofs.Common.{get_or, take, Result, Ok, Err, OnErr, IfErr, inl, inr, refl, sym, ap, subst, ◌∙◌}
use Rattle.std.specs.FinMap.{empty}
use Rattle.std.specs.List.{All}
use Rattle.std.proofs.lemmas.Bool.{false≢true}
use Rattle.std.proofs.lemmas.Grind.{take_at_read}
use Rattle.std.proofs.lemmas.List.{map-append}
use Rattle.std.proofs.lemmas.List.Elements.{All-nil}
use Rattle.quota_types.specs.declared.file_kind.Format.TheVariants.{V1}
use Rattle.quota_types.specs.declared.file_kind.Kind.TheVariants.{User}
use Rattle.outside.specs.Frame.{OnlyReads}
use Rattle.quota_value.specs.QuotaValue.{QuotaValue}
use Rattle.outside.specs.Seen.{LinkSeen, SinkSeen, SourceSeen, StoreSeen}
use Rattle.outside.specs.World.{World}
use Rattle.opened_file.specs.declared.quota_file.OpenFault.{OpenFault}
use Rattle.quota_map.specs.Asked.{Asked}
use Rattle.quota_map.specs.View.{IsOpenFault, IsView}
use Rattle.option_words.specs.declared.export_option.ExportOption.{ExportOption}
use Rattle.rquota_serve.specs.Adding.{NewSeen}
use Rattle.rquota_serve.specs.Added.{IsRefusedAt, ReadsEach, new_seen, news_seen}
use Rattle.rquota_serve.specs.declared.new_export.NewExport.{NewExport}
use Rattle.rquota_serve.specs.ExportedValues.{ExportedValues, nothing_exported, with_export}
use Rattle.rquota_serve.specs.Exports.{IsServed, Serves, kept_in}
use Rattle.rquota_serve.specs.declared.export.Export.{Export}
use Rattle.rquota_serve.specs.declared.exports.Exports.{Exports}
use Rattle.refusals.specs.Refusals.{refusal_of}
use Rattle.refusals.specs.declared.cause.Cause.{Cause}
use Rattle.refusals.specs.declared.cause.Cause.TheVariants.{Memory}
use Rattle.refusals.specs.declared.reason.Refusal.{Refusal}
use Rattle.run_steps.specs.Done.{RunSeen, RunTells, outside_of, seen_of, tells_of}
use Rattle.run_steps.specs.Carrying.{CarriesOut}
use Rattle.run_steps.specs.Steps.{Opening, Steps}
use Rattle.run_steps.specs.Opening.{opening_cause}
use Rattle.run_steps.proofs.OpeningLemmas.{not_opened}
use Rattle.outside.proofs.FrameLemmas.{only_reads-none}
use Rattle.run_steps.proofs.PhaseLemmas.{carries_on, carries_opening, leads_opening, leads_same}
use Rattle.rquota_serve.proofs.AddingLemmas.{AllSeen}
use Rattle.quota_map.proofs.SeenOnceLemmas.{seen_once}
use Rattle.serve_steps.specs.Exporting.{AnsweringMayRefuse, AreExported, ExportingMayRefuse, OpeningAll, new_of}
use Rattle.serve_steps.specs.Exporting.{news_of, serve_uses}
use Rattle.run_steps.proofs.PartLemmas.{part_but_output}

-- the steps behind the first file, by its value
abbrev pub behind_first : Asked → ExportOption → List ExportOption → ExportedValues → (ExportedValues → Steps)
    → QuotaValue → Steps
behind_first asked export behind before next value =
    OpeningAll asked behind (with_export before export.path export.kind value) next

-- one more file that words name, as it is seen by whoever exports it
pub named_more : (list : List ExportOption) (at : ℕ) (export : ExportOption) (news pushed : List NewExport)
    (new : NewExport) → at < length list → export ≡ get_or list at export
    → news_seen news ≡ news_of (take at list) → pushed ≡ news ++ new ∷ []
    → new.path.now ≡ export.path → new.kind ≡ export.kind → new.file.now ≡ export.file
    → news_seen pushed ≡ news_of (take (at + 1) list)
named_more list at export news pushed new low is named push path kind file =
    let seen : new_seen new ≡ new_of export = λ i. record { path = path i; kind = kind i; file = file i } in
    let taken : take (at + 1) list ≡ take at list ++ export ∷ [] =
    (take_at_read list at export low).1 ∙ ap (λ (e : ExportOption). take at list ++ e ∷ []) (sym is) in
    ap news_seen push
    ∙ map-append new_seen news (new ∷ [])
    ∙ ap (λ (l : List NewSeen). l ++ new_seen new ∷ []) named
    ∙ ap (λ (s : NewSeen). news_of (take at list) ++ s ∷ []) seen
    ∙ sym (ap news_of taken ∙ map-append new_of (take at list) (export ∷ []))

-- Files were exported: what is exported then, which the opened files serve, and what is carried out of it is carried
-- out of all steps.
abbrev pub IsOpened : Asked → List ExportOption → (tells : Bool) → (old new : StoreSeen)
    → (serves : ExportedValues → Type 0) → ExportedValues → Type 0
IsOpened asked list tells old new serves before =
    (exported : ExportedValues)
    × (IsTrue tells → AreExported asked old.files list before exported)
    × (IsTrue tells → serves exported)
    × ((next : ExportedValues → Steps) (file : List ℕ) (input : SourceSeen) (out err : SinkSeen) (link : LinkSeen)
    (input_tells out_tells err_tells link_tells : Bool) (to : RunSeen) (ended : Result (Unit {0}) Refusal)
    → CarriesOut (next exported) serve_uses (AnsweringMayRefuse asked file)
    (tells_of tells input_tells out_tells err_tells link_tells)
    (seen_of new input out err link) to ended
    → CarriesOut (OpeningAll asked list before next) serve_uses (AnsweringMayRefuse asked file)
    (tells_of tells input_tells out_tells err_tells link_tells)
    (seen_of old input out err link) to ended)

-- a value, for where none is seen
nothing_value : QuotaValue
nothing_value = record { kind = User; format = V1; grace = record { block = 0; inode = 0 }; flags = 0; records = empty }

-- a value that is seen where the store tells
some_value : (tells : Bool) (sees : QuotaValue → Type 0) → (IsTrue tells → (value : QuotaValue) × sees value)
    → (value : QuotaValue) × (IsTrue tells → sees value)
some_value true sees seen = let one = seen refl in (one.0, λ told. one.1)
some_value false sees seen = (nothing_value, λ told. absurd (false≢true told))

-- all files were exported: what is carried out of all that is exported is carried out of all steps
pub opened_all : (asked : Asked) (list : List ExportOption) (tells : Bool) (old new : StoreSeen)
    (before exported : ExportedValues) (next : ExportedValues → Steps) (file : List ℕ)
    (input : SourceSeen) (out err : SinkSeen) (link : LinkSeen) (input_tells out_tells err_tells link_tells : Bool)
    (to : RunSeen) (ended : Result (Unit {0}) Refusal)
    → ReadsEach (news_of list) old new → (IsTrue tells → AreExported asked old.files list before exported)
    → CarriesOut (next exported) serve_uses (AnsweringMayRefuse asked file)
    (tells_of tells input_tells out_tells err_tells link_tells) (seen_of new input out err link) to ended
    → CarriesOut (OpeningAll asked list before next) serve_uses (AnsweringMayRefuse asked file)
    (tells_of tells input_tells out_tells err_tells link_tells) (seen_of old input out err link) to ended
opened_all asked [] tells old new before exported next file input out err link input_tells out_tells err_tells
    link_tells to ended same is carries =
    subst (λ (s : StoreSeen). CarriesOut (next before) serve_uses (AnsweringMayRefuse asked file)
    (tells_of tells input_tells out_tells err_tells link_tells) (seen_of s input out err link) to ended) same
    (carries_on [] (next exported) (next before) serve_uses (AnsweringMayRefuse asked file)
    (AnsweringMayRefuse asked file) (tells_of tells input_tells out_tells err_tells link_tells)
    (seen_of new input out err link) new to ended (only_reads-none {done = true} [] new)
    (λ told.
    leads_same (next exported) (next before) (outside_of (seen_of new input out err link)) (ap next (is told.store)))
    (λ cause said may. may) carries)
opened_all asked (export ∷ list) tells old new before exported next file input out err link input_tells out_tells
    err_tells link_tells to ended reads is carries =
    let between = reads.0 in
    let Behind : QuotaValue → Type 0 =
    λ value. AreExported asked old.files list (with_export before export.path export.kind value) exported in
    let some = some_value tells
    (λ (value : QuotaValue). IsView (old.files export.file) export.kind asked (Ok value) × Behind value)
    (λ told. let seen = is told in (seen.0, (seen.1, seen.2))) in
    let middle = with_export before export.path export.kind some.0 in
    carries_on export.file (OpeningAll asked list middle next)
    (Opening export.kind asked export.file (behind_first asked export list before next)) serve_uses
    (AnsweringMayRefuse asked file) (AnsweringMayRefuse asked file)
    (tells_of tells input_tells out_tells err_tells link_tells) (seen_of old input out err link) between
    to ended reads.1
    (λ told. leads_opening export.kind asked export.file (behind_first asked export list before next) some.0
    (outside_of (seen_of old input out err link)) (some.1 told.store).0)
    (λ cause said may. may)
    (opened_all asked list tells between new middle exported next file input out err link input_tells out_tells
    err_tells link_tells to ended reads.2
    (λ told. subst (λ (w : World). AreExported asked w list middle exported) (sym reads.1.files) (some.1 told).1)
    carries)

-- Files were exported: what is exported then, which the opened files serve, and what is carried out of it is carried
-- out of all steps.
pub opened_now : (asked : Asked) (list : List ExportOption) (tells : Bool) (old new : StoreSeen)
    (serves : ExportedValues → Type 0) (before : ExportedValues) → ReadsEach (news_of list) old new
    → (IsTrue tells → (exported : ExportedValues) × AreExported asked old.files list before exported × serves exported)
    → IsOpened asked list tells old new serves before
opened_now asked list true old new serves before reads is =
    let some = is refl in (
      some.0,
      λ told. some.1,
      λ told. some.2,
      λ next file input out err link input_tells out_tells err_tells link_tells to ended carries.
          opened_all asked list true old new before some.0 next file input out err link input_tells out_tells err_tells
          link_tells to ended reads (λ told. some.1) carries,
    )
opened_now asked list false old new serves before reads is = (
  before,
  λ told. absurd (false≢true told),
  λ told. absurd (false≢true told),
  λ next file input out err link input_tells out_tells err_tells link_tells to ended carries.
      opened_all asked list false old new before before next file input out err link input_tells out_tells err_tells
      link_tells to ended reads (λ told. absurd (false≢true told)) carries,
)

-- a refusal whose name could not be copied is one for lack of memory
unnamed : (steps : Steps) (may : Cause → List ℕ → Type 0) (tells : RunTells) (old new : RunSeen) (refusal : Refusal)
    → may Memory []
    → CarriesOut steps serve_uses may tells old new (Err refusal)
    → CarriesOut steps serve_uses may tells old new (Err (refusal_of Memory []))
unnamed steps may tells old new refusal allowed carries = record {
  done = tt;
  refused = tt;
  part = λ told. part_but_output steps tells old new (λ is. cc) (carries.part told);
  may_refuse = allowed;
  placed = record { line = λ no. refl; input_line = λ no. refl };
  only_reads = carries.only_reads;
  all_or_nothing = λ whole other. carries.only_reads refl;
  quiet = carries.quiet;
  later = carries.later;
}

pub refused_carried : (steps : Steps) (may : Cause → List ℕ → Type 0) (tells : RunTells) (old new : RunSeen)
    (stated said : Refusal) → (said ≡ stated) ⊎ (said ≡ refusal_of Memory []) → may Memory []
    → CarriesOut steps serve_uses may tells old new (Err stated)
    → CarriesOut steps serve_uses may tells old new (Err said)
refused_carried steps may tells old new stated said (inl is) allowed carries =
    subst (λ (r : Refusal). CarriesOut steps serve_uses may tells old new (Err r)) (sym is) carries
refused_carried steps may tells old new stated said (inr is) allowed carries =
    subst (λ (r : Refusal). CarriesOut steps serve_uses may tells old new (Err r)) (sym is)
    (unnamed steps may tells old new stated allowed carries)

-- the first file was not exported
pub unopened_first : {done : Bool} (asked : Asked) (export : ExportOption) (behind list : List ExportOption)
    (old store : StoreSeen) (before : ExportedValues) (next : ExportedValues → Steps)
    (input : SourceSeen) (out err : SinkSeen) (link : LinkSeen)
    (tells input_tells out_tells err_tells link_tells : Bool) (fault : OpenFault) (said : Refusal)
    → list ≡ export ∷ behind → IsOpenFault old.faults store.faults tells (old.files export.file) export.kind asked fault
    → OnlyReads done export.file old store
    → (said ≡ refusal_of (opening_cause fault) export.file) ⊎ (said ≡ refusal_of Memory [])
    → CarriesOut (OpeningAll asked list before next) serve_uses (ExportingMayRefuse asked list)
    (tells_of tells input_tells out_tells err_tells link_tells) (seen_of old input out err link)
    (seen_of store input out err link) (Err said)
unopened_first asked export behind list old store before next input out err link tells input_tells out_tells err_tells
    link_tells fault said is cause reads says =
    let told = tells_of tells input_tells out_tells err_tells link_tells in
    let from = seen_of old input out err link in
    let to = seen_of store input out err link in
    subst (λ (l : List ExportOption). CarriesOut (OpeningAll asked l before next) serve_uses
    (ExportingMayRefuse asked l) told from to (Err said)) (sym is)
    (refused_carried (OpeningAll asked (export ∷ behind) before next) (ExportingMayRefuse asked (export ∷ behind)) told
    from to (refusal_of (opening_cause fault) export.file) said says (inl tt)
    (not_opened export.kind asked export.file (behind_first asked export behind before next) serve_uses
    (ExportingMayRefuse asked (export ∷ behind)) told from store fault cause reads (λ cause may. inl may)))

-- the file at a place was not exported, and those before it were
pub unopened_all : (asked : Asked) (list : List ExportOption) (place : ℕ) (export : ExportOption) (tells : Bool)
    (old new : StoreSeen) (before : ExportedValues) (next : ExportedValues → Steps)
    (input : SourceSeen) (out err : SinkSeen) (link : LinkSeen) (input_tells out_tells err_tells link_tells : Bool)
    (fault : OpenFault) (said : Refusal)
    → IsRefusedAt tells asked place (news_of list) fault old new
    → (IsTrue tells → AllSeen asked old.files (take place (news_of list)))
    → export ≡ get_or list place export
    → (said ≡ refusal_of (opening_cause fault) export.file) ⊎ (said ≡ refusal_of Memory [])
    → CarriesOut (OpeningAll asked list before next) serve_uses (ExportingMayRefuse asked list)
    (tells_of tells input_tells out_tells err_tells link_tells) (seen_of old input out err link)
    (seen_of new input out err link) (Err said)
unopened_all asked [] place export tells old new before next input out err link input_tells out_tells err_tells
    link_tells fault said refused seen at says = absurd refused
unopened_all asked (first ∷ list) zero export tells old new before next input out err link input_tells out_tells
    err_tells link_tells fault said refused seen at says =
    unopened_first asked first list (first ∷ list) old new before next input out err link tells input_tells out_tells
    err_tells link_tells fault said refl refused.1 refused.0
    (subst
    (λ (e : ExportOption). (said ≡ refusal_of (opening_cause fault) e.file) ⊎ (said ≡ refusal_of Memory [])) at says)
unopened_all asked (first ∷ list) (suc place) export tells old new before next input out err link input_tells out_tells
    err_tells link_tells fault said refused seen at says =
    carries_opening first.file first.kind asked (behind_first asked first list before next) serve_uses
    (ExportingMayRefuse asked list) (ExportingMayRefuse asked (first ∷ list))
    (tells_of tells input_tells out_tells err_tells link_tells) (seen_of old input out err link) refused.0
    (seen_of new input out err link) (Err said)
    refused.1 (λ told. (seen told).0) (λ cause said may. inr may)
    (λ value view. unopened_all asked list place export tells refused.0 new
    (with_export before first.path first.kind value) next input out err link input_tells out_tells err_tells
    link_tells fault said
    refused.2 (λ told.
    subst (λ (w : World). AllSeen asked w (take place (news_of list))) (sym refused.1.files) (seen told).1) at says)

-- where nothing is kept nothing is exported
pub serves_nothing : (tells : Bool) (files : World) (exports : Exports) → kept_in exports ≡ []
    → Serves tells files exports nothing_exported
serves_nothing tells files exports none = record {
  each = subst (λ (l : List Export). All (IsServed tells files nothing_exported) l) (sym none)
      (All-nil (IsServed tells files nothing_exported));
  others = λ path kind no. refl;
}

-- files are exported as one thing at most
pub exported_once : (asked : Asked) (files : World) (list : List ExportOption) (before one other : ExportedValues)
    → AreExported asked files list before one → AreExported asked files list before other → one ≡ other
exported_once asked files [] before one other is also = is ∙ sym also
exported_once asked files (export ∷ list) before one other is also =
    exported_once asked files list (with_export before export.path export.kind is.0) one other is.2
    (subst (λ (v : QuotaValue). AreExported asked files list (with_export before export.path export.kind v) other)
    (sym (seen_once (files export.file) export.kind asked is.0 also.0 is.1 also.1)) also.2)

-- what holds of a refusal
pub if_refused : {T E : Type 0} (P : Type 0) (Q : E → Type 0) (result : Result T E) → ((fault : E) → P → Q fault)
    → OnErr result P → IfErr result Q
if_refused P Q (Ok value) so on = tt
if_refused P Q (Err fault) so on = so fault on
