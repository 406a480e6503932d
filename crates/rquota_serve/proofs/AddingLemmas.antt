-- Files that are added to exports one after another.
use Rattle.std.proofs.Common.{◌≡◌, ◌≤◌, ◌<◌, ◌+◌, ℕ, zero, suc, Bool, true, false, IsTrue, List, [], ◌∷◌, ◌++◌, length}
use Rattle.std.proofs.Common.{map, take, Result, Ok, Err, IfErr, add-one, refl, sym, ap, subst, ◌∙◌, arith}
use Rattle.std.proofs.Common.{length-append}
use Rattle.std.specs.Prelude.{OnOk, nat_lt, ⊤}
use Rattle.std.specs.List.{All}
use Rattle.std.proofs.lemmas.Bool.{and_parts}
use Rattle.std.proofs.lemmas.Bool.Decides.{nat_tests}
use Rattle.std.proofs.lemmas.List.{length-map}
use Rattle.std.proofs.lemmas.List.Elements.{All-push}
use Rattle.quota_types.specs.declared.file_kind.Format.{Format}
use Rattle.quota_types.specs.declared.file_kind.Format.TheVariants.{V1}
use Rattle.file_blocks.specs.Block.{bytes_of}
use Rattle.outside.specs.Frame.{OnlyReads}
use Rattle.outside.specs.ManyCalls.{Syncs}
use Rattle.quota_value.specs.QuotaValue.{QuotaValue}
use Rattle.outside.specs.Seen.{StoreSeen}
use Rattle.outside.specs.World.{World}
use Rattle.opened_file.specs.declared.quota_file.OpenFault.{OpenFault}
use Rattle.outside.proofs.FrameLemmas.{syncs-after_read, syncs-none, syncs-read}
use Rattle.quota_map.specs.Asked.{Asked}
use Rattle.quota_map.specs.View.{IsOpenFault, IsOpenedAs, IsView, opening_reads, fresh_seen}
use Rattle.rquota_serve.specs.Adding.{AreToldOf, MayAddAll, NewSeen, reads_of}
use Rattle.rquota_serve.specs.Added.{AreAdded, IsRefusedAt, ReadsEach, added_of, new_seen, news_seen, one_later}
use Rattle.rquota_serve.specs.Added.{tried_of}
use Rattle.rquota_serve.specs.ExportedValues.{ExportedValues, with_export}
use Rattle.rquota_serve.specs.Exports.{IsServed, Serves, export_seen, fresh_export, kept_in}
use Rattle.rquota_serve.specs.ExportSeen.{ExportSeen, is_exported, may_add}
use Rattle.rquota_serve.specs.declared.export.Export.{Export}
use Rattle.rquota_serve.specs.declared.exports.Exports.{Exports}
use Rattle.rquota_serve.specs.declared.new_export.AddFault.{AddFault}
use Rattle.rquota_serve.specs.declared.new_export.NewExport.{NewExport}

-- What stays where files were only read, one after another.
pub record Stays (old new : StoreSeen) : Type 0 where
  pub files : new.files ≡ old.files
  pub writes : new.writes ≡ old.writes
  pub later : old.faults ≤ new.faults

pub stays_each : (news : List NewSeen) (old new : StoreSeen) → ReadsEach news old new → Stays old new
stays_each [] old new is = record {
  files = ap (λ (s : StoreSeen). s.files) is;
  writes = ap (λ (s : StoreSeen). s.writes) is;
  later = let same = ap (λ (s : StoreSeen). s.faults) is in omega (arith, same);
}
stays_each (one ∷ news) old new reads =
    let rest = stays_each news reads.0 new reads.2 in
    record {
      files = rest.files ∙ reads.1.files;
      writes = rest.writes ∙ reads.1.writes;
      later = omega (arith, rest.later, reads.1.later);
    }

pub stays_refused : (tells : Bool) (asked : Asked) (place : ℕ) (news : List NewSeen) (fault : OpenFault)
    (old new : StoreSeen) → IsRefusedAt tells asked place news fault old new → Stays old new
stays_refused tells asked place [] fault old new refused = absurd refused
stays_refused tells asked zero (one ∷ news) fault old new refused =
    record { files = refused.0.files; writes = refused.0.writes; later = refused.0.later }
stays_refused tells asked (suc place) (one ∷ news) fault old new refused =
    let rest = stays_refused tells asked place news fault refused.0 new refused.2 in
    record {
      files = rest.files ∙ refused.1.files;
      writes = rest.writes ∙ refused.1.writes;
      later = omega (arith, rest.later, refused.1.later);
    }

-- nothing was written, whether or not each was read
pub synced_each : {done : Bool} (news : List NewSeen) (old new : StoreSeen) → ReadsEach news old new
    → Syncs done old new
synced_each {done} [] old new is = subst (λ (s : StoreSeen). Syncs done old s) (sym is) (syncs-none old)
synced_each (one ∷ news) old new reads =
    syncs-after_read one.file old reads.0 new reads.1 (synced_each news reads.0 new reads.2)

pub synced_refused : (tells : Bool) (asked : Asked) (place : ℕ) (news : List NewSeen) (fault : OpenFault)
    (old new : StoreSeen) → IsRefusedAt tells asked place news fault old new → Syncs false old new
synced_refused tells asked place [] fault old new refused = absurd refused
synced_refused tells asked zero (one ∷ news) fault old new refused = syncs-read one.file old new refused.0
synced_refused tells asked (suc place) (one ∷ news) fault old new refused =
    syncs-after_read one.file old refused.0 new refused.1
    (synced_refused tells asked place news fault refused.0 new refused.2)

-- the opened files are those of the formats that were asked for
pub asked_all : (asked : Asked) (news : List NewSeen) (old new : List ExportSeen) → AreAdded asked news old new
    → All (λ (e : ExportSeen). IsOpenedAs asked e.file.format) old
    → All (λ (e : ExportSeen). IsOpenedAs asked e.file.format) new
asked_all asked [] old new is all = subst (All (λ (e : ExportSeen). IsOpenedAs asked e.file.format)) (sym is) all
asked_all asked (one ∷ news) old new is all =
    asked_all asked news (old ++ fresh_export one.path one.kind one.file is.0 ∷ []) new is.2
    (All-push (λ (e : ExportSeen). IsOpenedAs asked e.file.format) old
    (fresh_export one.path one.kind one.file is.0) all is.1)

-- at most 16 may be exported
few_before : (before : List ExportSeen) (one : NewSeen) → IsTrue (may_add before one.path one.kind) → length before < 16
few_before before one may =
    let few : nat_lt (length before) 16 ≡ true = (and_parts _ _ may).0 in
    grind (arith, nat_tests)

few_all : (before : List ExportSeen) (news : List NewSeen) → MayAddAll before news → length before ≤ 16
    → length before + length news ≤ 16
few_all before [] may few = omega (arith, few)
few_all before (one ∷ news) may few =
    let seen : ExportSeen = record { path = one.path; kind = one.kind; file = fresh_seen [] V1 } in
    let less = few_before before one may.0 in
    let long = length-append before (seen ∷ []) in
    let rest = few_all (before ++ seen ∷ []) news (may.1 (fresh_seen [] V1)) (omega (arith, less, long)) in
    omega (arith, rest, long)

pub few_news : (before : List ExportSeen) (news : List NewSeen) → MayAddAll before news → length news ≤ 16
few_news before [] may = omega arith
few_news before (one ∷ news) may =
    omega (arith, few_all before (one ∷ news) may (omega (arith, few_before before one may.0)))

-- each of these files is seen as a value
abbrev pub AllSeen : Asked → World → List NewSeen → Type 0
AllSeen asked files [] = ⊤
AllSeen asked files (one ∷ news) =
    ((value : QuotaValue) × IsView (files one.file) one.kind asked (Ok value)) × AllSeen asked files news

pub all_seen : (asked : Asked) (files : World) (news : List NewSeen) (before exported : ExportedValues)
    → AreToldOf asked files news before exported → AllSeen asked files news
all_seen asked files [] before exported is = tt
all_seen asked files (one ∷ news) before exported is =
    ((is.0, is.1), all_seen asked files news (with_export before one.path one.kind is.0) exported is.2)

-- All that is said where files are added.
pub record AllAdded (tells : Bool) (asked : Asked) (news : List NewSeen) (result : Result (Unit {0}) AddFault)
    (was is : List ExportSeen) (served serving : ExportedValues → Type 0) (old new : StoreSeen) : Type 0 where
  pub added : AreAdded asked (added_of news result) was is
  pub serves : IsTrue tells → (before : ExportedValues) → served before
      → (exported : ExportedValues) × AreToldOf asked old.files (added_of news result) before exported
      × serving exported
  pub leaves : OnOk result (ReadsEach news old new)
  pub reads : IsTrue tells → new.reads ≤ old.reads + reads_of asked old.files (tried_of news result)
  pub refused : IfErr result (λ met. IsRefusedAt tells asked met.place news met.fault old new)
  pub within : IfErr result (λ met. met.place < length news)

pub all_none : (tells : Bool) (asked : Asked) (was : List ExportSeen) (served : ExportedValues → Type 0)
    (store : StoreSeen) → AllAdded tells asked [] (Ok tt) was was served served store store
all_none tells asked was served store = record {
  added = refl;
  serves = λ told before is. (before, refl, is);
  leaves = refl;
  reads = λ told. omega arith;
  refused = tt;
  within = tt;
}

added_later : (one : NewSeen) (news : List NewSeen) (result : Result (Unit {0}) AddFault)
    → added_of (one ∷ news) (one_later result) ≡ one ∷ added_of news result
added_later one news (Ok done) = refl
added_later one news (Err met) = ap (λ (n : ℕ). take n (one ∷ news)) (add-one met.place)

tried_later : (one : NewSeen) (news : List NewSeen) (result : Result (Unit {0}) AddFault)
    → tried_of (one ∷ news) (one_later result) ≡ one ∷ tried_of news result
tried_later one news (Ok done) = refl
tried_later one news (Err met) = ap (λ (n : ℕ). take n (one ∷ news)) (add-one (met.place + 1))

on_later : (P Q : Type 0) (result : Result (Unit {0}) AddFault) → (P → Q) → OnOk result P → OnOk (one_later result) Q
on_later P Q (Ok done) so on = so on
on_later P Q (Err met) so on = tt

err_later : (P Q : AddFault → Type 0) (result : Result (Unit {0}) AddFault)
    → ((met : AddFault) → P met → Q (record met { place = met.place + 1 })) → IfErr result P
    → IfErr (one_later result) Q
err_later P Q (Ok done) so on = tt
err_later P Q (Err met) so on = so met on

-- one was added, and then the others behind it
pub all_more : (tells : Bool) (asked : Asked) (one : NewSeen) (news : List NewSeen)
    (result : Result (Unit {0}) AddFault) (was between is : List ExportSeen)
    (served middle serves : ExportedValues → Type 0) (old mid new : StoreSeen)
    → OnlyReads true one.file old mid
    → (opened : Format) × IsOpenedAs asked opened
    × (between ≡ was ++ fresh_export one.path one.kind one.file opened ∷ [])
    → (IsTrue tells → (value : QuotaValue) × IsView (old.files one.file) one.kind asked (Ok value))
    → (IsTrue tells → (before : ExportedValues) (value : QuotaValue) → served before
    → IsView (old.files one.file) one.kind asked (Ok value) → middle (with_export before one.path one.kind value))
    → (IsTrue tells → mid.reads ≤ old.reads + opening_reads asked (bytes_of (old.files one.file)))
    → AllAdded tells asked news result between is middle serves mid new
    → AllAdded tells asked (one ∷ news) (one_later result) was is served serves old new
all_more tells asked one news result was between is served middle serves old mid new leaves opened seen first
    reads all = record {
      added = subst (λ (l : List NewSeen). AreAdded asked l was is) (sym (added_later one news result)) (
        opened.0,
        opened.1,
        subst (λ (b : List ExportSeen). AreAdded asked (added_of news result) b is) opened.2 all.added,
      );
      serves = λ told before serving.
          let found = seen told in
          let rest =
          all.serves told (with_export before one.path one.kind found.0)
          (first told before found.0 serving found.1) in (
            rest.0,
            subst (λ (l : List NewSeen). AreToldOf asked old.files l before rest.0)
                (sym (added_later one news result)) (
                  found.0,
                  found.1,
                  subst (λ (w : World). AreToldOf asked w (added_of news result)
                      (with_export before one.path one.kind found.0) rest.0) leaves.files rest.1,
                ),
            rest.2,
          );
      leaves = on_later _ _ result (λ each. (mid, leaves, each)) all.leaves;
      reads = λ told.
          let same : reads_of asked mid.files (tried_of news result) ≡ reads_of asked old.files (tried_of news result) =
          ap (λ (w : World). reads_of asked w (tried_of news result)) leaves.files in
          let more : reads_of asked old.files (tried_of (one ∷ news) (one_later result))
          ≡ opening_reads asked (bytes_of (old.files one.file)) + reads_of asked old.files (tried_of news result) =
          ap (λ (l : List NewSeen). reads_of asked old.files l) (tried_later one news result) in
          omega (arith, all.reads told, reads told, same, more);
      refused = err_later _ _ result (λ met refused.
          subst (λ (n : ℕ). IsRefusedAt tells asked n (one ∷ news) met.fault old new) (sym (add-one met.place))
          (mid, leaves, refused)) all.refused;
      within = err_later _ _ result (λ met low. omega (arith, low)) all.within;
    }

-- the first one was not added
pub all_refused : (tells : Bool) (asked : Asked) (one : NewSeen) (news : List NewSeen) (fault : OpenFault)
    (was is : List ExportSeen) (served serves : ExportedValues → Type 0) (old new : StoreSeen)
    → OnlyReads false one.file old new
    → IsOpenFault old.faults new.faults tells (old.files one.file) one.kind asked fault → is ≡ was
    → ((before : ExportedValues) → served before → serves before)
    → (IsTrue tells → new.reads ≤ old.reads + opening_reads asked (bytes_of (old.files one.file)))
    → AllAdded tells asked (one ∷ news) (Err (record { place = 0; fault = fault })) was is served serves old new
all_refused tells asked one news fault was is served serves old new leaves refused same stays reads = record {
  added = same;
  serves = λ told before serving. (before, refl, stays before serving);
  leaves = tt;
  reads = λ told. omega (arith, reads told);
  refused = (leaves, refused);
  within = omega arith;
}

-- exports that are kept as they were serve what they did, once the files are as they were
pub serves_kept : (tells : Bool) (old new : World) (was is : Exports) (exported : ExportedValues)
    → kept_in is ≡ kept_in was → new ≡ old → Serves tells old was exported → Serves tells new is exported
serves_kept tells old new was is exported same files serves = record {
  each = subst (λ (w : World). All (IsServed tells w exported) (kept_in is)) (sym files)
      (subst (All (IsServed tells old exported)) (sym same) serves.each);
  others = λ path kind free.
      serves.others path kind (ap (λ (l : List Export). is_exported (map export_seen l) path kind) (sym same) ∙ free);
}

-- the same of an equal list, and of an equal result
pub all_of : (tells : Bool) (asked : Asked) (news other : List NewSeen) (result answered : Result (Unit {0}) AddFault)
    (was is : List ExportSeen) (served serves : ExportedValues → Type 0) (old new : StoreSeen)
    → other ≡ news → answered ≡ result → AllAdded tells asked news result was is served serves old new
    → AllAdded tells asked other answered was is served serves old new
all_of tells asked news other result answered was is served serves old new list_is result_is all =
    subst (λ (l : List NewSeen). AllAdded tells asked l answered was is served serves old new) (sym list_is)
    (subst (λ (r : Result (Unit {0}) AddFault). AllAdded tells asked news r was is served serves old new)
    (sym result_is) all)

-- there is no file to add
pub no_news : (list : List NewExport) → length list ≡ 0 → news_seen list ≡ []
no_news [] none = refl
no_news (one ∷ list) none = absurd (omega (arith, none))

-- places in a list are those in what is seen of it
pub within_list : (list : List NewExport) (result : Result (Unit {0}) AddFault)
    → IfErr result (λ met. met.place < length (news_seen list)) → IfErr result (λ met. met.place < length list)
within_list list (Ok done) low = tt
within_list list (Err met) low = omega (arith, low, length-map list new_seen)

pub within_news : (list : List NewExport) (result : Result (Unit {0}) AddFault)
    → IfErr result (λ met. met.place < length list) → IfErr result (λ met. met.place < length (news_seen list))
within_news list (Ok done) low = tt
within_news list (Err met) low = omega (arith, low, length-map list new_seen)
