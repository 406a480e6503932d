use Rattle.std.proofs.Common.{◌≡◌, ◌≢◌, true, false, List, [], None, rules, sym, subst, ◌∙◌, arith}
use Rattle.std.specs.List.Sorted.{IsStrictlyIncreasing}
use Rattle.quota_types.specs.declared.record.Entry.{Entry}
use Rattle.quota_value.specs.Listed.{ids_of}
use Rattle.outside.proofs.FrameLemmas.{are_synced-read, are_synced-then, syncs-after_read, syncs-less, syncs-read}
use Rattle.outside.proofs.UnsyncedLemmas.{replaced-named}
use Rattle.quota_map.proofs.ReplacedLemmas.{replaced-refused, replaced-synced, replaced_since}
use Rattle.convert.specs.Convert.{AskedConversion, HasNoTarget, IsMadeOf, asked_for}
use Rattle.convert.specs.Listing.{kept_list}
use Rattle.convert.proofs.ConvertLemmas.{absent_of, committed_of, converted_of, made_of, not_made_of, source_refused}
use Rattle.convert.proofs.ConvertLemmas.{unfit_of}
use Rattle.convert.proofs.ValueLemmas.{kept_ascends}
use Rattle.convert.proofs.converting.convert.Goals as goal

pub returns-in-Err-read_source-clause-refused : goal.returns-in-Err-read_source-clause-refused
returns-in-Err-read_source-clause-refused g c =
    let S = g.S.Store in
    let asked : AskedConversion =
    asked_for c.args.from.now c.args.to.now c.args.old c.args.new c.args.kind c.args.limit in
    let apart : c.args.from.now ≢ c.args.to.now = search rules in
    let none : c.in-Ok-None.field-0 ≡ None = search rules in
    let looked = c.in-Ok-None.ensures in
    source_refused S.tells asked (S.seen c.args.store.now) (S.seen c.size.new.self) (S.seen c.read_source.new.store)
    c.in-Err-read_source.fault
    (record {
      apart = apart;
      absent = λ told.
          absent_of c.in-Ok-None.field-0 ((S.seen c.args.store.now).files c.args.to.now) none (looked.found told);
    })
    looked.leaves.files looked.leaves.later c.in-Err-read_source.ensures.refused

pub returns-in-Err-keep_entries-clause-refused : goal.returns-in-Err-keep_entries-clause-refused
returns-in-Err-keep_entries-clause-refused g c =
    let S = g.S.Store in
    let asked : AskedConversion =
    asked_for c.args.from.now c.args.to.now c.args.old c.args.new c.args.kind c.args.limit in
    let apart : c.args.from.now ≢ c.args.to.now = search rules in
    let none : c.in-Ok-None.field-0 ≡ None = search rules in
    let looked = c.in-Ok-None.ensures in
    let read = c.in-Ok.ensures in
    let free : HasNoTarget S.tells asked (S.seen c.args.store.now).files =
    record {
      apart = apart;
      absent = λ told.
          absent_of c.in-Ok-None.field-0 ((S.seen c.args.store.now).files c.args.to.now) none (looked.found told);
    } in
    unfit_of S.tells asked (S.seen c.args.store.now) (S.seen c.size.new.self) c.in-Ok.carried.grace read.read.0
    c.in-Ok.carried.entries.items looked.leaves.files read.read.1 read.ascends
    c.in-Err-keep_entries.out free c.in-Err-keep_entries.ensures.refused

pub replace_file-requires-clause-ascending : goal.replace_file-requires-clause-ascending
replace_file-requires-clause-ascending g c =
    let is : c.as_slice.result.now ≡ kept_list c.args.new c.in-Ok.carried.entries.items =
    c.as_slice.ensures.value ∙ c.in-Ok-keep_entries.ensures.kept in
    subst (λ (list : List Entry). IsStrictlyIncreasing (ids_of list)) (sym is)
    (kept_ascends c.args.new c.in-Ok.carried.entries.items c.in-Ok.ensures.ascends)

pub returns-in-Ok-replace_file-clause-made : goal.returns-in-Ok-replace_file-clause-made
returns-in-Ok-replace_file-clause-made g c =
    let S = g.S.Store in
    let asked : AskedConversion =
    asked_for c.args.from.now c.args.to.now c.args.old c.args.new c.args.kind c.args.limit in
    let apart : c.args.from.now ≢ c.args.to.now = search rules in
    let none : c.in-Ok-None.field-0 ≡ None = search rules in
    let looked = c.in-Ok-None.ensures in
    let read = c.in-Ok.ensures in
    let kept = c.in-Ok-keep_entries.ensures in
    let done = c.in-Ok-replace_file.ensures in
    let old = S.seen c.args.store.now in
    let list = c.in-Ok.carried.entries.items in
    let entries = c.as_slice.result.now in
    let free : HasNoTarget S.tells asked old.files = record {
      apart = apart;
      absent = λ told. absent_of c.in-Ok-None.field-0 (old.files c.args.to.now) none (looked.found told);
    } in
    let is : entries ≡ kept_list c.args.new list = c.as_slice.ensures.value ∙ kept.kept in
    made_of S.tells asked old (S.seen c.read_source.new.store) (S.seen c.replace_file.new.store)
    c.in-Ok.carried.grace entries free
    (converted_of S.tells asked old (S.seen c.size.new.self) c.in-Ok.carried.grace read.read.0 list looked.leaves.files
    read.read.1 read.ascends entries kept.fits is)
    (subst (λ (l : List Entry). IsStrictlyIncreasing (ids_of l)) (sym is) (kept_ascends c.args.new list read.ascends))
    (read.leaves.files ∙ looked.leaves.files) done.few done.replaced done.seen

pub returns-in-Ok-replace_file-clause-synced : goal.returns-in-Ok-replace_file-clause-synced
returns-in-Ok-replace_file-clause-synced g c = λ told.
    let done = c.in-Ok-replace_file.ensures in
    let looked = are_synced-then _ _ _ (are_synced-read _ _ _ c.in-Ok-None.ensures.leaves)
    (are_synced-read _ _ _ c.in-Ok.ensures.leaves) in
    let synced = are_synced-then _ _ _ looked (replaced-synced c.args.to.now _ _ (done.synced told) done.leaves) in
    record { none = synced.none; changed = synced.changed; named = replaced-named _ _ c.args.to.now (done.synced told) }

pub returns-clause-refused : goal.returns-clause-refused
returns-clause-refused g c =
    let S = g.S.Store in
    let asked : AskedConversion =
    asked_for c.args.from.now c.args.to.now c.args.old c.args.new c.args.kind c.args.limit in
    let apart : c.args.from.now ≢ c.args.to.now = search rules in
    let none : c.in-Ok-None.field-0 ≡ None = search rules in
    let looked = c.in-Ok-None.ensures in
    let read = c.in-Ok.ensures in
    let kept = c.in-Ok-keep_entries.ensures in
    let old = S.seen c.args.store.now in
    let list = c.in-Ok.carried.entries.items in
    let entries = c.as_slice.result.now in
    let free : HasNoTarget S.tells asked old.files = record {
      apart = apart;
      absent = λ told. absent_of c.in-Ok-None.field-0 (old.files c.args.to.now) none (looked.found told);
    } in
    let is : entries ≡ kept_list c.args.new list = c.as_slice.ensures.value ∙ kept.kept in
    not_made_of S.tells asked old (S.seen c.read_source.new.store) (S.seen c.replace_file.new.store)
    c.in-Ok.carried.grace entries free
    (converted_of S.tells asked old (S.seen c.size.new.self) c.in-Ok.carried.grace read.read.0 list looked.leaves.files
    read.read.1 read.ascends entries kept.fits is)
    (subst (λ (l : List Entry). IsStrictlyIncreasing (ids_of l)) (sym is) (kept_ascends c.args.new list read.ascends))
    c.in-Err-replace_file.fault (omega (arith, looked.leaves.later, read.leaves.later))
    c.in-Err-replace_file.ensures.refused

pub returns-in-Err-read_source-clause-left_synced : goal.returns-in-Err-read_source-clause-left_synced
returns-in-Err-read_source-clause-left_synced g c =
    syncs-after_read _ _ _ _ c.in-Ok-None.ensures.leaves (syncs-read _ _ _ c.in-Err-read_source.ensures.leaves)

pub returns-in-Err-keep_entries-clause-left_synced : goal.returns-in-Err-keep_entries-clause-left_synced
returns-in-Err-keep_entries-clause-left_synced g c =
    syncs-less _ _ (syncs-after_read _ _ _ _ c.in-Ok-None.ensures.leaves (syncs-read _ _ _ c.in-Ok.ensures.leaves))

pub returns-clause-left_synced : goal.returns-clause-left_synced
returns-clause-left_synced g c =
    let left = c.in-Err-replace_file.ensures in
    syncs-after_read _ _ _ _ c.in-Ok-None.ensures.leaves
    (syncs-after_read _ _ _ _ c.in-Ok.ensures.leaves
    (replaced-refused _ _ _ _ c.in-Err-replace_file.fault left.leaves.later left.refused left.unwritten))

pub returns-in-Ok-replace_file-clause-commits : goal.returns-in-Ok-replace_file-clause-commits
returns-in-Ok-replace_file-clause-commits g c = λ told.
    let S = g.S.Store in
    let asked : AskedConversion =
    asked_for c.args.from.now c.args.to.now c.args.old c.args.new c.args.kind c.args.limit in
    let apart : c.args.from.now ≢ c.args.to.now = search rules in
    let none : c.in-Ok-None.field-0 ≡ None = search rules in
    let looked = c.in-Ok-None.ensures in
    let read = c.in-Ok.ensures in
    let kept = c.in-Ok-keep_entries.ensures in
    let old = S.seen c.args.store.now in
    let list = c.in-Ok.carried.entries.items in
    let entries = c.as_slice.result.now in
    let free : HasNoTarget S.tells asked old.files = record {
      apart = apart;
      absent = λ told. absent_of c.in-Ok-None.field-0 (old.files c.args.to.now) none (looked.found told);
    } in
    let is : entries ≡ kept_list c.args.new list = c.as_slice.ensures.value ∙ kept.kept in
    replaced_since true c.args.to.now _ (IsMadeOf S.tells asked old.files) old.files
    (S.seen c.read_source.new.store).files (S.seen c.replace_file.new.store).files
    (λ worlds. S.commits worlds c.read_source.new.store c.replace_file.new.store)
    (λ worlds. S.commits worlds c.args.store.now c.replace_file.new.store)
    (read.leaves.files ∙ looked.leaves.files)
    (λ worlds. g.met.S.Store.commits_behind_none worlds _ _ _
    (g.met.S.Store.commits_behind_none [] _ _ _ looked.commits read.commits))
    (λ bytes stands. committed_of S.tells asked old (S.seen c.read_source.new.store) (S.seen c.replace_file.new.store)
    c.in-Ok.carried.grace entries free
    (converted_of S.tells asked old (S.seen c.size.new.self) c.in-Ok.carried.grace read.read.0 list looked.leaves.files
    read.read.1 read.ascends entries kept.fits is)
    (subst (λ (l : List Entry). IsStrictlyIncreasing (ids_of l)) (sym is) (kept_ascends c.args.new list read.ascends))
    bytes stands.0 stands.1)
    (c.in-Ok-replace_file.ensures.commits told)

pub returns-clause-commits : goal.returns-clause-commits
returns-clause-commits g c = λ told.
    let S = g.S.Store in
    let asked : AskedConversion =
    asked_for c.args.from.now c.args.to.now c.args.old c.args.new c.args.kind c.args.limit in
    let apart : c.args.from.now ≢ c.args.to.now = search rules in
    let none : c.in-Ok-None.field-0 ≡ None = search rules in
    let looked = c.in-Ok-None.ensures in
    let read = c.in-Ok.ensures in
    let kept = c.in-Ok-keep_entries.ensures in
    let old = S.seen c.args.store.now in
    let list = c.in-Ok.carried.entries.items in
    let entries = c.as_slice.result.now in
    let free : HasNoTarget S.tells asked old.files = record {
      apart = apart;
      absent = λ told. absent_of c.in-Ok-None.field-0 (old.files c.args.to.now) none (looked.found told);
    } in
    let is : entries ≡ kept_list c.args.new list = c.as_slice.ensures.value ∙ kept.kept in
    replaced_since false c.args.to.now _ (IsMadeOf S.tells asked old.files) old.files
    (S.seen c.read_source.new.store).files (S.seen c.replace_file.new.store).files
    (λ worlds. S.commits worlds c.read_source.new.store c.replace_file.new.store)
    (λ worlds. S.commits worlds c.args.store.now c.replace_file.new.store)
    (read.leaves.files ∙ looked.leaves.files)
    (λ worlds. g.met.S.Store.commits_behind_none worlds _ _ _
    (g.met.S.Store.commits_behind_none [] _ _ _ looked.commits read.commits))
    (λ bytes stands. committed_of S.tells asked old (S.seen c.read_source.new.store) (S.seen c.replace_file.new.store)
    c.in-Ok.carried.grace entries free
    (converted_of S.tells asked old (S.seen c.size.new.self) c.in-Ok.carried.grace read.read.0 list looked.leaves.files
    read.read.1 read.ascends entries kept.fits is)
    (subst (λ (l : List Entry). IsStrictlyIncreasing (ids_of l)) (sym is) (kept_ascends c.args.new list read.ascends))
    bytes stands.0 stands.1)
    (c.in-Err-replace_file.ensures.commits told)
