-- A flat file of which one record was written.
use Rattle.std.proofs.Common.{◌≡◌, ◌⊎◌, ℕ, zero, suc, ◌+◌, ◌*◌, ◌<◌, ◌≤◌, Bool, true, IsTrue, List, length, take}
use Rattle.std.proofs.Common.{length-take, Result, Ok, Err, OnErr, OnOk, inl, inr, refl, sym, ap, subst, ◌∙◌, arith}
use Rattle.file_blocks.specs.Block.{bytes_of}
use Rattle.outside.specs.Count.{Rose}
use Rattle.outside.specs.Frame.{ChangesOne, OnlyReads}
use Rattle.outside.specs.ManyCalls.{IsSynced}
use Rattle.outside.specs.Seen.{StoreSeen}
use Rattle.outside.specs.World.{World, overwritten, with_bytes}
use Rattle.outside.proofs.FrameLemmas.{is_synced-read, is_synced-then}
use Rattle.opened_file.proofs.EditsOneLemmas.{edits_one-after_read, edits_one-changed}
use Rattle.std.proofs.lemmas.List.{get_or-take}
use Rattle.quota_types.specs.Bytes.{byte_at, number_at}
use Rattle.quota_types.proofs.BytesLemmas.{number_at-take}
use Rattle.quota_types.specs.Kept.{IsKept, without_timers_of_zero}
use Rattle.quota_types.specs.Rec.{kib_of}
use Rattle.quota_types.specs.KeptBytes.{KeepsOutside}
use Rattle.quota_types.specs.Format.{is_flat, record_size}
use Rattle.quota_types.specs.declared.file_kind.Format.{Format}
use Rattle.quota_types.specs.declared.record.Grace.{Grace}
use Rattle.quota_types.specs.declared.record.Rec.{Rec}
use Rattle.quota_v1.specs.Change.{FlatGraced}
use Rattle.quota_v1.specs.FlatFile.{stored_at}
use Rattle.quota_v1.specs.Slot.{AreFrom, ChangesFile, MakesOne, PutsRecord}
use Rattle.quota_v1.specs.Place.{block_time_at, block_time_start, inode_time_at, inode_time_start, record_start}
use Rattle.quota_v1.specs.Place.{time_width}
use Rattle.quota_v1.proofs.PlaceLemmas.{kept_flat, start_of_first, start_of_next, times_fill}
use Rattle.quota_v1.proofs.SlotLemmas.{inside_overwritten, keeps_overwritten, long_overwritten, made_overwritten}
use Rattle.quota_v1.proofs.SlotLemmas.{number_overwritten, stored_overwritten}

-- the bytes of a record, with two times in the place of its timers
abbrev pub with_times : Rec → Grace → Rec
with_times rec times = record rec { space = 1024 * kib_of rec.space; btime = times.block; itime = times.inode }

-- what is kept of a record is the record
kept_again : (format : Format) → is_flat format ≡ true → (id : ℕ) (rec : Rec) (times : Grace) → IsKept format id rec
    → (¬ (id ≡ 0) → (times.block ≡ rec.btime) × (times.inode ≡ rec.itime))
    → without_timers_of_zero id (with_times rec times) ≡ rec
kept_again format flat zero rec times kept other = sym (kept_flat format flat zero rec) ∙ kept.again
kept_again format flat (suc n) rec times kept other =
    let timers = other (λ same. absurd (omega (arith, same))) in
    ap (without_timers_of_zero (suc n)) (rw (timers.0, timers.1) refl)
    ∙ sym (kept_flat format flat (suc n) rec) ∙ kept.again

-- the bytes of a record that were written in its place
pub puts_record : (format : Format) → is_flat format ≡ true
    → (old : List ℕ) (id : ℕ) (rec : Rec) (times stood : Grace) (at : ℕ) (bytes : List ℕ) → at ≡ record_start format id
    → length bytes ≡ record_size format → stored_at format bytes 0 ≡ with_times rec stood → IsKept format id rec
    → (id ≡ 0 → stood ≡ times) → (¬ (id ≡ 0) → (stood.block ≡ rec.btime) × (stood.inode ≡ rec.itime))
    → PutsRecord format id rec times old (overwritten old at bytes)
puts_record format flat old id rec times stood at bytes place long stored kept first other =
    let new : List ℕ = overwritten old at bytes in
    let fill = times_fill format flat in
    record {
      long = omega (arith, long_overwritten old at bytes, place, long);
      others = subst (λ (from : ℕ). KeepsOutside from (record_start format id + record_size format) old new) place
          (keeps_overwritten old at bytes (record_start format id + record_size format) (omega (arith, place, long)));
      written =
          ap (λ (from : ℕ). without_timers_of_zero id (stored_at format new from)) (sym place)
          ∙ ap (without_timers_of_zero id) (stored_overwritten format flat old at bytes (omega (arith, long)) ∙ stored)
          ∙ kept_again format flat id rec stood kept other;
      block_time = λ is.
          ap (number_at (time_width format) new)
          (let here : block_time_start format 0 ≡ at + block_time_at =
          omega (arith, place, ap (record_start format) is) in here)
          ∙ number_overwritten (time_width format) old at bytes block_time_at (omega (arith, long, fill))
          ∙ ap (λ (r : Rec). r.btime) stored ∙ ap (λ (t : Grace). t.block) (first is);
      inode_time = λ is.
          ap (number_at (time_width format) new)
          (let here : inode_time_start format 0 ≡ at + inode_time_at format =
          omega (arith, place, ap (record_start format) is) in here)
          ∙ number_overwritten (time_width format) old at bytes (inode_time_at format) (omega (arith, long, fill))
          ∙ ap (number_at (time_width format) bytes)
          (let here : inode_time_at format ≡ 0 + inode_time_at format = omega arith in here)
          ∙ ap (λ (r : Rec). r.itime) stored ∙ ap (λ (t : Grace). t.inode) (first is);
    }

-- the bytes of record 0 that were written over with other times
pub puts_grace : (format : Format) → is_flat format ≡ true → (old : List ℕ) (grace : Grace) (shown bytes : List ℕ)
    → AreFrom old 0 shown → record_size format ≤ length shown → length bytes ≡ record_size format
    → ((k : ℕ) → k < block_time_at → byte_at bytes k ≡ byte_at shown k)
    → number_at (time_width format) bytes block_time_at ≡ grace.block
    → number_at (time_width format) bytes (inode_time_at format) ≡ grace.inode
    → FlatGraced format grace old (overwritten old 0 bytes)
puts_grace format flat old grace shown bytes from whole long keeps block inode =
    let new : List ℕ = overwritten old 0 bytes in
    let fill = times_fill format flat in
    let first = start_of_first format in
    let next = start_of_next format 0 in
    let outside : KeepsOutside 0 (record_size format) old new =
    keeps_overwritten old 0 bytes (record_size format) (omega (arith, long)) in
    let time_at : (place : ℕ) → place + time_width format ≤ length bytes
    → number_at (time_width format) new (record_start format 0 + place) ≡ number_at (time_width format) bytes place =
    λ place within.
    let at : record_start format 0 + place ≡ 0 + place = omega (arith, first) in
    ap (number_at (time_width format) new) at ∙ number_overwritten (time_width format) old 0 bytes place within in
    record {
      long = omega (arith, long_overwritten old 0 bytes, long, first, next);
      others = record {
        before = λ k low.
            let here : 0 + k ≡ k = omega arith in
            subst (λ (n : ℕ). byte_at new n ≡ byte_at old n) here
            (inside_overwritten old 0 bytes k (omega (arith, low, long, first, fill))
            ∙ keeps k (omega (arith, low, first)) ∙ from k (omega (arith, low, whole, first, fill)));
        behind = λ k high. outside.behind k (omega (arith, high, first, next));
      };
      block_time = time_at block_time_at (omega (arith, long, fill)) ∙ block;
      inode_time = time_at (inode_time_at format) (omega (arith, long, fill)) ∙ inode;
    }

-- the same of as many bytes of a buffer as a record has
pub puts_part : (format : Format) → is_flat format ≡ true
    → (old : List ℕ) (grace : Grace) (shown bytes : List ℕ) (size : ℕ) → size ≡ record_size format → AreFrom old 0 shown
    → size ≤ length shown → size ≤ length bytes
    → KeepsOutside (0 + block_time_at) (0 + record_size format) shown bytes
    → number_at (time_width format) bytes (0 + block_time_at) ≡ grace.block
    → number_at (time_width format) bytes (0 + inode_time_at format) ≡ grace.inode
    → FlatGraced format grace old (overwritten old 0 (take size bytes))
puts_part format flat old grace shown bytes size is from whole long keeps block inode =
    let fill = times_fill format flat in
    let here : inode_time_at format ≡ 0 + inode_time_at format = omega arith in
    puts_grace format flat old grace shown (take size bytes) from (omega (arith, whole, is))
    (omega (arith, long, is, length-take size bytes))
    (λ k low. get_or-take size bytes k 0 (omega (arith, low, is, fill)) ∙ keeps.before k low)
    (number_at-take (time_width format) size bytes block_time_at (omega (arith, is, fill)) ∙ block)
    (number_at-take (time_width format) size bytes (inode_time_at format) (omega (arith, is, fill))
    ∙ ap (number_at (time_width format) bytes) here ∙ inode)

-- Bytes are written into a file and synced, after a call that only read: what the two calls did, by what is told of the
-- store, and that the file with these bytes over it is as is wanted.
pub record WritesAfterRead {E : Type 0} (tells : Bool) (so : (before after : List ℕ) → Type 0) (name : List ℕ) (at : ℕ)
    (bytes : List ℕ) (old mid new : StoreSeen) (result : Result (Unit {0}) E) : Type 0 where
  pub read : OnlyReads true name old mid
  pub few : mid.reads ≤ old.reads + 1
  pub written : OnOk result (IsTrue tells → new.files ≡ with_bytes mid.files name at bytes)
  pub synced : OnOk result (IsTrue tells → IsSynced name mid new)
  pub torn : OnErr result
      (IsTrue tells → (new.files ≡ mid.files) ⊎ (new.files ≡ with_bytes mid.files name at bytes))
  pub cause : OnErr result (Rose mid.faults new.faults)
  pub leaves : ChangesOne name mid new
  pub writes : new.writes ≤ mid.writes + 1
  pub rose : Rose mid.writes new.writes
  pub some : 1 ≤ length bytes
  pub fits : length bytes ≤ 1024
  pub made : IsTrue tells → so (bytes_of (old.files name)) (overwritten (bytes_of (old.files name)) at bytes)

-- so the file is changed
pub changes_file : {E : Type 0} (tells : Bool) (so : (before after : List ℕ) → Type 0) (name : List ℕ) (at : ℕ)
    (bytes : List ℕ) {old mid new : StoreSeen} (result : Result (Unit {0}) E)
    → WritesAfterRead tells so name at bytes old mid new result → ChangesFile tells so name old new result
changes_file tells so name at bytes {old} {mid} {new} (Ok told) w = record {
  changed = λ tell. made_overwritten so old.files new.files name at bytes
      (w.written tell ∙ ap (λ (files : World). with_bytes files name at bytes) w.read.files) w.some w.fits
      (w.made tell);
  synced = λ tell. is_synced-then name old mid new (is_synced-read name old mid w.read) (w.synced tell);
  torn = tt;
  cause = tt;
  others = λ other differ. w.leaves.files other differ ∙ ap (λ (files : World). files other) w.read.files;
  leaves = edits_one-after_read name old mid new w.read (edits_one-changed name mid new w.leaves (inr w.rose));
  reads = omega (arith, w.few, w.leaves.reads);
  writes = omega (arith, w.writes, w.read.writes);
}
changes_file tells so name at bytes {old} {mid} {new} (Err fault) w = record {
  changed = tt;
  synced = tt;
  torn = λ tell. elim (w.torn tell) [
    | inl same ↦ inl (same ∙ w.read.files)
    | inr wrote ↦ inr
        (made_overwritten so old.files new.files name at bytes
        (wrote ∙ ap (λ (files : World). with_bytes files name at bytes) w.read.files) w.some w.fits (w.made tell))
  ];
  cause = omega (arith, w.cause, w.read.later);
  others = λ other differ. w.leaves.files other differ ∙ ap (λ (files : World). files other) w.read.files;
  leaves = edits_one-after_read name old mid new w.read (edits_one-changed name mid new w.leaves (inr w.rose));
  reads = omega (arith, w.few, w.leaves.reads);
  writes = omega (arith, w.writes, w.read.writes);
}

-- a change after a call that only read, which made no call of `read` itself
pub changes_after_read : {E : Type 0} (tells : Bool) (so : (before after : List ℕ) → Type 0) (name : List ℕ)
    (old mid new : StoreSeen) (result : Result (Unit {0}) E)
    → OnlyReads true name old mid → mid.reads ≤ old.reads + 1 → new.reads ≤ mid.reads
    → ChangesFile tells so name mid new result → ChangesFile tells so name old new result
changes_after_read tells so name old mid new (Ok told) read few same changes = record {
  changed = λ tell. subst (λ (files : World). MakesOne so name files new.files) read.files (changes.changed tell);
  synced = λ tell. is_synced-then name old mid new (is_synced-read name old mid read) (changes.synced tell);
  torn = tt;
  cause = tt;
  others = λ other differ. changes.others other differ ∙ ap (λ (files : World). files other) read.files;
  leaves = edits_one-after_read name old mid new read changes.leaves;
  reads = omega (arith, few, same);
  writes = omega (arith, changes.writes, read.writes);
}
changes_after_read tells so name old mid new (Err fault) read few same changes = record {
  changed = tt;
  synced = tt;
  torn = λ tell.
      subst (λ (files : World). (new.files ≡ files) ⊎ MakesOne so name files new.files) read.files (changes.torn tell);
  cause = omega (arith, changes.cause, read.later);
  others = λ other differ. changes.others other differ ∙ ap (λ (files : World). files other) read.files;
  leaves = edits_one-after_read name old mid new read changes.leaves;
  reads = omega (arith, few, same);
  writes = omega (arith, changes.writes, read.writes);
}
