-- Records of a flat file of which a part was written over.
use Rattle.std.proofs.Common.{◌≡◌, ◌≢◌, ℕ, zero, suc, ◌+◌, ◌*◌, ◌%◌, ◌<◌, ◌≤◌, Bool, true, false, cond, nat_le, ◌==◌}
use Rattle.std.proofs.Common.{List, length, Option, Some, None, refl, sym, ap, ◌∙◌, inl, inr, arith}
use Rattle.std.proofs.lemmas.Bool.{cases_lt, lt-leb, cases_Bool}
use Rattle.std.proofs.lemmas.Bool.Decides.{nat_tests, eqb_tells}
use Rattle.std.specs.Cmp.{nat_cmp_total, unsigned_tied}
use Rattle.std.specs.FinMap.{get, get-insert, get-remove}
use Rattle.quota_types.specs.Format.{is_flat, record_size}
use Rattle.quota_types.specs.declared.file_kind.Format.{Format}
use Rattle.quota_types.specs.declared.record.Rec.{Rec}
use Rattle.quota_types.specs.declared.record.Grace.{Grace}
use Rattle.quota_types.specs.Bytes.{byte_at, number_at}
use Rattle.quota_types.specs.Kept.{kept_of}
use Rattle.quota_types.specs.Range.{grace_unfit}
use Rattle.quota_types.specs.Rec.{IsNull, is_zeros, kib_of}
use Rattle.quota_types.proofs.BytesLemmas.{number_at-past, number_same}
use Rattle.quota_value.specs.QuotaValue.{QuotaValue, with_record, without_record, with_grace}
use Rattle.quota_types.specs.KeptBytes.{KeepsOutside}
use Rattle.quota_v1.specs.FlatFile.{FlatStandsFor, flat_record, flat_grace, or_week, stored_at, timed_record}
use Rattle.quota_v1.specs.FlatFile.{unless_zeros}
use Rattle.quota_v1.specs.FlatCalls.{stored_record}
use Rattle.quota_v1.specs.Place.{block_time_at, block_time_start, inode_time_at, inode_time_start, record_start}
use Rattle.quota_v1.specs.Place.{time_width}
use Rattle.quota_types.proofs.NumberLemmas.{number_before, number_behind}
use Rattle.quota_v1.proofs.PlaceLemmas.{before_start, grace_room, kept_flat, start_of_next, starts_apart, times_fill}

-- an identifier above 0 has timers
timed_record-other : (format : Format) (file : List ℕ) (id : ℕ) → (id == 0) ≡ false
    → timed_record format file id ≡ stored_record format file id
timed_record-other format file id other =
    ap (λ (b : Bool).
    cond b (record (stored_record format file id) { btime = 0; itime = 0 }) (stored_record format file id)) other

not_zero : (n : ℕ) → (suc n == 0) ≡ false
not_zero n = grind (arith, nat_tests)

-- Where the record of an identifier above 0 starts in a flat file stand the eight numbers of a record, of which the
-- format keeps all.
pub record HasNumbers (format : Format) (file : List ℕ) (id at : ℕ) (rec : Rec) : Type 0 where
  pub flat : is_flat format ≡ true
  pub place : at ≡ record_start format id
  pub other : (id == 0) ≡ false
  pub kept : kept_of format id rec ≡ rec
  pub bhard : number_at 4 file at ≡ rec.bhard
  pub bsoft : number_at 4 file (at + 4) ≡ rec.bsoft
  pub space : number_at 4 file (at + 8) ≡ kib_of rec.space
  pub ihard : number_at 4 file (at + 12) ≡ rec.ihard
  pub isoft : number_at 4 file (at + 16) ≡ rec.isoft
  pub inodes : number_at 4 file (at + 20) ≡ rec.inodes
  pub btime : number_at (time_width format) file (at + block_time_at) ≡ rec.btime
  pub itime : number_at (time_width format) file (at + inode_time_at format) ≡ rec.itime

-- so it is the record of the identifier
pub written_record : {format : Format} {file : List ℕ} {id at : ℕ} {rec : Rec} → HasNumbers format file id at rec
    → timed_record format file id ≡ rec
written_record {format} {file} {id} {at} {rec} w =
    let whole : record rec { space = 1024 * kib_of rec.space } ≡ rec =
    sym (ap (λ (b : Bool). cond b (record rec { space = 1024 * kib_of rec.space; btime = 0; itime = 0 })
    (record rec { space = 1024 * kib_of rec.space })) w.other)
    ∙ sym (kept_flat format w.flat id rec) ∙ w.kept in
    let stored : stored_at format file at ≡ rec =
    rw (w.bhard, w.bsoft, w.space, w.ihard, w.isoft, w.inodes, w.btime, w.itime) whole in
    timed_record-other format file id w.other ∙ ap (stored_at format file) (sym w.place) ∙ stored

-- the record of an identifier whose bytes stayed; the times of record 0 are no part of one
pub timed_record-same : (format : Format) → is_flat format ≡ true → (old new : List ℕ) (q : ℕ)
    → ((k : ℕ) → record_start format q ≤ k → k < block_time_start format q → byte_at new k ≡ byte_at old k)
    → (0 < q → (k : ℕ) → block_time_start format q ≤ k → k < record_start format q + record_size format
    → byte_at new k ≡ byte_at old k) → timed_record format new q ≡ timed_record format old q
timed_record-same format flat old new zero numbers times =
    let same : (width at : ℕ) → record_start format 0 ≤ at → at + width ≤ block_time_start format 0
    → number_at width new at ≡ number_at width old at = λ width at g h.
    number_same width at new old (λ k a b. numbers k (omega arith) (omega arith)) in
    rw (
      same 4 (record_start format 0) (omega arith) (omega arith),
      same 4 (record_start format 0 + 4) (omega arith) (omega arith),
      same 4 (record_start format 0 + 8) (omega arith) (omega arith),
      same 4 (record_start format 0 + 12) (omega arith) (omega arith),
      same 4 (record_start format 0 + 16) (omega arith) (omega arith),
      same 4 (record_start format 0 + 20) (omega arith) (omega arith),
    )
timed_record-same format flat old new (suc n) numbers times =
    let same : (width at : ℕ) → record_start format (suc n) ≤ at → at + width ≤ block_time_start format (suc n)
    → number_at width new at ≡ number_at width old at = λ width at g h.
    number_same width at new old (λ k a b. numbers k (omega arith) (omega arith)) in
    let same_time : (width at : ℕ) → block_time_start format (suc n) ≤ at
    → at + width ≤ record_start format (suc n) + record_size format → number_at width new at ≡ number_at width old at =
    λ width at g h.
    number_same width at new old (λ k a b. times (omega arith) k (omega arith) (omega arith)) in
    let fill = times_fill format flat in
    let stored : stored_record format new (suc n) ≡ stored_record format old (suc n) =
    rw (
      same 4 (record_start format (suc n)) (omega arith) (omega arith),
      same 4 (record_start format (suc n) + 4) (omega arith) (omega arith),
      same 4 (record_start format (suc n) + 8) (omega arith) (omega arith),
      same 4 (record_start format (suc n) + 12) (omega arith) (omega arith),
      same 4 (record_start format (suc n) + 16) (omega arith) (omega arith),
      same 4 (record_start format (suc n) + 20) (omega arith) (omega arith),
      same_time (time_width format) (block_time_start format (suc n)) (omega arith) (omega (arith, fill)),
      same_time (time_width format) (inode_time_start format (suc n)) (omega arith) (omega (arith, fill)),
    ) in
    timed_record-other format new (suc n) (not_zero n) ∙ stored
    ∙ sym (timed_record-other format old (suc n) (not_zero n))

-- past the end there are zeros
pub unless_zeros-past : (format : Format) (file : List ℕ) (q : ℕ) → length file ≤ record_start format q
    → unless_zeros (timed_record format file q) ≡ None
unless_zeros-past format file zero h =
    let past : (width at : ℕ) → record_start format 0 ≤ at → number_at width file at ≡ 0 =
    λ width at g. number_at-past width at file (omega arith) in
    rw (
      past 4 (record_start format 0) (omega arith),
      past 4 (record_start format 0 + 4) (omega arith),
      past 4 (record_start format 0 + 8) (omega arith),
      past 4 (record_start format 0 + 12) (omega arith),
      past 4 (record_start format 0 + 16) (omega arith),
      past 4 (record_start format 0 + 20) (omega arith),
    )
unless_zeros-past format file (suc n) h =
    let past : (width at : ℕ) → record_start format (suc n) ≤ at → number_at width file at ≡ 0 =
    λ width at g. number_at-past width at file (omega arith) in
    let stored : unless_zeros (stored_record format file (suc n)) ≡ None =
    rw (
      past 4 (record_start format (suc n)) (omega arith),
      past 4 (record_start format (suc n) + 4) (omega arith),
      past 4 (record_start format (suc n) + 8) (omega arith),
      past 4 (record_start format (suc n) + 12) (omega arith),
      past 4 (record_start format (suc n) + 16) (omega arith),
      past 4 (record_start format (suc n) + 20) (omega arith),
      past (time_width format) (block_time_start format (suc n)) (omega arith),
      past (time_width format) (inode_time_start format (suc n)) (omega arith),
    ) in
    ap unless_zeros (timed_record-other format file (suc n) (not_zero n)) ∙ stored

-- so the record is what is read, whether it is within the file or past its end
pub flat_record-read : (format : Format) (file : List ℕ) (q : ℕ) → length file % record_size format ≡ 0
    → flat_record format file q ≡ unless_zeros (timed_record format file q)
flat_record-read format file q whole = elim (cases_lt (length file) (record_start format q + record_size format)) [
  | inl short ↦ ap (λ (b : Bool). cond b (unless_zeros (timed_record format file q)) None)
      (lt-leb (record_start format q + record_size format) (length file) short)
      ∙ sym (unless_zeros-past format file q (before_start format (length file) q whole short))
  | inr long ↦
      let is : nat_le (record_start format q + record_size format) (length file) ≡ true = grind (arith, nat_tests) in
      ap (λ (b : Bool). cond b (unless_zeros (timed_record format file q)) None) is
]

null_of_zeros : (rec : Rec) → is_zeros rec ≡ true → IsNull rec
null_of_zeros rec zeros = grind (arith, nat_tests)

-- a record that limits or counts something is not all zero
pub unless_zeros-some : (rec : Rec) → ¬ IsNull rec → unless_zeros rec ≡ Some rec
unless_zeros-some rec some = elim (cases_Bool (is_zeros rec)) [
  | inl zeros ↦ absurd (some (null_of_zeros rec zeros))
  | inr other ↦ ap (λ (b : Bool). cond b None (Some rec)) other
]

-- the records of all identifiers, where one was written
pub flat_record-written : (format : Format) → is_flat format ≡ true → (old new : List ℕ) (id q : ℕ) (rec : Rec)
    → length old % record_size format ≡ 0 → length new % record_size format ≡ 0 → timed_record format new id ≡ rec
    → KeepsOutside (record_start format id) (record_start format id + record_size format) old new
    → flat_record format new q ≡ cond (q == id) (unless_zeros rec) (flat_record format old q)
flat_record-written format flat old new id q rec whole whole' is keeps =
    flat_record-read format new q whole' ∙ elim (eqb_tells q id) [
      | inl same ↦ ap (λ (k : ℕ). unless_zeros (timed_record format new k)) same.1 ∙ ap unless_zeros is
          ∙ sym (ap (λ (b : Bool). cond b (unless_zeros rec) (flat_record format old q)) same.0)
      | inr other ↦
          let fill = times_fill format flat in
          let outside : (k : ℕ) → record_start format q ≤ k → k < record_start format q + record_size format
          → byte_at new k ≡ byte_at old k = λ k a b. elim (cases_lt q id) [
            | inl low ↦ keeps.before k (omega (arith, starts_apart format q id low))
            | inr high ↦
                let ne : q ≢ id = other.1 in
                keeps.behind k (omega (arith, starts_apart format id q (omega (arith, high, ne))))
          ] in
          ap unless_zeros (timed_record-same format flat old new q (λ k a b. outside k a (omega (arith, fill)))
          (λ _ k a b. outside k (omega arith) b))
          ∙ sym (flat_record-read format old q whole)
          ∙ sym (ap (λ (b : Bool). cond b (unless_zeros rec) (flat_record format old q)) other.0)
    ]

-- the grace periods stay, where the times of record 0 do
flat_grace-kept : (format : Format) (old new : List ℕ)
    → number_at (time_width format) new (block_time_start format 0)
    ≡ number_at (time_width format) old (block_time_start format 0)
    → number_at (time_width format) new (inode_time_start format 0)
    ≡ number_at (time_width format) old (inode_time_start format 0) → flat_grace format new ≡ flat_grace format old
flat_grace-kept format old new block inode = rw (block, inode)

pub stands_put : (format : Format) → is_flat format ≡ true
    → (old new : List ℕ) (value : QuotaValue) (id : ℕ) (rec : Rec) → FlatStandsFor format old value
    → length new % record_size format ≡ 0 → timed_record format new id ≡ rec
    → KeepsOutside (record_start format id) (record_start format id + record_size format) old new
    → number_at (time_width format) new (block_time_start format 0)
    ≡ number_at (time_width format) old (block_time_start format 0)
    → number_at (time_width format) new (inode_time_start format 0)
    ≡ number_at (time_width format) old (inode_time_start format 0) → ¬ IsNull rec
    → FlatStandsFor format new (with_record value id rec)
stands_put format flat old new value id rec s whole is keeps block inode some = record {
  whole = whole;
  format = s.format;
  flags = s.flags;
  grace = s.grace ∙ sym (flat_grace-kept format old new block inode);
  records = λ q.
      get-insert nat_cmp_total value.records id rec q
      ∙ ap (λ (b : Bool). cond b (Some rec) (get value.records q)) (unsigned_tied q id)
      ∙ ap (λ (r : Option Rec). cond (q == id) (Some rec) r) (s.records q)
      ∙ ap (λ (r : Option Rec). cond (q == id) r (flat_record format old q)) (sym (unless_zeros-some rec some))
      ∙ sym (flat_record-written format flat old new id q rec s.whole whole is keeps);
}

pub stands_removed : (format : Format) → is_flat format ≡ true
    → (old new : List ℕ) (value : QuotaValue) (id : ℕ) (rec : Rec) → FlatStandsFor format old value
    → length new % record_size format ≡ 0
    → timed_record format new id ≡ rec
    → KeepsOutside (record_start format id) (record_start format id + record_size format) old new
    → number_at (time_width format) new (block_time_start format 0)
    ≡ number_at (time_width format) old (block_time_start format 0)
    → number_at (time_width format) new (inode_time_start format 0)
    ≡ number_at (time_width format) old (inode_time_start format 0) → unless_zeros rec ≡ None
    → FlatStandsFor format new (without_record value id)
stands_removed format flat old new value id rec s whole is keeps block inode none = record {
  whole = whole;
  format = s.format;
  flags = s.flags;
  grace = s.grace ∙ sym (flat_grace-kept format old new block inode);
  records = λ q.
      get-remove nat_cmp_total value.records id q
      ∙ ap (λ (b : Bool). cond b None (get value.records q)) (unsigned_tied q id)
      ∙ ap (λ (r : Option Rec). cond (q == id) None r) (s.records q)
      ∙ ap (λ (r : Option Rec). cond (q == id) r (flat_record format old q)) (sym none)
      ∙ sym (flat_record-written format flat old new id q rec s.whole whole is keeps);
}

-- where there is no record, the value without it is held too
pub stands_absent : (format : Format) (old : List ℕ) (value : QuotaValue) (id : ℕ) → FlatStandsFor format old value
    → flat_record format old id ≡ None → FlatStandsFor format old (without_record value id)
stands_absent format old value id s none = record {
  whole = s.whole;
  format = s.format;
  flags = s.flags;
  grace = s.grace;
  records =
      λ q. get-remove nat_cmp_total value.records id q
      ∙ ap (λ (b : Bool). cond b None (get value.records q)) (unsigned_tied q id) ∙ elim (eqb_tells q id) [
        | inl same ↦
            ap (λ (b : Bool). cond b None (get value.records q)) same.0
            ∙ sym (ap (flat_record format old) same.1 ∙ none)
        | inr other ↦ ap (λ (b : Bool). cond b None (get value.records q)) other.0 ∙ s.records q
      ];
}

or_week-some : (seconds : ℕ) → 0 < seconds → or_week seconds ≡ seconds
or_week-some seconds some = grind (arith, nat_tests)

same_grace : (grace : Grace) (block inode : ℕ) → block ≡ grace.block → inode ≡ grace.inode
    → grace ≡ record { block = block; inode = inode }
same_grace grace block inode b i = rw (b, i)

-- the grace periods of a file whose times of record 0 are those
pub stored_grace : (format : Format) → is_flat format ≡ true → (file : List ℕ) (grace : Grace)
    → number_at (time_width format) file (block_time_start format 0) ≡ grace.block
    → number_at (time_width format) file (inode_time_start format 0) ≡ grace.inode → grace_unfit format grace ≡ None
    → grace ≡ flat_grace format file
stored_grace format flat file grace block inode fits =
    let room = grace_room format flat grace fits in
    same_grace grace (or_week (number_at (time_width format) file (block_time_start format 0)))
    (or_week (number_at (time_width format) file (inode_time_start format 0)))
    (ap or_week block ∙ or_week-some grace.block room.some_block)
    (ap or_week inode ∙ or_week-some grace.inode room.some_inode)

pub stands_graced : (format : Format) → is_flat format ≡ true → (old new : List ℕ) (value : QuotaValue) (grace : Grace)
    → FlatStandsFor format old value → length new % record_size format ≡ 0
    → number_at (time_width format) new (block_time_start format 0) ≡ grace.block
    → number_at (time_width format) new (inode_time_start format 0) ≡ grace.inode
    → KeepsOutside (block_time_start format 0) (record_start format 1) old new → grace_unfit format grace ≡ None
    → FlatStandsFor format new (with_grace value grace)
stands_graced format flat old new value grace s whole block inode keeps fits = record {
  whole = whole;
  format = s.format;
  flags = s.flags;
  grace = stored_grace format flat new grace block inode fits;
  records = λ q.
      let first = start_of_next format 0 in
      let later : 0 < q → record_start format 1 ≤ record_start format q =
      λ some. omega (arith, first, starts_apart format 0 q some) in
      let outside : (k : ℕ) → record_start format q ≤ k → k < block_time_start format q
      → byte_at new k ≡ byte_at old k = λ k a b. elim (cases_lt 0 q) [
        | inl some ↦ keeps.behind k (omega (arith, later some))
        | inr none ↦
            let is : q ≡ 0 = omega arith in
            let same : record_start format q ≡ record_start format 0 = ap (record_start format) is in
            keeps.before k (omega (arith, same))
      ] in
      s.records q ∙ flat_record-read format old q s.whole
      ∙ sym (ap unless_zeros
      (timed_record-same format flat old new q outside (λ some k a b. keeps.behind k (omega (arith, later some)))))
      ∙ sym (flat_record-read format new q whole);
}

-- a time of record 0 stays
pub stored_time-kept : (format : Format) (old new : List ℕ) (id at : ℕ) → block_time_start format 0 ≤ at
    → at + time_width format ≤ record_start format 0 + record_size format
    → KeepsOutside (record_start format id) (record_start format id + record_size format) old new
    → (id ≡ 0 → KeepsOutside (record_start format 0) (block_time_start format 0) old new)
    → number_at (time_width format) new at ≡ number_at (time_width format) old at
stored_time-kept format old new zero at low high keeps times =
    number_behind (time_width format) at (record_start format 0) (block_time_start format 0) old new (times refl) low
stored_time-kept format old new (suc n) at low high keeps times =
    number_before (time_width format) at (record_start format (suc n))
    (record_start format (suc n) + record_size format) old new keeps
    (omega (arith, high, starts_apart format 0 (suc n) (omega arith)))

-- a record that is there lies within the file
pub within_of_found : (format : Format) (file : List ℕ) (id : ℕ) (rec : Rec) → Some rec ≡ flat_record format file id
    → record_start format id + record_size format ≤ length file
within_of_found format file id rec is = elim (cases_lt (length file) (record_start format id + record_size format)) [
  | inl short ↦
      let none : flat_record format file id ≡ None = ap
      (λ (b : Bool). cond b (unless_zeros (timed_record format file id)) None)
      (lt-leb (record_start format id + record_size format) (length file) short) in
      absurd (let no : Some rec ≡ None = is ∙ none in cc)
  | inr long ↦ long
]

-- where a number was a time of record 0, and is one if it is among those that were written, it stays
pub time_stays : (format : Format) (old new : List ℕ) (id at time : ℕ)
    → at + time_width format ≤ record_start format 0 + record_size format
    → KeepsOutside (record_start format id) (record_start format id + record_size format) old new
    → (id ≡ 0 → number_at (time_width format) new at ≡ time) → number_at (time_width format) old at ≡ time
    → number_at (time_width format) new at ≡ number_at (time_width format) old at
time_stays format old new zero at time within keeps first was = first refl ∙ sym was
time_stays format old new (suc n) at time within keeps first was =
    number_before (time_width format) at (record_start format (suc n))
    (record_start format (suc n) + record_size format) old new keeps
    (omega (arith, within, starts_apart format 0 (suc n) (omega arith)))
