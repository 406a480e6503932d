-- Where the records of a flat file stand, and what fits there: what all other proofs know of the sizes of records.
use Rattle.std.proofs.Common.{◌≡◌, ◌≢◌, ℕ, ◌+◌, ◌-◌, ◌*◌, ◌/◌, ◌%◌, ◌^◌, ◌<◌, ◌≤◌, max, true, None, refl, ap, arith}
use Rattle.std.proofs.lemmas.Bool.{false≢true}
use Rattle.std.proofs.lemmas.Bool.Decides.{nat_tests}
use Rattle.quota_types.specs.Format.{is_flat, record_size}
use Rattle.quota_types.specs.Kept.{kept_of, without_timers_of_zero}
use Rattle.quota_types.specs.Range.{grace_unfit, unfit}
use Rattle.quota_types.specs.Rec.{kib_of}
use Rattle.quota_types.specs.declared.file_kind.Format.{Format}
use Rattle.quota_types.specs.declared.file_kind.Format.TheVariants.{V1, V1R32, V2R0, V2R1}
use Rattle.quota_types.specs.declared.record.Grace.{Grace}
use Rattle.quota_types.specs.declared.record.Rec.{Rec}
use Rattle.quota_v1.specs.Place.{flat_limit, past_time, record_start, records_read, time_width}

-- a record is six numbers of four bytes and two times
pub times_fill : (format : Format) → is_flat format ≡ true → record_size format ≡ 24 + 2 * time_width format
times_fill V1 flat = refl
times_fill V1R32 flat = refl
times_fill V2R0 flat = absurd (false≢true flat)
times_fill V2R1 flat = absurd (false≢true flat)

-- a time has some bytes, and eight at most
pub some_time : (format : Format) → (1 ≤ time_width format) × (time_width format ≤ 8)
some_time V1 = (omega arith, omega arith)
some_time V1R32 = (omega arith, omega arith)
some_time V2R0 = (omega arith, omega arith)
some_time V2R1 = (omega arith, omega arith)

-- the first record starts at the first byte
pub start_of_first : (format : Format) → record_start format 0 ≡ 0
unfolding record_start
start_of_first V1 = refl
start_of_first V1R32 = refl
start_of_first V2R0 = refl
start_of_first V2R1 = refl

-- each other one starts where the one before it ends
pub start_of_next : (format : Format) (id : ℕ)
    → record_start format (id + 1) ≡ record_start format id + record_size format
unfolding record_start
start_of_next V1 id = omega arith
start_of_next V1R32 id = omega arith
start_of_next V2R0 id = omega arith
start_of_next V2R1 id = omega arith

-- so none reaches into another one
pub starts_apart : (format : Format) (id other : ℕ) → id < other
    → record_start format id + record_size format ≤ record_start format other
unfolding record_start
starts_apart V1 id other low = omega arith
starts_apart V1R32 id other low = omega arith
starts_apart V2R0 id other low = omega arith
starts_apart V2R1 id other low = omega arith

-- records that follow others
pub start_of_sum : (format : Format) (id more : ℕ)
    → record_start format (id + more) ≡ record_start format id + record_start format more
unfolding record_start
start_of_sum V1 id more = omega arith
start_of_sum V1R32 id more = omega arith
start_of_sum V2R0 id more = omega arith
start_of_sum V2R1 id more = omega arith

-- a record among bytes that begin with another one
pub place_among : (format : Format) (first id at : ℕ) → first ≤ id → at ≡ record_start format (id - first)
    → record_start format first + at ≡ record_start format id
place_among format first id at later place =
    let behind : first + (id - first) ≡ id = omega arith in
    omega (arith, place, start_of_sum format first (id - first), ap (record_start format) behind)

pub within_among : (format : Format) (first id to at room : ℕ) → first ≤ id → id < to
    → at ≡ record_start format (id - first) → record_start format to ≤ record_start format first + room
    → at + record_size format ≤ room
within_among format first id to at room later low place few =
    omega (arith, few, place_among format first id at later place, starts_apart format id to low)

-- all records of a flat file
pub start_of_last : (format : Format) → record_start format 1048576 ≡ flat_limit format
unfolding record_start
start_of_last V1 = refl
start_of_last V1R32 = refl
start_of_last V2R0 = refl
start_of_last V2R1 = refl

-- as many records as are read at once are no more than one call of `read` gives
pub read_within : (format : Format) (first to : ℕ) → to ≤ first + records_read format
    → record_start format to ≤ record_start format first + 1024
unfolding record_start
read_within V1 first to few = omega arith
read_within V1R32 first to few = omega arith
read_within V2R0 first to few = omega arith
read_within V2R1 first to few = omega arith

-- some records are whole ones
pub start_whole : (format : Format) (count : ℕ) → record_start format count % record_size format ≡ 0
unfolding record_start
start_whole V1 count = omega arith
start_whole V1R32 count = omega arith
start_whole V2R0 count = omega arith
start_whole V2R1 count = omega arith

-- whole records that are lengthened up to the end of one
pub whole_with : (format : Format) (old new id : ℕ) → old % record_size format ≡ 0
    → new ≡ max old (record_start format id + record_size format) → new % record_size format ≡ 0
unfolding record_start
whole_with V1 old new id whole long = omega arith
whole_with V1R32 old new id whole long = omega arith
whole_with V2R0 old new id whole long = omega arith
whole_with V2R1 old new id whole long = omega arith

-- whole records that do not reach to the end of one do not reach beyond its start
pub before_start : (format : Format) (long id : ℕ) → long % record_size format ≡ 0
    → long < record_start format id + record_size format → long ≤ record_start format id
unfolding record_start
before_start V1 long id whole short = omega arith
before_start V1R32 long id whole short = omega arith
before_start V2R0 long id whole short = omega arith
before_start V2R1 long id whole short = omega arith

-- an identifier past as many records as some bytes have
pub past_all : (format : Format) (long id : ℕ) → long / record_size format ≤ id
    → long < record_start format id + record_size format
unfolding record_start
past_all V1 long id past = omega arith
past_all V1R32 long id past = omega arith
past_all V2R0 long id past = omega arith
past_all V2R1 long id past = omega arith

-- some bytes that end within a record
pub cut_off : (format : Format) (long id : ℕ) → record_start format id < long
    → long < record_start format id + record_size format
    → (long % record_size format ≢ 0) × (id ≡ long / record_size format)
unfolding record_start
cut_off V1 long id some short = (omega arith, omega arith)
cut_off V1R32 long id some short = (omega arith, omega arith)
cut_off V2R0 long id some short = (omega arith, omega arith)
cut_off V2R1 long id some short = (omega arith, omega arith)

-- a record that lies within a file that is not too large has an identifier that a flat file may have
pub id_within : (format : Format) (long id : ℕ) → long ≤ flat_limit format
    → record_start format id + record_size format ≤ long → id < 1048576
unfolding record_start
id_within V1 long id few inside = omega arith
id_within V1R32 long id few inside = omega arith
id_within V2R0 long id few inside = omega arith
id_within V2R1 long id few inside = omega arith

-- a flat file has no more records than it may have
pub records_few : (format : Format) (long : ℕ) → long ≤ flat_limit format → long / record_size format ≤ 1048576
records_few V1 long few = omega arith
records_few V1R32 long few = omega arith
records_few V2R0 long few = omega arith
records_few V2R1 long few = omega arith

-- a flat format has room for no greater identifier
pub id_fits : (format : Format) → is_flat format ≡ true → (id : ℕ) (rec : Rec)
    → unfit format id rec ≡ None → id ≤ 1048575
id_fits V1 flat id rec fits = grind (arith, nat_tests)
id_fits V1R32 flat id rec fits = grind (arith, nat_tests)
id_fits V2R0 flat id rec fits = absurd (false≢true flat)
id_fits V2R1 flat id rec fits = absurd (false≢true flat)

-- a record that lies within a file that is not too large
pub end_within : (format : Format) (id : ℕ) → id ≤ 1048575
    → record_start format id + record_size format ≤ flat_limit format
end_within format id low = omega (arith, starts_apart format id 1048576 (omega arith), start_of_last format)

-- The numbers of a record for which a flat format has room.
pub record HasRoom (format : Format) (rec : Rec) : Type 0 where
  pub ihard : rec.ihard < 2 ^ 32
  pub isoft : rec.isoft < 2 ^ 32
  pub inodes : rec.inodes < 2 ^ 32
  pub bhard : rec.bhard < 2 ^ 32
  pub bsoft : rec.bsoft < 2 ^ 32
  pub space : kib_of rec.space < 2 ^ 32
  pub btime : rec.btime < past_time format
  pub itime : rec.itime < past_time format

pub room_of_fits : (format : Format) → is_flat format ≡ true → (id : ℕ) (rec : Rec) → unfit format id rec ≡ None
    → HasRoom format rec
room_of_fits V1 flat id rec fits = record {
  ihard = grind (arith, nat_tests);
  isoft = grind (arith, nat_tests);
  inodes = grind (arith, nat_tests);
  bhard = grind (arith, nat_tests);
  bsoft = grind (arith, nat_tests);
  space = grind (arith, nat_tests);
  btime = grind (arith, nat_tests);
  itime = grind (arith, nat_tests);
}
room_of_fits V1R32 flat id rec fits = record {
  ihard = grind (arith, nat_tests);
  isoft = grind (arith, nat_tests);
  inodes = grind (arith, nat_tests);
  bhard = grind (arith, nat_tests);
  bsoft = grind (arith, nat_tests);
  space = grind (arith, nat_tests);
  btime = grind (arith, nat_tests);
  itime = grind (arith, nat_tests);
}
room_of_fits V2R0 flat id rec fits = absurd (false≢true flat)
room_of_fits V2R1 flat id rec fits = absurd (false≢true flat)

-- what a flat format keeps of a record
pub kept_flat : (format : Format) → is_flat format ≡ true → (id : ℕ) (rec : Rec)
    → kept_of format id rec ≡ without_timers_of_zero id (record rec { space = 1024 * kib_of rec.space })
kept_flat V1 flat id rec = refl
kept_flat V1R32 flat id rec = refl
kept_flat V2R0 flat id rec = absurd (false≢true flat)
kept_flat V2R1 flat id rec = absurd (false≢true flat)

-- The grace periods for which a flat format has room, of which none is 0.
pub record HasGraceRoom (format : Format) (grace : Grace) : Type 0 where
  pub some_block : 0 < grace.block
  pub some_inode : 0 < grace.inode
  pub block : grace.block < past_time format
  pub inode : grace.inode < past_time format

pub grace_room : (format : Format) → is_flat format ≡ true → (grace : Grace) → grace_unfit format grace ≡ None
    → HasGraceRoom format grace
grace_room V1 flat grace fits = record {
  some_block = grind (arith, nat_tests);
  some_inode = grind (arith, nat_tests);
  block = grind (arith, nat_tests);
  inode = grind (arith, nat_tests);
}
grace_room V1R32 flat grace fits = record {
  some_block = grind (arith, nat_tests);
  some_inode = grind (arith, nat_tests);
  block = grind (arith, nat_tests);
  inode = grind (arith, nat_tests);
}
grace_room V2R0 flat grace fits = absurd (false≢true flat)
grace_room V2R1 flat grace fits = absurd (false≢true flat)
