-- Bytes of a record that are read from a file, or written into one.
use Rattle.std.proofs.Common.{◌≡◌, ◌≢◌, ℕ, ◌+◌, ◌-◌, ◌*◌, ◌/◌, ◌%◌, ◌<◌, ◌≤◌, min, max, Bool, true, cond, nat_le, List}
use Rattle.std.proofs.Common.{[], ◌∷◌, ◌++◌, length, take, drop, replicate, Option, Some, None, refl, sym, ap, subst}
use Rattle.std.proofs.Common.{◌∙◌, inl, inr, arith, length-append, length-take, length-drop}
use Rattle.std.proofs.lemmas.Bool.{cases_lt}
use Rattle.std.proofs.lemmas.List.{append-nil, drop_all, get_or-append_right, get_or_append_left, get_or-drop}
use Rattle.std.proofs.lemmas.List.{get_or_past, get_or-replicate, get_or-take, length-replicate}
use Rattle.std.proofs.lemmas.Grind.{same_number_lists}
use borrow.Rule.Slice.PartMut.{mid_of, post_of, put_mid}
use Rattle.file_blocks.specs.Block.{block_of, bytes_of}
use Rattle.file_blocks.proofs.WordLemmas.{byte_at-block_of, length-block_of, number_shifted}
use Rattle.outside.proofs.OverwriteLemmas.{get_or-overwritten_before, get_or-overwritten_behind}
use Rattle.outside.specs.World.{World, overwritten, with_bytes}
use Rattle.quota_types.specs.Bytes.{byte_at, number_at}
use Rattle.quota_types.specs.KeptBytes.{KeepsOutside}
use Rattle.quota_types.specs.Format.{is_flat, record_size}
use Rattle.quota_types.specs.Times.{StandsIn, times}
use Rattle.quota_types.specs.declared.file_kind.Format.{Format}
use Rattle.quota_types.proofs.BytesLemmas.{number_at-take}
use Rattle.quota_types.proofs.TimesLemmas.{times-cons-same, times_cases}
use Rattle.quota_types.specs.declared.record.Rec.{Rec}
use Rattle.opened_file.specs.QuotaFile.{ChangesBlocks}
use Rattle.quota_types.specs.Kept.{without_timers_of_zero}
use Rattle.quota_v1.specs.FlatFile.{flat_record, stored_at, timed_at, timed_record, unless_zeros}
use Rattle.quota_v1.proofs.RecordLemmas.{flat_record-read}
use Rattle.std.proofs.lemmas.Bool.Decides.{nat_tests}
use Rattle.quota_v1.specs.Slot.{AreFrom, MakesOne}
use Rattle.quota_v1.specs.Place.{block_time_at, inode_time_at, record_start, time_width}
use Rattle.quota_v1.proofs.PlaceLemmas.{times_fill}

-- a buffer has this many bytes behind those that were read, and none behind these
room_behind : (count room : ℕ) (buffer : List ℕ) → length buffer ≡ room
    → length (mid_of count (room - count) buffer) ≡ room - count
room_behind count room buffer long =
    omega (arith, length-take (room - count) (drop count buffer), length-drop count buffer, long)

none_behind : (count room : ℕ) (buffer : List ℕ) → length buffer ≡ room → post_of count (room - count) buffer ≡ []
none_behind count room buffer long =
    drop_all (room - count) (drop count buffer) (omega (arith, length-drop count buffer, long))

-- what a file has from a place on, with zeros behind it, are its bytes
padded_from : (file : List ℕ) (at room count : ℕ) → count ≡ room - length (take room (drop at file))
    → AreFrom file at (take room (drop at file) ++ replicate count 0)
padded_from file at room count missing k below =
    let front : List ℕ = take room (drop at file) in
    let long : length front ≡ min room (length file - at) =
    omega (arith, length-take room (drop at file), length-drop at file) in
    elim (cases_lt k (length front)) [
      | inl low ↦ get_or_append_left front (replicate count 0) 0 k low
          ∙ get_or-take room (drop at file) k 0 (omega (arith, low, long)) ∙ get_or-drop at file k 0
      | inr high ↦ get_or-append_right front (replicate count 0) (length front) k 0 refl high
          ∙ get_or-replicate count (k - length front) 0 0
          (omega (arith, below, high, length-append front (replicate count 0), length-replicate {A = ℕ} count 0))
          ∙ sym (get_or_past file (at + k) 0 (omega (
            arith,
            high,
            long,
            below,
            missing,
            length-append front (replicate count 0),
            length-replicate {A = ℕ} count 0,
          )))
    ]

-- the bytes that a read gives, and zeros in the place of all others, are the file's
pub read_shows : (file : List ℕ) (at room count : ℕ) (buffer filled : List ℕ) → length buffer ≡ room → count ≤ room
    → count ≡ length (take room (drop at file))
    → take count buffer ≡ take room (drop at file) → filled ≡ replicate (length (mid_of count (room - count) buffer)) 0
    → AreFrom file at (put_mid count (room - count) buffer filled)
read_shows file at room count buffer filled long few counted is zeros =
    let whole : put_mid count (room - count) buffer filled ≡ take room (drop at file) ++ replicate (room - count) 0 =
    ap (λ (ys : List ℕ). take count buffer ++ (filled ++ ys)) (none_behind count room buffer long)
    ∙ ap (λ (ys : List ℕ). take count buffer ++ ys)
    (append-nil filled ∙ zeros ∙ ap (λ (k : ℕ). replicate k 0) (room_behind count room buffer long))
    ∙ ap (λ (ys : List ℕ). ys ++ replicate (room - count) 0) is in
    subst (AreFrom file at) (sym whole) (padded_from file at room (room - count) (omega (arith, counted)))

-- what stands before the bytes that are written at a place
length-front : (old : List ℕ) (at : ℕ) → length (take at old ++ replicate (at - length old) 0) ≡ at
length-front old at =
    omega (
      arith,
      length-append (take at old) (replicate (at - length old) 0),
      length-take at old,
      length-replicate {A = ℕ} (at - length old) 0,
    )

-- the bytes that were written
pub inside_overwritten : (old : List ℕ) (at : ℕ) (bytes : List ℕ) (k : ℕ) → k < length bytes
    → byte_at (overwritten old at bytes) (at + k) ≡ byte_at bytes k
inside_overwritten old at bytes k below =
    let front : List ℕ = take at old ++ replicate (at - length old) 0 in
    let back : at + k - at ≡ k = omega arith in
    get_or_append_left (front ++ bytes) (drop (at + length bytes) old) 0 (at + k)
    (omega (arith, length-append front bytes, length-front old at, below))
    ∙ get_or-append_right front bytes at (at + k) 0 (length-front old at) (omega arith)
    ∙ ap (λ (n : ℕ). byte_at bytes n) back

-- how long the file is then
pub long_overwritten : (old : List ℕ) (at : ℕ) (bytes : List ℕ)
    → length (overwritten old at bytes) ≡ max (length old) (at + length bytes)
long_overwritten old at bytes =
    let front : List ℕ = take at old ++ replicate (at - length old) 0 in
    omega (
      arith,
      length-append (front ++ bytes) (drop (at + length bytes) old),
      length-append front bytes,
      length-front old at,
      length-drop (at + length bytes) old,
    )

-- all other bytes stay
pub keeps_overwritten : (old : List ℕ) (at : ℕ) (bytes : List ℕ) (end : ℕ) → at + length bytes ≡ end
    → KeepsOutside at end old (overwritten old at bytes)
keeps_overwritten old at bytes end is = record {
  before = λ k lt. get_or-overwritten_before old at bytes k lt;
  behind = λ k le. get_or-overwritten_behind old at bytes k (omega (arith, is, le));
}

-- a number among the bytes that were written
pub number_overwritten : (width : ℕ) (old : List ℕ) (at : ℕ) (bytes : List ℕ) (place : ℕ) → place + width ≤ length bytes
    → number_at width (overwritten old at bytes) (at + place) ≡ number_at width bytes place
number_overwritten width old at bytes place within =
    sym (number_shifted width place at bytes (overwritten old at bytes)
    (λ k from to. sym (inside_overwritten old at bytes k (omega arith))))

-- a number among bytes of a file
pub number_from : (width : ℕ) (file : List ℕ) (at : ℕ) (bytes : List ℕ) (place : ℕ) → AreFrom file at bytes
    → place + width ≤ length bytes → number_at width bytes place ≡ number_at width file (at + place)
number_from width file at bytes place from within =
    number_shifted width place at bytes file (λ k low high. from k (omega arith))

-- the record that stands among bytes of a file
pub stored_from : (format : Format) → is_flat format ≡ true → (file : List ℕ) (start : ℕ) (bytes : List ℕ) (at : ℕ)
    → AreFrom file start bytes → at + record_size format ≤ length bytes
    → stored_at format bytes at ≡ stored_at format file (start + at)
stored_from format flat file start bytes at from within =
    let fill = times_fill format flat in
    let same : (width place : ℕ) → place + width ≤ record_size format
    → number_at width bytes (at + place) ≡ number_at width file (start + at + place) = λ width place h.
    number_from width file start bytes (at + place) from (omega arith) ∙ ap (number_at width file) (omega arith) in
    let first : number_at 4 bytes at ≡ number_at 4 file (start + at) =
    number_from 4 file start bytes at from (omega (arith, fill)) in
    rw (
      first,
      same 4 4 (omega (arith, fill)),
      same 4 8 (omega (arith, fill)),
      same 4 12 (omega (arith, fill)),
      same 4 16 (omega (arith, fill)),
      same 4 20 (omega (arith, fill)),
      same (time_width format) block_time_at (omega (arith, fill)),
      same (time_width format) (inode_time_at format) (omega (arith, fill)),
    )

-- the record at the start of bytes, of which no more than its own are taken
pub stored_part : (format : Format) → is_flat format ≡ true → (size : ℕ) (bytes : List ℕ) → size ≡ record_size format
    → stored_at format (take size bytes) 0 ≡ stored_at format bytes 0
stored_part format flat size bytes is =
    let fill = times_fill format flat in
    let same : (width place : ℕ) → place + width ≤ record_size format
    → number_at width (take size bytes) place ≡ number_at width bytes place =
    λ width place h. number_at-take width size bytes place (omega (arith, is)) in
    rw (
      same 4 0 (omega (arith, fill)),
      same 4 4 (omega (arith, fill)),
      same 4 8 (omega (arith, fill)),
      same 4 12 (omega (arith, fill)),
      same 4 16 (omega (arith, fill)),
      same 4 20 (omega (arith, fill)),
      same (time_width format) block_time_at (omega (arith, fill)),
      same (time_width format) (0 + inode_time_at format) (omega (arith, fill)),
    )

-- the record that was written at a place
pub stored_overwritten : (format : Format) → is_flat format ≡ true → (old : List ℕ) (at : ℕ) (bytes : List ℕ)
    → record_size format ≤ length bytes → stored_at format (overwritten old at bytes) at ≡ stored_at format bytes 0
stored_overwritten format flat old at bytes long =
    let from : AreFrom (overwritten old at bytes) at bytes = λ k below. sym (inside_overwritten old at bytes k below) in
    sym (stored_from format flat (overwritten old at bytes) at bytes 0 from (omega arith)
    ∙ ap (stored_at format (overwritten old at bytes)) (omega arith))

-- a block of which no byte has changed
same_block : (old new : List ℕ) (number : ℕ)
    → ((k : ℕ) → 1024 * number ≤ k → k < 1024 * number + 1024 → byte_at new k ≡ byte_at old k)
    → block_of new number ≡ block_of old number
same_block old new number same =
    same_number_lists (block_of new number) (block_of old number)
    (length-block_of new number ∙ sym (length-block_of old number))
    (λ k below.
    let low : k < 1024 = omega (arith, below, length-block_of new number) in
    byte_at-block_of new number k low ∙ same (1024 * number + k) (omega arith) (omega arith)
    ∙ sym (byte_at-block_of old number k low))

-- a number that stands in no list of two is neither of them
neither : (one two n : ℕ) → times (one ∷ two ∷ []) n ≡ 0 → (one ≢ n) × (two ≢ n)
neither one two n none = elim (times_cases one (two ∷ []) n) [
  | inl first ↦ absurd (omega (arith, none, first.1))
  | inr other ↦ elim (times_cases two [] n) [
    | inl second ↦ absurd (omega (arith, none, other.1, second.1))
    | inr last ↦ (other.0, last.0)
  ]
]

both_stand : (one two : ℕ) → StandsIn (one ∷ two ∷ []) one × StandsIn (one ∷ two ∷ []) two
both_stand one two = (
  omega (arith, times-cons-same one (two ∷ [])),
  elim (times_cases one (two ∷ []) two) [
    | inl first ↦ omega (arith, first.1)
    | inr other ↦ omega (arith, other.1, times-cons-same two [])
  ],
)

-- bytes that are no more than a block change two blocks at most
pub few_overwritten : (old : List ℕ) (at : ℕ) (bytes : List ℕ) → 1 ≤ length bytes → length bytes ≤ 1024
    → ChangesBlocks 12 old (overwritten old at bytes)
few_overwritten old at bytes some few =
    let last : ℕ = at + length bytes - 1 in
    let one : ℕ = at / 1024 in
    let two : ℕ = last / 1024 in
    let long = long_overwritten old at bytes in
    record {
      numbers = one ∷ two ∷ [];
      few = omega arith;
      others = λ number none.
          let differ = neither one two number none in
          let first : one ≢ number = differ.0 in
          let second : two ≢ number = differ.1 in
          same_block old (overwritten old at bytes) number (λ k low high. elim (cases_lt k at) [
            | inl before ↦ get_or-overwritten_before old at bytes k before
            | inr behind ↦
                get_or-overwritten_behind old at bytes k (omega (arith, some, few, low, high, first, second, behind))
          ]);
      longer = omega (arith, long);
      within = λ blocks below.
          let lower : two < blocks = below two (both_stand one two).1 in
          omega (arith, long, lower, some);
    }

-- the same of the named file
pub made_overwritten : (so : (before after : List ℕ) → Type 0) (old new : World) (name : List ℕ) (at : ℕ)
    (bytes : List ℕ) → new ≡ with_bytes old name at bytes → 1 ≤ length bytes → length bytes ≤ 1024
    → so (bytes_of (old name)) (overwritten (bytes_of (old name)) at bytes) → MakesOne so name old new
made_overwritten so old new name at bytes is some few made = record {
  after = overwritten (bytes_of (old name)) at bytes;
  files = is;
  made = made;
  few = few_overwritten (bytes_of (old name)) at bytes some few;
}

-- the record of an identifier is what stands in its place among bytes of the file
timed_from : (format : Format) → is_flat format ≡ true → (file : List ℕ) (start : ℕ) (bytes : List ℕ) (at id : ℕ)
    → AreFrom file start bytes → at + record_size format ≤ length bytes → start + at ≡ record_start format id
    → timed_at format bytes at id ≡ timed_record format file id
timed_from format flat file start bytes at id from within place =
    ap (without_timers_of_zero id)
    (stored_from format flat file start bytes at from within ∙ ap (stored_at format file) place)

pub record_from : (format : Format) → is_flat format ≡ true → (file : List ℕ) (start : ℕ) (bytes : List ℕ) (at id : ℕ)
    → length file % record_size format ≡ 0 → AreFrom file start bytes → at + record_size format ≤ length bytes
    → start + at ≡ record_start format id → flat_record format file id ≡ unless_zeros (timed_at format bytes at id)
record_from format flat file start bytes at id whole from within place =
    flat_record-read format file id whole
    ∙ ap unless_zeros (sym (timed_from format flat file start bytes at id from within place))

-- so it is where it was read alone, from a file that has all its bytes
pub record_read : (format : Format) → is_flat format ≡ true
    → (named : Option (List ℕ)) (file : List ℕ) (start : ℕ) (bytes : List ℕ) (id : ℕ) (found : Option Rec)
    → named ≡ Some file → AreFrom (bytes_of named) start bytes → start ≡ record_start format id
    → record_size format ≤ length bytes → record_start format id + record_size format ≤ length file
    → found ≡ unless_zeros (timed_at format bytes 0 id) → found ≡ flat_record format file id
record_read format flat named file start bytes id found is from place long there value =
    let of_file : AreFrom file start bytes =
    subst (λ (n : Option (List ℕ)). AreFrom (bytes_of n) start bytes) is from in
    let inside : nat_le (record_start format id + record_size format) (length file) ≡ true = grind (arith, nat_tests) in
    value ∙ ap unless_zeros (timed_from format flat file start bytes 0 id of_file (omega arith) (omega arith))
    ∙ sym (ap (λ (b : Bool). cond b (unless_zeros (timed_record format file id)) None) inside)
