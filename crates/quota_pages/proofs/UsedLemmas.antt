-- What calls over a buffer of pages leave of it: no call, one call, and one after another.
use Rattle.std.proofs.Common.{◌≡◌, ℕ, ◌+◌, ◌*◌, ◌<◌, ◌≤◌, max, Bool, true, false, cond, ◌&&◌, ◌||◌, IsTrue, List, []}
use Rattle.std.proofs.Common.{◌∷◌, ◌++◌, length, replicate, take, inl, inr, refl, sym, ap, subst, ◌∙◌, ◌≢◌, arith}
use Rattle.std.proofs.Common.{append-nil, eq-eqb, ne_eqb, length-append}
use Rattle.std.specs.Prelude.{◌==◌, Result, Ok, Err, MatchResult}
use Rattle.std.proofs.Math.Bool.{or-false, or-true}
use Rattle.std.proofs.lemmas.Bool.{cases_lt, cond-true, cond-false, cond_both, true≢false}
use Rattle.std.proofs.lemmas.List.{get_or_past, replicate-append-replicate, take-replicate}
use Rattle.quota_types.specs.Bytes.{byte_at, number_at}
use Rattle.quota_types.specs.Times.{StandsIn, times}
use Rattle.quota_types.proofs.TimesLemmas.{stands_left, stands_right, times-append, times-cons-other, times-cons-same}
use Rattle.file_blocks.specs.Block.{block_of, bytes_of}
use Rattle.outside.specs.Count.{counted}
use Rattle.outside.specs.Frame.{OnlyReads}
use Rattle.outside.specs.Seen.{StoreSeen}
use Rattle.quota_types.specs.KeptBytes.{KeepsOutside}
use Rattle.outside.specs.World.{World}
use Rattle.outside.proofs.FrameLemmas.{only_reads-none, only_reads-any, only_reads-then}
use Rattle.quota_types.proofs.BytesLemmas.{number_same}
use Rattle.file_blocks.proofs.WordLemmas.{length-block_of}
use Rattle.quota_pages.specs.Overlay.{whole_block, with_block}
use Rattle.quota_pages.specs.Page.{HasRoomFor, IsClean, Page, is_buffered, is_lent, lent_count, shown}
use Rattle.quota_pages.specs.Pages.{Brings, HoldsAsBuffered, Lent, LooksAt, StaysAsItWas, name_of, pages_of}
use Rattle.quota_pages.specs.Used.{HasWord, IsKnown, LendsSome, LooksAtSome, file_under, missing, shown_over}
use Rattle.quota_pages.specs.KeptBlocks.{KeepsBlocksBut}
use Rattle.quota_pages.specs.declared.page_buffer.Pages.{Pages}
use Rattle.quota_pages.proofs.BlockLemmas.{block_of-with_block_other, block_of-with_block_same, byte_at-whole_block}
use Rattle.quota_pages.proofs.BlockLemmas.{length-whole_block, length-with_block}

-- how many blocks are missing to have one buffered
pub missing-there : (pages : List Page) (number : ℕ) → is_buffered pages number ≡ true → missing pages number ≡ 0
missing-there pages number there = cond-true _ _ _ there

pub missing-absent : (pages : List Page) (number : ℕ) → is_buffered pages number ≡ false → missing pages number ≡ 1
missing-absent pages number absent = cond-false _ _ _ absent

pub missing-few : (pages : List Page) (number : ℕ) → missing pages number ≤ 1
missing-few pages number =
    cond_both (is_buffered pages number) 0 1 (λ (k : ℕ). k ≤ 1) (λ there. omega arith) (λ absent. omega arith)

-- pages that stay buffered miss no more than before
pub missing-stay : (old new : List Page) (number : ℕ) → (is_buffered old number ≡ true → is_buffered new number ≡ true)
    → missing new number ≤ missing old number
missing-stay old new number stay =
    cond_both (is_buffered old number) 0 1 (λ (k : ℕ). missing new number ≤ k)
    (λ there. omega (arith, missing-there new number (stay there)))
    (λ absent. missing-few new number)

-- there is room for a block that is buffered, and for one more where fewer than twelve are
pub room-there : (pages : List Page) (number : ℕ) → is_buffered pages number ≡ true → HasRoomFor pages number
room-there pages number there = λ absent. absurd (true≢false (sym there ∙ absent))

pub room-missing : (pages : List Page) (number : ℕ) → length pages + missing pages number ≤ 12 → HasRoomFor pages number
room-missing pages number few = λ absent. omega (arith, few, missing-absent pages number absent)

-- the file of a buffer is the one that it was, where the store was only read
pub same_file : (before now : StoreSeen) (old new : Pages) → name_of new ≡ name_of old → now.files ≡ before.files
    → file_under now new ≡ file_under before old
same_file before now old new name files =
    ap (λ (f : World). bytes_of (f (name_of new))) files ∙ ap (λ (n : List ℕ). bytes_of (before.files n)) name

-- what is shown is known as before, where the file is the same, and the buffer as clean
known_along : (tells : Bool) (before now : StoreSeen) (old new : Pages) → name_of new ≡ name_of old
    → now.files ≡ before.files
    → (IsTrue tells → IsClean (pages_of old) (file_under before old) → IsClean (pages_of new) (file_under before old))
    → IsKnown tells before old → IsKnown tells now new
known_along tells before now old new name files clean known = record {
  told = known.told;
  clean = subst (λ (file : List ℕ). IsClean (pages_of new) file) (sym (same_file before now old new name files))
      (clean known.told known.clean);
}

still_there : {number : ℕ} {old new : Pages} → Brings number old new → (other : ℕ)
    → is_buffered (pages_of old) other ≡ true → is_buffered (pages_of new) other ≡ true
still_there {number} brings other there = brings.buffered other ∙ ap (λ (b : Bool). b || number == other) there

one_more : (there : Bool) (old new : ℕ) → new ≡ cond there old (old + 1) → new ≤ old + cond there 0 1
one_more true old new is = omega (arith, is)
one_more false old new is = omega (arith, is)

one_read : (there : Bool) (before now : ℕ) → now ≡ cond there before (counted before) → now ≤ before + cond there 0 1
one_read true before now is = omega (arith, is)
one_read false before now is = omega (arith, is)

-- nothing was done
pub looks_none : {ok : Bool} (tells : Bool) (seen : StoreSeen) (buffer : Pages)
    → LooksAtSome tells ok 0 seen seen buffer buffer
looks_none tells seen buffer = record {
  name = refl;
  few = omega arith;
  stay = λ number there. there;
  shows = λ file. refl;
  was_clean = λ file clean. clean;
  lent = λ number. refl;
  lent_count = refl;
  known = λ known. known;
  leaves = only_reads-none (name_of buffer) seen;
  reads = omega arith;
}

-- two calls in a row: where both were done no name is unsynced that was not
pub only_reads-both : (one two : Bool) (name : List ℕ) (old between new : StoreSeen) → OnlyReads one name old between
    → OnlyReads two name between new → OnlyReads (one && two) name old new
only_reads-both true two name old between new first second = only_reads-then name old between new first second
only_reads-both false two name old between new first second = only_reads-any name old between new first second

pub looks_both : {tells done ok : Bool} {one two : ℕ} {before between now : StoreSeen} {old middle new : Pages}
    → LooksAtSome tells done one before between old middle → LooksAtSome tells ok two between now middle new
    → LooksAtSome tells (done && ok) (one + two) before now old new
looks_both {done = done} {ok = ok} {before} {between} {now} {old} first second = record {
  name = second.name ∙ first.name;
  few = omega (arith, first.few, second.few);
  stay = λ number there. second.stay number (first.stay number there);
  shows = λ file. second.shows file ∙ first.shows file;
  was_clean = λ file clean. first.was_clean file (second.was_clean file clean);
  lent = λ number. second.lent number ∙ first.lent number;
  lent_count = second.lent_count ∙ first.lent_count;
  known = λ known. second.known (first.known known);
  leaves = only_reads-both done ok (name_of old) before between now first.leaves
      (subst (λ (name : List ℕ). OnlyReads ok name between now) first.name second.leaves);
  reads = omega (arith, first.reads, second.reads);
}

pub looks_then : {tells ok : Bool} {one two : ℕ} {before between now : StoreSeen} {old middle new : Pages}
    → LooksAtSome tells true one before between old middle → LooksAtSome tells ok two between now middle new
    → LooksAtSome tells ok (one + two) before now old new
looks_then first second = looks_both first second

pub looks_more : {tells ok : Bool} {few : ℕ} {before now : StoreSeen} {old new : Pages} (more : ℕ) → few ≤ more
    → LooksAtSome tells ok few before now old new → LooksAtSome tells ok more before now old new
looks_more more fewer looks = record {
  name = looks.name;
  few = omega (arith, looks.few, fewer);
  stay = looks.stay;
  shows = looks.shows;
  was_clean = looks.was_clean;
  lent = looks.lent;
  lent_count = looks.lent_count;
  known = looks.known;
  leaves = looks.leaves;
  reads = omega (arith, looks.reads, fewer);
}

-- a block was looked at
pub looks_of_block : {tells done : Bool} {number : ℕ} (before now : StoreSeen) {old new : Pages}
    → LooksAt tells (file_under before old) number old new → OnlyReads done (name_of old) before now
    → now.reads ≡ cond (is_buffered (pages_of old) number) before.reads (counted before.reads)
    → LooksAtSome tells done (missing (pages_of old) number) before now old new
looks_of_block {tells} {number} before now {old} {new} looks leaves reads = record {
  name = looks.brings.name;
  few = one_more (is_buffered (pages_of old) number) (length (pages_of old)) (length (pages_of new)) looks.brings.count;
  stay = still_there looks.brings;
  shows = looks.shows;
  was_clean = looks.was_clean;
  lent = looks.lent;
  lent_count = looks.lent_count;
  known = known_along tells before now old new looks.brings.name leaves.files looks.clean;
  leaves = leaves;
  reads = one_read (is_buffered (pages_of old) number) before.reads now.reads reads;
}

-- or was not, since the store failed
pub looks_of_fault : {done : Bool} (tells : Bool) (number : ℕ) (before now : StoreSeen) {old new : Pages}
    → StaysAsItWas old new → OnlyReads done (name_of old) before now
    → now.reads ≡ cond (is_buffered (pages_of old) number) before.reads (counted before.reads)
    → LooksAtSome tells done (missing (pages_of old) number) before now old new
looks_of_fault tells number before now {old} {new} stays leaves reads = record {
  name = stays.name;
  few = omega (arith, ap length stays.pages);
  stay = λ other there. ap (λ (pages : List Page). is_buffered pages other) stays.pages ∙ there;
  shows = λ file. ap (λ (pages : List Page). shown pages file) stays.pages;
  was_clean = λ file clean. subst (λ (pages : List Page). IsClean pages file) stays.pages clean;
  lent = λ other. ap (λ (pages : List Page). is_lent pages other) stays.pages;
  lent_count = ap (λ (pages : List Page). lent_count pages) stays.pages;
  known = known_along tells before now old new stays.name leaves.files
      (λ told clean. subst (λ (pages : List Page). IsClean pages (file_under before old)) (sym stays.pages) clean);
  leaves = leaves;
  reads = one_read (is_buffered (pages_of old) number) before.reads now.reads reads;
}

-- a call that looks at a block, whatever it answers
pub looks_of_peek : {A E : Type 0} {done : Bool} (P : A → Type 0) (tells : Bool) (number : ℕ) (before now : StoreSeen)
    {old new : Pages} (result : Result A E)
    → MatchResult result (λ block. LooksAt tells (file_under before old) number old new × P block)
    (λ _. StaysAsItWas old new) → OnlyReads done (name_of old) before now
    → now.reads ≡ cond (is_buffered (pages_of old) number) before.reads (counted before.reads)
    → LooksAtSome tells done (missing (pages_of old) number) before now old new
looks_of_peek P tells number before now (Ok _) looks leaves reads = looks_of_block before now looks.0 leaves reads
looks_of_peek P tells number before now (Err _) stays leaves reads =
    looks_of_fault tells number before now stays leaves reads

-- what holds by what is buffered still does where blocks were looked at
pub held_since : {tells ok : Bool} {count : ℕ} {before now : StoreSeen} {old new : Pages}
    → LooksAtSome tells ok count before now old new → (fact : List ℕ → Type 0) → HoldsAsBuffered old fact
    → HoldsAsBuffered new fact
held_since looks fact holds =
    λ file clean. subst fact (sym (looks.shows file)) (holds file (looks.was_clean file clean))

-- what a buffer shows over its file stays where blocks were looked at
pub shown_over-looks : {tells ok : Bool} {count : ℕ} {before now : StoreSeen} {old new : Pages}
    → LooksAtSome tells ok count before now old new → shown_over now new ≡ shown_over before old
shown_over-looks {before} {now} {old} {new} looks =
    ap (shown (pages_of new)) (same_file before now old new looks.name looks.leaves.files)
    ∙ looks.shows (file_under before old)

pub missing-looks : {tells ok : Bool} {count : ℕ} {before now : StoreSeen} {old new : Pages}
    → LooksAtSome tells ok count before now old new → (number : ℕ)
    → missing (pages_of new) number ≤ missing (pages_of old) number
missing-looks {old} {new} looks number = missing-stay (pages_of old) (pages_of new) number (looks.stay number)

-- a file of which nothing changed
pub keeps_none : (file : List ℕ) → KeepsBlocksBut [] file file
keeps_none file = record { others = λ number none. refl; longer = omega arith; within = λ blocks below. omega arith }

pub keeps_then : {one two old between new : List ℕ} → KeepsBlocksBut one old between → KeepsBlocksBut two between new
    → KeepsBlocksBut (one ++ two) old new
keeps_then {one} {two} {old} {between} {new} first second = record {
  others = λ number none.
      second.others number (omega (arith, none, times-append one two number))
      ∙ first.others number (omega (arith, none, times-append one two number));
  longer = omega (arith, first.longer, second.longer);
  within = λ blocks below.
      let former : length between ≤ max (length old) (1024 * blocks) =
      first.within blocks (λ number stands. below number (stands_left one two number stands)) in
      let latter : length new ≤ max (length between) (1024 * blocks) =
      second.within blocks (λ number stands. below number (stands_right one two number stands)) in
      omega (arith, former, latter);
}

-- of a file all blocks but those of a longer list stay
pub keeps_more : {few old new : List ℕ} (more : List ℕ) → ((number : ℕ) → StandsIn few number → StandsIn more number)
    → KeepsBlocksBut few old new → KeepsBlocksBut more old new
keeps_more {few} more among keeps = record {
  others = λ number none. keeps.others number (none_of (times few number) (times more number) (among number) none);
  longer = keeps.longer;
  within = λ blocks below. keeps.within blocks (λ number stands. below number (among number stands));
}
  where
    none_of : (one other : ℕ) → (1 ≤ one → 1 ≤ other) → other ≡ 0 → one ≡ 0
    none_of one other among none = grind arith

not_it : (number other : ℕ) → times (number ∷ []) other ≡ 0 → other ≢ number
not_it number other none same = absurd (omega (arith, none, ap (times (number ∷ [])) same, times-cons-same number []))

-- a block beside the one that was changed
pub keeps_beside : {number : ℕ} {old new : List ℕ} → KeepsBlocksBut (number ∷ []) old new → (other : ℕ) → other ≢ number
    → block_of new other ≡ block_of old other
keeps_beside {number} keeps other differ =
    keeps.others other (times-cons-other number [] other (λ same. differ (sym same)))

-- a block was laid over a file
keeps_laid : (file : List ℕ) (number : ℕ) (bytes : List ℕ)
    → KeepsBlocksBut (number ∷ []) file (with_block file number bytes)
keeps_laid file number bytes = record {
  others = λ other none. block_of-with_block_other file number other bytes (not_it number other none);
  longer = omega (arith, length-with_block file number bytes);
  within = λ blocks below.
      let low : number < blocks = below number (omega (arith, times-cons-same number [])) in
      omega (arith, low, length-with_block file number bytes);
}

-- a block that was lent is marked so
pub marked : {tells : Bool} {file bytes : List ℕ} {number : ℕ} {old new : Pages} → Lent tells file number bytes old new
    → is_lent (pages_of new) number ≡ true
marked {number = number} {old = old} lent =
    lent.lent number ∙ ap (λ (b : Bool). is_lent (pages_of old) number || b) (eq-eqb number number refl)
    ∙ or-true (is_lent (pages_of old) number)

-- a block was lent for writing, and left with these bytes
pub lends_of_page : {tells done : Bool} {number : ℕ} {bytes : List ℕ} (before now : StoreSeen) {old new : Pages}
    → Lent tells (file_under before old) number bytes old new → OnlyReads done (name_of old) before now
    → now.reads ≡ cond (is_buffered (pages_of old) number) before.reads (counted before.reads)
    → LendsSome tells done (missing (pages_of old) number) (number ∷ []) before now old new
lends_of_page {tells} {number} {bytes} before now {old} {new} lent leaves reads = record {
  name = lent.brings.name;
  few = one_more (is_buffered (pages_of old) number) (length (pages_of old)) (length (pages_of new)) lent.brings.count;
  stay = still_there lent.brings;
  shows = λ file. subst (λ (f : List ℕ). KeepsBlocksBut (number ∷ []) (shown (pages_of old) file) f)
      (sym (lent.shows file)) (keeps_laid (shown (pages_of old) file) number bytes);
  lent = λ other none. lent.lent other
      ∙ ap (λ (b : Bool). is_lent (pages_of old) other || b)
      (ne_eqb number other (λ same. not_it number other none (sym same)))
      ∙ or-false (is_lent (pages_of old) other);
  still_lent = λ other there. lent.lent other ∙ ap (λ (b : Bool). b || number == other) there;
  lent_count =
      one_lent (is_lent (pages_of old) number) (lent_count (pages_of old)) (lent_count (pages_of new)) lent.lent_count;
  known = known_along tells before now old new lent.brings.name leaves.files lent.clean;
  leaves = leaves;
  reads = one_read (is_buffered (pages_of old) number) before.reads now.reads reads;
}
  where
    one_lent : (lent : Bool) (old new : ℕ) → new ≡ cond lent old (old + 1) → new ≤ old + 1
    one_lent true old new is = omega (arith, is)
    one_lent false old new is = omega (arith, is)

-- where pages were looked at none was lent for writing
pub lends_of_looks : {tells ok : Bool} {count : ℕ} {before now : StoreSeen} {old new : Pages}
    → LooksAtSome tells ok count before now old new → LendsSome tells ok count [] before now old new
lends_of_looks {old} {new} looks = record {
  name = looks.name;
  few = looks.few;
  stay = looks.stay;
  shows = λ file. subst (λ (f : List ℕ). KeepsBlocksBut [] (shown (pages_of old) file) f) (sym (looks.shows file))
      (keeps_none (shown (pages_of old) file));
  lent = λ number none. looks.lent number;
  still_lent = λ number there. looks.lent number ∙ there;
  lent_count = omega (arith, looks.lent_count);
  known = looks.known;
  leaves = looks.leaves;
  reads = looks.reads;
}

pub lends_both : {tells done ok : Bool} {one two : ℕ} {these those : List ℕ} {before between now : StoreSeen}
    {old middle new : Pages} → LendsSome tells done one these before between old middle
    → LendsSome tells ok two those between now middle new
    → LendsSome tells (done && ok) (one + two) (these ++ those) before now old new
lends_both {done = done} {ok = ok} {these = these} {those = those} {before = before} {between = between} {now = now}
    {old = old} first second = record {
      name = second.name ∙ first.name;
      few = omega (arith, first.few, second.few);
      stay = λ number there. second.stay number (first.stay number there);
      shows = λ file. keeps_then (first.shows file) (second.shows file);
      lent = λ number none.
          second.lent number (omega (arith, none, times-append these those number))
          ∙ first.lent number (omega (arith, none, times-append these those number));
      still_lent = λ number there. second.still_lent number (first.still_lent number there);
      lent_count = omega (arith, first.lent_count, second.lent_count, length-append these those);
      known = λ known. second.known (first.known known);
      leaves = only_reads-both done ok (name_of old) before between now first.leaves
          (subst (λ (name : List ℕ). OnlyReads ok name between now) first.name second.leaves);
      reads = omega (arith, first.reads, second.reads);
    }

pub lends_then : {tells ok : Bool} {one two : ℕ} {these those : List ℕ} {before between now : StoreSeen}
    {old middle new : Pages} → LendsSome tells true one these before between old middle
    → LendsSome tells ok two those between now middle new
    → LendsSome tells ok (one + two) (these ++ those) before now old new
lends_then first second = lends_both first second

pub looks_then_lends : {tells ok : Bool} {one two : ℕ} {numbers : List ℕ} {before between now : StoreSeen}
    {old middle new : Pages} → LooksAtSome tells true one before between old middle
    → LendsSome tells ok two numbers between now middle new
    → LendsSome tells ok (one + two) numbers before now old new
looks_then_lends first second = lends_then (lends_of_looks first) second

pub lends_then_looks : {tells ok : Bool} {one two : ℕ} {numbers : List ℕ} {before between now : StoreSeen}
    {old middle new : Pages} → LendsSome tells true one numbers before between old middle
    → LooksAtSome tells ok two between now middle new
    → LendsSome tells ok (one + two) numbers before now old new
lends_then_looks {tells} {ok} {one} {two} {numbers} {before} {now} {old} {new} first second =
    subst (λ (ns : List ℕ). LendsSome tells ok (one + two) ns before now old new) (append-nil numbers)
    (lends_then first (lends_of_looks second))

pub lends_more : {tells ok : Bool} {few : ℕ} {numbers : List ℕ} {before now : StoreSeen} {old new : Pages} (more : ℕ)
    → few ≤ more → LendsSome tells ok few numbers before now old new
    → LendsSome tells ok more numbers before now old new
lends_more more fewer lends = record {
  name = lends.name;
  few = omega (arith, lends.few, fewer);
  stay = lends.stay;
  shows = lends.shows;
  lent = lends.lent;
  still_lent = lends.still_lent;
  lent_count = lends.lent_count;
  known = lends.known;
  leaves = lends.leaves;
  reads = omega (arith, lends.reads, fewer);
}

-- of what a buffer shows over its file all blocks stay but those that were lent for writing
pub shown_over-lends : {tells ok : Bool} {count : ℕ} {numbers : List ℕ} {before now : StoreSeen} {old new : Pages}
    → LendsSome tells ok count numbers before now old new
    → KeepsBlocksBut numbers (shown_over before old) (shown_over now new)
shown_over-lends {numbers} {before} {now} {old} {new} lends =
    subst (λ (file : List ℕ). KeepsBlocksBut numbers (shown_over before old) (shown (pages_of new) file))
    (sym (same_file before now old new lends.name lends.leaves.files))
    (lends.shows (file_under before old))

pub shown_over-lent : {tells done : Bool} {number : ℕ} {bytes : List ℕ} (before now : StoreSeen) {old new : Pages}
    → Lent tells (file_under before old) number bytes old new → OnlyReads done (name_of old) before now
    → shown_over now new ≡ with_block (shown_over before old) number bytes
shown_over-lent before now {old} {new} lent leaves =
    ap (shown (pages_of new)) (same_file before now old new lent.brings.name leaves.files)
    ∙ lent.shows (file_under before old)

-- the block that bytes were left in, over a file
left_block : (number : ℕ) (bytes old new : List ℕ) → new ≡ with_block old number bytes
    → block_of new number ≡ whole_block bytes
left_block number bytes old new laid =
    ap (λ (file : List ℕ). block_of file number) laid ∙ block_of-with_block_same old number bytes

-- a byte of that block behind its end is 0, as it was before
none_behind : (number place : ℕ) (bytes old : List ℕ) → 1024 ≤ place
    → byte_at (whole_block bytes) place ≡ byte_at (block_of old number) place
none_behind number place bytes old past =
    get_or_past (whole_block bytes) place 0 (omega (arith, past, length-whole_block bytes))
    ∙ sym (get_or_past (block_of old number) place 0 (omega (arith, past, length-block_of old number)))

-- a number was written in a block that was lent for writing
pub has_word : (number at value : ℕ) (block bytes old new : List ℕ) → at + 4 ≤ 1024 → block ≡ block_of old number
    → number_at 4 bytes at ≡ value → KeepsOutside at (at + 4) block bytes
    → new ≡ with_block old number bytes → HasWord number at value old new
has_word number at value block bytes old new room is written keeps laid =
    let left : block_of new number ≡ whole_block bytes = left_block number bytes old new laid in
    let was : (place : ℕ) → byte_at block place ≡ byte_at (block_of old number) place =
    λ place. ap (λ (b : List ℕ). byte_at b place) is in
    let now : (place : ℕ) → byte_at (block_of new number) place ≡ byte_at (whole_block bytes) place =
    λ place. ap (λ (b : List ℕ). byte_at b place) left in
    record {
      is = ap (λ (b : List ℕ). number_at 4 b at) left
          ∙ number_same 4 at (whole_block bytes) bytes (λ place from to. byte_at-whole_block bytes place (omega arith))
          ∙ written;
      others = record {
        before = λ place early.
            now place ∙ byte_at-whole_block bytes place (omega arith) ∙ keeps.before place early ∙ was place;
        behind = λ place late. now place ∙ (elim (cases_lt place 1024) [
          | inl within ↦ byte_at-whole_block bytes place within ∙ keeps.behind place late ∙ was place
          | inr past ↦ none_behind number place bytes old past
        ]);
      };
    }

-- a block that was lent for writing was left with zeros
pub blank_block : (number size : ℕ) (bytes old new : List ℕ) → bytes ≡ replicate size 0
    → new ≡ with_block old number bytes → block_of new number ≡ replicate 1024 0
blank_block number size bytes old new zeros laid =
    left_block number bytes old new laid
    ∙ ap whole_block zeros
    ∙ ap (take 1024) (replicate-append-replicate size 1024 0)
    ∙ take-replicate 1024 (size + 1024) 0 (omega arith)

-- a number was written in a block that was as before, or that stays since
pub HasWord-earlier : (number at value : ℕ) (old between new : List ℕ) → block_of between number ≡ block_of old number
    → HasWord number at value between new → HasWord number at value old new
HasWord-earlier number at value old between new same word = record {
  is = word.is;
  others = subst (λ (block : List ℕ). KeepsOutside at (at + 4) block (block_of new number)) same word.others;
}

pub HasWord-later : (number at value : ℕ) (old between new : List ℕ) → HasWord number at value old between
    → block_of new number ≡ block_of between number → HasWord number at value old new
HasWord-later number at value old between new word same = record {
  is = ap (λ (block : List ℕ). number_at 4 block at) same ∙ word.is;
  others = subst (λ (block : List ℕ). KeepsOutside at (at + 4) (block_of old number) block) (sym same) word.others;
}
