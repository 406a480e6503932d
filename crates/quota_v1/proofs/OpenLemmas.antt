-- A flat file that is opened: its length is what the store answers, and of its bytes record 0 is read.
use Rattle.std.proofs.Common.{◌≡◌, ℕ, ◌+◌, ◌%◌, ◌≤◌, Bool, true, false, IsTrue, List, length, Option, Some, None, Ok}
use Rattle.std.proofs.Common.{refl, sym, ap, ◌∙◌, arith}
use Rattle.std.specs.Option.{IsSomeAnd}
use Rattle.file_blocks.specs.Block.{bytes_of}
use Rattle.quota_types.specs.Bytes.{number_at}
use Rattle.quota_types.specs.Format.{is_flat, record_size}
use Rattle.quota_types.specs.declared.file_kind.Format.{Format}
use Rattle.quota_types.specs.declared.file_kind.Kind.{Kind}
use Rattle.quota_types.specs.declared.record.Grace.{Grace}
use Rattle.quota_value.specs.QuotaValue.{QuotaValue}
use Rattle.quota_v1.specs.Opened.{HoldsFlat}
use Rattle.quota_v1.specs.Slot.{AreFrom}
use Rattle.quota_v1.specs.View.{IsFlatView}
use Rattle.quota_v1.specs.declared.window.Window.{Window}
use Rattle.quota_v1.specs.Place.{block_time_at, flat_limit, inode_time_at, record_start, time_width}
use Rattle.quota_v1.proofs.PlaceLemmas.{start_of_first, times_fill}
use Rattle.quota_v1.proofs.LooksLemmas.{forgotten}
use Rattle.quota_v1.proofs.SlotLemmas.{number_from}
use Rattle.quota_v1.proofs.ViewLemmas.{value_seen}

-- a file of whole records that is not too large is seen as its value
pub value_of_length : (format : Format) (named : Option (List ℕ)) (kind : Kind) (len : ℕ)
    → IsSomeAnd named (λ file. length file ≡ len) → len ≤ flat_limit format → len % record_size format ≡ 0
    → (value : QuotaValue) × IsFlatView format named kind (Ok value)
value_of_length format None kind len there few whole = absurd there
value_of_length format (Some file) kind len there few whole =
    value_seen format (Some file) kind file refl (omega (arith, there, few))
    (ap (λ (n : ℕ). n % record_size format) there ∙ whole)

-- and holds each value that it is seen as
pub holds_opened : (format : Format) → is_flat format ≡ true
    → (tells : Bool) (named named' : Option (List ℕ)) (kind : Kind) (len : ℕ) (times : Grace) (window : Window)
    (value : QuotaValue) (first : List ℕ) → IsTrue tells → named' ≡ named
    → IsSomeAnd named (λ file. length file ≡ len) → AreFrom (bytes_of named) 0 first → record_size format ≤ length first
    → number_at (time_width format) first block_time_at ≡ times.block
    → number_at (time_width format) first (inode_time_at format) ≡ times.inode → window.known ≡ false
    → IsFlatView format named kind (Ok value) → HoldsFlat tells named' format len times window value
holds_opened format flat tells None named' kind len times window value first told same there from long block inode none
    view = absurd view.0
holds_opened format flat tells (Some file) named' kind len times window value first told same there from long block
    inode none view =
    let fill = times_fill format flat in
    let time_at : (place : ℕ) → place + time_width format ≤ length first
    → number_at (time_width format) file (record_start format 0 + place) ≡ number_at (time_width format) first place =
    λ place within.
    let at : record_start format 0 + place ≡ 0 + place = omega (arith, start_of_first format) in
    ap (number_at (time_width format) file) at ∙ sym (number_from (time_width format) file 0 first place from within) in
    record {
      told = told;
      file = file;
      there = same;
      few = view.0.0;
      stands = view.0.1;
      agrees = record {
        long = sym there;
        block_time = time_at block_time_at (omega (arith, long, fill)) ∙ block;
        inode_time = time_at (inode_time_at format) (omega (arith, long, fill)) ∙ inode;
        next = forgotten format window file none;
      };
    }
