-- A tree file of which the bytes of the two grace periods were written.
use Rattle.std.proofs.Common.{◌≡◌, ℕ, ◌+◌, ◌*◌, ◌<◌, ◌≤◌, List, ◌-◌, sym, ap, ◌∙◌, arith, inl, inr}
use Rattle.std.proofs.lemmas.Bool.{cases_lt}
use Rattle.std.proofs.lemmas.List.{ext_get_or}
use Rattle.quota_types.specs.Bytes.{byte_at, number_at}
use Rattle.quota_types.specs.declared.record.Grace.{Grace}
use Rattle.quota_value.specs.QuotaValue.{QuotaValue, with_grace}
use Rattle.quota_types.specs.KeptBytes.{KeepsOutside}
use Rattle.entry_codec.specs.declared.header.Header.{Header}
use Rattle.entry_codec.specs.Header.{format_of, header_of}
use Rattle.entry_codec.specs.Spelling.{AreOf}
use Rattle.file_blocks.specs.Block.{block_of}
use Rattle.tree_file.specs.TreeChange.{IsGraced}
use Rattle.tree_meaning.specs.TreeFile.{TreeStandsFor}
use Rattle.quota_pages.specs.Overlay.{with_block}
use Rattle.quota_pages.proofs.BlockLemmas.{byte_at-with_block_behind, byte_at-with_block_inside, length-with_block}
use Rattle.file_blocks.proofs.WordLemmas.{byte_at-block_of, length-block_of}
use Rattle.quota_types.proofs.BytesLemmas.{number_same}
use Rattle.tree_file.proofs.HeaderKeptLemmas.{KeepsHeader, stands_kept}

before : (old new : List ℕ) (at : ℕ) → KeepsOutside 8 16 old new → at + 4 ≤ 8 → number_at 4 new at ≡ number_at 4 old at
before old new at keeps le = number_same 4 at new old (λ k from to. keeps.before k (omega (arith, le)))

behind : (old new : List ℕ) (at : ℕ) → KeepsOutside 8 16 old new → 16 ≤ at → number_at 4 new at ≡ number_at 4 old at
behind old new at keeps le = number_same 4 at new old (λ k from to. keeps.behind k (omega (arith, le)))

-- the header, but for the grace periods
pub graced_header : (old new : List ℕ) → KeepsOutside 8 16 old new → KeepsHeader (header_of old) (header_of new)
graced_header old new keeps = record {
  magic = before old new 0 keeps (omega arith);
  version = before old new 4 keeps (omega arith);
  flags = behind old new 16 keeps (omega arith);
  blocks = behind old new 20 keeps (omega arith);
  free = behind old new 24 keeps (omega arith);
  first = behind old new 28 keeps (omega arith);
}

-- a block that was laid over the first one of a file, and has all its bytes but those of the two periods
module _ (old bytes : List ℕ) (grace : Grace) (keeps : KeepsOutside 8 16 (block_of old 0) bytes)
    (first : number_at 4 bytes 8 ≡ grace.block) (second : number_at 4 bytes 12 ≡ grace.inode) where
  abbrev laid : List ℕ
  laid = with_block old 0 bytes

  within : (at : ℕ) → at < 1024 → byte_at laid at ≡ byte_at bytes at
  within at low =
      byte_at-with_block_inside old 0 bytes at (omega arith) (omega (arith, low))
      ∙ ap (byte_at bytes) (let same : at - 1024 * 0 ≡ at = omega arith in same)

  first_block : (at : ℕ) → at < 1024 → byte_at (block_of old 0) at ≡ byte_at old at
  first_block at low =
      byte_at-block_of old 0 at low ∙ ap (byte_at old) (let same : 1024 * 0 + at ≡ at = omega arith in same)

  pub graced_laid : IsGraced grace old laid
  graced_laid = record {
    long = length-with_block old 0 bytes ∙ omega arith;
    others = record {
      before = λ at low. within at (omega (arith, low)) ∙ keeps.before at low ∙ first_block at (omega (arith, low));
      behind = λ at past. elim (cases_lt at 1024) [
        | inl low ↦ within at low ∙ keeps.behind at past ∙ first_block at low
        | inr over ↦ byte_at-with_block_behind old 0 bytes at (omega (arith, over))
      ];
    };
    block_grace = number_same 4 8 laid bytes (λ k from to. within k (omega (arith, to))) ∙ first;
    inode_grace = number_same 4 12 laid bytes (λ k from to. within k (omega (arith, to))) ∙ second;
  }

-- a block whose bytes are the same
block_same : (new old : List ℕ) (block : ℕ)
    → ((at : ℕ) → at < 1024 → byte_at new (1024 * block + at) ≡ byte_at old (1024 * block + at))
    → block_of new block ≡ block_of old block
block_same new old block same =
    ext_get_or 0 (block_of new block) (block_of old block) (length-block_of new block ∙ sym (length-block_of old block))
    (λ at lt.
    let low : at < 1024 = omega (arith, lt, length-block_of new block) in
    byte_at-block_of new block at low ∙ same at low ∙ sym (byte_at-block_of old block at low))

-- the blocks behind the header stay
graced_block : (grace : Grace) (old new : List ℕ) (block : ℕ) → IsGraced grace old new → 0 < block
    → block_of new block ≡ block_of old block
graced_block grace old new block graced some =
    block_same new old block (λ at low. graced.others.behind (1024 * block + at) (omega (arith, some)))

-- once its grace periods were set a file stands for the value with them
pub graced_stands : (grace : Grace) (old new : List ℕ) (value : QuotaValue) → IsGraced grace old new
    → TreeStandsFor old value → TreeStandsFor new (with_grace value grace)
graced_stands grace old new value graced stands =
    stands_kept old new value grace stands (graced_header old new graced.others)
    (λ number some low. graced_block grace old new number graced some)
    (λ more. omega (arith, stands.sound.long more, graced.long)) (sym graced.block_grace) (sym graced.inode_grace)

-- and its header has them
pub graced_of : (grace : Grace) (old new : List ℕ) (header : Header) → IsGraced grace old new
    → AreOf header (header_of old) → AreOf (record header { grace = grace }) (header_of new)
graced_of grace old new header graced are =
    let kept : KeepsHeader (header_of old) (header_of new) = graced_header old new graced.others in
    record {
      magic = kept.magic ∙ are.magic;
      version = ap format_of kept.version ∙ are.version;
      block_grace = graced.block_grace;
      inode_grace = graced.inode_grace;
      flags = kept.flags ∙ are.flags;
      blocks = kept.blocks ∙ are.blocks;
      free = kept.free ∙ are.free;
      first = kept.first ∙ are.first;
    }
