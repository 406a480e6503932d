-- What an opened tree file holds is what the named file stands for, which has the header that is kept.
use Rattle.std.proofs.Common.{◌≡◌, ℕ, Bool, List, Option, Some, sym, ap, subst}
use Rattle.file_blocks.specs.Block.{bytes_of}
use Rattle.quota_value.specs.QuotaValue.{QuotaValue}
use Rattle.entry_codec.specs.Header.{header_of}
use Rattle.entry_codec.specs.Spelling.{AreOf}
use Rattle.entry_codec.specs.declared.header.Header.{Header}
use Rattle.tree_meaning.specs.TreeFile.{TreeStandsFor}
use Rattle.tree_file.specs.Opened.{HoldsTree}
use Rattle.tree_file.specs.declared.coming.Coming.{Coming}

-- the bytes of the named file are those of the file that is there
pub there_bytes : (named : Option (List ℕ)) (file : List ℕ) → named ≡ Some file → bytes_of named ≡ file
there_bytes named file there = ap bytes_of there

-- the header that is kept is that of the named file
pub held_header : (tells : Bool) (named : Option (List ℕ)) (header : Header) (coming : Coming) (limit : ℕ)
    (value : QuotaValue) → HoldsTree tells named header coming limit value
    → AreOf header (header_of (bytes_of named))
held_header tells named header coming limit value held =
    subst (λ (file : List ℕ). AreOf header (header_of file)) (sym (there_bytes named held.file held.there)) held.same

-- and that file stands for what is held
pub held_file : (tells : Bool) (named : Option (List ℕ)) (header : Header) (coming : Coming) (limit : ℕ)
    (value : QuotaValue) → HoldsTree tells named header coming limit value
    → TreeStandsFor (bytes_of named) value
held_file tells named header coming limit value held =
    subst (λ (file : List ℕ). TreeStandsFor file value) (sym (there_bytes named held.file held.there)) held.stands
