-- What an opened tree file holds rests on the named file alone, which stands for it.
use Rattle.std.specs.Prelude.{◌≡◌, Bool, ℕ, List, Option, IsSomeAnd}
use Rattle.std.proofs.Common.{sym, subst, ◌∙◌}
use Rattle.entry_codec.specs.declared.header.Header.{Header}
use Rattle.quota_value.specs.QuotaValue.{QuotaValue}
use Rattle.tree_meaning.specs.TreeFile.{TreeStandsFor}
use Rattle.tree_file.specs.Opened.{HoldsTree}
use Rattle.tree_file.specs.declared.coming.Coming.{Coming}

-- another store with the same named file
pub rests_on_named : (tells : Bool) (named named' : Option (List ℕ)) (header : Header) (coming : Coming) (limit : ℕ)
    (value : QuotaValue) → named' ≡ named
    → HoldsTree tells named header coming limit value → HoldsTree tells named' header coming limit value
rests_on_named tells named named' header coming limit value n held = record {
  told = held.told;
  file = held.file;
  there = n ∙ held.there;
  stands = held.stands;
  few = held.few;
  same = held.same;
  next = held.next;
}

-- the named file stands for what is held
pub held_stands : (tells : Bool) (named : Option (List ℕ)) (header : Header) (coming : Coming) (limit : ℕ)
    (value : QuotaValue) → HoldsTree tells named header coming limit value
    → IsSomeAnd named (λ bytes. TreeStandsFor bytes value)
held_stands tells named header coming limit value held =
    subst (λ (file : Option (List ℕ)). IsSomeAnd file (λ (bytes : List ℕ). TreeStandsFor bytes value))
    (sym held.there) held.stands
