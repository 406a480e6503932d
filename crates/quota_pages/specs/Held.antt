-- Pages as they are held: the heads and the blocks side by side.
use Rattle.std.specs.Prelude.{ℕ, true, List, [], ◌∷◌, slice_index_or}
use Rattle.std.specs.Borrow.{Lends, MutBor, Fml, Array, u8}
use Rattle.arrayvec.specs.ArrayVec.{with_item}
use Rattle.quota_pages.specs.Page.{Page}
use Rattle.quota_pages.specs.declared.held_blocks.PageHead.{PageHead}
use Rattle.quota_pages.specs.declared.held_blocks.Held.{Held}
use Rattle.quota_pages.specs.contracts.held_blocks.Held.{the_row}

-- each head with its block
abbrev pub pages_in : List PageHead → List (List ℕ) → List Page
pages_in [] blocks = []
pages_in (head ∷ heads) [] = []
pages_in (head ∷ heads) (block ∷ blocks) =
    record { number = head.number; bytes = block; lent = head.lent } ∷ pages_in heads blocks

-- a head that is marked as lent for writing
abbrev pub lent_head : PageHead → PageHead
lent_head head = record head { lent = true }

-- what is held once the block at a place was lent for writing and left with these bytes
abbrev pub with_lent : Held → ℕ → List ℕ → Held
with_lent held place bytes = record held {
  heads = with_item held.heads place
      (lent_head (slice_index_or held.heads.items place (record { number = 0; lent = true })));
  blocks = with_item held.blocks place bytes;
}

-- what is held ends with that place marked, and with the last bytes behind the reference
abbrev pub LendsBlock : MutBor Held → ℕ → MutBor (List ℕ) → Fml
LendsBlock held place block = Lends the_row (Array u8 1024) held block (with_lent held.now place)
