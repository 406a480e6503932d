use Rattle.std.proofs.Common.{List, ℕ, [], ◌∷◌, false, length, refl, ap, ◌∙◌, arith, length-append}
use Rattle.file_blocks.specs.Block.{block_of, bytes_of}
use Rattle.quota_pages.specs.Pages.{name_of, pages_of}
use Rattle.quota_pages.specs.declared.held_blocks.PageHead.{PageHead}
use Rattle.quota_pages.proofs.BufferLemmas.{looks_at-read, page_count, pushed_distinct}
use Rattle.quota_pages.proofs.HeldLemmas.{pushed_beside, pushed_pages}
use Rattle.quota_pages.proofs.page_buffer.Pages.read_in.Goals as goal

pub push-requires-clause-heads : goal.push-requires-clause-heads
push-requires-clause-heads g c = omega (arith, page_count c.args.self.now, c.requires.room)

pub push-requires-clause-blocks : goal.push-requires-clause-blocks
push-requires-clause-blocks g c = omega (arith, page_count c.args.self.now, c.args.self.now.beside, c.requires.room)

pub invariant_of-self-clause-beside : goal.invariant_of-self-clause-beside
invariant_of-self-clause-beside g c =
    pushed_beside _ _ _ _ _ _ c.args.self.now.beside c.push.ensures.heads c.push.ensures.blocks

pub invariant_of-self-clause-distinct : goal.invariant_of-self-clause-distinct
unfolding pages_of
invariant_of-self-clause-distinct g c =
    pushed_distinct _ _ _ _ _ _ c.args.self.now.beside c.push.ensures.heads c.push.ensures.blocks c.requires.absent
    c.args.self.now.distinct

pub invariant_of-self-clause-few : goal.invariant_of-self-clause-few
invariant_of-self-clause-few g c =
    let head : PageHead = record { number = c.args.number; lent = false } in
    omega (
      arith,
      ap length c.push.ensures.heads,
      length-append c.args.self.now.held.heads.items (head ∷ []),
      page_count c.args.self.now,
      c.requires.room,
    )

pub returns-clause-looked : goal.returns-clause-looked
unfolding pages_of name_of
returns-clause-looked g c =
    looks_at-read g.S.Store.tells (bytes_of ((g.S.Store.seen c.args.store.now).files (name_of c.args.self.now)))
    c.args.number c.read_block.new.block c.args.self.now _ refl c.requires.absent
    (pushed_pages _ _ _ _ _ _ c.args.self.now.beside c.push.ensures.heads c.push.ensures.blocks)
    (λ told. c.in_ok-read_block.ensures.bytes told
    ∙ ap (λ (name : List ℕ). block_of (bytes_of ((g.S.Store.seen c.args.store.now).files name)) c.args.number)
    c.as_str.ensures.value)
