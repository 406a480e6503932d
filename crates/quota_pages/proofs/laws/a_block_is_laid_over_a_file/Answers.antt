use Rattle.std.proofs.Common.{◌∙◌, arith}
use Rattle.quota_pages.proofs.BlockLemmas.{block_of-with_block_other, block_of-with_block_same}
use Rattle.quota_pages.proofs.BlockLemmas.{byte_at-with_block_before, byte_at-with_block_behind, length-with_block}
use Rattle.quota_pages.proofs.BlockLemmas.{whole_block-same}
use Rattle.quota_pages.proofs.laws.a_block_is_laid_over_a_file.Goals as goal

pub returns-clause-same : goal.returns-clause-same
returns-clause-same c =
    λ file bytes number long. block_of-with_block_same file number bytes ∙ whole_block-same bytes long

pub returns-clause-other : goal.returns-clause-other
returns-clause-other c = λ file bytes number other differ. block_of-with_block_other file number other bytes differ

pub returns-clause-before : goal.returns-clause-before
returns-clause-before c = λ file bytes number at before. byte_at-with_block_before file number bytes at before

pub returns-clause-behind : goal.returns-clause-behind
returns-clause-behind c = λ file bytes number at behind. byte_at-with_block_behind file number bytes at behind

pub returns-clause-size : goal.returns-clause-size
returns-clause-size c = λ file bytes number. omega (arith, length-with_block file number bytes)
