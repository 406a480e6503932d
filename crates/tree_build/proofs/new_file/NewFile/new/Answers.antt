use Rattle.std.proofs.Common.{ℕ, List, ◌≡◌, ◌++◌, take, replicate, subst, sym, ap, ◌∙◌, arith}
use Rattle.std.proofs.lemmas.List.{take_at}
use Rattle.entry_codec.specs.Header.{header_of}
use Rattle.entry_codec.specs.Spelling.{AreOf}
use Rattle.quota_types.specs.Bytes.{byte_at}
use Rattle.tree_build.proofs.NewFileLemmas.{zeros_stay}
use Rattle.tree_build.proofs.new_file.NewFile.new.Goals as goal

pub returns-clause-header : goal.returns-clause-header
returns-clause-header c =
    let first : take 1024 c.extend_from_slice.new.self.items ≡ c.write_header.new.block =
    ap (take 1024)
    (c.in_ok-extend_from_slice.ensures.items ∙ ap (λ (xs : List ℕ). xs ++ replicate 1024 0) c.in_ok-bytes.ensures.items)
    ∙ take_at c.write_header.new.block (replicate 1024 0) 1024 (omega arith) in
    subst (λ (xs : List ℕ). AreOf c.args.header.now (header_of xs)) (sym first) c.write_header.ensures.numbers

pub returns-clause-rest : goal.returns-clause-rest
returns-clause-rest c =
    let first : take 1024 c.extend_from_slice.new.self.items ≡ c.write_header.new.block =
    ap (take 1024)
    (c.in_ok-extend_from_slice.ensures.items ∙ ap (λ (xs : List ℕ). xs ++ replicate 1024 0) c.in_ok-bytes.ensures.items)
    ∙ take_at c.write_header.new.block (replicate 1024 0) 1024 (omega arith) in
    λ at from to. ap (λ (xs : List ℕ). byte_at xs at) first
    ∙ zeros_stay c.write_header.new.block c.write_header.ensures.rest at from to
