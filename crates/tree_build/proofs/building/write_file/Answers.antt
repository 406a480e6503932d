use Rattle.std.proofs.Common.{◌≡◌, ℕ, ◌+◌, ◌^◌, List, length, sym, ap, subst, ◌∙◌, arith}
use Rattle.std.specs.List.{flat_map, range_with_len}
use Rattle.std.specs.List.Sorted.{IsStrictlyIncreasing}
use Rattle.quota_types.proofs.AscendsLemmas.{Ascends-of}
use Rattle.entry_codec.specs.Header.{header_of}
use Rattle.quota_radix.specs.declared.tree_path.TreePath.{TreePath}
use Rattle.quota_value.specs.Listed.{ids_of, value_of}
use Rattle.tree_build.specs.Build.{HasNoPadding, HasOneRoom}
use Rattle.quota_radix.specs.Tree.{blocks_of, numbers_of}
use Rattle.tree_build.specs.NewFile.{AreBelow, AreDataBlocks, IsLevel, KeepsBlocks, leaves_in, parents_of, parts_needed}
use Rattle.tree_build.specs.NewFile.{parts_of}
use Rattle.tree_build.specs.Size.{blocks_needed}
use Rattle.tree_meaning.specs.TreeFile.{TreeStandsFor}
use Rattle.tree_build.proofs.NewFileLemmas.{with_root}
use Rattle.tree_build.proofs.OnceLemmas.{ascends-parents_of}
use Rattle.tree_build.proofs.WrittenLemmas.{IsWritten, are, has_no_padding, has_one_room, leaf_numbers, long}
use Rattle.tree_build.proofs.WrittenLemmas.{needed_by_levels, rising_parents, stands}
use Rattle.tree_build.proofs.building.write_file.Goals as goal

pub add_data-requires-clause-room : goal.add_data-requires-clause-room
add_data-requires-clause-room c =
    let needed = needed_by_levels c.args.header.now.format c.requires.tree c.args.list.now in
    omega (arith, needed, c.requires.blocks, c.in_ok-file.ensures.blocks)

pub add_level-requires-clause-ascending : goal.add_level-requires-clause-ascending
add_level-requires-clause-ascending c =
    let n0 : numbers_of c.as_slice.result.now ≡ ids_of c.args.list.now =
    ap numbers_of c.as_slice.ensures.value
    ∙ leaf_numbers c.args.header.now.format c.requires.tree c.args.list.now c.in_ok-file.file.blocks
    c.in_ok-leaves.leaves.items c.in_ok-leaves.ensures.leaves in
    subst IsStrictlyIncreasing (sym n0) c.requires.ascending

pub add_level-requires-clause-room : goal.add_level-requires-clause-room
add_level-requires-clause-room c =
    let needed = needed_by_levels c.args.header.now.format c.requires.tree c.args.list.now in
    let n0 : numbers_of c.as_slice.result.now ≡ ids_of c.args.list.now =
    ap numbers_of c.as_slice.ensures.value
    ∙ leaf_numbers c.args.header.now.format c.requires.tree c.args.list.now c.in_ok-file.file.blocks
    c.in_ok-leaves.leaves.items c.in_ok-leaves.ensures.leaves in
    omega (
      arith,
      needed,
      c.requires.blocks,
      c.in_ok-file.ensures.blocks,
      c.in_ok-leaves.ensures.blocks,
      ap (λ (ns : List ℕ). length (parents_of ns)) n0,
    )

pub add_level-requires-2-clause-ascending : goal.add_level-requires-2-clause-ascending
add_level-requires-2-clause-ascending c =
    let n0 : numbers_of c.as_slice.result.now ≡ ids_of c.args.list.now =
    ap numbers_of c.as_slice.ensures.value
    ∙ leaf_numbers c.args.header.now.format c.requires.tree c.args.list.now c.in_ok-file.file.blocks
    c.in_ok-leaves.leaves.items c.in_ok-leaves.ensures.leaves in
    let n1 : numbers_of c.as_slice-2.result.now ≡ parents_of (ids_of c.args.list.now) =
    ap numbers_of c.as_slice-2.ensures.value ∙ c.in_ok-third.ensures.numbers ∙ ap parents_of n0 in
    subst IsStrictlyIncreasing (sym n1)
    (rising_parents (ids_of c.args.list.now) (Ascends-of (ids_of c.args.list.now) c.requires.ascending))

pub add_level-requires-2-clause-room : goal.add_level-requires-2-clause-room
add_level-requires-2-clause-room c =
    let needed = needed_by_levels c.args.header.now.format c.requires.tree c.args.list.now in
    let n0 : numbers_of c.as_slice.result.now ≡ ids_of c.args.list.now =
    ap numbers_of c.as_slice.ensures.value
    ∙ leaf_numbers c.args.header.now.format c.requires.tree c.args.list.now c.in_ok-file.file.blocks
    c.in_ok-leaves.leaves.items c.in_ok-leaves.ensures.leaves in
    let n1 : numbers_of c.as_slice-2.result.now ≡ parents_of (ids_of c.args.list.now) =
    ap numbers_of c.as_slice-2.ensures.value ∙ c.in_ok-third.ensures.numbers ∙ ap parents_of n0 in
    omega (
      arith,
      needed,
      c.requires.blocks,
      c.in_ok-file.ensures.blocks,
      c.in_ok-leaves.ensures.blocks,
      c.in_ok-third.ensures.blocks,
      ap (λ (ns : List ℕ). length (parents_of ns)) n0,
      ap (λ (ns : List ℕ). length (parents_of ns)) n1,
    )

pub add_level-requires-3-clause-ascending : goal.add_level-requires-3-clause-ascending
add_level-requires-3-clause-ascending c =
    let n0 : numbers_of c.as_slice.result.now ≡ ids_of c.args.list.now =
    ap numbers_of c.as_slice.ensures.value
    ∙ leaf_numbers c.args.header.now.format c.requires.tree c.args.list.now c.in_ok-file.file.blocks
    c.in_ok-leaves.leaves.items c.in_ok-leaves.ensures.leaves in
    let n1 : numbers_of c.as_slice-2.result.now ≡ parents_of (ids_of c.args.list.now) =
    ap numbers_of c.as_slice-2.ensures.value ∙ c.in_ok-third.ensures.numbers ∙ ap parents_of n0 in
    let n2 : numbers_of c.as_slice-3.result.now ≡ parents_of (parents_of (ids_of c.args.list.now)) =
    ap numbers_of c.as_slice-3.ensures.value ∙ c.in_ok-second.ensures.numbers ∙ ap parents_of n1 in
    subst IsStrictlyIncreasing (sym n2)
    (rising_parents (parents_of (ids_of c.args.list.now))
    (ascends-parents_of (ids_of c.args.list.now) (Ascends-of (ids_of c.args.list.now) c.requires.ascending)))

pub add_level-requires-3-clause-room : goal.add_level-requires-3-clause-room
add_level-requires-3-clause-room c =
    let needed = needed_by_levels c.args.header.now.format c.requires.tree c.args.list.now in
    let n0 : numbers_of c.as_slice.result.now ≡ ids_of c.args.list.now =
    ap numbers_of c.as_slice.ensures.value
    ∙ leaf_numbers c.args.header.now.format c.requires.tree c.args.list.now c.in_ok-file.file.blocks
    c.in_ok-leaves.leaves.items c.in_ok-leaves.ensures.leaves in
    let n1 : numbers_of c.as_slice-2.result.now ≡ parents_of (ids_of c.args.list.now) =
    ap numbers_of c.as_slice-2.ensures.value ∙ c.in_ok-third.ensures.numbers ∙ ap parents_of n0 in
    let n2 : numbers_of c.as_slice-3.result.now ≡ parents_of (parents_of (ids_of c.args.list.now)) =
    ap numbers_of c.as_slice-3.ensures.value ∙ c.in_ok-second.ensures.numbers ∙ ap parents_of n1 in
    omega (
      arith,
      needed,
      c.requires.blocks,
      c.in_ok-file.ensures.blocks,
      c.in_ok-leaves.ensures.blocks,
      c.in_ok-third.ensures.blocks,
      c.in_ok-second.ensures.blocks,
      ap (λ (ns : List ℕ). length (parents_of ns)) n0,
      ap (λ (ns : List ℕ). length (parents_of ns)) n1,
      ap (λ (ns : List ℕ). length (parents_of ns)) n2,
    )

pub returns : goal.returns
returns c =
    let d : ℕ = parts_needed c.args.header.now.format c.args.list.now in
    let leaves : List TreePath = c.as_slice.result.now in
    let third : List TreePath = c.as_slice-2.result.now in
    let second : List TreePath = c.as_slice-3.result.now in
    let first : List TreePath = c.as_slice-4.result.now in
    let threes : ℕ = length (parents_of (numbers_of leaves)) in
    let twos : ℕ = length (parents_of (numbers_of third)) in
    let ones : ℕ = length (parents_of (numbers_of second)) in
    let data_end : c.add_data.new.file.blocks ≡ 2 + d =
    c.in_ok-leaves.ensures.blocks ∙ ap (λ (n : ℕ). n + d) c.in_ok-file.ensures.blocks in
    let third_end : c.add_level.new.file.blocks ≡ 2 + d + threes =
    c.in_ok-third.ensures.blocks ∙ ap (λ (n : ℕ). n + threes) data_end in
    let second_end : c.add_level-2.new.file.blocks ≡ 2 + d + threes + twos =
    c.in_ok-second.ensures.blocks ∙ ap (λ (n : ℕ). n + twos) third_end in
    let first_end : c.add_level-3.new.file.blocks ≡ 2 + d + threes + twos + ones =
    c.in_ok-first.ensures.blocks ∙ ap (λ (n : ℕ). n + ones) second_end in
    let w : IsWritten c.args.header.now c.args.list.now c.in_ok-file.file.bytes.items c.add_data.new.file.bytes.items
    c.add_level.new.file.bytes.items c.add_level-2.new.file.bytes.items
    c.add_level-3.new.file.bytes.items c.tree_block.result leaves third second first = record {
      tree = c.requires.tree;
      rising = c.requires.ascending;
      blocks = c.requires.blocks;
      free = c.requires.free;
      room = c.requires.first;
      zeroth_long = omega (arith, c.in_ok-file.ensures.blocks);
      head = c.in_ok-file.ensures.header;
      padding = c.in_ok-file.ensures.rest;
      leaves_are = c.as_slice.ensures.value ∙ c.in_ok-leaves.ensures.leaves
          ∙ ap (λ (n : ℕ). flat_map leaves_in (parts_of c.args.header.now.format c.args.list.now n d))
          c.in_ok-file.ensures.blocks;
      below = subst (AreBelow (2 ^ 32)) (sym c.as_slice.ensures.value) c.in_ok-leaves.ensures.below;
      parts = subst (λ (n : ℕ). AreDataBlocks c.args.header.now.format c.add_data.new.file.bytes.items
          (parts_of c.args.header.now.format c.args.list.now n d)) c.in_ok-file.ensures.blocks
          c.in_ok-leaves.ensures.data;
      data_kept = subst (λ (n : ℕ). KeepsBlocks n c.in_ok-file.file.bytes.items c.add_data.new.file.bytes.items)
          c.in_ok-file.ensures.blocks c.in_ok-leaves.ensures.kept_blocks;
      third_numbers = ap numbers_of c.as_slice-2.ensures.value ∙ c.in_ok-third.ensures.numbers;
      third_blocks = ap blocks_of c.as_slice-2.ensures.value ∙ c.in_ok-third.ensures.new_blocks
          ∙ ap (λ (n : ℕ). range_with_len n threes) data_end;
      third_level = λ all leading. subst
          (λ (ps : List TreePath). IsLevel c.add_level.new.file.bytes.items all ps leaves)
          (sym c.as_slice-2.ensures.value) (c.in_ok-third.ensures.level all leading);
      third_kept = subst (λ (n : ℕ). KeepsBlocks n c.add_data.new.file.bytes.items c.add_level.new.file.bytes.items)
          data_end c.in_ok-third.ensures.kept_blocks;
      second_numbers = ap numbers_of c.as_slice-3.ensures.value ∙ c.in_ok-second.ensures.numbers;
      second_blocks = ap blocks_of c.as_slice-3.ensures.value ∙ c.in_ok-second.ensures.new_blocks
          ∙ ap (λ (n : ℕ). range_with_len n twos) third_end;
      second_level = λ all leading. subst
          (λ (ps : List TreePath). IsLevel c.add_level-2.new.file.bytes.items all ps third)
          (sym c.as_slice-3.ensures.value) (c.in_ok-second.ensures.level all leading);
      second_kept = subst (λ (n : ℕ). KeepsBlocks n c.add_level.new.file.bytes.items c.add_level-2.new.file.bytes.items)
          third_end c.in_ok-second.ensures.kept_blocks;
      first_numbers = ap numbers_of c.as_slice-4.ensures.value ∙ c.in_ok-first.ensures.numbers;
      first_blocks = ap blocks_of c.as_slice-4.ensures.value ∙ c.in_ok-first.ensures.new_blocks
          ∙ ap (λ (n : ℕ). range_with_len n ones) second_end;
      first_level = λ all leading. subst
          (λ (ps : List TreePath). IsLevel c.add_level-3.new.file.bytes.items all ps second)
          (sym c.as_slice-4.ensures.value) (c.in_ok-first.ensures.level all leading);
      first_kept = subst
          (λ (n : ℕ). KeepsBlocks n c.add_level-2.new.file.bytes.items c.add_level-3.new.file.bytes.items) second_end
          c.in_ok-first.ensures.kept_blocks;
      first_long = omega (arith, first_end);
      root_long = omega arith;
      root_steps = c.tree_block.ensures.onward;
      root_inside = c.tree_block.ensures.inside;
    } in
    let is : c.set_root.new.self.bytes.items ≡ with_root c.add_level-3.new.file.bytes.items c.tree_block.result =
    c.set_root.ensures.bytes in
    let one = has_one_room _ _ _ _ _ _ _ _ _ _ _ _ w in
    let none = has_no_padding _ _ _ _ _ _ _ _ _ _ _ _ w in
    let head = are _ _ _ _ _ _ _ _ _ _ _ _ w in
    let whole = long _ _ _ _ _ _ _ _ _ _ _ _ w in
    record {
      stands = subst (λ (bytes : List ℕ). TreeStandsFor bytes
          (value_of c.args.header.now.kind c.args.header.now.format c.args.header.now.grace c.args.header.now.flags
          c.args.list.now)) (sym is) (stands _ _ _ _ _ _ _ _ _ _ _ _ w);
      size = omega (arith, ap length is, whole, c.requires.blocks);
      blocks = ap (λ (bytes : List ℕ). (header_of bytes).blocks) is ∙ head.blocks ∙ c.requires.blocks;
      one_room =
          subst (λ (bytes : List ℕ). HasOneRoom c.args.header.now.format bytes
          (blocks_needed c.args.header.now.format (ids_of c.args.list.now))) (sym is)
          (subst (HasOneRoom c.args.header.now.format
          (with_root c.add_level-3.new.file.bytes.items c.tree_block.result)) c.requires.blocks one);
      no_padding =
          subst (λ (bytes : List ℕ). HasNoPadding c.args.header.now.format bytes
          (blocks_needed c.args.header.now.format (ids_of c.args.list.now))) (sym is)
          (subst (HasNoPadding c.args.header.now.format
          (with_root c.add_level-3.new.file.bytes.items c.tree_block.result)) c.requires.blocks none);
    }
