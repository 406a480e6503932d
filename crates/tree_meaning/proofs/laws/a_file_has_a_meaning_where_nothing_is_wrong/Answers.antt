use Rattle.std.proofs.Common.{◌≡◌, ◌≤◌, length, Some, None, sym, subst, ◌∙◌, arith}
use Rattle.std.proofs.lemmas.Bool.Decides.{nat_tests}
use Rattle.entry_codec.specs.Header.{HeaderNumbers, header_fault, header_of, magic_of}
use Rattle.quota_types.specs.declared.file_kind.Format.{Format}
use Rattle.quota_types.specs.declared.file_kind.Kind.{Kind}
use Rattle.byte_order.specs.Words.{in_order}
use Rattle.tree_meaning.specs.Entries.{stated_in}
use Rattle.tree_meaning.specs.TreeFile.{IsSoundIn}
use Rattle.tree_meaning.proofs.DefectLemmas.{no_defect_of_sound}
use Rattle.tree_meaning.proofs.SoundLemmas.{sound_of_no_defect}
use Rattle.tree_meaning.proofs.ValueLemmas.{sound_value}
use Rattle.tree_meaning.proofs.laws.a_file_has_a_meaning_where_nothing_is_wrong.Goals as goal

-- a header of a kind has its magic number, and at least two blocks
header_of_kind : (kind : Kind) (numbers : HeaderNumbers) → header_fault kind numbers ≡ None
    → (numbers.magic ≡ magic_of kind) × (2 ≤ numbers.blocks)
header_of_kind kind numbers none = grind (arith, nat_tests)

pub returns : goal.returns
returns c order file kind format fault version =
    let numbers : HeaderNumbers = header_of (in_order order file) in
    let header : (numbers.magic ≡ magic_of kind) × (2 ≤ numbers.blocks) = header_of_kind kind numbers fault in (
      λ meaning.
          let found : Some meaning.0.format ≡ Some format = sym meaning.2.version ∙ version in
          let same : meaning.0.format ≡ format = cc in
          no_defect_of_sound order format file numbers
          (subst (λ (f : Format). IsSoundIn order f file numbers) same meaning.2.sound),
      λ no_defect.
          let value = sound_value order file kind format header.0 version
          (sound_of_no_defect (stated_in order file) (length file) format (in_order order file) numbers header.1
          (λ kind block id names defect. no_defect (record { kind = kind; block = block; id = id }) (defect, names))) in
          (value.0, value.2, value.1),
    )
