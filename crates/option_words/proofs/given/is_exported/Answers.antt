use Rattle.std.proofs.Common.{◌∙◌, sym, rules, tests, ◌&&◌}
use Rattle.std.proofs.lemmas.Iterator.{YieldsList-from_slice}
use Rattle.std.proofs.lemmas.Iterator.Search.{any_from_yields_List}
use Rattle.std.specs.Str.{bytes_eq}
use Rattle.option_words.specs.declared.export_option.ExportOption.{ExportOption}
use Rattle.option_words.specs.declared.given.ExportWords.{ExportWords}
use Rattle.option_words.specs.Given.{export_given, kind_word}
use Rattle.option_words.proofs.TableLemmas.{list_any-map}
use Rattle.option_words.proofs.given.is_exported.Goals as goal

pub returns : goal.returns
returns c =
    any_from_yields_List
    (λ (e : ExportWords). bytes_eq e.path.now c.args.path.now && bytes_eq (kind_word e.kind) c.args.kind.now) _ _
    c.any.result c.any.ensures.ran
    (YieldsList-from_slice c.args.exports.now c.iter.ensures.rest) (λ x b q k. search (rules, tests))
    ∙ sym (list_any-map
    (λ (e : ExportOption). bytes_eq e.path c.args.path.now && bytes_eq (kind_word e.kind) c.args.kind.now) export_given
    c.args.exports.now)
