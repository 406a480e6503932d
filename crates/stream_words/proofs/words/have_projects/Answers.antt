use Rattle.std.proofs.Common.{◌∙◌, sym, rules, tests}
use Rattle.std.proofs.lemmas.Iterator.{YieldsList-from_slice}
use Rattle.std.proofs.lemmas.Iterator.Search.{any_from_yields_List}
use Rattle.option_words.specs.declared.given.ExportWords.{ExportWords}
use Rattle.option_words.specs.Given.{export_given}
use Rattle.option_words.proofs.TableLemmas.{list_any-map}
use Rattle.quota_types.specs.Kind.{kinds_eq}
use Rattle.quota_types.specs.declared.file_kind.Kind.TheVariants.{Project}
use Rattle.stream_words.specs.Words.{is_of_projects}
use Rattle.stream_words.proofs.words.have_projects.Goals as goal

pub returns : goal.returns
returns c =
    any_from_yields_List (λ (e : ExportWords). kinds_eq e.kind Project) _ _ c.any.result c.any.ensures.ran
    (YieldsList-from_slice c.args.exports.now c.iter.ensures.rest) (λ x b q k. search (rules, tests))
    ∙ sym (list_any-map is_of_projects export_given c.args.exports.now)
