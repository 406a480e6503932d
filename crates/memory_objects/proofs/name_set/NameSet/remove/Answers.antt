use Rattle.std.proofs.Common.{not, rules, String}
use Rattle.std.specs.Str.{bytes_eq}
use Rattle.std.specs.String.{string_bytes}
use Rattle.std.specs.declared.alloc.Global.{Global}
use Rattle.std.proofs.lemmas.Fn.{filter_same}
use Rattle.memory_objects.proofs.NameSetLemmas.{names_in-removed}
use Rattle.memory_objects.proofs.name_set.NameSet.remove.Goals as goal

pub returns : goal.returns
returns c =
    names_in-removed c.args.name.now _ _
    (filter_same _ (λ (text : String Global). not (bytes_eq (string_bytes text) c.args.name.now)) _
    (λ x b f' k. search rules) _ _ c.retain.ensures.filtered)
