use Rattle.std.proofs.Common.{refl, codes}
use Rattle.option_words.proofs.TableLemmas.{bytes_eq-other}
use Rattle.option_words.proofs.tool.Tool.named.Goals as goal

pub returns-in_default : goal.returns-in_default
returns-in_default c =
    let name = c.args.name.now in
    let none = c.in_default in
    rw (
      bytes_eq-other (codes "repquota") name none.not-repquota,
      bytes_eq-other (codes "setquota") name none.not-setquota,
      bytes_eq-other (codes "edquota") name none.not-edquota,
      bytes_eq-other (codes "quotacheck") name none.not-quotacheck,
      bytes_eq-other (codes "convertquota") name none.not-convertquota,
      bytes_eq-other (codes "rquotad") name none.not-rquotad,
      bytes_eq-other (codes "script") name none.not-script,
      bytes_eq-other (codes "generate") name none.not-generate,
    ) refl
