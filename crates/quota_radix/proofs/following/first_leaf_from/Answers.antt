use Rattle.std.proofs.Common.{◌≡◌, List, ℕ, length, inl, inr, sym, ap, subst, ◌∙◌, arith}
use Rattle.std.proofs.lemmas.Result.{IfOk-weaker}
use Rattle.quota_radix.proofs.InsideLemmas.{root_up_to}
use Rattle.quota_radix.proofs.PastLemmas.{from_root}
use Rattle.quota_radix.specs.Way.{number_in}
use Rattle.quota_pages.specs.Pages.{pages_of}
use Rattle.quota_pages.specs.Used.{shown_over}
use Rattle.quota_radix.specs.Buffered.{IsThereFrom}
use Rattle.quota_radix.proofs.following.first_leaf_from.Goals as goal

pub first_below-requires-clause-room : goal.first_below-requires-clause-room
first_below-requires-clause-room g c =
    let four : length c.digits.result ≡ 4 = ap (λ (ds : List ℕ). length ds) c.digits.ensures.digits in
    elim c.requires [
      | inl many ↦ inl (omega (arith, many, four))
      | inr there ↦ inr (
        there.0,
        subst (λ (ds : List ℕ). IsThereFrom (pages_of c.args.pages.now)
            (shown_over (g.S.Store.seen c.args.store.now) c.args.pages.now) c.args.blocks
            (record { number = 0; block = 1 }) ds)
            (sym c.digits.ensures.digits) there.1,
      )
    ]

pub returns-clause-found : goal.returns-clause-found
returns-clause-found g c =
    let four : length c.digits.result ≡ 4 = ap (λ (ds : List ℕ). length ds) c.digits.ensures.digits in
    IfOk-weaker c.first_below.result _ _
    (λ found first known. first known ∙ from_root _ c.args.blocks c.args.from c.digits.result four c.digits.ensures.id)
    c.first_below.ensures.found

pub returns-clause-between : goal.returns-clause-between
returns-clause-between g c =
    let four : length c.digits.result ≡ 4 = ap (λ (ds : List ℕ). length ds) c.digits.ensures.digits in
    IfOk-weaker c.first_below.result _ _
    (λ found inside known. root_up_to _ c.args.blocks c.args.from c.digits.result (number_in found) four
    c.digits.ensures.id (inside known)) c.first_below.ensures.between
