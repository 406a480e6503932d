use Rattle.std.proofs.Common.{◌≡◌, ℕ, ◌+◌, ◌<◌, ◌≤◌, Bool, List, true, length, get_or, take, refl, zero-le, sym, subst}
use Rattle.std.proofs.Common.{◌∙◌, arith, []}
use Rattle.std.proofs.lemmas.Bool.{false≢true}
use Rattle.std.proofs.lemmas.Result.{err_from_is_err_and}
use Rattle.std.proofs.lemmas.List.{take_all}
use Rattle.quota_types.specs.Times.{StandsIn}
use Rattle.quota_types.proofs.TimesLemmas.{StandsIn-get_or}
use Rattle.quota_pages.specs.Page.{is_buffered}
use Rattle.outside.specs.Seen.{StoreSeen}
use Rattle.quota_pages.specs.Pages.{pages_of}
use Rattle.quota_pages.specs.Used.{LooksAtSome, missing, missing_among}
use Rattle.quota_pages.specs.declared.page_buffer.Pages.{Pages}
use Rattle.quota_pages.proofs.UsedLemmas.{looks_more, looks_none, looks_then, missing-looks, missing-there}
use Rattle.quota_pages.proofs.UsedLemmas.{room-missing}
use Rattle.quota_pages.proofs.UsesLemmas.{missing_among-take, missing_among-take_few}
use Rattle.quota_radix.specs.Link.{AreBuffered}
use Rattle.quota_radix.proofs.LinkWayLemmas.{buffered_more}
use Rattle.quota_radix.proofs.linking.bring_in.Goals as goal

-- as many blocks are missing of some, and of the one that is read
read_more : {tells ok : Bool} {count : ℕ} {before now : StoreSeen} (old new : Pages) (numbers : List ℕ) (index : ℕ)
    → LooksAtSome tells ok count before now old new → index < length numbers
    → missing_among (pages_of old) (take index numbers) + missing (pages_of new) (get_or numbers index 0)
    ≤ missing_among (pages_of old) numbers
read_more old new numbers index looks low =
    omega (
      arith,
      missing_among-take (pages_of old) numbers index low,
      missing_among-take_few (pages_of old) numbers (index + 1),
      missing-looks looks (get_or numbers index 0),
    )

pub loop-number-init : goal.loop-number-init
loop-number-init g c = record {
  looked = looks_more (missing_among (pages_of c.args.pages.now) (take 0 c.args.numbers.now)) zero-le
      (looks_none g.S.Store.tells _ _);
  brought = λ number stands. absurd (omega (arith, stands));
  buffered = λ all. refl;
  few = λ all. omega arith;
  commits = g.S.Store.commits_nothing [] _;
}

pub word-requires-clause-room : goal.word-requires-clause-room
word-requires-clause-room g c =
    let kept = c.loop-number.invariant in
    let numbers : List ℕ = c.args.numbers.now in
    let index : ℕ = c.loop-number.number-index in
    room-missing (pages_of c.loop-number.pages) (get_or numbers index 0)
    (omega (
      arith,
      kept.looked.few,
      c.requires,
      read_more c.args.pages.now c.loop-number.pages numbers index kept.looked c.loop-number-test.true,
    ))

pub loop-number-preserved : goal.loop-number-preserved
loop-number-preserved g c =
    let kept = c.loop-number.invariant in
    let word = c.in_ok-word.ensures in
    let numbers : List ℕ = c.args.numbers.now in
    let index : ℕ = c.loop-number.number-index in
    let number : ℕ = get_or numbers index 0 in
    let low : index < length numbers = c.loop-number-test.true in
    let there : AreBuffered (pages_of c.args.pages.now) numbers
    → is_buffered (pages_of c.loop-number.pages) number ≡ true =
    λ all. kept.looked.stay number (all number (StandsIn-get_or numbers index low)) in
    record {
      looked = looks_more (missing_among (pages_of c.args.pages.now) (take (index + 1) numbers))
          (omega (
            arith,
            missing_among-take (pages_of c.args.pages.now) numbers index low,
            missing-looks kept.looked number,
          )) (looks_then kept.looked word.looked);
      brought = buffered_more (pages_of c.word.new.self) numbers index low
          (λ n stands. word.looked.stay n (kept.brought n stands)) word.brought;
      buffered = λ all. (word.buffered (there all)).1 ∙ kept.buffered all;
      few = λ all.
          omega (arith, word.looked.few, missing-there (pages_of c.loop-number.pages) number (there all), kept.few all);
      commits = g.S.Store.commits_on [] [] _ _ _ c.loop-number.invariant.commits word.commits;
    }

pub returns-clause-brought : goal.returns-clause-brought
returns-clause-brought g c =
    let numbers : List ℕ = c.args.numbers.now in
    let index : ℕ = c.loop-number.number-index in
    λ n stands. c.loop-number.invariant.brought n
    (subst (λ (ns : List ℕ). StandsIn ns n)
    (sym (take_all index numbers (omega (arith, c.loop-number-test.false)))) stands)

-- where each block is buffered, none is read
pub returns-in_err-word-clause-buffered : goal.returns-in_err-word-clause-buffered
returns-in_err-word-clause-buffered g c =
    let number : ℕ = get_or c.args.numbers.now c.loop-number.number-index 0 in
    λ all. absurd (false≢true
    (c.in_err-word.ensures.buffered
    (c.loop-number.invariant.looked.stay number
    (all number (StandsIn-get_or c.args.numbers.now c.loop-number.number-index c.loop-number-test.true)))).0)

pub returns-in_err-word-clause-few : goal.returns-in_err-word-clause-few
returns-in_err-word-clause-few g c =
    let number : ℕ = get_or c.args.numbers.now c.loop-number.number-index 0 in
    λ all. absurd (false≢true
    (c.in_err-word.ensures.buffered
    (c.loop-number.invariant.looked.stay number
    (all number (StandsIn-get_or c.args.numbers.now c.loop-number.number-index c.loop-number-test.true)))).0)

pub returns-clause-looked : goal.returns-clause-looked
returns-clause-looked g c =
    let numbers : List ℕ = c.args.numbers.now in
    let index : ℕ = c.loop-number.number-index in
    looks_more (missing_among (pages_of c.args.pages.now) numbers)
    (missing_among-take_few (pages_of c.args.pages.now) numbers index) c.loop-number.invariant.looked

pub returns-in_err-word-clause-looked : goal.returns-in_err-word-clause-looked
returns-in_err-word-clause-looked g c =
    let kept = c.loop-number.invariant in
    let numbers : List ℕ = c.args.numbers.now in
    let index : ℕ = c.loop-number.number-index in
    let p = err_from_is_err_and c.from_residual.result c.from_residual.ensures.1 in
    rw p.1 (looks_more (missing_among (pages_of c.args.pages.now) numbers)
    (read_more c.args.pages.now c.loop-number.pages numbers index kept.looked c.loop-number-test.true)
    (looks_then kept.looked c.in_err-word.ensures.looked))
