use Rattle.std.proofs.Common.{ℕ, ◌+◌, ◌∷◌, [], List, ap, arith, inl, inr, refl, sym, ◌∙◌}
use Rattle.std.specs.Prelude.{◌==◌}
use Rattle.std.specs.List.{list_any}
use Rattle.quota_types.proofs.TimesLemmas.{StandsIn-list_any}
use Rattle.quota_pages.proofs.UsedLemmas.{held_since, looks_more, looks_then, missing-few, shown_over-looks}
use Rattle.quota_pages.specs.Pages.{pages_of}
use Rattle.quota_pages.specs.Used.{missing_among}
use Rattle.quota_pages.proofs.UsedLemmas.{missing-stay}
use Rattle.quota_pages.proofs.UsesLemmas.{missing_among-append, missing_among-cons, missing_among-nil}
use Rattle.quota_types.proofs.TimesLemmas.{times-list_any}
use Rattle.file_blocks.proofs.LeadsLemmas.{leads_from}
use Rattle.free_chains.proofs.RoomLemmas.{counting_room}
use Rattle.free_chains.proofs.FreeCountLemmas.{IsBegun, begun_step, counts_ended, counts_most, ends_before}
use Rattle.free_chains.proofs.free_count.count_free.Goals as goal
use Rattle.free_chains.proofs.free_count.count_free.Goals.{then-at-eq0-via-then-at-eq0}
use Rattle.free_chains.proofs.free_count.count_free.Goals.{then-at-eq0-via-else-at-eq0+then-contains}

pub word-requires-clause-room : goal.word-requires-clause-room
word-requires-clause-room g c =
    let kept = c.loop-count.invariant in
    let met = c.loop-count.met.items in
    let at : ℕ = c.loop-count.at in
    counting_room _ c.args.heads.now (pages_of c.args.pages.now) (pages_of c.loop-count.pages) c.args.most met at
    c.requires.room kept.begun
    (leads_from c.args.heads.now.blocks at (omega (arith, c.if-at-eq0.false)) c.if-at-heads.false)
    (times-list_any met at
    (ap (λ (xs : List ℕ). list_any (λ (other : ℕ). other == at) xs) (sym c.as_slice.ensures.value)
    ∙ sym c.contains.ensures.value ∙ c.if-contains.false))
    (omega (arith, kept.long, c.loop-count-test.true)) (omega (arith, kept.long, kept.looked.few)) kept.few
    kept.looked.stay (missing-stay (pages_of c.args.pages.now) (pages_of c.loop-count.pages) at (kept.looked.stay at))

pub returns-then-at-heads-clause-refused : goal.returns-then-at-heads-clause-refused
returns-then-at-heads-clause-refused g c = rw c.damage_at.ensures (
  record { kind = refl; no_id = refl; out = c.if-at-heads.true },
  λ known. ends_before _ c.args.heads.now c.args.most c.loop-count.met.items c.loop-count.at
      (c.loop-count.invariant.begun known) c.if-at-heads.true (omega arith),
)

pub returns-then-at-heads-clause-named : goal.returns-then-at-heads-clause-named
returns-then-at-heads-clause-named g c = rw c.damage_at.ensures
    (λ file clean. ends_before _ c.args.heads.now c.args.most c.loop-count.met.items c.loop-count.at
    (c.loop-count.invariant.held file clean) c.if-at-heads.true (omega arith))

pub returns-then-at-eq0-clause-count : goal.returns-then-at-eq0-clause-count
returns-then-at-eq0-clause-count g c = λ known.
    let met = c.loop-count.met.items in
    let kept = c.loop-count.invariant in
    elim c.then-at-eq0.branch [
      | then-at-eq0-via-then-at-eq0 w ↦ counts_ended _ c.args.heads.now c.args.most c.loop-count.count met
          c.loop-count.at (kept.begun known) (inl w.if-at-eq0.true) c.if-at-heads.false kept.long c.loop-count-test.true
      | then-at-eq0-via-else-at-eq0+then-contains w ↦
          counts_ended _ c.args.heads.now c.args.most c.loop-count.count met c.loop-count.at (kept.begun known)
          (inr (StandsIn-list_any met c.loop-count.at
          (ap (λ (xs : List ℕ). list_any (λ (other : ℕ). other == c.loop-count.at) xs) (sym w.as_slice.ensures.value)
          ∙ sym w.contains.ensures.value ∙ w.if-contains.true))) c.if-at-heads.false kept.long c.loop-count-test.true
    ]

pub loop-count-preserved : goal.loop-count-preserved
loop-count-preserved g c =
    let kept = c.loop-count.invariant in
    record {
      long = omega (arith, c.push.ensures.len);
      few = omega (
        arith,
        kept.few,
        c.in_ok-at.ensures.looked.few,
        missing-stay (pages_of c.args.pages.now) (pages_of c.loop-count.pages) c.loop-count.at
            (kept.looked.stay c.loop-count.at),
        ap (missing_among (pages_of c.args.pages.now)) c.push.ensures.items,
        missing_among-append (pages_of c.args.pages.now) c.loop-count.met.items (c.loop-count.at ∷ []),
        missing_among-cons (pages_of c.args.pages.now) c.loop-count.at [],
        missing_among-nil (pages_of c.args.pages.now),
      );
      looked = looks_more (c.loop-count.count + 1)
          (omega (arith, missing-few (pages_of c.loop-count.pages) c.loop-count.at))
          (looks_then kept.looked c.in_ok-at.ensures.looked);
      begun =
          λ known. begun_step _ _ _ _ c.loop-count.met.items _ c.loop-count.at c.in_ok-at.at (kept.begun known)
          c.if-at-eq0.false c.if-at-heads.false
          (ap (λ (xs : List ℕ). list_any (λ (other : ℕ). other == c.loop-count.at) xs) (sym c.as_slice.ensures.value)
          ∙ sym c.contains.ensures.value ∙ c.if-contains.false) c.push.ensures.items (shown_over-looks kept.looked)
          (c.in_ok-at.ensures.value (kept.looked.known known));
      held = λ file clean. begun_step _ _ _ _ c.loop-count.met.items _ c.loop-count.at c.in_ok-at.at
          (held_since c.in_ok-at.ensures.looked
          (λ (f : List ℕ). IsBegun f c.args.heads.now.blocks c.args.heads.now.free c.loop-count.met.items
          c.loop-count.at) kept.held file clean)
          c.if-at-eq0.false c.if-at-heads.false
          (ap (λ (xs : List ℕ). list_any (λ (other : ℕ). other == c.loop-count.at) xs) (sym c.as_slice.ensures.value)
          ∙ sym c.contains.ensures.value ∙ c.if-contains.false) c.push.ensures.items refl
          (c.in_ok-at.ensures.held file clean);
      commits = g.S.Store.commits_on [] [] _ _ _ c.loop-count.invariant.commits c.word.ensures.commits;
    }

pub returns-clause-count : goal.returns-clause-count
returns-clause-count g c = λ known.
    counts_most _ c.args.heads.now c.args.most c.loop-count.met.items c.loop-count.at
    (c.loop-count.invariant.begun known) (omega arith)
