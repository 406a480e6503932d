use Rattle.std.proofs.Common.{◌≡◌, ℕ, Bool, ◌+◌, ◌<◌, ◌≤◌, min, sym, subst, take, List, [], ◌∷◌, ◌++◌, get_or, length}
use Rattle.std.proofs.Common.{ap, ◌∙◌, arith}
use Rattle.std.specs.Prelude.{slice_get}
use Rattle.std.proofs.lemmas.List.{get_or_at, take-append-le, take_all}
use Rattle.std.proofs.lemmas.Result.{err_from_is_err_and}
use Rattle.quota_types.specs.declared.damage.Damage.{Damage}
use Rattle.file_blocks.specs.Block.{word_at}
use Rattle.outside.specs.Seen.{StoreSeen}
use Rattle.quota_pages.specs.Page.{is_buffered}
use Rattle.quota_pages.specs.Pages.{HoldsAsBuffered, pages_of}
use Rattle.quota_pages.specs.Used.{LooksAtSome, missing}
use Rattle.quota_pages.specs.declared.page_buffer.Pages.{Pages}
use Rattle.quota_pages.proofs.UsedLemmas.{held_since, looks_more, looks_none, looks_then, missing-few}
use Rattle.quota_pages.proofs.UsesLemmas.{there-missing}
use Rattle.quota_radix.specs.Link.{AreBuffered}
use Rattle.quota_radix.specs.Way.{IsOutOnWay}
use Rattle.quota_radix.proofs.LinkWayLemmas.{buffered_more}
use Rattle.quota_radix.proofs.AlongLemmas.{IsAlong, along_all, along_all_inside, along_end, along_end_inside}
use Rattle.quota_radix.proofs.AlongLemmas.{along_more, along_out, along_out_at, along_start, fifth_is_leaf, nth}
use Rattle.quota_radix.proofs.AlongLemmas.{root_first}
use Rattle.quota_radix.proofs.WalkLemmas.{damaged_weaker, pages_stay, since, walk_refused}
use Rattle.quota_radix.proofs.WayRoomLemmas.{first_looked, way_room}
use Rattle.quota_radix.proofs.finding.find_path.Goals as goal

-- the block that was read last is buffered, and so are those that were read before
way_buffered : {tells ok : Bool} {count : ℕ} {before now : StoreSeen} (old new : Pages) (found : List ℕ)
    (index block : ℕ) → length found ≡ index + 1 → get_or found index 0 ≡ block
    → LooksAtSome tells ok count before now old new → AreBuffered (pages_of old) (take index found)
    → missing (pages_of new) block ≡ 0 → AreBuffered (pages_of new) (take (index + 1) found)
way_buffered old new found index block long is looks there read =
    buffered_more (pages_of new) found index (omega (arith, long))
    (λ number stands. looks.stay number (there number stands))
    (ap (is_buffered (pages_of new)) is ∙ there-missing (pages_of new) block read)

-- one block more was found, and those before it are the same
front_of_pushed : (found new : List ℕ) (block index : ℕ) → length found ≡ index + 1 → new ≡ found ++ block ∷ []
    → take (index + 1) new ≡ take (index + 1) found
front_of_pushed found new block index long is =
    ap (take (index + 1)) is ∙ take-append-le (index + 1) found (block ∷ []) (omega (arith, long))

last_pushed : (found new : List ℕ) (block index : ℕ) → length found ≡ index + 1 → new ≡ found ++ block ∷ []
    → get_or new (index + 1) 0 ≡ block
last_pushed found new block index long is =
    ap (λ (xs : List ℕ). get_or xs (index + 1) 0) is ∙ get_or_at found block [] 0 (index + 1) long

-- all that were found, where they are four at most
all_found : (found : List ℕ) (index : ℕ) → length found ≡ index + 1 → index < 4 → take 4 found ≡ take (index + 1) found
all_found found index long low =
    take_all 4 found (omega (arith, long)) ∙ sym (take_all (index + 1) found (omega (arith, long)))

pub loop-digit-init : goal.loop-digit-init
loop-digit-init g c =
    let first = c.push.ensures.items ∙ ap (λ (xs : List ℕ). xs ++ 1 ∷ []) c.new-found.ensures in
    record {
      buffered = λ number stands. absurd (omega (arith, stands));
      last = ap (λ (xs : List ℕ). get_or xs 0 0) first;
      root = ap (λ (xs : List ℕ). get_or xs 0 0) first;
      within = omega arith;
      count = ap (λ (xs : List ℕ). length xs) first;
      along = λ known. along_start _ c.args.blocks c.args.id _ first;
      held = λ file clean. along_start _ c.args.blocks c.args.id _ first;
      few = λ known. omega arith;
      looked = looks_none g.S.Store.tells _ _;
      commits = g.S.Store.commits_nothing [] _;
    }

pub reference_in-requires : goal.reference_in-requires
reference_in-requires g c =
    let kept = c.loop-digit.invariant in
    way_room (pages_of c.args.pages.now) (pages_of c.loop-digit.pages) _ c.args.blocks c.args.id
    c.loop-digit.digit-index c.loop-digit.block c.loop-digit-test.true c.requires
    (λ known. (c.loop-digit.found.items, kept.along known)) kept.looked.stay kept.looked.few kept.few

pub returns-in_err-block-clause-refused : goal.returns-in_err-block-clause-refused
returns-in_err-block-clause-refused g c =
    let p = err_from_is_err_and c.from_residual.result c.from_residual.ensures.1 in
    let kept = c.loop-digit.invariant in
    let index : ℕ = c.loop-digit.digit-index in
    let digit : ℕ = get_or c.digits-digit-items.result index 0 in
    let digit_is = nth c.digits-digit-items.result c.args.id index c.digits-digit-items.ensures.digits in
    rw (p.1, p.2) (walk_refused _ _ _ _ _ kept.looked.leaves.later (λ damage out. (
      ap (λ (d : Damage). d.kind) out.0,
      ap (λ (d : Damage). is_buffered (pages_of c.reference_in.new.pages) d.block) out.0
          ∙ there-missing (pages_of c.reference_in.new.pages) c.loop-digit.block out.1,
      λ known. along_out _ c.args.blocks c.args.id index c.loop-digit.block digit _ damage c.loop-digit-test.true
          digit_is (kept.along known) out.0
          (since (pages_stay kept.looked)
          (λ (file : List ℕ). c.args.blocks ≤ word_at file c.loop-digit.block digit) out.2 known),
    )) _ c.in_err-block.ensures.refused)

pub returns-in_err-block-clause-named : goal.returns-in_err-block-clause-named
returns-in_err-block-clause-named g c =
    let p = err_from_is_err_and c.from_residual.result c.from_residual.ensures.1 in
    let kept = c.loop-digit.invariant in
    let index : ℕ = c.loop-digit.digit-index in
    let digit : ℕ = get_or c.digits-digit-items.result index 0 in
    let digit_is = nth c.digits-digit-items.result c.args.id index c.digits-digit-items.ensures.digits in
    let says : Damage → Type 0 = λ damage.
    HoldsAsBuffered c.reference_in.new.pages (λ shown. IsOutOnWay shown c.args.blocks c.args.id damage.block) in
    rw (p.1, p.2) (damaged_weaker _ says (λ damage out file clean.
    along_out_at _ c.args.blocks c.args.id index c.loop-digit.block damage.block digit _ c.loop-digit-test.true digit_is
    (held_since c.in_err-block.ensures.looked
    (λ (f : List ℕ). IsAlong f c.args.blocks c.args.id index c.loop-digit.block c.loop-digit.found.items)
    kept.held file clean)
    out.0 (out.1 file clean)) _ c.in_err-block.ensures.named)

pub loop-digit-preserved : goal.loop-digit-preserved
loop-digit-preserved g c =
    let kept = c.loop-digit.invariant in
    let read = c.in_ok-block.ensures in
    let index : ℕ = c.loop-digit.digit-index in
    let digit : ℕ = get_or c.digits-digit-items.result index 0 in
    let digit_is = nth c.digits-digit-items.result c.args.id index c.digits-digit-items.ensures.digits in
    let block_is : get_or c.loop-digit.found.items index 0 ≡ c.loop-digit.block = kept.last in
    let long : length c.loop-digit.found.items ≡ index + 1 = kept.count in
    record {
      buffered =
          subst (λ (xs : List ℕ). AreBuffered (pages_of c.reference_in.new.pages) xs)
          (sym (front_of_pushed c.loop-digit.found.items _ c.in_ok-block.block index long
          c.push-in-loop-digit.ensures.items))
          (way_buffered _ _ c.loop-digit.found.items index c.loop-digit.block long block_is read.looked
          kept.buffered read.brought);
      last = last_pushed c.loop-digit.found.items _ c.in_ok-block.block index long c.push-in-loop-digit.ensures.items;
      root =
          root_first _ _ c.in_ok-block.block (omega (arith, kept.count)) c.push-in-loop-digit.ensures.items kept.root;
      within = omega (arith, c.loop-digit-test.true);
      count = omega (arith, c.push-in-loop-digit.ensures.len, kept.count);
      along =
          λ known. along_more _ c.args.blocks c.args.id index c.loop-digit.block c.in_ok-block.block digit _ _
          c.loop-digit-test.true digit_is (kept.along known)
          (since (pages_stay kept.looked)
          (λ (file : List ℕ). c.in_ok-block.block ≡ word_at file c.loop-digit.block digit) read.is known)
          read.inside c.if-block-eq0.false c.push-in-loop-digit.ensures.items;
      held =
          λ file clean. along_more _ c.args.blocks c.args.id index c.loop-digit.block c.in_ok-block.block digit _ _
          c.loop-digit-test.true digit_is
          (held_since read.looked
          (λ (f : List ℕ). IsAlong f c.args.blocks c.args.id index c.loop-digit.block c.loop-digit.found.items)
          kept.held file clean)
          (read.held file clean) read.inside c.if-block-eq0.false c.push-in-loop-digit.ensures.items;
      few =
          λ known. first_looked (pages_of c.args.pages.now) (pages_of c.loop-digit.pages)
          (pages_of c.reference_in.new.pages) _ c.args.blocks c.args.id index c.loop-digit.block
          c.loop-digit.found.items (kept.along known)
          kept.looked.stay (kept.few known) read.looked.few;
      looked = looks_more (index + 1) (omega (arith, missing-few (pages_of c.loop-digit.pages) c.loop-digit.block))
          (looks_then kept.looked read.looked);
      commits = g.S.Store.commits_on [] [] _ _ _ c.loop-digit.invariant.commits read.commits;
    }

pub returns-then-block-eq0-clause-found : goal.returns-then-block-eq0-clause-found
returns-then-block-eq0-clause-found g c = λ known.
    let kept = c.loop-digit.invariant in
    let index : ℕ = c.loop-digit.digit-index in
    let digit : ℕ = get_or c.digits-digit-items.result index 0 in
    let digit_is = nth c.digits-digit-items.result c.args.id index c.digits-digit-items.ensures.digits in
    along_end _ c.args.blocks c.args.id index c.loop-digit.block c.in_ok-block.block digit _ c.loop-digit-test.true
    digit_is (kept.along known)
    (since (pages_stay kept.looked) (λ (file : List ℕ). c.in_ok-block.block ≡ word_at file c.loop-digit.block digit)
    c.in_ok-block.ensures.is known) c.if-block-eq0.true

pub returns-then-block-eq0-clause-leaf : goal.returns-then-block-eq0-clause-leaf
returns-then-block-eq0-clause-leaf g c =
    λ known. ap (λ (xs : List ℕ). slice_get xs 4) (returns-then-block-eq0-clause-found g c known)
    ∙ fifth_is_leaf _ c.args.blocks c.args.id

pub returns-then-block-eq0-clause-inside : goal.returns-then-block-eq0-clause-inside
returns-then-block-eq0-clause-inside g c = λ known.
    let kept = c.loop-digit.invariant in
    let index : ℕ = c.loop-digit.digit-index in
    let digit : ℕ = get_or c.digits-digit-items.result index 0 in
    let digit_is = nth c.digits-digit-items.result c.args.id index c.digits-digit-items.ensures.digits in
    along_end_inside _ c.args.blocks c.args.id index c.loop-digit.block c.in_ok-block.block digit _
    c.loop-digit-test.true digit_is (kept.along known)
    (since (pages_stay kept.looked) (λ (file : List ℕ). c.in_ok-block.block ≡ word_at file c.loop-digit.block digit)
    c.in_ok-block.ensures.is known) c.in_ok-block.ensures.inside c.if-block-eq0.true

pub returns-clause-found : goal.returns-clause-found
returns-clause-found g c = λ known.
    along_all _ c.args.blocks c.args.id c.loop-digit.digit-index c.loop-digit.block _ c.loop-digit-test.false
    (c.loop-digit.invariant.along known)

pub returns-clause-leaf : goal.returns-clause-leaf
returns-clause-leaf g c =
    λ known.
    ap (λ (xs : List ℕ). slice_get xs 4) (returns-clause-found g c known) ∙ fifth_is_leaf _ c.args.blocks c.args.id

pub returns-clause-inside : goal.returns-clause-inside
returns-clause-inside g c = λ known.
    along_all_inside _ c.args.blocks c.args.id c.loop-digit.digit-index c.loop-digit.block _ c.loop-digit-test.false
    (c.loop-digit.invariant.along known)

pub returns-then-block-eq0-clause-looked : goal.returns-then-block-eq0-clause-looked
returns-then-block-eq0-clause-looked g c =
    let kept = c.loop-digit.invariant in
    let long : length c.loop-digit.found.items ≡ c.loop-digit.digit-index + 1 = kept.count in
    let low : c.loop-digit.digit-index < 4 = c.loop-digit-test.true in
    looks_more (min 4 (length c.loop-digit.found.items))
    (omega (arith, missing-few (pages_of c.loop-digit.pages) c.loop-digit.block, long, low))
    (looks_then kept.looked c.in_ok-block.ensures.looked)

pub returns-then-block-eq0-clause-buffered : goal.returns-then-block-eq0-clause-buffered
returns-then-block-eq0-clause-buffered g c =
    let kept = c.loop-digit.invariant in
    let read = c.in_ok-block.ensures in
    let index : ℕ = c.loop-digit.digit-index in
    let long : length c.loop-digit.found.items ≡ index + 1 = kept.count in
    let low : index < 4 = c.loop-digit-test.true in
    subst (λ (xs : List ℕ). AreBuffered (pages_of c.reference_in.new.pages) xs)
    (sym (all_found c.loop-digit.found.items index long low))
    (way_buffered _ _ c.loop-digit.found.items index c.loop-digit.block long kept.last read.looked
    kept.buffered read.brought)

pub returns-in_err-block-clause-kept : goal.returns-in_err-block-clause-kept
returns-in_err-block-clause-kept g c =
    let kept = c.loop-digit.invariant in
    let p = err_from_is_err_and c.from_residual.result c.from_residual.ensures.1 in
    rw p.1 (looks_more 4
    (omega (arith, missing-few (pages_of c.loop-digit.pages) c.loop-digit.block, c.loop-digit-test.true))
    (looks_then kept.looked c.in_err-block.ensures.looked))

pub returns-clause-looked : goal.returns-clause-looked
returns-clause-looked g c =
    let kept = c.loop-digit.invariant in
    let long : length c.loop-digit.found.items ≡ c.loop-digit.digit-index + 1 = kept.count in
    looks_more (min 4 (length c.loop-digit.found.items)) (omega (arith, long, kept.within)) kept.looked

pub returns-clause-buffered : goal.returns-clause-buffered
returns-clause-buffered g c =
    let kept = c.loop-digit.invariant in
    let all : c.loop-digit.digit-index ≡ 4 = omega (arith, kept.within, c.loop-digit-test.false) in
    subst (λ (k : ℕ). AreBuffered (pages_of c.loop-digit.pages) (take k c.loop-digit.found.items)) all kept.buffered
