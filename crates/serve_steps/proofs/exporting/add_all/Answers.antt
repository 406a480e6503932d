use Rattle.std.proofs.Common.{◌≡◌, ◌+◌, ◌≤◌, List, length, take, sym, ap, subst, ◌∙◌, arith}
use Rattle.std.proofs.lemmas.List.{length-map}
use Rattle.rquota_serve.specs.Adding.{AreToldOf, MayAddAll, NewSeen, reads_of}
use Rattle.rquota_serve.specs.Added.{IsRefusedAt, ReadsEach, new_seen, news_seen}
use Rattle.rquota_serve.specs.Exports.{Serves, exports_seen}
use Rattle.rquota_serve.proofs.AddingLemmas.{all_seen, asked_all, few_news, stays_each, stays_refused, synced_each}
use Rattle.rquota_serve.proofs.AddingLemmas.{synced_refused}
use Rattle.serve_steps.specs.Exporting.{new_of, news_of}
use Rattle.serve_steps.proofs.ExportingLemmas.{opened_now, unopened_all}
use Rattle.serve_steps.proofs.exporting.add_all.Goals as goal
use Rattle.quota_map.specs.Asked.{asked_of}

pub news_of-news-requires : goal.news_of-news-requires
news_of-news-requires g c =
    omega (
      arith,
      few_news (exports_seen c.args.exports.now) (news_of c.args.list.now) c.requires.may,
      length-map c.args.list.now new_of,
    )

pub add_all-requires : goal.add_all-requires
add_all-requires g c =
    let same : news_seen c.as_slice.result.now ≡ news_of c.args.list.now =
    ap news_seen c.as_slice.ensures.value ∙ c.news_of-news.ensures in
    subst (MayAddAll (exports_seen c.args.exports.now)) (sym same) c.requires.may

pub returns-in-Ok-clause-opened : goal.returns-in-Ok-clause-opened
returns-in-Ok-clause-opened g c = λ before serves.
    let S = g.S.Store in
    let old = S.seen c.args.store.now in
    let new = S.seen c.add_all.new.store in
    let added = c.in-Ok.ensures in
    let same : news_seen c.as_slice.result.now ≡ news_of c.args.list.now =
    ap news_seen c.as_slice.ensures.value ∙ c.news_of-news.ensures in
    opened_now (asked_of c.args.format) c.args.list.now S.tells old new
    (Serves S.tells new.files c.add_all.new.self) before
    (subst (λ (l : List NewSeen). ReadsEach l old new) same added.leaves)
    (λ told.
    let found = added.serves told before (serves told) in (
      found.0,
      subst (λ (l : List NewSeen). AreToldOf (asked_of c.args.format) old.files l before found.0) same found.1,
      found.2,
    ))

pub returns-in-Ok-clause-as_asked : goal.returns-in-Ok-clause-as_asked
returns-in-Ok-clause-as_asked g c =
    asked_all (asked_of c.args.format) (news_seen c.as_slice.result.now) (exports_seen c.args.exports.now)
    (exports_seen c.add_all.new.self) c.in-Ok.ensures.added c.requires.asked

pub returns-in-Ok-clause-unwritten : goal.returns-in-Ok-clause-unwritten
returns-in-Ok-clause-unwritten g c =
    let S = g.S.Store in
    let stays = stays_each (news_seen c.as_slice.result.now) (S.seen c.args.store.now) (S.seen c.add_all.new.store)
    c.in-Ok.ensures.leaves in
    record { files = stays.files; writes = stays.writes }

pub returns-in-Ok-clause-later : goal.returns-in-Ok-clause-later
returns-in-Ok-clause-later g c =
    let S = g.S.Store in
    (stays_each (news_seen c.as_slice.result.now) (S.seen c.args.store.now) (S.seen c.add_all.new.store)
    c.in-Ok.ensures.leaves).later

pub returns-in-Ok-clause-synced : goal.returns-in-Ok-clause-synced
returns-in-Ok-clause-synced g c =
    let S = g.S.Store in
    synced_each (news_seen c.as_slice.result.now) (S.seen c.args.store.now) (S.seen c.add_all.new.store)
    c.in-Ok.ensures.leaves

pub bounds-list-met : goal.bounds-list-met
bounds-list-met g c =
    let same : news_seen c.as_slice.result.now ≡ news_of c.args.list.now =
    ap news_seen c.as_slice.ensures.value ∙ c.news_of-news.ensures in
    omega (
      arith,
      c.in-Err.ensures.within,
      ap length same,
      length-map c.as_slice.result.now new_seen,
      length-map c.args.list.now new_of,
    )

pub returns-in-Err-clause-unopened : goal.returns-in-Err-clause-unopened
returns-in-Err-clause-unopened g c = λ before next input out err link input_tells out_tells err_tells link_tells serves.
    let S = g.S.Store in
    let old = S.seen c.args.store.now in
    let new = S.seen c.add_all.new.store in
    let met = c.in-Err.met in
    let added = c.in-Err.ensures in
    let same : news_seen c.as_slice.result.now ≡ news_of c.args.list.now =
    ap news_seen c.as_slice.ensures.value ∙ c.news_of-news.ensures in
    unopened_all (asked_of c.args.format) c.args.list.now met.place c.index-list-met.result S.tells old new before next
    input out err link input_tells out_tells err_tells link_tells met.fault c.refused.result
    (subst (λ (l : List NewSeen). IsRefusedAt S.tells (asked_of c.args.format) met.place l met.fault old new)
    same added.refused)
    (λ told.
    let found = added.serves told before (serves told) in
    all_seen (asked_of c.args.format) old.files (take met.place (news_of c.args.list.now)) before found.0
    (subst (λ (l : List NewSeen).
    AreToldOf (asked_of c.args.format) old.files (take met.place l) before found.0) same found.1))
    c.index-list-met.is
    (rw c.opening_cause.ensures at c.refused.ensures)

pub returns-in-Err-clause-unwritten : goal.returns-in-Err-clause-unwritten
returns-in-Err-clause-unwritten g c =
    let S = g.S.Store in
    let stays = stays_refused S.tells (asked_of c.args.format) c.in-Err.met.place (news_seen c.as_slice.result.now)
    c.in-Err.met.fault (S.seen c.args.store.now) (S.seen c.add_all.new.store) c.in-Err.ensures.refused in
    record { files = stays.files; writes = stays.writes }

pub returns-in-Err-clause-later : goal.returns-in-Err-clause-later
returns-in-Err-clause-later g c =
    let S = g.S.Store in
    (stays_refused S.tells (asked_of c.args.format) c.in-Err.met.place (news_seen c.as_slice.result.now)
    c.in-Err.met.fault (S.seen c.args.store.now) (S.seen c.add_all.new.store) c.in-Err.ensures.refused).later

pub returns-in-Ok-clause-reads : goal.returns-in-Ok-clause-reads
returns-in-Ok-clause-reads g c = λ told.
    let S = g.S.Store in
    let old = S.seen c.args.store.now in
    let same : news_seen c.as_slice.result.now ≡ news_of c.args.list.now =
    ap news_seen c.as_slice.ensures.value ∙ c.news_of-news.ensures in
    subst (λ (l : List NewSeen). (S.seen c.add_all.new.store).reads
    ≤ old.reads + reads_of (asked_of c.args.format) old.files l) same (c.in-Ok.ensures.reads told)

pub returns-in-Err-clause-synced : goal.returns-in-Err-clause-synced
returns-in-Err-clause-synced g c =
    let S = g.S.Store in
    synced_refused S.tells (asked_of c.args.format) c.in-Err.met.place (news_seen c.as_slice.result.now)
    c.in-Err.met.fault (S.seen c.args.store.now) (S.seen c.add_all.new.store) c.in-Err.ensures.refused
