use Rattle.std.proofs.Common.{[], ◌∷◌, map, Result, Ok, Err, refl, ap}
use Rattle.rquota_serve.specs.Added.{new_seen, news_seen}
use Rattle.rquota_serve.specs.declared.new_export.AddFault.{AddFault}
use Rattle.rquota_serve.specs.Exports.{Serves, exports_seen, export_seen}
use Rattle.rquota_serve.proofs.AddingLemmas.{all_more, all_none, all_of, all_refused, no_news, serves_kept, within_list}
use Rattle.rquota_serve.proofs.AddingLemmas.{within_news}
use Rattle.rquota_serve.proofs.exports.Exports.+add_all.Goals as goal
use Rattle.quota_map.specs.Asked.{asked_of}

pub returns-in_default : goal.returns-in_default
returns-in_default g t c =
    let S = g.S.Store in
    let store = S.seen c.args.store.now in
    let was = exports_seen c.args.self.now in
    let served = Serves S.tells store.files c.args.self.now in
    let list = c.args.list.now in
    let all =
    all_of S.tells (asked_of c.args.format) [] (news_seen list) (Ok tt) (Ok tt) was was served served store store
    (no_news list c.in_default.ensures.cases) refl (all_none S.tells (asked_of c.args.format) was served store) in
    record {
      added = all.added;
      serves = all.serves;
      leaves = all.leaves;
      reads = all.reads;
      refused = all.refused;
      within = tt;
      commits = S.commits_nothing [] _;
    }

pub returns-in-Ok : goal.returns-in-Ok
returns-in-Ok g t c =
    let S = g.S.Store in
    let added = c.in-Ok.ensures in
    let behind = c.in-Some.behind.now in
    let later = c.add_all.ensures in
    let old = S.seen c.args.store.now in
    let mid = S.seen c.add.new.store in
    let new = S.seen c.add_all.new.store in
    let was = exports_seen c.args.self.now in
    let is = exports_seen c.add_all.new.self in
    let served = Serves S.tells old.files c.args.self.now in
    let serves = Serves S.tells new.files c.add_all.new.self in
    let one = new_seen c.in-Some.first.now in
    let all = all_more S.tells (asked_of c.args.format) one (news_seen behind) c.add_all.result was
    (exports_seen c.add.new.self) is
    served (Serves S.tells mid.files c.add.new.self) serves old mid new
    added.leaves added.added added.seen added.serves added.reads
    (record {
      added = later.added;
      serves = later.serves;
      leaves = later.leaves;
      reads = later.reads;
      refused = later.refused;
      within = within_news behind c.add_all.result later.within;
    }) in
    let whole = all_of S.tells (asked_of c.args.format) (one ∷ news_seen behind) (news_seen c.args.list.now) _
    c.one_later.result was is served serves old new
    (ap news_seen c.in-Some.ensures.cases.0) c.one_later.ensures all in
    record {
      added = whole.added;
      serves = whole.serves;
      leaves = whole.leaves;
      reads = whole.reads;
      refused = whole.refused;
      within = within_list c.args.list.now c.one_later.result whole.within;
      commits = S.commits_on [] [] _ _ _ added.commits later.commits;
    }

pub returns-in-Err : goal.returns-in-Err
returns-in-Err g t c =
    let S = g.S.Store in
    let added = c.in-Err.ensures in
    let behind = c.in-Some.behind.now in
    let old = S.seen c.args.store.now in
    let new = S.seen c.add.new.store in
    let was = exports_seen c.args.self.now in
    let is = exports_seen c.add.new.self in
    let served = Serves S.tells old.files c.args.self.now in
    let serves = Serves S.tells new.files c.add.new.self in
    let one = new_seen c.in-Some.first.now in
    let answered : Result (Unit {0}) AddFault = Err (record { place = 0; fault = c.in-Err.fault }) in
    let all =
    all_refused S.tells (asked_of c.args.format) one (news_seen behind) c.in-Err.fault was is served serves old new
    added.leaves added.refused (ap (map export_seen) added.unchanged)
    (λ before serving. serves_kept S.tells old.files new.files c.args.self.now c.add.new.self before added.unchanged
    added.leaves.files serving)
    added.reads in
    let whole = all_of S.tells (asked_of c.args.format) (one ∷ news_seen behind) (news_seen c.args.list.now) answered
    answered was is served serves old new
    (ap news_seen c.in-Some.ensures.cases.0) refl all in
    record {
      added = whole.added;
      serves = whole.serves;
      leaves = whole.leaves;
      reads = whole.reads;
      refused = whole.refused;
      within = within_list c.args.list.now answered whole.within;
      commits = added.commits;
    }
