use Rattle.std.proofs.Common.{◌≡◌, ℕ, List, [], ◌+◌, Option, Some, refl, sym, ap, ◌∙◌}
use Rattle.std.specs.List.{slice_range}
use Rattle.std.specs.Option.{unwrap_or}
use Rattle.quota_types.specs.declared.file_kind.Kind.{Kind}
use Rattle.quota_types.specs.Rec.{zero_record}
use Rattle.rquota_xdr.specs.declared.reply.Reply.{Reply}
use Rattle.rquota_serve.specs.ExportedValues.{ExportedValues}
use Rattle.rquota_serve.specs.Exports.{exports_seen}
use Rattle.rquota_serve.specs.Reply.{plain_reply, reply_for, reply_to}
use Rattle.rquota_serve.proofs.LookingLemmas.{looks_in-none}
use Rattle.rquota_serve.proofs.ReplyLemmas.{plain-reply, reply-allowed, reply-denied, told-found, told-paths, told_by}
use Rattle.rquota_serve.proofs.answering.answer_call.Goals as goal

pub returns-in_default-kind_named-clause-told : goal.returns-in_default-kind_named-clause-told
returns-in_default-kind_named-clause-told g c =
    let seen = exports_seen c.args.exports.now in
    let told : ExportedValues = told_by seen 0 zero_record in
    let datagram = c.args.datagram.now in
    let path : List ℕ = slice_range datagram c.in-Get.path.start (c.in-Get.path.start + c.in-Get.path.len) in (
      told,
      told-paths seen 0 zero_record,
      sym (ap (reply_to told datagram c.args.now) c.in-Get.is
          ∙ ap (λ (k : Option Kind). Some (reply_for told c.in-Get.xid c.args.now c.in-Get.caller path k c.in-Get.id))
          (sym c.kind_named.ensures ∙ c.in_default-kind_named.is)),
    )

pub returns-then-not-may_ask-clause-told : goal.returns-then-not-may_ask-clause-told
returns-then-not-may_ask-clause-told g c =
    let seen = exports_seen c.args.exports.now in
    let told : ExportedValues = told_by seen 0 zero_record in
    let datagram = c.args.datagram.now in
    let path : List ℕ = slice_range datagram c.in-Get.path.start (c.in-Get.path.start + c.in-Get.path.len) in (
      told,
      told-paths seen 0 zero_record,
      ap (λ (r : Reply). Some r)
          (reply-denied told c.in-Get.xid c.args.now c.in-Get.caller path c.in-Some.kind c.in-Get.id
          (sym c.may_ask.ensures ∙ c.if-not-may_ask.true))
          ∙ sym (ap (reply_to told datagram c.args.now) c.in-Get.is
          ∙ ap (λ (k : Option Kind). Some (reply_for told c.in-Get.xid c.args.now c.in-Get.caller path k c.in-Get.id))
          (sym c.kind_named.ensures ∙ c.in-Some.is)),
    )

pub returns-in_ok-found-in-Get-clause-told : goal.returns-in_ok-found-in-Get-clause-told
returns-in_ok-found-in-Get-clause-told g c =
    let seen = exports_seen c.args.exports.now in
    let found = c.in_ok-found-in-Get.found in
    let told : ExportedValues = told_by seen c.in-Get.id (unwrap_or found zero_record) in
    let datagram = c.args.datagram.now in
    let path : List ℕ = slice_range datagram c.in-Get.path.start (c.in-Get.path.start + c.in-Get.path.len) in (
      told,
      told-paths seen c.in-Get.id (unwrap_or found zero_record),
      ap (λ (r : Reply). Some r) (c.reply_with.ensures
          ∙ reply-allowed told c.in-Get.xid c.args.now c.in-Get.caller path c.in-Some.kind c.in-Get.id found
          (sym c.may_ask.ensures ∙ c.if-not-may_ask.false)
          (told-found seen path c.in-Some.kind c.in-Get.id found c.in_ok-found-in-Get.ensures.told))
          ∙ sym (ap (reply_to told datagram c.args.now) c.in-Get.is
          ∙ ap (λ (k : Option Kind). Some (reply_for told c.in-Get.xid c.args.now c.in-Get.caller path k c.in-Get.id))
          (sym c.kind_named.ensures ∙ c.in-Some.is)),
    )

pub returns-in_default : goal.returns-in_default
returns-in_default g c =
    let seen = exports_seen c.args.exports.now in
    let is : c.plain_reply.result ≡ plain_reply c.args.call = cc in
    let plain : (exported : ExportedValues)
    → c.plain_reply.result ≡ reply_to exported c.args.datagram.now c.args.now c.args.call = λ exported.
    is ∙ plain-reply exported c.args.datagram.now c.args.now c.args.call
    (λ xid caller path type id. c.in_default.not-Get xid caller path type id) in
    record {
      reply = λ exported serves. plain exported;
      told = (told_by seen 0 zero_record, told-paths seen 0 zero_record, plain (told_by seen 0 zero_record));
      asked = tt;
      looks = looks_in-none Some _ _ _;
      untouched = λ untold. refl;
      commits = g.S.Store.commits_nothing [] _;
    }
