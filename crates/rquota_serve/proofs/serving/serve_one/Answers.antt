use Rattle.std.proofs.Common.{◌≡◌, ℕ, List, ◌∷◌, ◌++◌, map, take, sym, ap, subst, ◌∙◌}
use Rattle.std.specs.Option.{option_to_list}
use Rattle.outside.specs.Seen.{Datagram}
use Rattle.quota_map.specs.AnyFile.{any_get_reads}
use Rattle.rquota_xdr.specs.Reply.{spelling_of}
use Rattle.rquota_xdr.specs.Call.{call_of}
use Rattle.rquota_serve.specs.Exports.{exports_seen}
use Rattle.rquota_serve.specs.Reply.{reply_of}
use Rattle.rquota_serve.specs.Serving.{HasReply}
use Rattle.rquota_serve.proofs.ExportLemmas.{on-err}
use Rattle.rquota_serve.proofs.ReplyLemmas.{quota-not-silent, reply-not-silent}
use Rattle.rquota_serve.proofs.ServingLemmas.{reads-one, reads-untaken, served-one, stopped-none, stopped-one}
use Rattle.rquota_serve.proofs.serving.serve_one.Goals as goal

pub returns-in_err-got-clause-stopped : goal.returns-in_err-got-clause-stopped
returns-in_err-got-clause-stopped g c =
    let L = g.L.Link in
    on-err _ c.from_residual.result (λ told.
    stopped-none _ (L.seen c.args.link.now) (L.seen c.next.new.self) (c.in_err-got.ensures.fault told)
    (c.next.ensures.answers told))

pub returns-in_err-got-clause-reads : goal.returns-in_err-got-clause-reads
returns-in_err-got-clause-reads g c = λ told.
    let S = g.S.Store in
    let L = g.L.Link in
    reads-untaken any_get_reads (L.seen c.args.link.now) (L.seen c.next.new.self) (S.seen c.args.store.now).reads
    (c.in_err-got.ensures.fault told)

pub returns-in_err-reply-clause-stopped : goal.returns-in_err-reply-clause-stopped
returns-in_err-reply-clause-stopped g c =
    let L = g.L.Link in
    on-err _ c.from_residual-in_err-reply.result (λ told.
    let taken = c.in_ok-got.ensures.taken told in
    let datagram : Datagram = taken.0 in
    let has : HasReply datagram = λ silent.
    quota-not-silent (exports_seen c.args.exports.now) (take c.in_ok-got.got.len c.next.new.buf) c.in_ok-got.got.now
    (call_of (take c.in_ok-got.got.len c.next.new.buf)) c.in_err-reply.ensures.asked
    (ap call_of taken.2 ∙ silent) in
    stopped-one _ datagram (L.seen c.args.link.now) (L.seen c.next.new.self) taken.1 (c.next.ensures.answers told) has)

pub returns-in_err-reply-clause-reads : goal.returns-in_err-reply-clause-reads
returns-in_err-reply-clause-reads g c = λ told.
    let S = g.S.Store in
    let L = g.L.Link in
    let taken = c.in_ok-got.ensures.taken told in
    let datagram : Datagram = taken.0 in
    reads-one any_get_reads datagram (L.seen c.args.link.now) (L.seen c.next.new.self) (S.seen c.args.store.now).reads
    (S.seen c.answer.new.store).reads taken.1 c.in_err-reply.ensures.looks.reads

pub returns-in_err-send-clause-stopped : goal.returns-in_err-send-clause-stopped
returns-in_err-send-clause-stopped g c =
    let L = g.L.Link in
    on-err _ c.from_residual-in_err-send.result (λ told.
    let taken = c.in_ok-got.ensures.taken told in
    let datagram : Datagram = taken.0 in
    let has : HasReply datagram = λ silent.
    reply-not-silent c.in_ok-reply.reply (call_of (take c.in_ok-got.got.len c.next.new.buf))
    c.in_ok-reply.ensures.silent c.in_err-send.ensures.some (ap call_of taken.2 ∙ silent) in
    stopped-one _ datagram (L.seen c.args.link.now) (L.seen c.send.new.link)
    (subst (λ (l : List Datagram). (L.seen c.args.link.now).left ≡ datagram ∷ l) (sym c.send.ensures.left) taken.1)
    (c.in_err-send.ensures.unsent told ∙ c.next.ensures.answers told) has)

pub returns-in_err-send-clause-reads : goal.returns-in_err-send-clause-reads
returns-in_err-send-clause-reads g c = λ told.
    let S = g.S.Store in
    let L = g.L.Link in
    let taken = c.in_ok-got.ensures.taken told in
    let datagram : Datagram = taken.0 in
    reads-one any_get_reads datagram (L.seen c.args.link.now) (L.seen c.send.new.link) (S.seen c.args.store.now).reads
    (S.seen c.answer.new.store).reads
    (subst (λ (l : List Datagram). (L.seen c.args.link.now).left ≡ datagram ∷ l) (sym c.send.ensures.left) taken.1)
    c.in_ok-reply.ensures.looks.reads

pub returns-clause-reads : goal.returns-clause-reads
returns-clause-reads g c = λ told.
    let S = g.S.Store in
    let L = g.L.Link in
    let taken = c.in_ok-got.ensures.taken told in
    let datagram : Datagram = taken.0 in
    reads-one any_get_reads datagram (L.seen c.args.link.now) (L.seen c.send.new.link) (S.seen c.args.store.now).reads
    (S.seen c.answer.new.store).reads
    (subst (λ (l : List Datagram). (L.seen c.args.link.now).left ≡ datagram ∷ l) (sym c.send.ensures.left) taken.1)
    c.in_ok-reply.ensures.looks.reads

pub returns-clause-served : goal.returns-clause-served
returns-clause-served g c = λ told.
    let L = g.L.Link in
    let taken = c.in_ok-got.ensures.taken told in
    let datagram : Datagram = taken.0 in
    served-one _ datagram c.in_ok-reply.reply (L.seen c.args.link.now) (L.seen c.send.new.link)
    (subst (λ (l : List Datagram). (L.seen c.args.link.now).left ≡ datagram ∷ l) (sym c.send.ensures.left) taken.1)
    (c.in_ok-send.ensures.sent told
    ∙ ap (λ (l : List (List ℕ)). l ++ map spelling_of (option_to_list c.in_ok-reply.reply))
    (c.next.ensures.answers told))
    (λ exported serves.
    c.in_ok-reply.ensures.reply exported serves
    ∙ ap (λ (b : List ℕ). reply_of exported b c.in_ok-got.got.now) taken.2
    ∙ ap (reply_of exported (take 4096 datagram.bytes)) taken.4)
