use Rattle.std.proofs.Common.{◌≡◌, ◌-◌, ◌++◌, ◌∷◌, [], List, ℕ, length, take, drop, ap, sym, ◌∙◌, arith}
use Rattle.std.specs.Prelude.{replicate}
use Rattle.std.proofs.lemmas.List.{take-replicate}
use Rattle.rquota_xdr.specs.Units.{padded}
use Rattle.quota_client.specs.Asking.{limits_call}
use Rattle.quota_client.proofs.CallLemmas.{call_asks, call_pieces}
use Rattle.quota_client.proofs.call_writer.write_call.Goals as goal

pub returns-clause-bytes : goal.returns-clause-bytes
returns-clause-bytes c =
    let path = c.args.path.now in
    let count : padded (length path) - length path ≡ c.padding_of.result = let whole = c.padding_of.ensures.whole in
    omega arith in
    let zeros : take c.padding_of.result (0 ∷ 0 ∷ 0 ∷ []) ≡ replicate (padded (length path) - length path) 0 =
    rw count (take-replicate c.padding_of.result 3 0 c.padding_of.ensures.few) in
    let items : c.push_units-2.new.call.items ≡ limits_call c.args.xid c.args.uid c.args.gid path c.args.id =
    rw (c.push_units-2.ensures, c.push-2.ensures, c.push.ensures, c.push_units.ensures, c.new-call.ensures)
    (call_pieces c.args.xid c.args.uid c.args.gid path (take c.padding_of.result (0 ∷ 0 ∷ 0 ∷ [])) c.args.id zeros) in
    let lens : c.len.result ≡ c.len-2.result = c.len.ensures.value ∙ sym c.len-2.ensures.value in
    let written : c.copy_from_slice.new.self ≡ limits_call c.args.xid c.args.uid c.args.gid path c.args.id =
    c.copy_from_slice.ensures.after ∙ c.as_slice.ensures.value ∙ items in
    ap (λ (b : List ℕ). b ++ drop c.len.result c.args.out.now) written
    ∙ ap (λ (n : ℕ). limits_call c.args.xid c.args.uid c.args.gid path c.args.id ++ drop n c.args.out.now) lens

pub returns-clause-asks : goal.returns-clause-asks
returns-clause-asks c =
    call_asks c.args.xid c.args.uid c.args.gid c.args.path.now c.args.id c.ranges.xid.fits c.ranges.uid.fits
    c.ranges.gid.fits c.ranges.id.fits c.requires.few
