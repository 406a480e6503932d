use Rattle.std.proofs.Common.{◌∙◌, arith}
use Rattle.rquota_xdr.proofs.ReplyLemmas.{AreRead, is_found, is_none, is_spelling}
use Rattle.rquota_xdr.proofs.reply.read_reply.Goals as goal
use Rattle.rquota_xdr.proofs.reply.read_reply.Goals.{After-reply_with}

are_read : (c : After-reply_with) → AreRead c.args.bytes.now c.as_slice.result.now
are_read c = record {
  are_bytes = λ at. omega (arith, c.type_inv.bytes at);
  whole = let whole = c.in_ok-units.ensures.whole in grind arith;
  units_are = c.as_slice.ensures.value ∙ c.in_ok-units.ensures.units;
}

pub returns-clause-read : goal.returns-clause-read
returns-clause-read c =
    is_spelling _ _ c.reply_with.result (are_read (goal.at.returns-clause-read c).After-reply_with)
    c.reply_with.ensures.read

pub returns-clause-found : goal.returns-clause-found
returns-clause-found c =
    is_found _ _ c.reply_with.result (are_read (goal.at.returns-clause-found c).After-reply_with)
    c.reply_with.ensures.read c.reply_with.ensures.none

pub returns-clause-none : goal.returns-clause-none
returns-clause-none c =
    is_none _ _ c.reply_with.result (are_read (goal.at.returns-clause-none c).After-reply_with)
    c.reply_with.ensures.read c.reply_with.ensures.none
