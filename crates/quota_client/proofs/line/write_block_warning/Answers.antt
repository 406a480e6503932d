use Rattle.std.proofs.Common.{◌∙◌}
use Rattle.quota_client.proofs.LineLemmas.{block_line}
use Rattle.quota_client.proofs.line.write_block_warning.Goals as goal

pub returns : goal.returns
returns g c =
    let O = g.O.Sink in
    block_line O.tells c.args.path.now c.args.grace.now c.args.blocks.now c.from.result (O.seen c.args.out.now)
    (O.seen c.write_pieces.new.out) c.write_pieces.result c.if-not-blocks.false
    (c.from.ensures ∙ c.saturating_sub.ensures) c.requires c.write_pieces.ensures
