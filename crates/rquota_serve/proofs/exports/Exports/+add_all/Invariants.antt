use Rattle.std.proofs.Common.{length}
use Rattle.rquota_serve.proofs.exports.Exports.+add_all.Given as goal

abbrev pub decreases-add_all : goal.decreases-add_all
decreases-add_all g l = length l.list.now
