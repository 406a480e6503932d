use Rattle.std.proofs.Common.{◌≡◌, ◌-◌, ◌/◌}
use Rattle.arrayvec.specs.ArrayVec.{array_vec_len}
use Rattle.quota_value.specs.QuotaValue.{QuotaValue}
use Rattle.tree_file.specs.Coming.{AreFit, AreNext, StandsBy}
use Rattle.tree_file.proofs.ComingLemmas.{last_of}
use Rattle.tree_file.proofs.coming.gathered.Given as goal

abbrev pub invariant-gather : goal.invariant-gather
invariant-gather l = record {
  beside : l.last / 256 ≡ l.leaf.number / 256;
  last : l.last ≡ last_of l.leaf.number l.found.items;
  fits : AreFit l.format l.leaf.number l.found.items;
  next : (value : QuotaValue) → StandsBy l.format l.lowest l.data_block (l.leaf.number / 256) l.leaf.block value
      → AreNext value.records l.leaf.number l.found.items;
}

abbrev pub decreases-gather : goal.decreases-gather
decreases-gather l = 21 - array_vec_len l.found
