use Rattle.std.proofs.Common.{◌≡◌, List, [], ◌∷◌, ◌++◌, inr, refl, arith}
use Rattle.free_chains.specs.declared.chain_link.ChainLink.{ChainLink}
use Rattle.free_chains.proofs.WalkLemmas.{links_fit, walk_few, walk_more}
use Rattle.free_chains.proofs.chain.Walk.go_to.Goals as goal

pub returns-then-not-insert-clause-refused : goal.returns-then-not-insert-clause-refused
returns-then-not-insert-clause-refused g c = rw c.damage_at-then-not-insert.ensures (
  refl,
  λ told head is links.
      let met = c.if-not-insert.ensures.added c.args.blocks _ is.marked (omega arith) in record {
        defect = record {
          chain = _;
          is_chain = record {
            linked = links.linked;
            inside = is.inside;
            distinct = is.marked.distinct;
            stops = inr (inr met);
          };
          met = met;
        };
        no_id = refl;
      },
)

pub returns-clause-walk : goal.returns-clause-walk
returns-clause-walk g c = λ is.
    let link : ChainLink = record { block = c.args.at; previous = c.le32-previous.result } in
    let links : List ChainLink = c.args.self.now.links.items in
    let pushed : c.push.new.self.items ≡ links ++ link ∷ [] = c.in_ok-push.ensures.items in
    walk_more c.args.blocks c.args.at c.args.self.now (record { links = c.push.new.self; met = c.insert.new.self }) link
    is c.requires (omega arith) refl pushed
    (c.if-not-insert.ensures.added c.args.blocks _ is.marked (omega arith)).0

pub returns-then-at-blocks-clause-few_reads : goal.returns-then-at-blocks-clause-few_reads
returns-then-at-blocks-clause-few_reads g c =
    λ is. omega (arith, walk_few c.args.blocks c.args.self.now is, c.args.self.now.links.ok.0)

pub returns-then-not-insert-clause-few_reads : goal.returns-then-not-insert-clause-few_reads
returns-then-not-insert-clause-few_reads g c =
    λ is. omega (arith, walk_few c.args.blocks c.args.self.now is, c.args.self.now.links.ok.0)

pub returns-in_err-read_words-clause-few_reads : goal.returns-in_err-read_words-clause-few_reads
returns-in_err-read_words-clause-few_reads g c = λ is.
    let fits = links_fit c.args.blocks _ c.args.self.now.links.items c.args.at
    (c.if-not-insert.ensures.added c.args.blocks _ is.marked (omega arith)).0 in
    omega (arith, fits, c.args.self.now.links.ok.0, c.in_err-read_words.ensures.reads)

pub returns-in_err-push-clause-few_reads : goal.returns-in_err-push-clause-few_reads
returns-in_err-push-clause-few_reads g c = λ is.
    let fits = links_fit c.args.blocks _ c.args.self.now.links.items c.args.at
    (c.if-not-insert.ensures.added c.args.blocks _ is.marked (omega arith)).0 in
    omega (arith, fits, c.args.self.now.links.ok.0, c.in_ok-read_words.ensures.reads)

pub returns-clause-few_reads : goal.returns-clause-few_reads
returns-clause-few_reads g c = λ is.
    let fits = links_fit c.args.blocks _ c.args.self.now.links.items c.args.at
    (c.if-not-insert.ensures.added c.args.blocks _ is.marked (omega arith)).0 in
    omega (arith, fits, c.args.self.now.links.ok.0, c.in_ok-read_words.ensures.reads)
