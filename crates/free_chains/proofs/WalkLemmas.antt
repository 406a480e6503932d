-- A walk along a list of blocks, block by block.
use Rattle.std.proofs.Common.{◌≡◌, ◌≢◌, ℕ, ◌+◌, ◌<◌, ◌≤◌, Bool, IsTrue, List, [], ◌∷◌, ◌++◌, length, sym, ap, subst}
use Rattle.std.proofs.Common.{◌∙◌, inl, inr, arith, length-append, refl}
use Rattle.std.proofs.lemmas.List.{map-append, length-map}
use Rattle.free_chains.specs.declared.chain.Walk.{Walk}
use Rattle.free_chains.specs.declared.chain_link.ChainLink.{ChainLink}
use Rattle.file_blocks.specs.BlockSet.{AreFlagsOf}
use Rattle.quota_types.specs.Times.{StandsIn, times}
use Rattle.file_blocks.specs.Block.{leads}
use Rattle.free_chains.specs.Walk.{IsWalk, linked_blocks, AreLinksTo}
use Rattle.file_blocks.proofs.LeadsLemmas.{leads_from}
use Rattle.quota_types.proofs.TimesLemmas.{few_of_distinct, times-append, times_cases}
use Rattle.file_blocks.proofs.MarkedLemmas.{marked_fit}
use Rattle.free_chains.specs.Chain.{IsChain}

-- a walk that has met one more block
pub walk_more : (blocks at : ℕ) (walk now : Walk) (link : ChainLink) → IsWalk blocks walk → at ≢ 0 → at < blocks
    → link.block ≡ at
    → now.links.items ≡ walk.links.items ++ link ∷ []
    → AreFlagsOf blocks now.met.flags.items (linked_blocks walk.links.items ++ at ∷ []) → IsWalk blocks now
walk_more blocks at walk now link is some low here items flags =
    let more : linked_blocks now.links.items ≡ linked_blocks walk.links.items ++ at ∷ [] =
    ap linked_blocks items ∙ map-append (λ (l : ChainLink). l.block) walk.links.items (link ∷ [])
    ∙ ap (λ (n : ℕ). linked_blocks walk.links.items ++ n ∷ []) here in
    record {
      marked = subst (λ (all : List ℕ). AreFlagsOf blocks now.met.flags.items all) (sym more) flags;
      inside = λ n stands.
          let both : times (linked_blocks now.links.items) n
          ≡ times (linked_blocks walk.links.items) n + times (at ∷ []) n =
          ap (λ (all : List ℕ). times all n) more ∙ times-append (linked_blocks walk.links.items) (at ∷ []) n in
          elim (times_cases at [] n) [
            | inl same ↦
                subst (λ (k : ℕ). IsTrue (leads blocks k)) same.0 (leads_from blocks at (omega (arith, some)) low)
            | inr other ↦ is.inside n (omega (arith, both, stands, other.1))
          ];
    }

-- a walk has met no more blocks than there are
pub walk_fits : (blocks : ℕ) (walk : Walk) → IsWalk blocks walk → length (linked_blocks walk.links.items) ≤ blocks
walk_fits blocks walk is = few_of_distinct blocks (linked_blocks walk.links.items) is.marked.distinct is.marked.inside

-- nor with one more of a list
pub links_fit : (blocks : ℕ) (flags : List Bool) (links : List ChainLink) (at : ℕ)
    → AreFlagsOf blocks flags (linked_blocks links ++ at ∷ [])
    → length links + 1 ≤ blocks
links_fit blocks flags links at are =
    omega (
      arith,
      marked_fit blocks flags (linked_blocks links ++ at ∷ []) are,
      length-append (linked_blocks links) (at ∷ []),
      length-map links (λ (link : ChainLink). link.block),
    )

pub walk_few : (blocks : ℕ) (walk : Walk) → IsWalk blocks walk → length walk.links.items ≤ blocks
walk_few blocks walk is =
    omega (arith, walk_fits blocks walk is, length-map walk.links.items (λ (link : ChainLink). link.block))

-- a list that was walked to its end is a chain
pub walked : (file : List ℕ) (blocks head : ℕ) (links : List ChainLink) → AreLinksTo file head links 0
    → ((n : ℕ) → times (linked_blocks links) n ≤ 1)
    → ((n : ℕ) → StandsIn (linked_blocks links) n → IsTrue (leads blocks n))
    → IsChain file blocks head (linked_blocks links) 0
walked file blocks head links are distinct inside =
    record { linked = are.linked; inside = inside; distinct = distinct; stops = inl refl }
