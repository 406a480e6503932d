-- What a sink has got of a text, step by step.
use Rattle.std.proofs.Common.{◌≡◌, ℕ, List, ◌++◌, sym, ap, ◌∙◌, append_assoc}
use Rattle.outside.specs.Text.{AppendsPrefix}
use Rattle.outside.specs.Gathering.{IsGathered}

-- a prefix of a text is a prefix of a longer one
pub appends_more : (old new bytes more : List ℕ) → AppendsPrefix old new bytes → AppendsPrefix old new (bytes ++ more)
appends_more old new bytes more p = record {
  done = p.done;
  rest = p.rest ++ more;
  appended = p.appended;
  prefix = sym (append_assoc p.done p.rest more) ∙ ap (λ (b : List ℕ). b ++ more) p.prefix;
}

-- what stands in front was written too
pub appends_front : (old front new bytes : List ℕ) → AppendsPrefix (old ++ front) new bytes
    → AppendsPrefix old new (front ++ bytes)
appends_front old front new bytes p = record {
  done = front ++ p.done;
  rest = p.rest;
  appended = p.appended ∙ append_assoc old front p.done;
  prefix = append_assoc front p.done p.rest ∙ ap (λ (b : List ℕ). front ++ b) p.prefix;
}

-- what was gathered, and then a prefix of what followed
pub appends_gathered : (start before written buffered new bytes : List ℕ) → IsGathered start before written buffered
    → AppendsPrefix written new (buffered ++ bytes) → AppendsPrefix start new (before ++ bytes)
appends_gathered start before written buffered new bytes g p = record {
  done = g.sent ++ p.done;
  rest = p.rest;
  appended = p.appended ∙ ap (λ (w : List ℕ). w ++ p.done) g.appended ∙ append_assoc start g.sent p.done;
  prefix = append_assoc g.sent p.done p.rest ∙ ap (λ (b : List ℕ). g.sent ++ b) p.prefix
      ∙ sym (append_assoc g.sent buffered bytes) ∙ ap (λ (b : List ℕ). b ++ bytes) (sym g.whole);
}

-- a fault while what was gathered is written
pub appends_at_flush : (start before written buffered new bytes : List ℕ) → IsGathered start before written buffered
    → AppendsPrefix written new buffered → AppendsPrefix start new (before ++ bytes)
appends_at_flush start before written buffered new bytes g p =
    appends_gathered start before written buffered new bytes g (appends_more written new buffered bytes p)

-- a fault while bytes are written that stand behind what was gathered
pub appends_at_write : (start before written buffered flushed new bytes : List ℕ)
    → IsGathered start before written buffered → flushed ≡ written ++ buffered → AppendsPrefix flushed new bytes
    → AppendsPrefix start new (before ++ bytes)
appends_at_write start before written buffered flushed new bytes g is p =
    appends_gathered start before written buffered new bytes g
    (appends_front written buffered new bytes (let Q : List ℕ → Type 0 = λ w. AppendsPrefix w new bytes in rw is at p))
