-- Texts that are put one after another.
use Rattle.std.proofs.Common.{◌≡◌, ℕ, Bool, List, [], ◌++◌, IsTrue, sym, ap, subst, ◌∙◌, append_assoc, append-nil}
use Rattle.outside.specs.Text.{AppendsPrefix}
use Rattle.outside.specs.Gathering.{Gathers, IsGathered, WritesPrefix}
use Rattle.outside.proofs.TextLemmas.{appends_more, appends_at_flush}

-- pieces that are appended one after another, the first two pairs each as one
pub appended_pieces : (before a b c d e : List ℕ)
    → before ++ (a ++ b) ++ (c ++ d) ++ e ≡ before ++ (a ++ b ++ c ++ d ++ e)
appended_pieces before a b c d e = simp append_assoc

-- a text is put, and then more
pub gathers_then : (tells : Bool) (written buffered written_1 buffered_1 written_2 buffered_2 text more whole : List ℕ)
    → Gathers tells written buffered written_1 buffered_1 text
    → Gathers tells written_1 buffered_1 written_2 buffered_2 more
    → whole ≡ text ++ more → Gathers tells written buffered written_2 buffered_2 whole
gathers_then tells written buffered written_1 buffered_1 written_2 buffered_2 text more whole one two is =
    λ told start before gathered.
    subst (λ (t : List ℕ). IsGathered start t written_2 buffered_2)
    (append_assoc before text more ∙ ap (λ (t : List ℕ). before ++ t) (sym is))
    (two told start (before ++ text) (one told start before gathered))

-- a prefix of a text is one of more
pub writes_more : (tells : Bool) (written buffered now text more whole : List ℕ)
    → WritesPrefix tells written buffered now text
    → whole ≡ text ++ more → WritesPrefix tells written buffered now whole
writes_more tells written buffered now text more whole p is =
    λ told start before gathered.
    subst (λ (t : List ℕ). AppendsPrefix start now t)
    (append_assoc before text more ∙ ap (λ (t : List ℕ). before ++ t) (sym is))
    (appends_more start now (before ++ text) more (p told start before gathered))

-- a text is put, and then a prefix of more
pub writes_then : (tells : Bool) (written buffered written_1 buffered_1 now text more whole : List ℕ)
    → Gathers tells written buffered written_1 buffered_1 text → WritesPrefix tells written_1 buffered_1 now more
    → whole ≡ text ++ more → WritesPrefix tells written buffered now whole
writes_then tells written buffered written_1 buffered_1 now text more whole one two is =
    λ told start before gathered.
    subst (λ (t : List ℕ). AppendsPrefix start now t)
    (append_assoc before text more ∙ ap (λ (t : List ℕ). before ++ t) (sym is))
    (two told start (before ++ text) (one told start before gathered))

-- nothing is put
pub gathers_none : (tells : Bool) (written buffered : List ℕ) → Gathers tells written buffered written buffered []
gathers_none tells written buffered =
    λ told start before gathered.
    subst (λ (t : List ℕ). IsGathered start t written buffered) (sym (append-nil before)) gathered

-- nothing is put, and then a text is pushed onto what is gathered
pub gathers_push : (tells : Bool) (written buffered written_1 buffered_1 buffered_2 text : List ℕ)
    → Gathers tells written buffered written_1 buffered_1 [] → buffered_2 ≡ buffered_1 ++ text
    → Gathers tells written buffered written_1 buffered_2 text
gathers_push tells written buffered written_1 buffered_1 buffered_2 text none is =
    λ told start before gathered.
    let g : IsGathered start (before ++ []) written_1 buffered_1 = none told start before gathered in
    record {
      sent = g.sent;
      appended = g.appended;
      whole = ap (λ (t : List ℕ). t ++ text) (sym (append-nil before) ∙ g.whole) ∙ append_assoc g.sent buffered_1 text
          ∙ ap (λ (t : List ℕ). g.sent ++ t) (sym is);
    }

-- what was put of a text is a prefix of it, whatever is still gathered
pub writes_gathered : (tells : Bool) (written buffered now buffered_now text more whole : List ℕ)
    → Gathers tells written buffered now buffered_now text → whole ≡ text ++ more
    → WritesPrefix tells written buffered now whole
writes_gathered tells written buffered now buffered_now text more whole one is =
    writes_more tells written buffered now text more whole
    (λ told start before gathered.
    let g : IsGathered start (before ++ text) now buffered_now = one told start before gathered in
    record { done = g.sent; rest = buffered_now; appended = g.appended; prefix = sym g.whole })
    is

-- before anything is put into an empty buffer
gathered_none : (written buffered : List ℕ) → buffered ≡ [] → IsGathered written [] written buffered
gathered_none written buffered none = record { sent = []; appended = sym (append-nil written); whole = sym none }

-- a prefix of what is put into an empty buffer is written
pub prefix_written : (tells : Bool) (written buffered now text : List ℕ) → buffered ≡ []
    → WritesPrefix tells written buffered now text
    → IsTrue tells → AppendsPrefix written now text
prefix_written tells written buffered now text none p told = p told written [] (gathered_none written buffered none)

-- what was put into an empty buffer, and then all that is gathered, is written
pub all_written : (tells : Bool) (written buffered written_1 buffered_1 now text : List ℕ) → buffered ≡ []
    → Gathers tells written buffered written_1 buffered_1 text → now ≡ written_1 ++ buffered_1 → IsTrue tells
    → now ≡ written ++ text
all_written tells written buffered written_1 buffered_1 now text none one flushed told =
    let g = one told written [] (gathered_none written buffered none) in
    flushed ∙ ap (λ (w : List ℕ). w ++ buffered_1) g.appended ∙ append_assoc written g.sent buffered_1
    ∙ ap (λ (t : List ℕ). written ++ t) (sym g.whole)

-- a fault while what is gathered is written
pub prefix_flushed : (tells : Bool) (written buffered written_1 buffered_1 now text : List ℕ) → buffered ≡ []
    → Gathers tells written buffered written_1 buffered_1 text → AppendsPrefix written_1 now buffered_1 → IsTrue tells
    → AppendsPrefix written now text
prefix_flushed tells written buffered written_1 buffered_1 now text none one p told =
    subst (λ (t : List ℕ). AppendsPrefix written now t) (append-nil text)
    (appends_at_flush written text written_1 buffered_1 now []
    (one told written [] (gathered_none written buffered none)) p)
