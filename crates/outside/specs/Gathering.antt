-- A text that is gathered in front of a sink.
use Rattle.std.specs.Prelude.{◌≡◌, ℕ, Bool, List, ◌++◌, IsTrue}
use Rattle.outside.specs.Text.{AppendsPrefix}

-- since `start` was written, the text was sent but for what is still gathered in a buffer
pub record IsGathered (start text written buffered : List ℕ) : Type 0 where
  pub sent : List ℕ
  pub appended : written ≡ start ++ sent
  pub whole : text ≡ sent ++ buffered

-- Of a sink that tells: whatever was gathered before, now the text is gathered behind it. The first two lists are what
-- was written and what stood in the buffer, and the next two what is written and stands there now.
abbrev pub Gathers : Bool → (written buffered written_now buffered_now text : List ℕ) → Type 0
Gathers tells written buffered written_now buffered_now text = IsTrue tells → (start before : List ℕ)
    → IsGathered start before written buffered → IsGathered start (before ++ text) written_now buffered_now

-- Of a sink that tells: whatever was gathered before, now a prefix of it and of the text behind it is written.
abbrev pub WritesPrefix : Bool → (written buffered written_now text : List ℕ) → Type 0
WritesPrefix tells written buffered written_now text = IsTrue tells → (start before : List ℕ)
    → IsGathered start before written buffered → AppendsPrefix start written_now (before ++ text)
