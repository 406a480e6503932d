pub mod UnitLemmas
pub mod RowLemmas
pub mod SpellingLemmas
pub mod ReplyLemmas
pub mod QuestionLemmas
pub mod XidLemmas
