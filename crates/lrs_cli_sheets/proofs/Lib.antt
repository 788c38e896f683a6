pub mod Audited
pub mod Between
pub mod BetweenQuestions
pub mod Searching
pub mod Trying
pub mod Tidied
pub mod Drafted
pub mod AnswerLine
