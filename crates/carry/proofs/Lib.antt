pub mod RowFits
pub mod PairAnswers
pub mod ReachedLaws
pub mod Histories
pub mod Walks
