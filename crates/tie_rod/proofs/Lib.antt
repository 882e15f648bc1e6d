pub mod PieceLaws
pub mod WalkLaws
pub mod CallLaws
pub mod Numbers
