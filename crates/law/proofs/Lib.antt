pub mod LawLaws
