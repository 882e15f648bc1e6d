pub mod TrialLaws
