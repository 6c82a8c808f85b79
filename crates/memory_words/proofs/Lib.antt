pub mod TestLaws
pub mod StoreLaws
