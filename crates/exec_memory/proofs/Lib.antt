pub mod RequestLaws
pub mod Stages
