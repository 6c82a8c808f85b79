-- What a run with device input leaves.
pub mod Inputs
