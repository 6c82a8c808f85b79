-- What a step, a run, and what is handed in between steps keep.
pub mod Sound
