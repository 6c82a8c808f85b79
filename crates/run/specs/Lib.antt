-- What the loop answers to, beside the definitions of the machine.
pub mod Runs
