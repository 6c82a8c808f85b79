-- What a burst answers to, beside the definitions of the machine.
pub mod Bursts
