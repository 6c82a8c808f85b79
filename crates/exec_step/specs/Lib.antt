-- What a step of the running level answers to, beside the definitions of the machine.
pub mod Fetches
pub mod Steps
