-- What the functions answer to, beside the definitions of the machine.
pub mod Transfers
