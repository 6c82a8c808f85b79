-- What steps of the machine answer to, beside its definitions.
pub mod Advances
