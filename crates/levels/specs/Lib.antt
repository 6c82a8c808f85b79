-- What a change of level answers to, beside the definitions of the machine.
pub mod Changes
-- What the functions answer to, beside the definitions of the machine.
pub mod Words
