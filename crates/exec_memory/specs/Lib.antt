-- What serving a request answers to, beside the definitions of the machine.
pub mod Served
-- What the stages of a step answer to, beside the definitions of the machine.
pub mod Stages
