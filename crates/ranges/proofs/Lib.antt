-- The laws, from words to runs.
pub mod Places
pub mod Files
pub mod Instructions
pub mod Devices
pub mod Control
pub mod InputOutput
pub mod Pages
pub mod States
pub mod Packing
pub mod Step
pub mod Sizes
pub mod Run
pub mod DeviceInput
