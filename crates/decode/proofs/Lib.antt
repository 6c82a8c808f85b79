pub mod ExrRow
