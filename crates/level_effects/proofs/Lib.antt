-- Laws of what an event leaves to be done.
pub mod Laws
