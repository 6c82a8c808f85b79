-- How a step of the running level ends, as the definitions have it.
pub mod Events
