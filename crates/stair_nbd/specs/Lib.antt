-- What a client of the array says, what it is answered, and what is done for it.
pub mod Wire
pub mod Client
pub mod Sessions
pub mod Civil
