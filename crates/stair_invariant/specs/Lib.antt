-- What a session knows of an array, and the parts of what its calls did.
pub mod Rebuilding
pub mod Chunks
pub mod Session
pub mod Mixed
pub mod Returning
pub mod Effects
pub mod Changing
pub mod InSession
pub mod SeatSteps
pub mod NewSession
pub mod UnderWay
pub mod Leading
pub mod Opening
pub mod CutOff
