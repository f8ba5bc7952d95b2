-- The journal's area of a device: the gate, and the body of a redo.
pub mod Redo
pub mod Gate
pub mod Body
pub mod Journalling
pub mod Phases
pub mod Gates
pub mod Bodies
pub mod Reads
pub mod GateSteps
pub mod GatesSteps
pub mod BodySteps
pub mod PhaseSteps
