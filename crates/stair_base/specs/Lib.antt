-- What contracts see of a geometry and a stripe, beside the words of the code.
pub mod Padding
pub mod Stored
pub mod Kinds
pub mod Globals
pub mod Equations
pub mod PlaceSteps
pub use Rattle.stair_model.specs.Geometry
pub use Rattle.stair_model.specs.Cell
pub use Rattle.stair_model.specs.Device
pub use Rattle.stair_model.specs.Stripe
pub use Rattle.stair_model.specs.Codeword
pub use Rattle.stair_model.specs.Equation
pub use Rattle.stair_model.specs.Slots
pub use Rattle.stair_model.specs.CellSet
pub use Rattle.stair_model.specs.Coverage
