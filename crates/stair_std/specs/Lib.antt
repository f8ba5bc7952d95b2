-- What contracts see of a generator, its coefficients, and the stripes that they come from.
pub mod Cells
pub mod Coefficients
pub mod Kept
pub mod KeptCoefficients
pub mod Standard
pub mod UnitsSteps
