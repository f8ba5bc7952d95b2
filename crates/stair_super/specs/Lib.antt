-- What a superblock says and how it is spelled.
pub mod Label
pub mod StoredLabel
pub mod Superblock
pub mod Spelling
pub mod Stored
pub mod Newer
pub mod Page
pub use Rattle.stair_model.specs.Geometry
