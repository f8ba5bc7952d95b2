-- Media that come back: which one lies where, what holds of it wherever it lies, and what an opening asks of the outside.
pub mod Following
pub mod Given
pub mod Behind
pub mod Together
pub mod Counted
pub mod Still
pub mod Found
pub mod Beginning
pub mod Misled
pub mod Opened
pub mod Drawn
