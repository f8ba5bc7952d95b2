pub mod TakeLaws
mod OptionLaws
mod ShakeLaws
pub mod TriedLaws
pub mod ReadOnLaws
pub mod WriteOnLaws
pub mod AroundLaws
pub mod ReadAroundLaws
pub mod RespondLaws
pub mod ClientLaws
pub mod CivilLaws
mod ReplyLaws
mod RequestLaws
