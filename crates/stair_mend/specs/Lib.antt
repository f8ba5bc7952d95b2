-- The calls of an array by which its slots are mended, as steps.
pub mod Steps
pub mod MediumLook
