mod StripeLaws
mod SpelledLaws
pub mod ReadLaws
mod SessionLaws
mod CameLaws
mod RangeLaws
mod OpenLaws
mod JobLaws
mod BoundsLaws
mod WordLaws
pub mod CellLaws
pub mod BlockLaws
pub mod MapLaws
pub mod AnswerLaws
pub mod RestoreLaws
pub mod MeaningLaws
mod StandLaws
mod CallLaws
mod CompleteLaws
mod ConstantLaws
mod StepLaws
mod ArmLaws
mod MendLaws
mod LineLaws
mod LineStepLaws
mod LineAnswerLaws
mod ExerciseLaws
pub mod RebuildLaws
pub mod ScrubLaws
mod StampLaws
mod ReplaceLaws
mod DoneLaws
mod FollowedLaws
mod MendedLaws
mod SparedLaws
mod OpeningLaws
mod QuietLaws
mod CountedLaws
mod ExercisedLaws
mod SureLaws
mod ExerciseSureLaws
mod ScriptSureLaws
mod ReportLaws
mod ClientLaws
mod ServeLaws
mod HaltLaws
mod MadeLaws
mod CostsLaws
pub mod VolumesLaws
pub mod ChangedLaws
