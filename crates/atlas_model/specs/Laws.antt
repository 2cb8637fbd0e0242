-- Laws over the definitions, and worked examples.
pub mod TreeLaws
pub mod RoomLaws
pub mod Examples
pub mod StepLaws
pub mod RunLaws
pub mod ChoiceExamples
pub mod RefitExamples
pub mod Existence
