pub mod FieldLaws
pub mod DueLaws
pub mod AnswerLaws
pub mod FrontLaws
