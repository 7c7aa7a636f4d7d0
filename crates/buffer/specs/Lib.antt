pub mod Buffer
pub mod Laws
pub mod WroteLaws
pub mod RunLaws
pub mod AllLaws
pub mod FrontLaws
pub mod LeadingLaws
