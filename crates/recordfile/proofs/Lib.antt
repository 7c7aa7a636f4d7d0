pub mod ReadOffLaws
