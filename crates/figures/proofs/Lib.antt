pub mod ItemLaws
pub mod FigureLaws
pub mod LoopLaws
