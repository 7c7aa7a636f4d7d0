mod CaseLaws
mod CheckLaws
mod WritingRows
