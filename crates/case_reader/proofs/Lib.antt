mod Whole
mod ReadingRows
