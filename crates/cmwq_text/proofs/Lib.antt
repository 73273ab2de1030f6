pub mod Splits
pub mod Digits
pub mod Spacing
pub mod Steps
pub mod NumberLaws
pub mod WordLaws
pub mod KeywordLaws
pub mod IdLaws
pub mod RowLaws
pub mod PhraseLaws
pub mod CallLaws
pub mod ReplyLaws
pub mod LineLaws
pub mod EntryLaws
pub mod EndLaws
pub mod ReadRanges
pub mod ShapeLaws
pub mod WholeLines
mod Letters
mod Leading
