pub mod CutLaws
pub mod Iris
pub mod TermLaws
pub mod TableLaws
pub mod LineLaws
pub mod WholeLaws
pub mod LineRows
