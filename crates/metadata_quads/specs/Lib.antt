pub mod TermTexts
