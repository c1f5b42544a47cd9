pub mod Numbers
pub mod Labels
pub mod TermLaws
pub mod TableLaws
pub mod QuadLaws
