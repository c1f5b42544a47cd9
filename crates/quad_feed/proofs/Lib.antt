pub mod PieceLaws
pub mod FedLaws
pub mod EndedLaws
