pub mod Results
pub mod Pieces
