pub mod Best
pub mod Bytes
pub mod Dead
pub mod Ends
pub mod Follows
pub mod OneKind
pub mod Pieces
pub mod Readings
