pub mod LawAddresses
pub mod LawData
pub mod LawMetadata
pub mod LawOnly
pub mod LawReads
pub mod LawTemplates
pub mod LawWhole
