pub mod AddressBytes
pub mod Appended
pub mod Rooms
pub mod SendingLemmas
pub mod Heads
pub mod HttpReaderLemmas
pub mod DecimalTexts
