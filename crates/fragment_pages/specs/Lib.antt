pub mod Pages
pub mod SlotIds
