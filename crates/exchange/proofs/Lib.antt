pub mod IncomingLemmas
pub mod ReceivingLemmas
pub mod ConcludeLemmas
pub mod PollLemmas
pub mod TouchLemmas
