pub mod Fragments
pub mod Alike
pub mod Laws
pub mod Failing
pub mod FailingLaws
pub mod Standing
