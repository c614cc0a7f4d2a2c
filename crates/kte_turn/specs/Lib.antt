pub mod Known
pub mod Laws
pub mod Passes
pub mod Rule
pub mod StepLaws
pub mod Steps
pub mod Sums
