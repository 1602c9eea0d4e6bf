pub mod RunsLemmas
pub mod PlacesLemmas
pub mod RemovalLemmas
mod NumbersLemmas
mod SubtractLemmas
pub mod SpliceLemmas
mod ExtensionLemmas
mod StepLemmas
mod MergeLemmas
mod LawsLemmas
