pub mod DurationLemmas
pub mod ReadingLemmas
pub mod TextLemmas
pub mod Blocks
pub mod CodeLeft
