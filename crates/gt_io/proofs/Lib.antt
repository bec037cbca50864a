pub mod CountLemmas
pub mod ByteLemmas
