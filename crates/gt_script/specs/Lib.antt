pub use Rattle.gt_grammar.specs.Grammar
pub mod Unread
pub mod Reading
