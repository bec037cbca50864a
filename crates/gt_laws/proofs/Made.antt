-- A timer or a channel is made once and used where it was made, and each panic is a misuse.
pub use Rattle.gt_laws.proofs.Laws.{each-uses_rightly}
