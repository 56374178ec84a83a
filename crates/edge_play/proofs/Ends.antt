-- A test of each element doesn't ask for their order.
pub use Rattle.schedule_play.proofs.Ends.{list_all-reverse}
