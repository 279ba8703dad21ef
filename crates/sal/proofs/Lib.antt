pub mod Texts
pub use Rattle.sal_turn.proofs.AllJoined
pub use Rattle.sal_hub.proofs.OneVersion
pub use Rattle.sal_broker.proofs.Sendable
pub use Rattle.sal_follow.proofs.Counted
