-- The log grows entry by entry.
use Rattle.sal_hub.specs.HubHistory.{HubHistory}
use Rattle.sal_hub.specs.Listeners.{IsMade}
use Rattle.sal_hub.specs.Tokens.{IsBegun, IsCall, IsChain, IsGiven, IsListener}
use Rattle.sal_broker.proofs.Tokens.{stays}
use Rattle.sal_broker.proofs.laws.tokens_stay.Goals as goal

pub returns : goal.returns
returns c = λ known log starts. record {
  begun = λ begun mode base was. stays (λ (k : HubHistory). IsBegun k begun mode base) (λ k e was. c.tokens_last.ensures.begun k e begun mode base was) known log starts was;
  given = λ receipt was. stays (λ (k : HubHistory). IsGiven k receipt) (λ k e was. c.tokens_last.ensures.given k e receipt was) known log starts was;
  opened = λ chain was. stays (λ (k : HubHistory). IsChain k chain) (λ k e was. c.tokens_last.ensures.opened k e chain was) known log starts was;
  listener = λ id was. stays (λ (k : HubHistory). IsListener k id) (λ k e was. c.tokens_last.ensures.listener k e id was) known log starts was;
  called = λ id was. stays (λ (k : HubHistory). IsCall k id) (λ k e was. c.tokens_last.ensures.called k e id was) known log starts was;
  made = λ id l was. stays (λ (k : HubHistory). IsMade k id l) (λ k e was. c.tokens_last.ensures.made k e id l was) known log starts was;
}
