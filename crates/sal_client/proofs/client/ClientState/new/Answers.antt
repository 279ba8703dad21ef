-- All slots are empty.
use Rattle.std.proofs.Common.{◌≡◌, ℕ, Option, None, Some, ap, sym, ◌∙◌}
use Rattle.std.specs.Option.{option_map}
use Rattle.sal_tx.specs.declared.tx.Tx.{Tx}
use Rattle.sal_hub.specs.declared.call_id.CallId.{CallId}
use Rattle.sal_hub.specs.declared.chain.Chain.{Chain}
use Rattle.sal_hub.specs.declared.receipt.Receipt.{Receipt}
use Rattle.sal_client.specs.declared.follower.Follower.{Follower}
use Rattle.sal_client.specs.Asked.{invocation_of}
use Rattle.sal_client.specs.Clients.{chain_of, number_of, open_of, request_of}
use Rattle.sal_client.specs.Followers.{listener_of}
use Rattle.sal_client.proofs.client.ClientState.new.Goals as goal

pub returns-clause-client : goal.returns-clause-client
returns-clause-client c =
    λ i. record { transactions = λ k. option_map open_of (c.empty_slots.ensures i k); receipts = λ k. option_map number_of (c.empty_slots-2.ensures i k); chains = λ k. option_map chain_of (c.empty_slots-3.ensures i k); listeners = λ k. option_map listener_of (c.empty_slots-4.ensures i k); invoked = λ k. option_map request_of (c.empty_slots-5.ensures i k); handed = λ k. option_map invocation_of (c.empty_slots-6.ensures i k); replies = c.new.ensures.items i }

pub returns-clause-sound : goal.returns-clause-sound
returns-clause-sound c known = record {
  steady = record {
    transactions = λ k tx at. absurd (let none : None ≡ Some tx = sym (ap (λ (f : ℕ → Option Tx). f k) c.empty_slots.ensures) ∙ at in cc);
    followers = λ k f at. absurd (let none : None ≡ Some f = sym (ap (λ (h : ℕ → Option Follower). h k) c.empty_slots-4.ensures) ∙ at in cc);
  };
  receipts = λ k r at. absurd (let none : None ≡ Some r = sym (ap (λ (f : ℕ → Option Receipt). f k) c.empty_slots-2.ensures) ∙ at in cc);
  chains = λ k chain at. absurd (let none : None ≡ Some chain = sym (ap (λ (f : ℕ → Option Chain). f k) c.empty_slots-3.ensures) ∙ at in cc);
  invoked = λ k id at. absurd (let none : None ≡ Some id = sym (ap (λ (f : ℕ → Option CallId). f k) c.empty_slots-5.ensures) ∙ at in cc);
  listeners = λ k f at. absurd (let none : None ≡ Some f = sym (ap (λ (h : ℕ → Option Follower). h k) c.empty_slots-4.ensures) ∙ at in cc);
  apart = λ j k f g at at' same. absurd (let none : None ≡ Some f = sym (ap (λ (h : ℕ → Option Follower). h j) c.empty_slots-4.ensures) ∙ at in cc);
}

pub returns-clause-schema : goal.returns-clause-schema
returns-clause-schema c tables k tx at = absurd (let none : None ≡ Some tx = sym (ap (λ (f : ℕ → Option Tx). f k) c.empty_slots.ensures) ∙ at in cc)
