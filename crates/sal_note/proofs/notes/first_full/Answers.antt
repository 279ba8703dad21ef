use Rattle.std.proofs.Common.{◌≡◌, ℕ, true, false, Bool, length, get_or, take, arith, ap, sym, ◌∙◌, nat_le, add-one}
use Rattle.std.specs.List.{filter}
use Rattle.std.proofs.lemmas.Bool.Decides.{nat_tests}
use Rattle.sal_note.specs.Boxes.{queue_in}
use Rattle.sal_note.proofs.Boxed.{first-passes, none-more}
use Rattle.sal_note.proofs.notes.first_full.Goals as goal

pub returns-then-waiting-ge-MAX_WAITING : goal.returns-then-waiting-ge-MAX_WAITING
returns-then-waiting-ge-MAX_WAITING c =
    let full : nat_le 64 (length (queue_in c.args.queues.now.entries (get_or c.args.clients.now c.loop-client.client-index 0))) ≡ true = grind (arith, nat_tests, c.waiting.ensures, c.if-waiting-ge-MAX_WAITING.true) in
    sym (first-passes (λ k. nat_le 64 (length (queue_in c.args.queues.now.entries k))) c.args.clients.now c.loop-client.client-index c.loop-client-test.true full c.loop-client.invariant)

pub loop-client-preserved : goal.loop-client-preserved
loop-client-preserved c =
    let room : nat_le 64 (length (queue_in c.args.queues.now.entries (get_or c.args.clients.now c.loop-client.client-index 0))) ≡ false = grind (arith, nat_tests, c.waiting.ensures, c.if-waiting-ge-MAX_WAITING.false) in
    let p : ℕ → Bool = λ k. nat_le 64 (length (queue_in c.args.queues.now.entries k)) in
    ap (λ n. filter p (take n c.args.clients.now)) (add-one c.loop-client.client-index) ∙ none-more p c.args.clients.now c.loop-client.client-index c.loop-client-test.true room c.loop-client.invariant
