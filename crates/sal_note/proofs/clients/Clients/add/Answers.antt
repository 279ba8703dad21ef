use Rattle.std.proofs.Common.{◌≡◌, ◌<◌, ◌≤◌, ◌+◌, ◌^◌, true, false, List, ℕ, length, arith, ap, sym, ◌∙◌, subst}
use Rattle.std.specs.List.{insert}
use Rattle.sal_note.specs.Boxes.{AreClients}
use Rattle.sal_note.specs.Clients.{first_from, stands_at}
use Rattle.sal_note.specs.Queues.{with_client}
use Rattle.sal_note.proofs.Ascending.{ascend-with, length-with, with-insert, with-same}
use Rattle.sal_note.proofs.clients.Clients.add.Goals as goal

pub returns-then-stands_at-clause-ok : goal.returns-then-stands_at-clause-ok
returns-then-stands_at-clause-ok c =
    let items : List ℕ = c.self.inside.list.items in
    let at : c.first_from-at.result ≡ first_from c.args.client items = c.first_from-at.ensures.place ∙ ap (first_from c.args.client) c.deref.ensures.value in
    let here : stands_at (first_from c.args.client items) c.args.client items ≡ true = (λ i. stands_at (sym at i) c.args.client (sym c.deref-2.ensures.value i)) ∙ sym c.stands_at.ensures ∙ c.if-stands_at.true in
    subst (λ (cs : List ℕ). cs ≡ with_client c.args.client cs) c.self.view_is (sym (with-same c.args.client items here))

added : (c : goal.In_ok-insert) → c.insert.new.self.items ≡ with_client c.args.client c.self.inside.list.items
added c =
    let items : List ℕ = c.self.inside.list.items in
    let at : c.first_from-at.result ≡ first_from c.args.client items = c.first_from-at.ensures.place ∙ ap (first_from c.args.client) c.deref.ensures.value in
    let none : stands_at (first_from c.args.client items) c.args.client items ≡ false = (λ i. stands_at (sym at i) c.args.client (sym c.deref-2.ensures.value i)) ∙ sym c.stands_at.ensures ∙ c.if-stands_at.false in
    c.in_ok-insert.ensures.items ∙ ap (λ n. insert items n c.args.client) at ∙ with-insert c.args.client items none

pub invariant_of-self-2 : goal.invariant_of-self-2
invariant_of-self-2 c =
    let items : List ℕ = c.self.inside.list.items in
    let room : length items + 1 < 2 ^ 32 = subst (λ (cs : List ℕ). length cs + 1 < 2 ^ 32) (sym c.self.view_is) c.requires in
    let longer : length (with_client c.args.client items) ≤ length items + 1 = length-with c.args.client items in
    subst AreClients (sym (added c)) (record {
      ascend = ascend-with c.args.client items c.self.invariant.ascend;
      few = omega (arith, longer, room);
    })

pub returns-clause-ok : goal.returns-clause-ok
returns-clause-ok c = added c ∙ ap (with_client c.args.client) c.self.view_is
