use Rattle.std.proofs.Common.{rules, ◌≡◌, ℕ, false, List, [], ◌∷◌, ◌++◌, Option, Some, length, ap, sym, ◌∙◌, cond, nat_eq, subst}
use Rattle.std.specs.BTreeMap.{is_at}
use Rattle.std.specs.List.{list_any}
use Rattle.std.specs.Map.{lookup}
use Rattle.std.specs.Ordering.{nat_cmp}
use Rattle.sal_owner.specs.Slots.{IsPlaced, clients_in}
use Rattle.sal_owner.proofs.InSlots.{came-placed, clients-append}
use Rattle.sal_owner.proofs.candidates.Candidates.add.Goals as goal

pub invariant_of-self-2 : goal.invariant_of-self-2
invariant_of-self-2 c =
    let slots = c.self.inside.slots.items in
    let more : c.push.new.self.items ≡ slots ++ Some c.args.client ∷ [] = search rules in
    let n : c.len.result ≡ length slots = search rules in
    let free : list_any (nat_eq c.args.client) (clients_in slots) ≡ false = ap (list_any (nat_eq c.args.client)) c.self.view_is ∙ c.requires in
    subst (λ (ss : List (Option ℕ)). IsPlaced ss c.insert.new.self.entries c.self.inside.first) (sym more)
    (came-placed slots c.self.inside.places.entries c.insert.new.self.entries c.self.inside.first c.args.client c.self.invariant free
    (λ q. c.in_ok-insert.ensures.updates.0 q ∙ ap (λ n. cond (is_at (nat_cmp c.args.client) q) (Some n) (lookup (is_at (nat_cmp q)) c.self.inside.places.entries)) n))

pub returns-clause-ok : goal.returns-clause-ok
returns-clause-ok c =
    let more : c.push.new.self.items ≡ c.self.inside.slots.items ++ Some c.args.client ∷ [] = search rules in
    ap clients_in more ∙ clients-append c.self.inside.slots.items (Some c.args.client ∷ []) ∙ ap (λ l. l ++ c.args.client ∷ []) c.self.view_is
