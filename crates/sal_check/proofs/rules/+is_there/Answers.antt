use Rattle.std.proofs.Common.{rules, ◌≡◌, ◌-◌, true, false, get_or, ℕ, Bool, sym, ap, ◌∙◌, arith}
use Rattle.std.specs.List.{list_any}
use Rattle.std.proofs.lemmas.List.Folds.{list_any_at}
use Rattle.sal_node.specs.Shape.{tree_at}
use Rattle.sal_schema.specs.Kinds.{is_choice_or_case}
use Rattle.sal_tree.specs.Grow.{present}
use Rattle.sal_check.specs.Nodes.{seen_in}
use Rattle.sal_rules.specs.Rules.{is_there}
use Rattle.sal_check.proofs.There.{there-zero, there-kind, there-among, take-all}
use Rattle.sal_check.proofs.rules.+is_there.Goals as goal

pub returns-then-deep-eq0 : goal.returns-then-deep-eq0
returns-then-deep-eq0 t c =
    let zero : c.args.deep ≡ 0 = search rules in
    sym (ap (λ d. is_there c.args.schema.now (seen_in (tree_at c.args.node)) d c.args.number) zero ∙ there-zero c.args.schema.now (seen_in (tree_at c.args.node)) c.args.number)

pub returns-then-not-is_choice_or_case : goal.returns-then-not-is_choice_or_case
returns-then-not-is_choice_or_case t c =
    let table = c.args.schema.now in
    let see = seen_in (tree_at c.args.node) in
    let none : is_choice_or_case c.kind.result ≡ false = search rules in
    c.is_present.ensures ∙ ap present c.child_of.ensures.kid ∙ sym (there-kind table see c.args.deep c.args.number (omega (arith, c.if-deep-eq0.false)) c.kind.result c.kind.ensures false none)

pub returns-then-is_there : goal.returns-then-is_there
returns-then-is_there t c =
    let table = c.args.schema.now in
    let see = seen_in (tree_at c.args.node) in
    let some : is_choice_or_case c.kind.result ≡ true = search rules in
    let items = c.children-child-items.result.now in
    let f : ℕ → Bool = is_there table see (c.args.deep - 1) in
    let here : f (get_or items c.loop-child.child-index 0) ≡ true = search rules in
    let any : list_any f items ≡ true = list_any_at f items c.loop-child.child-index 0 c.loop-child-test.true here in
    sym (there-among table see c.args.deep c.args.number (omega (arith, c.if-deep-eq0.false)) c.kind.result c.kind.ensures some items c.children-child-items.ensures.children ∙ any)

pub returns : goal.returns
returns t c =
    let table = c.args.schema.now in
    let see = seen_in (tree_at c.args.node) in
    let some : is_choice_or_case c.kind.result ≡ true = search rules in
    let items = c.children-child-items.result.now in
    let f : ℕ → Bool = is_there table see (c.args.deep - 1) in
    let none : list_any f items ≡ false = ap (list_any f) (sym (take-all items c.loop-child.child-index c.loop-child-test.false)) ∙ c.loop-child.invariant in
    sym (there-among table see c.args.deep c.args.number (omega (arith, c.if-deep-eq0.false)) c.kind.result c.kind.ensures some items c.children-child-items.ensures.children ∙ none)
