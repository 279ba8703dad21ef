use Rattle.std.proofs.Common.{◌≡◌, ◌∙◌, ◌||◌, take, true, is_none, is_some, not, refl, sym, ap}
use Rattle.sal_grouping.specs.declared.children.Key.{Key}
use Rattle.sal_grouping.specs.Children.{is_choice, same_key, first_with}
use Rattle.sal_grouping.proofs.KeyMaps.{known-choice, known-keys, first-is}
use Rattle.sal_grouping.proofs.children.put_node.Goals as goal

pub returns-then-is_choice-clause-known : goal.returns-then-is_choice-clause-known
returns-then-is_choice-clause-known c q =
    let a = c.args in
    c.requires.known q ∙ ap is_some (known-choice a.rows.now a.nodes.now a.k a.node.now c.requires.place (sym c.is_choice.ensures ∙ c.if-is_choice.true) q)

pub returns-then-is_choice-clause-first : goal.returns-then-is_choice-clause-first
returns-then-is_choice-clause-first c =
    let choice : is_choice c.args.rows.now c.args.node.now ≡ true = sym c.is_choice.ensures ∙ c.if-is_choice.true in
    rw choice refl

pub returns-clause-known : goal.returns-clause-known
returns-clause-known c q =
    let a = c.args in
    c.in_ok-first.ensures.known q ∙ ap (λ b. b || same_key c.in_ok-key.key q) (c.requires.known q)
    ∙ ap (λ (key : Key). is_some (first_with a.rows.now a.nodes.now q (take a.k a.nodes.now)) || same_key key q) c.in_ok-key.ensures
    ∙ known-keys a.rows.now a.nodes.now a.k a.node.now c.requires.place (sym c.is_choice.ensures ∙ c.if-is_choice.false) q

pub returns-clause-first : goal.returns-clause-first
returns-clause-first c =
    let a = c.args in
    c.in_ok-first.ensures.first ∙ ap not (c.requires.known c.in_ok-key.key)
    ∙ ap (λ (key : Key). is_none (first_with a.rows.now a.nodes.now key (take a.k a.nodes.now))) c.in_ok-key.ensures
    ∙ first-is a.rows.now a.nodes.now a.k a.node.now c.requires.place (sym c.is_choice.ensures ∙ c.if-is_choice.false)
