use Rattle.std.proofs.Common.{◌≡◌, ◌∙◌, ◌+◌, [], ◌∷◌, ◌++◌, drop, get_or, Some, None, sym, ap, arith, append-nil}
use Rattle.std.proofs.lemmas.Grind.{common_steps}
use Rattle.sal_pathtext.specs.Nodes.{value_given, values_given}
use Rattle.sal_pathtext.proofs.Entries.{in_front, in_front-nil, in_front-with, values_at, values_past}
use Rattle.sal_pathtext.proofs.nodes.values_given.Goals as goal

pub loop-key-init : goal.loop-key-init
loop-key-init c = rw c.in_ok-values.ensures.items (sym (in_front-nil (values_given c.args.given.now c.args.keys.now)))

pub returns-in-None : goal.returns-in-None
returns-in-None c =
    let l = c.loop-key in
    let given = c.args.given.now in
    let keys = c.args.keys.now in
    let none : value_given given (get_or keys l.key-index 0) ≡ None = sym c.in-None.ensures in
    let at = rw none at (values_at given keys l.key-index c.loop-key-test.true) in
    sym (l.invariant ∙ ap (in_front l.values.items) at)

pub loop-key-preserved : goal.loop-key-preserved
loop-key-preserved c =
    let l = c.loop-key in
    let given = c.args.given.now in
    let keys = c.args.keys.now in
    let value = c.in-Some.value.now in
    let rest = values_given given (drop (l.key-index + 1) keys) in
    let some : value_given given (get_or keys l.key-index 0) ≡ Some value = sym c.in-Some.ensures in
    let at = rw some at (values_at given keys l.key-index c.loop-key-test.true) in
    let pushed : l.values.items ++ value ∷ [] ≡ c.push.new.self.items = grind (arith, common_steps) in
    l.invariant ∙ ap (in_front l.values.items) at ∙ in_front-with l.values.items value rest ∙ ap (λ values. in_front values rest) pushed

pub returns : goal.returns
returns c =
    let l = c.loop-key in
    let past = values_past c.args.given.now c.args.keys.now l.key-index (omega (arith, c.loop-key-test.false)) in
    sym (l.invariant ∙ ap (in_front l.values.items) past ∙ ap Some (append-nil l.values.items ∙ sym c.from_items.ensures ∙ sym c.in_ok-new.ensures))
