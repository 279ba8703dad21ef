use Rattle.std.proofs.Common.{◌≡◌, ◌∙◌, ◌+◌, ℕ, List, [], ◌∷◌, ◌++◌, Result, Ok, drop, get_or, ap, sym}
use Rattle.std.proofs.lemmas.List.{drop_more}
use Rattle.serde_json.specs.View.{members_view}
use Rattle.sal_types.specs.declared.value.Value.{Value}
use Rattle.sal_types.specs.Reading.{◌>>=◌}
use Rattle.sal_data.specs.declared.fault.DataFault.{DataFault}
use Rattle.sal_data.specs.Read.{key_value, key_values}
use Rattle.sal_data.proofs.Following.{in_front, in_front-one}
use Rattle.sal_data.proofs.reader.Reader.key_values.Goals as goal

pub loop-key-preserved : goal.loop-key-preserved
loop-key-preserved c =
    let l = c.loop-key in
    let table = c.args.self.now.schema.now in
    let n = c.args.node in
    let path = c.args.path.now in
    let ms = members_view c.args.members.now.entries in
    let keys = c.args.keys.now in
    let value = c.in_ok-value.value in
    let rest = key_values table n path ms (drop (l.key-index + 1) keys) in
    let here : drop l.key-index keys ≡ get_or keys l.key-index 0 ∷ drop (l.key-index + 1) keys = drop_more keys l.key-index 0 c.loop-key-test.true in
    let is : key_value table n path ms (get_or keys l.key-index 0) ≡ Ok value = c.in_ok-value.ensures in
    l.invariant ∙ ap (λ (ks : List ℕ). in_front l.values.items (key_values table n path ms ks)) here
    ∙ ap (λ (r : Result Value DataFault). in_front l.values.items (r >>= λ value. (rest >>= λ values. Ok (value ∷ values)))) is
    ∙ in_front-one l.values.items value rest
    ∙ ap (λ (values : List Value). in_front values rest) (sym c.in_ok-append.ensures)
