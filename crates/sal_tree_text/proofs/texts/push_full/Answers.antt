use Rattle.std.proofs.Common.{◌≡◌, ◌++◌, ◌∷◌, [], true, string_bytes, rules}
use Rattle.std.specs.List.{list_all}
use Rattle.sal_schema.specs.Lookups.{own_module, full_name}
use Rattle.sal_schema.specs.Table.{name_of}
use Rattle.sal_tree_text.specs.Plain.{is_plain}
use Rattle.sal_tree_text.proofs.Plain.{all-append, plain_quoted}
use Rattle.sal_tree_text.proofs.texts.push_full.Goals as goal

pub returns : goal.returns
returns c =
    let table = c.args.schema.now in
    let n = c.args.node in
    let front : list_all is_plain (own_module table n) ≡ true = cc in
    let back : list_all is_plain (name_of table n) ≡ true = cc in
    let one : string_bytes c.push.new.self ≡ string_bytes c.args.text.now ++ 34 ∷ [] = search rules in
    let two : string_bytes c.push_full_name-2.new.out ≡ string_bytes c.push.new.self ++ full_name table n = search rules in
    let three : string_bytes c.push-2.new.self ≡ string_bytes c.push_full_name-2.new.out ++ 34 ∷ [] = search rules in
    plain_quoted (full_name table n) (string_bytes c.args.text.now) (string_bytes c.push.new.self) (string_bytes c.push_full_name-2.new.out) (string_bytes c.push-2.new.self)
    (all-append (own_module table n) (58 ∷ name_of table n) front back) one two three
