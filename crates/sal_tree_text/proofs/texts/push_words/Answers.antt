use Rattle.std.proofs.Common.{◌≡◌, ◌++◌, ◌∷◌, [], true, string_bytes, rules}
use Rattle.std.specs.List.{list_all}
use Rattle.sal_tree_text.specs.Plain.{is_plain}
use Rattle.sal_tree_text.proofs.Plain.{plain_quoted}
use Rattle.sal_tree_text.proofs.texts.push_words.Goals as goal

pub returns : goal.returns
returns c =
    let plain : list_all is_plain c.args.words.now ≡ true = cc in
    let one : string_bytes c.push.new.self ≡ string_bytes c.args.text.now ++ 34 ∷ [] = search rules in
    let two : string_bytes c.push_str.new.self ≡ string_bytes c.push.new.self ++ c.args.words.now = search rules in
    let three : string_bytes c.push-2.new.self ≡ string_bytes c.push_str.new.self ++ 34 ∷ [] = search rules in
    plain_quoted c.args.words.now (string_bytes c.args.text.now) (string_bytes c.push.new.self) (string_bytes c.push_str.new.self) (string_bytes c.push-2.new.self) plain one two three
