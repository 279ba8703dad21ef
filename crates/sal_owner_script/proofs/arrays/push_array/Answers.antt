use Rattle.std.proofs.Common.{◌≡◌, ℕ, List, OnOk, string_bytes, subst}
use Rattle.sal_script.proofs.ArrayTexts.{array_written}
use Rattle.sal_owner_script.proofs.arrays.push_array.Goals as goal

pub returns : goal.returns
returns g c =
    subst (λ (t : List ℕ). OnOk c.push_word-3.result (string_bytes c.push_word-3.new.text ≡ t))
    (array_written g.T.Item.json c.args.items.now c.first-item.result (string_bytes c.args.text.now) _ _ _ c.in-len1-up.len_at_least c.first-item.is c.in_ok-push_word.ensures c.in_ok-push_item.ensures c.in_ok-push_more.ensures)
    c.push_word-3.ensures
