-- The report of what clients left states the order of its log on its first line.
use Rattle.std.proofs.Common.{◌≡◌, ℕ, List, [], ◌∷◌, ◌++◌, codes, refl, ap, flat_map}
use Rattle.std.specs.Prelude.{map}
use Rattle.sal_history.specs.declared.call.Entry.{Entry}
use Rattle.sal_script.specs.Play.{Played}
use Rattle.sal_script.specs.Tables.{tables_of}
use Rattle.sal_script.specs.Report.{number, order_line, reply_lines, told_domains, tree_line, trees_in}
use Rattle.sal_script.specs.Along.{order_of}
use Rattle.sal_script.specs.OneOrder.{IsOneOrder}
use Rattle.sal_script.specs.SomeOrder.{LeftIsReported, line_of}
use Rattle.sal_script.proofs.Left.{what_is_left_is_one_order}

numbers_of : (log : List Entry) → flat_map (λ (e : Entry). number e.client) log ≡ flat_map number (order_of log)
numbers_of [] = refl
numbers_of (e ∷ log) = ap (λ (text : List ℕ). number e.client ++ text) (numbers_of log)

same_line : (log : List Entry) → order_line log ≡ line_of (order_of log)
same_line log = ap (λ (text : List ℕ). codes "order" ++ (text ++ (10 ∷ []))) (numbers_of log)

pub what_is_left_is_reported : LeftIsReported
what_is_left_is_reported world clients log replies left =
    let one : IsOneOrder world clients log replies = what_is_left_is_one_order world clients log replies left in
    let played : Played = record { log = log; replies = replies } in
    let rest : List ℕ =
    reply_lines (tables_of world) 0 replies ++ flat_map (tree_line (tables_of world)) (map (trees_in world log) (told_domains world log)) in
    record {
      order = order_of log;
      told = (rest, ap (λ (line : List ℕ). line ++ rest) (same_line log));
      legal = one.legal;
      played = played;
      plays = one.plays;
      written = refl;
    }
