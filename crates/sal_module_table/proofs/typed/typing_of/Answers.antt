use Rattle.std.proofs.Common.{rules, ◌≡◌, ◌∙◌, None, Some, option_map, ap}
use Rattle.std.specs.List.{slice_get}
use Rattle.std.specs.Option.{option_copied}
use Rattle.sal_module_table.specs.Typed.{own_of, owns, places_of, first_of, place_of_node}
use Rattle.sal_module_table.proofs.Kept.{found-none, found-some}
use Rattle.sal_module_table.proofs.typed.typing_of.Goals as goal

pub returns-in-None : goal.returns-in-None
returns-in-None c =
    let all = owns c.args.types.now.all.items in
    let none : None ≡ first_of (places_of all) (place_of_node c.args.branch.now) = search rules in
    found-none all c.args.branch.now none

pub returns-in-Some : goal.returns-in-Some
returns-in-Some c =
    let all = c.args.types.now.all.items in
    let some : Some c.in-Some.i.now ≡ first_of (places_of (owns all)) (place_of_node c.args.branch.now) = search rules in
    let got : option_copied c.typing_at.result ≡ slice_get all c.in-Some.i.now = search rules in
    ap (option_map own_of) got ∙ found-some all c.args.branch.now c.in-Some.i.now some
