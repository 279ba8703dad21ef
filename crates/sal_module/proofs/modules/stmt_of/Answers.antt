use Rattle.std.proofs.Common.{◌∙◌, ◌^◌, sym, ap, refl, length}
use Rattle.std.specs.Prelude.{option_and_then}
use Rattle.std.proofs.lemmas.Option.{slice_get_read}
use Rattle.sal_module.specs.Places.{find_at, is_in_order}
use Rattle.sal_module.proofs.Named.{all-at}
use Rattle.sal_module.proofs.modules.stmt_of.Goals as goal

pub find_in_order-requires : goal.find_in_order-requires
find_in_order-requires c =
    let list = c.args.list.now in
    let here = all-at (is_in_order 64 (2 ^ 32)) list c.args.number c.index-list-number.result c.if-number-list.false (sym c.requires ∙ c.if-in_order.true) in
    rw (← c.index-list-number.is) at here

pub returns-then-in_order : goal.returns-then-in_order
returns-then-in_order c =
    let got = slice_get_read c.args.list.now (length c.args.list.now) c.args.number c.index-list-number.result refl c.if-number-list.false c.index-list-number.is in
    c.find_in_order.ensures ∙ sym (ap (option_and_then (find_at 64 c.args.at)) got)

pub returns : goal.returns
returns c =
    let got = slice_get_read c.args.list.now (length c.args.list.now) c.args.number c.index-list-number.result refl c.if-number-list.false c.index-list-number.is in
    c.find_anywhere.ensures ∙ sym (ap (option_and_then (find_at 64 c.args.at)) got)
