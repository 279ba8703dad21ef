use Rattle.std.proofs.Common.{◌≡◌, drop}
use Rattle.serde_json.specs.View.{items_view, members_view}
use Rattle.serde_json.specs.Written.{items_have_float, members_have_float}
use Rattle.sal_draw_script.proofs.floats.+has_float.Given as goal

-- what is left decides
abbrev pub invariant-loop-item : goal.invariant-loop-item
invariant-loop-item l = items_have_float (items_view (drop l.item-index l.item-items)) ≡ items_have_float (items_view l.item-items)

abbrev pub invariant-loop-member : goal.invariant-loop-member
invariant-loop-member l = members_have_float (members_view l.member-iterator) ≡ members_have_float (members_view l.initial.member-iterator)
