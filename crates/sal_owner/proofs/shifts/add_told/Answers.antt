use Rattle.std.proofs.Common.{rules, ◌≡◌, ◌<◌, ◌≤◌, [], ◌∷◌, ◌++◌, Some, length, slice_get, refl, ap, sym, ◌∙◌, append-nil}
use Rattle.std.proofs.lemmas.Option.{slice_get_past, slice_get_read}
use Rattle.sal_owner.specs.Shifts.{told_some}
use Rattle.sal_owner.proofs.shifts.add_told.Goals as goal

pub returns-then-n-shifts : goal.returns-then-n-shifts
returns-then-n-shifts c =
    let past : length c.args.shifts.now ≤ c.args.n = search rules in
    sym (ap (λ o. c.args.list.now.items ++ told_some c.args.client o) (slice_get_past c.args.shifts.now c.args.n past) ∙ append-nil c.args.list.now.items)

pub returns : goal.returns
returns c =
    let within : c.args.n < length c.args.shifts.now = search rules in
    let there : slice_get c.args.shifts.now c.args.n ≡ Some c.index-shifts-n.result = slice_get_read c.args.shifts.now (length c.args.shifts.now) c.args.n c.index-shifts-n.result refl within (search rules) in
    let more : c.push.new.self.items ≡ c.args.list.now.items ++ c.in_ok-change.change ∷ [] = search rules in
    more ∙ ap (λ ch. c.args.list.now.items ++ ch ∷ []) c.in_ok-change.ensures ∙ sym (ap (λ o. c.args.list.now.items ++ told_some c.args.client o) there)
