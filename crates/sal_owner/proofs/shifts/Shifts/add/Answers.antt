use Rattle.std.proofs.Common.{rules, ◌≡◌, ◌++◌, ◌∷◌, [], List, length, sym, subst}
use Rattle.sal_owner.specs.declared.shift.Shift.{Shift}
use Rattle.sal_owner.specs.Shifts.{IsNumbered}
use Rattle.sal_owner.proofs.Numbered.{numbered-more}
use Rattle.sal_owner.proofs.shifts.Shifts.add.Goals as goal

pub invariant_of-self-2 : goal.invariant_of-self-2
invariant_of-self-2 c =
    let shifts = c.self.inside.list.items in
    let more : c.push.new.self.items ≡ shifts ++ c.args.shift ∷ [] = search rules in
    let at : c.len.result ≡ length shifts = search rules in
    subst (λ (ss : List Shift). IsNumbered ss c.number.new.numbers.entries) (sym more)
    (numbered-more shifts c.args.shift c.len.result c.self.inside.numbers.entries c.number.new.numbers.entries at c.self.invariant c.in_ok-number.ensures.ok)
