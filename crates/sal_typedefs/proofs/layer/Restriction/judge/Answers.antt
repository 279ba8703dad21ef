use Rattle.std.proofs.Common.{◌≡◌, ◌∙◌, ◌==◌, true, false, None, List, length, sym, ap, subst, arith, IfOk}
use Rattle.std.proofs.lemmas.Bool.Decides.{nat_tests}
use Rattle.std.specs.Prelude.{is_some}
use Rattle.sal_module.specs.declared.fault.Found.{Found}
use Rattle.sal_module.specs.Faults.{least}
use Rattle.sal_module.specs.Statements.{subs_of}
use Rattle.sal_typedefs.specs.declared.judgement.Judgement.{Judgement}
use Rattle.sal_typedefs.specs.Restrictions.{digit_faults, is_decimal}
use Rattle.sal_typedefs.specs.Judgements.{base_seen}
use Rattle.sal_typedefs.proofs.LeastLists.{never-none}
use Rattle.sal_typedefs.proofs.LayerLists.{few-digits, no-faults, faults-layer}
use Rattle.sal_typedefs.proofs.layer.Restriction.judge.Goals as goal

pub returns-then-is_some-clause-meant : goal.returns-then-is_some-clause-meant
returns-then-is_some-clause-meant c none =
    let a = c.args in
    let s = a.self.now in
    let some : is_some (least None (digit_faults s.number s.stmt.now)) ≡ true = ap is_some (sym c.with_all_digits.ensures) ∙ sym c.is_some.ensures ∙ c.if-is_some.true in
    absurd (never-none a.best (digit_faults s.number s.stmt.now) some (sym c.with_all_digits-then-is_some.ensures ∙ sym c.faulty.ensures.fault ∙ none))

pub returns-then-is_some-clause-entries : goal.returns-then-is_some-clause-entries
returns-then-is_some-clause-entries c none =
    let a = c.args in
    let s = a.self.now in
    let some : is_some (least None (digit_faults s.number s.stmt.now)) ≡ true = ap is_some (sym c.with_all_digits.ensures) ∙ sym c.is_some.ensures ∙ c.if-is_some.true in
    absurd (never-none a.best (digit_faults s.number s.stmt.now) some (sym c.with_all_digits-then-is_some.ensures ∙ sym c.faulty.ensures.fault ∙ none))

pub judge_digits-requires-clause-digits : goal.judge_digits-requires-clause-digits
judge_digits-requires-clause-digits c =
    let a = c.args in
    let s = a.self.now in
    let none : is_some (least None (digit_faults s.number s.stmt.now)) ≡ false = ap is_some (sym c.with_all_digits.ensures) ∙ sym c.is_some.ensures ∙ c.if-is_some.false in
    let zero : (length (digit_faults s.number s.stmt.now) == 0) ≡ true = no-faults (digit_faults s.number s.stmt.now) none in
    few-digits s.number (subs_of s.stmt.now) (grind (arith, nat_tests))

pub returns-clause-fault : goal.returns-clause-fault
returns-clause-fault c =
    let a = c.args in
    let s = a.self.now in
    let base = base_seen a.basis.now in
    let none : is_some (least None (digit_faults s.number s.stmt.now)) ≡ false = ap is_some (sym c.with_all_digits.ensures) ∙ sym c.is_some.ensures ∙ c.if-is_some.false in
    let decimal : is_decimal base ≡ true = sym c.is_decimal.ensures ∙ c.if-not-is_decimal.false in
    let P : List Found → Type 0 = λ fs. IfOk c.judge_digits.result (λ (d : Judgement). d.fault ≡ least a.best fs) in
    subst P (faults-layer base s.number s.stmt.now decimal (no-faults (digit_faults s.number s.stmt.now) none)) c.judge_digits.ensures.fault
