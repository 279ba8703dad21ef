use Rattle.std.proofs.Common.{◌≡◌, ◌∙◌, ◌-◌, [], Ok, Err, string_bytes, ap, rules, arith, append-nil}
use Rattle.std.proofs.lemmas.Grind.{common_steps}
use Rattle.std.proofs.lemmas.Bool.Decides.{nat_tests}
use Rattle.sal_types.specs.Reading.{with_front}
use Rattle.sal_stmt.specs.Text.{joined}
use Rattle.sal_stmt.proofs.Strings.{joined_at, joined_here, with_front-with_front}
use Rattle.sal_stmt.specs.declared.fault.StmtFault.TheVariants.{NoMemory}
use Rattle.sal_types.proofs.Readers.{gives_err}
use Rattle.sal_stmt.proofs.source.Source.joined.Goals as goal

pub returns-then-first-ne43-clause-value : goal.returns-then-first-ne43-clause-value
returns-then-first-ne43-clause-value c =
    let l = c.parts in
    let whole = c.args.self.now.text.now in
    let (m, room, same) = l.invariant.2 in
    let turn = joined_here whole c.args.statement m l.rest.now c.in_ok-here.here.now (omega arith) c.in_ok-here.ensures.value in
    let done : joined whole c.args.statement m l.rest.now ≡ Ok ([], c.in_ok-here.here.now) = grind (arith, nat_tests, common_steps) in
    same ∙ ap (with_front (string_bytes l.out)) done ∙ ap (λ t. Ok (t, c.in_ok-here.here.now)) (append-nil (string_bytes l.out))

pub returns-then-not-is_quote-clause-value : goal.returns-then-not-is_quote-clause-value
returns-then-not-is_quote-clause-value c _ =
    let l = c.parts in
    let whole = c.args.self.now.text.now in
    let (m, room, same) = l.invariant.2 in
    let turn = joined_here whole c.args.statement m l.rest.now c.in_ok-here.here.now (omega arith) c.in_ok-here.ensures.value in
    let done : joined whole c.args.statement m l.rest.now ≡ Err c.bad_token.result = grind (arith, nat_tests, common_steps, c.in_ok-next.ensures.value) in
    same ∙ ap (with_front (string_bytes l.out)) done

pub parts-preserved : goal.parts-preserved
parts-preserved c =
    let l = c.parts in
    let whole = c.args.self.now.text.now in
    let (m, room, same) = l.invariant.2 in
    let turn = joined_here whole c.args.statement m l.rest.now c.in_ok-here.here.now (omega arith) c.in_ok-here.ensures.value in
    let text = string_bytes c.in_ok-part.part in
    let done : joined whole c.args.statement m l.rest.now ≡ with_front text (joined whole c.args.statement (m - 1) c.in_ok-part.after.now) = grind (arith, nat_tests, common_steps, c.in_ok-next.ensures.value, c.in_ok-part.ensures.value) in
    (search rules, omega (arith, l.invariant.1, c.in_ok-here.ensures.within, c.tail.ensures.shorter, c.in_ok-next.ensures.within, c.in_ok-part.ensures.within), (m - 1, omega (arith, room, c.in_ok-here.ensures.within, c.tail.ensures.shorter, c.in_ok-next.ensures.within, c.in_ok-part.ensures.within), same ∙ ap (with_front (string_bytes l.out)) done ∙ with_front-with_front (string_bytes l.out) text _ ∙ ap (λ t. with_front t (joined whole c.args.statement (m - 1) c.in_ok-part.after.now)) (grind (arith, common_steps))))

pub returns-in_err-here-clause-value : goal.returns-in_err-here-clause-value
returns-in_err-here-clause-value c =
    let l = c.parts in
    let whole = c.args.self.now.text.now in
    let (m, room, same) = l.invariant.2 in
    let step = joined_at whole c.args.statement m l.rest.now (omega arith) in
    gives_err NoMemory _ _ c.in_err-here.field-0.0 _ c.from_residual.ensures.1 (λ known.
    let failed = c.in_err-here.ensures.value known in
    let done : joined whole c.args.statement m l.rest.now ≡ Err c.in_err-here.field-0.0 = grind (arith, nat_tests, common_steps) in
    same ∙ ap (with_front (string_bytes l.out)) done)

pub returns-in_err-next-clause-value : goal.returns-in_err-next-clause-value
returns-in_err-next-clause-value c =
    let l = c.parts in
    let whole = c.args.self.now.text.now in
    let (m, room, same) = l.invariant.2 in
    let turn = joined_here whole c.args.statement m l.rest.now c.in_ok-here.here.now (omega arith) c.in_ok-here.ensures.value in
    gives_err NoMemory _ _ c.in_err-next.field-0.0 _ c.from_residual-in_err-next.ensures.1 (λ known.
    let failed = c.in_err-next.ensures.value known in
    let done : joined whole c.args.statement m l.rest.now ≡ Err c.in_err-next.field-0.0 = grind (arith, nat_tests, common_steps, failed) in
    same ∙ ap (with_front (string_bytes l.out)) done)

pub returns-in_err-part-clause-value : goal.returns-in_err-part-clause-value
returns-in_err-part-clause-value c =
    let l = c.parts in
    let whole = c.args.self.now.text.now in
    let (m, room, same) = l.invariant.2 in
    let turn = joined_here whole c.args.statement m l.rest.now c.in_ok-here.here.now (omega arith) c.in_ok-here.ensures.value in
    gives_err NoMemory _ _ c.in_err-part.field-0.0 _ c.from_residual-in_err-part.ensures.1 (λ known.
    let failed = c.in_err-part.ensures.value known in
    let done : joined whole c.args.statement m l.rest.now ≡ Err c.in_err-part.field-0.0 = grind (arith, nat_tests, common_steps, c.in_ok-next.ensures.value, failed) in
    same ∙ ap (with_front (string_bytes l.out)) done)
