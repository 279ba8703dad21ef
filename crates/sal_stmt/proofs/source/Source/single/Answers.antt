use Rattle.std.proofs.Common.{◌≡◌, ◌∙◌, ◌+◌, [], ◌∷◌, take, drop, get_or, Ok, Err, arith, ap}
use Rattle.std.proofs.lemmas.Grind.{common_steps}
use Rattle.std.proofs.lemmas.Bool.Decides.{nat_tests}
use Rattle.sal_stmt.specs.declared.fault.StmtFault.TheVariants.{BadToken}
use Rattle.sal_types.specs.Reading.{with_front}
use Rattle.sal_stmt.specs.Text.{single}
use Rattle.sal_stmt.proofs.Strings.{single_at, single-none, with_front-with_front, take_one}
use Rattle.sal_stmt.proofs.source.Source.single.Goals as goal

pub returns-then-c-eq39-clause-value : goal.returns-then-c-eq39-clause-value
returns-then-c-eq39-clause-value c =
    let s = c.args.s.now in
    let i = c.loop-i.i in
    let whole = c.args.self.now.text.now in
    let step = single_at whole s c.args.start i (omega (arith, c.as_bytes-bytes.ensures.len)) in
    let done : single whole c.args.start (drop i s) ≡ Ok ([], drop (i + 1) s) = grind (arith, nat_tests, common_steps) in
    c.loop-i.invariant ∙ ap (with_front (take i s)) done ∙ grind (arith, common_steps)

pub returns-then-is_control-clause-value : goal.returns-then-is_control-clause-value
returns-then-is_control-clause-value c _ =
    let s = c.args.s.now in
    let i = c.loop-i.i in
    let whole = c.args.self.now.text.now in
    let step = single_at whole s c.args.start i (omega (arith, c.as_bytes-bytes.ensures.len)) in
    let done : single whole c.args.start (drop i s) ≡ Err (BadToken c.place.result) = grind (arith, nat_tests, common_steps) in
    c.loop-i.invariant ∙ ap (with_front (take i s)) done

pub loop-i-preserved : goal.loop-i-preserved
loop-i-preserved c =
    let s = c.args.s.now in
    let i = c.loop-i.i in
    let whole = c.args.self.now.text.now in
    let step = single_at whole s c.args.start i (omega (arith, c.as_bytes-bytes.ensures.len)) in
    let done : single whole c.args.start (drop i s) ≡ with_front (get_or s i 0 ∷ []) (single whole c.args.start (drop (i + 1) s)) = grind (arith, nat_tests, common_steps) in
    c.loop-i.invariant ∙ ap (with_front (take i s)) done ∙ with_front-with_front (take i s) _ _ ∙ ap (λ t. with_front t (single whole c.args.start (drop (i + 1) s))) (take_one s i (omega (arith, c.as_bytes-bytes.ensures.len)))

pub returns-clause-value : goal.returns-clause-value
returns-clause-value c _ =
    let s = c.args.s.now in
    let i = c.loop-i.i in
    let whole = c.args.self.now.text.now in
    let none : drop i s ≡ [] = grind (arith, common_steps) in
    c.loop-i.invariant ∙ ap (λ t. with_front (take i s) (single whole c.args.start t)) none ∙ ap (with_front (take i s)) (single-none whole c.args.start)
