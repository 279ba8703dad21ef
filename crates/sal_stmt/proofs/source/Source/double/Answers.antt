use Rattle.std.proofs.Common.{◌≡◌, ◌∙◌, ◌+◌, ◌<◌, [], ◌∷◌, length, take, drop, get_or, Ok, Err, arith, ap}
use Rattle.std.proofs.lemmas.Grind.{common_steps}
use Rattle.std.proofs.lemmas.Bool.Decides.{nat_tests}
use Rattle.sal_stmt.specs.declared.fault.StmtFault.TheVariants.{BadToken, BadEscape, Unclosed}
use Rattle.sal_types.specs.Reading.{with_front}
use Rattle.sal_stmt.specs.Text.{double}
use Rattle.sal_stmt.proofs.Strings.{double_at, double-none, with_front-with_front, take_one, take_two}
use Rattle.sal_stmt.proofs.source.Source.double.Goals as goal

pub returns-then-c-eq34-clause-value : goal.returns-then-c-eq34-clause-value
returns-then-c-eq34-clause-value c =
    let s = c.args.s.now in
    let i = c.bytes.i in
    let whole = c.args.self.now.text.now in
    let step = double_at whole s c.args.start i (omega (arith, c.as_bytes-bytes.ensures.len)) in
    let done : double whole c.args.start (drop i s) ≡ Ok ([], drop (i + 1) s) = grind (arith, nat_tests, common_steps) in
    c.bytes.invariant.1 ∙ ap (with_front (take i s)) done ∙ grind (arith, common_steps)

pub returns-then-is_control-clause-value : goal.returns-then-is_control-clause-value
returns-then-is_control-clause-value c _ =
    let s = c.args.s.now in
    let i = c.bytes.i in
    let whole = c.args.self.now.text.now in
    let step = double_at whole s c.args.start i (omega (arith, c.as_bytes-bytes.ensures.len)) in
    let done : double whole c.args.start (drop i s) ≡ Err (BadToken c.place.result) = grind (arith, nat_tests, common_steps) in
    c.bytes.invariant.1 ∙ ap (with_front (take i s)) done

pub bytes-preserved-then-c-ne92 : goal.bytes-preserved-then-c-ne92
bytes-preserved-then-c-ne92 c =
    let s = c.args.s.now in
    let i = c.bytes.i in
    let whole = c.args.self.now.text.now in
    let step = double_at whole s c.args.start i (omega (arith, c.as_bytes-bytes.ensures.len)) in
    let done : double whole c.args.start (drop i s) ≡ with_front (get_or s i 0 ∷ []) (double whole c.args.start (drop (i + 1) s)) = grind (arith, nat_tests, common_steps) in
    (omega (arith, c.as_bytes-bytes.ensures.len), c.bytes.invariant.1 ∙ ap (with_front (take i s)) done ∙ with_front-with_front (take i s) _ _ ∙ ap (λ t. with_front t (double whole c.args.start (drop (i + 1) s))) (take_one s i (omega (arith, c.as_bytes-bytes.ensures.len))))

pub returns-then-i-bytes-clause-value : goal.returns-then-i-bytes-clause-value
returns-then-i-bytes-clause-value c _ =
    let s = c.args.s.now in
    let i = c.bytes.i in
    let whole = c.args.self.now.text.now in
    let step = double_at whole s c.args.start i (omega (arith, c.as_bytes-bytes.ensures.len)) in
    let none : length (drop (i + 1) s) ≡ 0 = grind (arith, common_steps) in
    let done : double whole c.args.start (drop i s) ≡ Err (Unclosed c.args.start) = grind (arith, nat_tests, common_steps) in
    c.bytes.invariant.1 ∙ ap (with_front (take i s)) done

pub returns-then-not-is_escape-clause-value : goal.returns-then-not-is_escape-clause-value
returns-then-not-is_escape-clause-value c _ =
    let s = c.args.s.now in
    let i = c.bytes.i in
    let whole = c.args.self.now.text.now in
    let step = double_at whole s c.args.start i (omega (arith, c.as_bytes-bytes.ensures.len)) in
    let some : 0 < length (drop (i + 1) s) = grind (arith, common_steps) in
    let done : double whole c.args.start (drop i s) ≡ Err (BadEscape c.place-then-not-is_escape.result) = grind (arith, nat_tests, common_steps) in
    c.bytes.invariant.1 ∙ ap (with_front (take i s)) done

pub bytes-preserved : goal.bytes-preserved
bytes-preserved c =
    let s = c.args.s.now in
    let i = c.bytes.i in
    let whole = c.args.self.now.text.now in
    let step = double_at whole s c.args.start i (omega (arith, c.as_bytes-bytes.ensures.len)) in
    let some : 0 < length (drop (i + 1) s) = grind (arith, common_steps) in
    let done : double whole c.args.start (drop i s) ≡ with_front (get_or s i 0 ∷ get_or s (i + 1) 0 ∷ []) (double whole c.args.start (drop (i + 2) s)) = grind (arith, nat_tests, common_steps) in
    (omega (arith, c.as_bytes-bytes.ensures.len), c.bytes.invariant.1 ∙ ap (with_front (take i s)) done ∙ with_front-with_front (take i s) _ _ ∙ ap (λ t. with_front t (double whole c.args.start (drop (i + 2) s))) (take_two s i (omega (arith, c.as_bytes-bytes.ensures.len))))

pub returns-clause-value : goal.returns-clause-value
returns-clause-value c _ =
    let s = c.args.s.now in
    let i = c.bytes.i in
    let whole = c.args.self.now.text.now in
    let none : drop i s ≡ [] = grind (arith, common_steps) in
    c.bytes.invariant.1 ∙ ap (λ t. with_front (take i s) (double whole c.args.start t)) none ∙ ap (with_front (take i s)) (double-none whole c.args.start)
