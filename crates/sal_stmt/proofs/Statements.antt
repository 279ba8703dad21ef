-- Statements, one after another.
use Rattle.std.proofs.Common.{◌≡◌, ℕ, zero, suc, ◌-◌, ◌<◌, false, ◌==◌, [], ◌∷◌, drop, Ok, Err, if◌then◌else◌, refl, arith}
use Rattle.std.proofs.lemmas.Bool.Decides.{nat_tests}
use Rattle.sal_stmt.specs.declared.fault.StmtFault.TheVariants.{Unclosed, TooDeep}
use Rattle.sal_stmt.specs.declared.stmt.Stmt.{Stmt}
use Rattle.sal_stmt.specs.Words.{Text, first, is_empty}
use Rattle.sal_types.specs.Reading.{◌>>=◌, with_front}
use Rattle.sal_stmt.specs.Text.{Read, place, skip, made, turns, header, statements, statement}

-- one more statement of a block
pub statements_at : (whole : Text) (inner : Text → Read Stmt) (start n : ℕ) (t : Text) → 0 < n
    → statements whole inner start n t ≡ (skip whole t >>= λ here.
    if is_empty here then Err (Unclosed start)
    else if first here == 125 then Ok ([], drop 1 here)
    else (inner here >>= λ one. with_front (one.0 ∷ []) (statements whole inner start (n - 1) one.1)))
unfolding statements
statements_at whole inner start zero t h = absurd (omega arith)
statements_at whole inner start (suc n) t h = let less : suc n - 1 ≡ n = omega arith in rw less refl

-- and the first token of it
pub statements_here : (whole : Text) (inner : Text → Read Stmt) (start n : ℕ) (t here : Text) → 0 < n → skip whole t ≡ Ok here
    → statements whole inner start n t ≡ (
    if is_empty here then Err (Unclosed start)
    else if first here == 125 then Ok ([], drop 1 here)
    else (inner here >>= λ one. with_front (one.0 ∷ []) (statements whole inner start (n - 1) one.1)))
statements_here whole inner start n t here some is = rw is at (statements_at whole inner start n t some)

statement-zero : (whole : Text) (t : Text)
    → statement whole 0 t ≡ (header whole t >>= λ head.
    if first head.1 == 59 then Ok (made (place whole t) head.0 [], drop 1 head.1)
    else Err (TooDeep (place whole head.1)))
unfolding statement
statement-zero whole t = refl

statement-suc : (whole : Text) (levels : ℕ) (t : Text)
    → statement whole (suc levels) t ≡ (header whole t >>= λ head.
    if first head.1 == 59 then Ok (made (place whole t) head.0 [], drop 1 head.1)
    else (statements whole (statement whole levels) (place whole head.1) (turns (drop 1 head.1)) (drop 1 head.1) >>= λ block.
    Ok (made (place whole t) head.0 block.0, block.1)))
unfolding statement
statement-suc whole levels t = refl

pub statement_at : (whole : Text) (levels : ℕ) (t : Text)
    → statement whole levels t ≡ (header whole t >>= λ head.
    if first head.1 == 59 then Ok (made (place whole t) head.0 [], drop 1 head.1)
    else if levels == 0 then Err (TooDeep (place whole head.1))
    else (statements whole (statement whole (levels - 1)) (place whole head.1) (turns (drop 1 head.1)) (drop 1 head.1) >>= λ block.
    Ok (made (place whole t) head.0 block.0, block.1)))
statement_at whole zero t = statement-zero whole t
statement_at whole (suc levels) t =
    let less : suc levels - 1 ≡ levels = omega arith in
    let some : (suc levels == 0) ≡ false = grind (arith, nat_tests) in
    rw (less, some) (statement-suc whole levels t)
