-- Separators, from one byte to the next.
use Rattle.std.proofs.Common.{◌≡◌, ℕ, zero, suc, ◌+◌, ◌-◌, ◌<◌, ◌≤◌, ◌==◌, [], ◌∷◌, length, drop, get_or, Ok, Err, if◌then◌else◌, refl, arith, length-drop}
use Rattle.std.proofs.lemmas.List.{drop_more, drop-drop}
use Rattle.sal_stmt.specs.declared.fault.StmtFault.TheVariants.{BadToken, Unclosed}
use Rattle.sal_stmt.specs.Words.{Text, first, is_blank, is_control, starts_line_comment, starts_block_comment, ends_block_comment}
use Rattle.sal_types.specs.Reading.{◌>>=◌}
use Rattle.sal_stmt.specs.Text.{place, line_comment, block_comment, separators}

pub line_comment_at : (whole t : Text) (i : ℕ) → i < length t
    → line_comment whole (drop i t) ≡ (if get_or t i 0 == 10 then Ok (drop i t) else if is_control (get_or t i 0) then Err (BadToken (length whole - (length t - i))) else line_comment whole (drop (i + 1) t))
unfolding line_comment
line_comment_at whole t i h =
    let left : length t - i ≡ suc (length (drop (i + 1) t)) = omega (arith, length-drop {A = ℕ}) in
    rw (drop_more t i 0 h, left) refl

pub line_comment-none : (whole : Text) → line_comment whole [] ≡ Ok []
unfolding line_comment
line_comment-none whole = refl

pub block_comment_at : (whole t : Text) (start i : ℕ) → i < length t
    → block_comment whole start (drop i t) ≡ (if ends_block_comment (drop i t) then Ok (drop (i + 2) t) else if is_control (get_or t i 0) then Err (BadToken (length whole - (length t - i))) else block_comment whole start (drop (i + 1) t))
unfolding block_comment
block_comment_at whole t start i h =
    let left : length t - i ≡ suc (length (drop (i + 1) t)) = omega (arith, length-drop {A = ℕ}) in
    let two = drop-drop 2 i t in
    rw (← two, drop_more t i 0 h, left) refl

pub block_comment-none : (whole : Text) (start : ℕ) → block_comment whole start [] ≡ Err (Unclosed start)
unfolding block_comment
block_comment-none whole start = refl

-- one separator
pub separators_at : (whole t : Text) (n : ℕ) → length t ≤ n
    → separators whole n t ≡ (
    if is_blank (first t) then separators whole (n - 1) (drop 1 t)
    else if starts_line_comment t then (line_comment whole (drop 2 t) >>= separators whole (n - 1))
    else if starts_block_comment t then (block_comment whole (place whole t) (drop 2 t) >>= separators whole (n - 1))
    else Ok t
    )
unfolding separators
separators_at whole [] zero h = refl
separators_at whole (c ∷ t) zero h = absurd (omega arith)
separators_at whole t (suc n) h = let less : suc n - 1 ≡ n = omega arith in rw less refl
