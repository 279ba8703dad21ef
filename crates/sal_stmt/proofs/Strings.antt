-- The content of quotes, from one byte to the next.
use Rattle.std.proofs.Common.{◌≡◌, ℕ, zero, suc, ◌+◌, ◌-◌, ◌<◌, false, not, ◌==◌, [], ◌∷◌, ◌++◌, length, take, drop, get_or, Ok, Err, if◌then◌else◌, refl, sym, ap, ◌∙◌, inl, inr, arith, length-drop, get_or-drop, append_assoc}
use Rattle.std.proofs.lemmas.Bool.{cases_Bool}
use Rattle.std.proofs.lemmas.Bool.Decides.{nat_tests}
use Rattle.std.proofs.lemmas.List.{drop_more, drop-drop, take_more}
use Rattle.sal_stmt.specs.declared.fault.StmtFault.TheVariants.{BadToken, BadEscape, Unclosed}
use Rattle.sal_stmt.specs.Words.{Text, first, is_control}
use Rattle.sal_stmt.specs.Quoted.{is_escape}
use Rattle.sal_types.specs.Reading.{◌>>=◌, with_front}
use Rattle.sal_stmt.specs.Text.{place, is_quote, within, single, double, quoted, joined}
pub use Rattle.sal_types.proofs.Handy.{with_front-with_front, with_front-nil}

pub single_at : (whole t : Text) (start i : ℕ) → i < length t
    → single whole start (drop i t) ≡ (
    if get_or t i 0 == 39 then Ok ([], drop (i + 1) t)
    else if is_control (get_or t i 0) then Err (BadToken (length whole - (length t - i)))
    else with_front (get_or t i 0 ∷ []) (single whole start (drop (i + 1) t))
    )
unfolding single
single_at whole t start i h =
    let left : length t - i ≡ suc (length (drop (i + 1) t)) = omega (arith, length-drop {A = ℕ}) in
    rw (drop_more t i 0 h, left) refl

pub single-none : (whole : Text) (start : ℕ) → single whole start [] ≡ Err (Unclosed start)
unfolding single
single-none whole start = refl

double-cons : (whole : Text) (start c : ℕ) (t : Text)
    → double whole start (c ∷ t) ≡ (
    if c == 34 then Ok ([], t)
    else if is_control c then Err (BadToken (length whole - suc (length t)))
    else if not (c == 92) then with_front (c ∷ []) (double whole start t)
    else if length t == 0 then Err (Unclosed start)
    else if is_escape (get_or t 0 0) then with_front (c ∷ get_or t 0 0 ∷ []) (double whole start (drop 1 t))
    else Err (BadEscape (length whole - suc (length t)))
    )
unfolding double
double-cons whole start c [] = elim (cases_Bool (c == 92)) [ inl e ↦ rw e refl | inr e ↦ rw e refl ]
double-cons whole start c (d ∷ t) = let no : (suc (length t) == 0) ≡ false = grind (arith, nat_tests) in rw no refl

pub double_at : (whole t : Text) (start i : ℕ) → i < length t
    → double whole start (drop i t) ≡ (
    if get_or t i 0 == 34 then Ok ([], drop (i + 1) t)
    else if is_control (get_or t i 0) then Err (BadToken (length whole - (length t - i)))
    else if not (get_or t i 0 == 92) then with_front (get_or t i 0 ∷ []) (double whole start (drop (i + 1) t))
    else if length (drop (i + 1) t) == 0 then Err (Unclosed start)
    else if is_escape (get_or t (i + 1) 0) then with_front (get_or t i 0 ∷ get_or t (i + 1) 0 ∷ []) (double whole start (drop (i + 2) t))
    else Err (BadEscape (length whole - (length t - i)))
    )
double_at whole t start i h =
    let left : length t - i ≡ suc (length (drop (i + 1) t)) = omega (arith, length-drop {A = ℕ}) in
    let next : get_or (drop (i + 1) t) 0 0 ≡ get_or t (i + 1) 0 = rw (get_or-drop (i + 1) t 0 0) (ap (λ k. get_or t k 0) (omega arith)) in
    let two : drop 1 (drop (i + 1) t) ≡ drop (i + 2) t = drop-drop 1 (i + 1) t ∙ ap (λ k. drop k t) (omega arith) in
    rw (left, ← next, ← two, drop_more t i 0 h) (double-cons whole start (get_or t i 0) (drop (i + 1) t))

pub double-none : (whole : Text) (start : ℕ) → double whole start [] ≡ Err (Unclosed start)
unfolding double
double-none whole start = refl

pub take_two : (t : Text) (i : ℕ) → i + 1 < length t → take i t ++ get_or t i 0 ∷ get_or t (i + 1) 0 ∷ [] ≡ take (i + 2) t
take_two t i h =
    let one = take_more t i 0 (omega arith) in
    let two = take_more t (i + 1) 0 h in
    let next : i + 1 + 1 ≡ i + 2 = omega arith in
    sym (rw (← next, two, one) (append_assoc (take i t) (get_or t i 0 ∷ []) (get_or t (i + 1) 0 ∷ [])))

pub take_one : (t : Text) (i : ℕ) → i < length t → take i t ++ get_or t i 0 ∷ [] ≡ take (i + 1) t
take_one t i h = sym (take_more t i 0 h)

-- one more string after a `+`
pub joined_at : (whole : Text) (statement n : ℕ) (t : Text) → 0 < n
    → joined whole statement n t ≡ (within whole statement t >>= λ here.
    if not (first here == 43) then Ok ([], here)
    else (within whole statement (drop 1 here) >>= λ next.
    if not (is_quote next) then Err (BadToken (place whole next))
    else (quoted whole next >>= λ part. with_front part.0 (joined whole statement (n - 1) part.1))))
unfolding joined
joined_at whole statement zero t h = absurd (omega arith)
joined_at whole statement (suc n) t h = let less : suc n - 1 ≡ n = omega arith in rw less refl

-- and the first token of it
pub joined_here : (whole : Text) (statement n : ℕ) (t here : Text) → 0 < n → within whole statement t ≡ Ok here
    → joined whole statement n t ≡ (
    if not (first here == 43) then Ok ([], here)
    else (within whole statement (drop 1 here) >>= λ next.
    if not (is_quote next) then Err (BadToken (place whole next))
    else (quoted whole next >>= λ part. with_front part.0 (joined whole statement (n - 1) part.1))))
joined_here whole statement n t here some is = rw is at (joined_at whole statement n t some)
