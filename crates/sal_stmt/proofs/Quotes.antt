-- Strings in quotes, from one piece to the next.
use Rattle.std.proofs.Common.{◌≡◌, ℕ, zero, suc, ◌+◌, ◌-◌, ◌<◌, Bool, true, false, not, ◌&&◌, ◌==◌, List, [], ◌∷◌, ◌++◌, length, take, drop, get_or, reverse, refl, sym, ap, ◌∙◌, subst, inl, inr, arith, add-zero, get_or-drop, length-drop, append_assoc, append-nil, eq-eqb, nat_le, if◌then◌else◌}
use Rattle.std.specs.Prelude.{replicate}
use Rattle.std.proofs.lemmas.Bool.{cases_Bool, cases_lt}
use Rattle.std.proofs.lemmas.Bool.Decides.{nat_tests}
use Rattle.std.proofs.lemmas.List.{drop-drop, nil_from_length, get_or-reverse}
use Rattle.std.proofs.lemmas.List.Splits.{slice_split_first, length-slice_split}
use Rattle.std.proofs.lemmas.List.Sums.{prefix_len-le-length, prefix_len_passes, prefix_len_stops, suffix_len-le-length}
use Rattle.std.proofs.lemmas.Str.{IsCharBoundary-end, IsCharBoundary-before_ascii}
use Rattle.std.specs.Str.{IsCharBoundary}
use Rattle.std.specs.List.{prefix_len, slice_split}
use Rattle.sal_stmt.specs.Quoted.{is_space, is_escape, escaped, plain_len, line_len, blank_end_len, unescape, trim_end, without_return, without_indent, join_lines, content}

-- a run ends where a character does, if only an ASCII byte stops it
pub IsCharBoundary-run : (p : ℕ → Bool) (bs : List ℕ) → ((c : ℕ) → p c ≡ false → c < 128) → IsCharBoundary bs (prefix_len p bs)
IsCharBoundary-run p bs ascii =
    elim (cases_lt (prefix_len p bs) (length bs)) [
      | inl within ↦ IsCharBoundary-before_ascii bs _ within (ascii _ (prefix_len_stops p bs 0 within))
      | inr past ↦ subst (IsCharBoundary bs) (omega (arith, prefix_len-le-length p bs)) (IsCharBoundary-end bs)
    ]

pub IsCharBoundary-plain_len : (bs : List ℕ) → IsCharBoundary bs (plain_len bs)
IsCharBoundary-plain_len bs = IsCharBoundary-run (λ c. not (c == 92)) bs (λ c e. grind (arith, nat_tests))

pub IsCharBoundary-line_len : (bs : List ℕ) → IsCharBoundary bs (line_len bs)
IsCharBoundary-line_len bs = IsCharBoundary-run (λ c. not (c == 10)) bs (λ c e. grind (arith, nat_tests))

-- the byte at which the trimmed end begins is a space or a tab
blank_end-space : (bs : List ℕ) → 0 < blank_end_len bs → is_space (get_or bs (length bs - blank_end_len bs) 0) ≡ true
blank_end-space bs some =
    let le = suffix_len-le-length is_space bs in
    let last = prefix_len_passes is_space (reverse bs) (blank_end_len bs - 1) 0 (omega arith) in
    let same = get_or-reverse bs (blank_end_len bs - 1) 0 (omega arith) in
    let place : length bs - 1 - (blank_end_len bs - 1) ≡ length bs - blank_end_len bs = omega arith in
    rw (same, place) at last

pub IsCharBoundary-blank_end : (bs : List ℕ) → IsCharBoundary bs (length bs - blank_end_len bs)
IsCharBoundary-blank_end bs =
    let le = suffix_len-le-length is_space bs in
    elim (cases_lt 0 (blank_end_len bs)) [
      | inl some ↦ let space = blank_end-space bs some in IsCharBoundary-before_ascii bs _ (omega arith) (grind (arith, nat_tests))
      | inr none ↦ subst (IsCharBoundary bs) (omega arith) (IsCharBoundary-end bs)
    ]

unescape-cons : (c d : ℕ) (t : List ℕ) → unescape (c ∷ d ∷ t) ≡ (if c == 92 && is_escape d then escaped d ∷ unescape t else c ∷ unescape (d ∷ t))
unfolding unescape
unescape-cons c d t = refl

unescape-one : (c : ℕ) → unescape (c ∷ []) ≡ c ∷ []
unfolding unescape
unescape-one c = refl

pub unescape-none : unescape [] ≡ []
unfolding unescape
unescape-none = refl

-- up to the first backslash a text stays as it is
pub unescape-plain : (t : List ℕ) → unescape t ≡ take (plain_len t) t ++ unescape (drop (plain_len t) t)
unescape-plain [] = refl
unescape-plain (c ∷ []) = elim (cases_Bool (c == 92)) [ inl e ↦ rw e refl | inr e ↦ rw (e, unescape-none) (unescape-one c) ]
unescape-plain (c ∷ d ∷ t) = elim (cases_Bool (c == 92)) [
  | inl e ↦ rw e refl
  | inr e ↦
      let go : unescape (c ∷ d ∷ t) ≡ c ∷ unescape (d ∷ t) = unescape-cons c d t ∙ rw e in
      let len : 1 + plain_len (d ∷ t) ≡ suc (plain_len (d ∷ t)) = omega arith in
      rw (e, len) (go ∙ ap (λ r. c ∷ r) (unescape-plain (d ∷ t)))
]

unescape-plain_byte : (c : ℕ) (t : List ℕ) → (c == 92) ≡ false → unescape (c ∷ t) ≡ c ∷ unescape t
unescape-plain_byte c [] e = rw unescape-none (unescape-one c)
unescape-plain_byte c (d ∷ t) e = unescape-cons c d t ∙ rw e

pub unescape-spaces : (n : ℕ) (t : List ℕ) → unescape (replicate n 32 ++ t) ≡ replicate n 32 ++ unescape t
unescape-spaces zero t = refl
unescape-spaces (suc n) t = unescape-plain_byte 32 (replicate n 32 ++ t) refl ∙ ap (λ r. 32 ∷ r) (unescape-spaces n t)

-- the byte after the bytes before the first backslash is a backslash
pub plain_len-stops : (t : List ℕ) → 0 < length (drop (plain_len t) t) → get_or (drop (plain_len t) t) 0 0 ≡ 92
plain_len-stops t h =
    let within : plain_len t < length t = omega (arith, h, length-drop (plain_len t) t) in
    let stop = prefix_len_stops (λ c. not (c == 92)) t 0 within in
    let same = get_or-drop (plain_len t) t 0 0 in
    rw (same, add-zero) (grind (arith, nat_tests))

pub unescape-backslash : (t : List ℕ) → get_or t 0 0 ≡ 92 → unescape t ≡ (if is_escape (get_or t 1 0) then escaped (get_or t 1 0) ∷ unescape (drop 2 t) else 92 ∷ unescape (drop 1 t))
unfolding unescape
unescape-backslash [] e = absurd (omega arith)
unescape-backslash (c ∷ []) e = ap (λ x. x ∷ []) e
unescape-backslash (c ∷ d ∷ t) e = let test : (c == 92) ≡ true = eq-eqb c 92 e in rw (test, e) refl

pub without_indent_at : (width : ℕ) (t : List ℕ) → without_indent width t ≡ (
    if width == 0 then t
    else if get_or t 0 0 == 32 then without_indent (width - 1) (drop 1 t)
    else if not (get_or t 0 0 == 9) then t
    else if nat_le 8 width then without_indent (width - 8) (drop 1 t)
    else replicate (8 - width) 32 ++ drop 1 t
    )
unfolding without_indent
without_indent_at width [] = elim (cases_Bool (width == 0)) [ inl e ↦ rw e | inr e ↦ rw e ]
without_indent_at width (c ∷ t) = refl

-- the first line of a text
pub split_last : (t : List ℕ) → length (drop (line_len t) t) ≡ 0 → slice_split (λ c. c == 10) t ≡ take (line_len t) t ∷ []
split_last [] h = refl
split_last (c ∷ t) h = elim (cases_Bool (c == 10)) [
  | inl e ↦ let h' = rw e at h in absurd (omega arith)
  | inr e ↦
      let h' = rw e at h in
      let len : 1 + line_len t ≡ suc (line_len t) = omega arith in
      let h'' = rw len at h' in
      rw (e, len, split_last t h'') refl
]

pub split_more : (t : List ℕ) → 0 < length (drop (line_len t) t) → slice_split (λ c. c == 10) t ≡ take (line_len t) t ∷ slice_split (λ c. c == 10) (drop 1 (drop (line_len t) t))
split_more t h =
    let within : line_len t < length t = omega (arith, h, length-drop (line_len t) t) in
    rw drop-drop (slice_split_first (λ c. c == 10) t 0 within)

pub line_len-stops : (t : List ℕ) → 0 < length (drop (line_len t) t) → get_or (drop (line_len t) t) 0 0 ≡ 10
line_len-stops t h =
    let within : line_len t < length t = omega (arith, h, length-drop (line_len t) t) in
    let stop = prefix_len_stops (λ c. not (c == 10)) t 0 within in
    let same = get_or-drop (line_len t) t 0 0 in
    rw (same, add-zero) (grind (arith, nat_tests))

pub join_lines-more : (indent later : ℕ) (line : List ℕ) (lines : List (List ℕ)) → 0 < length lines
    → join_lines indent later (line ∷ lines) ≡ unescape (without_indent indent (trim_end (without_return line))) ++ 10 ∷ join_lines later later lines
unfolding join_lines
join_lines-more indent later line [] h = absurd (omega arith)
join_lines-more indent later line (next ∷ lines) h = refl

pub join_lines-one : (indent later : ℕ) (line : List ℕ) → join_lines indent later (line ∷ []) ≡ unescape (without_indent indent line)
unfolding join_lines
join_lines-one indent later line = refl

-- one piece of a line
pub unescape_done : (out rest plain after : List ℕ) → plain ≡ take (plain_len rest) rest → after ≡ drop (plain_len rest) rest → length after ≡ 0 → out ++ unescape rest ≡ out ++ plain
unescape_done out rest plain after front back none =
    let empty = nil_from_length after none in
    ap (λ t. out ++ t) (unescape-plain rest ∙ rw (← front, ← back, empty, unescape-none) (append-nil plain))

module _ (out rest plain after : List ℕ) (front : plain ≡ take (plain_len rest) rest) (back : after ≡ drop (plain_len rest) rest) (some : 0 < length after) where
  pub starts_backslash : get_or after 0 0 ≡ 92
  starts_backslash = let some' = rw back at some in rw back (plain_len-stops rest some')

  pub unescape_escape : is_escape (get_or after 1 0) ≡ true → out ++ unescape rest ≡ ((out ++ plain) ++ escaped (get_or after 1 0) ∷ []) ++ unescape (drop 2 after)
  unescape_escape e =
      let step = unescape-backslash after starts_backslash in
      let go = rw e at step in
      let whole : unescape rest ≡ plain ++ escaped (get_or after 1 0) ∷ unescape (drop 2 after) = unescape-plain rest ∙ rw (← front, ← back, go) refl in
      rw whole (simp append_assoc)

  pub unescape_other : is_escape (get_or after 1 0) ≡ false → out ++ unescape rest ≡ ((out ++ plain) ++ 92 ∷ []) ++ unescape (drop 1 after)
  unescape_other e =
      let step = unescape-backslash after starts_backslash in
      let go = rw e at step in
      let whole : unescape rest ≡ plain ++ 92 ∷ unescape (drop 1 after) = unescape-plain rest ∙ rw (← front, ← back, go) refl in
      rw whole (simp append_assoc)

-- one line of a text
pub lines_done : (out : List ℕ) (indent later : ℕ) (rest line after : List ℕ) → line ≡ take (line_len rest) rest → after ≡ drop (line_len rest) rest → length after ≡ 0
    → out ++ join_lines indent later (slice_split (λ c. c == 10) rest) ≡ out ++ unescape (without_indent indent line)
lines_done out indent later rest line after front back none =
    let none' = rw back at none in
    ap (λ t. out ++ t) (ap (join_lines indent later) (split_last rest none') ∙ rw (← front) (join_lines-one indent later line))

pub lines_more : (out : List ℕ) (indent later : ℕ) (rest line after : List ℕ) → line ≡ take (line_len rest) rest → after ≡ drop (line_len rest) rest → 0 < length after
    → out ++ join_lines indent later (slice_split (λ c. c == 10) rest) ≡ ((out ++ unescape (without_indent indent (trim_end (without_return line)))) ++ 10 ∷ []) ++ join_lines later later (slice_split (λ c. c == 10) (drop 1 after))
lines_more out indent later rest line after front back some =
    let some' = rw back at some in
    let more = length-slice_split (λ c. c == 10) (drop 1 after) in
    let split : slice_split (λ c. c == 10) rest ≡ line ∷ slice_split (λ c. c == 10) (drop 1 after) = split_more rest some' ∙ rw (← front, ← back) refl in
    let whole = join_lines-more indent later line (slice_split (λ c. c == 10) (drop 1 after)) (omega (arith, more)) in
    rw (split, whole) (simp append_assoc)

pub line_starts_break : (rest after : List ℕ) → after ≡ drop (line_len rest) rest → 0 < length after → get_or after 0 0 ≡ 10
line_starts_break rest after back some = let some' = rw back at some in rw back (line_len-stops rest some')

-- Without a line break the column plays no part.
pub content-one_line : (column other : ℕ) (raw : List ℕ) → line_len raw ≡ length raw → content column raw ≡ content other raw
unfolding content
content-one_line column other raw e =
    let none : length (drop (line_len raw) raw) ≡ 0 = omega (arith, e, length-drop (line_len raw) raw) in
    rw (split_last raw none) (join_lines-one 0 (column + 1) (take (line_len raw) raw) ∙ sym (join_lines-one 0 (other + 1) (take (line_len raw) raw)))
