-- The unescaped content of a string of bytes is bytes.
use Rattle.std.proofs.Common.{◌≡◌, ℕ, ◌+◌, ◌*◌, ◌<◌, Bool, true, false, cond, ◌&&◌, ◌||◌, ◌==◌, nat_lt, nat_le, List, [], ◌∷◌, Option, Some, None, option_and_then, encode_utf8, refl, arith, ltb-true}
use Rattle.std.proofs.lemmas.Bool.{and_parts}
use Rattle.std.specs.Prelude.{⊤}
use Rattle.std.specs.Char.{digit_value, is_digit}
use Rattle.json.specs.Text.{code_unit, short_escape, is_high_surrogate, is_low_surrogate, surrogate_pair, Within, plain, after_backslash, after_u, after_high, prepend, content}
use Rattle.sal_json_laws.proofs.Bytes.{Bytes, bytes-append, bytes-encode}

abbrev pub IfBytes : Option (List ℕ) → Type 0
IfBytes None = ⊤
IfBytes (Some s) = Bytes s

abbrev Below : ℕ → Option ℕ → Type 0
Below n None = ⊤
Below n (Some c) = c < n

if_bytes : (b : Bool) (r s : Option (List ℕ)) → (b ≡ true → IfBytes r) → (b ≡ false → IfBytes s) → IfBytes (cond b r s)
if_bytes true r s if_so if_not = if_so refl
if_bytes false r s if_so if_not = if_not refl

if_below : (n : ℕ) (b : Bool) (r s : Option ℕ) → (b ≡ true → Below n r) → Below n s → Below n (cond b r s)
if_below n true r s if_so if_not = if_so refl
if_below n false r s if_so if_not = if_not

prepended : (front : List ℕ) (rest : Option (List ℕ)) → Bytes front → IfBytes rest → IfBytes (prepend front rest)
prepended front None is more = tt
prepended front (Some s) is more = bytes-append front s is more

bytes_then : (n : ℕ) (f : ℕ → Option (List ℕ)) (o : Option ℕ) → Below n o → ((c : ℕ) → c < n → IfBytes (f c)) → IfBytes (option_and_then f o)
bytes_then n f None small h = tt
bytes_then n f (Some c) small h = h c small

unit_small : (a b c d : ℕ) → Below 65536 (code_unit a b c d)
unfolding code_unit
unit_small a b c d =
    if_below 65536 (is_digit a 16 && is_digit b 16 && is_digit c 16 && is_digit d 16) (Some (digit_value a * 4096 + digit_value b * 256 + digit_value c * 16 + digit_value d)) None (λ e.
    let p = and_parts (is_digit a 16 && is_digit b 16 && is_digit c 16) (is_digit d 16) e in
    let q = and_parts (is_digit a 16 && is_digit b 16) (is_digit c 16) p.0 in
    let r = and_parts (is_digit a 16) (is_digit b 16) q.0 in
    sum (digit_value a) (digit_value b) (digit_value c) (digit_value d) (ltb-true (digit_value a) 16 r.0) (ltb-true (digit_value b) 16 r.1) (ltb-true (digit_value c) 16 q.1) (ltb-true (digit_value d) 16 p.1)) tt
  where
    sum : (x y z w : ℕ) → x < 16 → y < 16 → z < 16 → w < 16 → x * 4096 + y * 256 + z * 16 + w < 65536
    sum x y z w hx hy hz hw = omega arith

escape_small : (x : ℕ) → x < 256 → Below 256 (short_escape x)
unfolding short_escape
escape_small x is =
    if_below 256 ((x == 34) || (x == 92) || (x == 47)) (Some x) _ (λ e. is)
    (if_below 256 (x == 98) (Some 8) _ (λ e. omega arith)
    (if_below 256 (x == 102) (Some 12) _ (λ e. omega arith)
    (if_below 256 (x == 110) (Some 10) _ (λ e. omega arith)
    (if_below 256 (x == 114) (Some 13) _ (λ e. omega arith)
    (if_below 256 (x == 116) (Some 9) None (λ e. omega arith) tt)))))

-- a high surrogate that was read is one
abbrev IsRight : Within → Type 0
IsRight plain = ⊤
IsRight after_backslash = ⊤
IsRight after_u = ⊤
IsRight (after_high h) = h < 0xdc00

low_below : (l : ℕ) → is_low_surrogate l ≡ true → l < 0xe000
low_below l e = ltb-true l 0xe000 (and_parts (nat_le 0xdc00 l) (nat_lt l 0xe000) e).1

high_below : (u : ℕ) → is_high_surrogate u ≡ true → u < 0xdc00
high_below u e = ltb-true u 0xdc00 (and_parts (nat_le 0xd800 u) (nat_lt u 0xdc00) e).1

pair_small : (h l : ℕ) → h < 0xdc00 → l < 0xe000 → surrogate_pair h l < 1114112
pair_small h l high low = omega arith

pub content-bytes : (w : Within) (xs : List ℕ) → IsRight w → Bytes xs → IfBytes (content w xs)
unfolding content
content-bytes plain [] right is = tt
content-bytes plain (x ∷ xs) right is =
    if_bytes (x == 34) (Some []) _ (λ e. tt) (λ e1.
    if_bytes (x == 92) (content after_backslash xs) _ (λ e. content-bytes after_backslash xs tt is.1) (λ e2.
    if_bytes (nat_lt x 32) None (prepend (x ∷ []) (content plain xs)) (λ e. tt) (λ e3. prepended (x ∷ []) (content plain xs) (is.0, tt) (content-bytes plain xs tt is.1))))
content-bytes after_backslash [] right is = tt
content-bytes after_backslash (x ∷ xs) right is =
    if_bytes (x == 117) (content after_u xs) _ (λ e. content-bytes after_u xs tt is.1) (λ e.
    bytes_then 256 (λ c. prepend (c ∷ []) (content plain xs)) (short_escape x) (escape_small x is.0) (λ c small. prepended (c ∷ []) (content plain xs) (small, tt) (content-bytes plain xs tt is.1)))
content-bytes after_u [] right is = tt
content-bytes after_u (a ∷ []) right is = tt
content-bytes after_u (a ∷ b ∷ []) right is = tt
content-bytes after_u (a ∷ b ∷ c ∷ []) right is = tt
content-bytes after_u (a ∷ b ∷ c ∷ d ∷ xs) right is =
    let rest = is.1.1.1.1 in
    bytes_then 65536 (λ u. cond (is_high_surrogate u) (content (after_high u) xs) (cond (is_low_surrogate u) None (prepend (encode_utf8 u) (content plain xs)))) (code_unit a b c d) (unit_small a b c d) (λ u small.
    if_bytes (is_high_surrogate u) (content (after_high u) xs) _ (λ e. content-bytes (after_high u) xs (high_below u e) rest) (λ e1.
    if_bytes (is_low_surrogate u) None (prepend (encode_utf8 u) (content plain xs)) (λ e. tt) (λ e2.
    prepended (encode_utf8 u) (content plain xs) (bytes-encode u (omega arith)) (content-bytes plain xs tt rest))))
content-bytes (after_high h) [] right is = tt
content-bytes (after_high h) (s ∷ []) right is = tt
content-bytes (after_high h) (s ∷ u ∷ []) right is = tt
content-bytes (after_high h) (s ∷ u ∷ a ∷ []) right is = tt
content-bytes (after_high h) (s ∷ u ∷ a ∷ b ∷ []) right is = tt
content-bytes (after_high h) (s ∷ u ∷ a ∷ b ∷ c ∷ []) right is = tt
content-bytes (after_high h) (s ∷ u ∷ a ∷ b ∷ c ∷ d ∷ xs) right is =
    let rest = is.1.1.1.1.1.1 in
    if_bytes ((s == 92) && (u == 117)) (option_and_then (λ l. cond (is_low_surrogate l) (prepend (encode_utf8 (surrogate_pair h l)) (content plain xs)) None) (code_unit a b c d)) None (λ e.
    bytes_then 65536 (λ l. cond (is_low_surrogate l) (prepend (encode_utf8 (surrogate_pair h l)) (content plain xs)) None) (code_unit a b c d) (unit_small a b c d) (λ l small.
    if_bytes (is_low_surrogate l) (prepend (encode_utf8 (surrogate_pair h l)) (content plain xs)) None (λ e1.
    prepended (encode_utf8 (surrogate_pair h l)) (content plain xs) (bytes-encode (surrogate_pair h l) (pair_small h l right (low_below l e1))) (content-bytes plain xs tt rest)) (λ e1. tt))) (λ e. tt)
