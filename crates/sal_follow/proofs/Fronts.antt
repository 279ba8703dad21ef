-- A judged front of bytes stays when more bytes come.
use Rattle.std.proofs.Common.{◌≡◌, inl, inr, ℕ, ◌+◌, ◌-◌, ◌<◌, ◌≤◌, ◌&&◌, ◌==◌, Bool, true, false, List, [], ◌∷◌, ◌++◌, length, take, drop, Option, Some, None, if◌then◌else◌, refl, ap, sym, ◌∙◌, arith, get_or, length-append, length-drop}
use Rattle.std.specs.Prelude.{nat_le, nat_lt, slice_index}
use Rattle.std.specs.List.{list_all}
use Rattle.std.specs.Option.{option_map_or}
use Rattle.std.proofs.lemmas.Bool.{cases_lt}
use Rattle.std.proofs.lemmas.Bool.Decides.{nat_tests}
use Rattle.std.proofs.lemmas.List.{take-append-le, drop-append-le, get_or_append_left, append_assoc, get_or-append_right, drop-drop}
use Rattle.sal_follow.specs.declared.front.Front.{Front}
use Rattle.sal_follow.specs.declared.front.Front.TheVariants.{Part, Broken, Whole}
use Rattle.sal_follow.specs.Head.{is_digit, value_of, max_text, head, head_of}
use Rattle.sal_follow.specs.Front.{body, front, text_in, size_of, framed}
use Rattle.sal_follow.proofs.Heads.{head-read}

-- ---- a head after which more bytes come

abbrev head_by : List ℕ → ℕ → Option ℕ
head_by digits c = if (list_all is_digit digits && (c == 10)) && nat_le (value_of digits) max_text then Some (value_of digits) else None

pub head_stays : (x y : List ℕ) → 9 ≤ length x → head_of (x ++ y) ≡ head_of x
head_stays x y long = λ i. head_by (take-append-le 8 x y (omega arith) i) (get_or_append_left x y 0 8 (omega arith) i)

-- ---- the cases of a front

-- a body of n bytes, by the length of what is there and the byte after it
abbrev body_by : ℕ → ℕ → ℕ → Front
body_by n len c = if nat_lt n len then (if c == 10 then Whole n else Broken) else Part

-- if there are nine bytes or more
front-long : (x : List ℕ) → 9 ≤ length x → front x ≡ option_map_or (body (drop 9 x)) (head_of x) Broken
front-long x long = let e : nat_lt (length x) 9 ≡ false = grind (arith, nat_tests) in ap (λ b. if b then Part else option_map_or (body (drop 9 x)) (head_of x) Broken) e

front-short : (x : List ℕ) → length x < 9 → front x ≡ Part
front-short x short = let e : nat_lt (length x) 9 ≡ true = grind (arith, nat_tests) in ap (λ b. if b then Part else option_map_or (body (drop 9 x)) (head_of x) Broken) e

front-head : (x : List ℕ) (n : ℕ) → 9 ≤ length x → head_of x ≡ Some n → front x ≡ body (drop 9 x) n
front-head x n long e = front-long x long ∙ ap (λ o. option_map_or (body (drop 9 x)) o Broken) e

front-no_head : (x : List ℕ) → 9 ≤ length x → head_of x ≡ None → front x ≡ Broken
front-no_head x long e = front-long x long ∙ ap (λ o. option_map_or (body (drop 9 x)) o Broken) e

-- a body of n bytes that is not all there
body-part : (rest : List ℕ) (n : ℕ) → length rest ≤ n → body rest n ≡ Part
body-part rest n short = let e : nat_lt n (length rest) ≡ false = grind (arith, nat_tests) in ap (λ b. if b then (if slice_index rest n == 10 then Whole n else Broken) else Part) e

body-there : (rest : List ℕ) (n : ℕ) → n < length rest → body rest n ≡ (if slice_index rest n == 10 then Whole n else Broken)
body-there rest n long = let e : nat_lt n (length rest) ≡ true = grind (arith, nat_tests) in ap (λ b. if b then (if slice_index rest n == 10 then Whole n else Broken) else Part) e

body_stays : (x y : List ℕ) (n : ℕ) → n < length x → body (x ++ y) n ≡ body x n
body_stays x y n long =
    body-there (x ++ y) n (omega (arith, length-append x y)) ∙ ap (λ c. if c == 10 then Whole n else Broken) (get_or_append_left x y 0 n long) ∙ sym (body-there x n long)

-- which of Whole and Broken it is
abbrev ended : ℕ → Bool → Front
ended n b = if b then Whole n else Broken

ended-no_part : (n : ℕ) (b : Bool) → ended n b ≡ Part → ⊥
ended-no_part n true e = cc
ended-no_part n false e = cc

ended-whole : (m n : ℕ) (b : Bool) → ended m b ≡ Whole n → m ≡ n
ended-whole m n true e = cc
ended-whole m n false e = cc

part-no_whole : (f : Front) (n : ℕ) → f ≡ Part → f ≡ Whole n → ⊥
part-no_whole f n part whole = cc

broken-no_whole : (f : Front) (n : ℕ) → f ≡ Broken → f ≡ Whole n → ⊥
broken-no_whole f n broken whole = cc

front-there : (x : List ℕ) (n : ℕ) → head_of x ≡ Some n → n + 9 < length x → front x ≡ ended n (slice_index (drop 9 x) n == 10)
front-there x n e all = front-head x n (omega arith) e ∙ body-there (drop 9 x) n (omega (arith, length-drop 9 x))

front-partly : (x : List ℕ) (n : ℕ) → 9 ≤ length x → head_of x ≡ Some n → length x ≤ n + 9 → front x ≡ Part
front-partly x n long e some = front-head x n long e ∙ body-part (drop 9 x) n (omega (arith, length-drop 9 x))

zero_left : (n : ℕ) → n - n ≡ 0
zero_left n = omega arith

-- ---- more bytes

-- a front that is judged stays
pub stays : (x y : List ℕ) → (front x ≡ Part → ⊥) → front (x ++ y) ≡ front x
stays x y judged = elim (cases_lt (length x) 9) [
  | inl few ↦ absurd (judged (front-short x few))
  | inr long ↦
      let longer : 9 ≤ length (x ++ y) = omega (arith, length-append x y) in
      let same : head_of (x ++ y) ≡ head_of x = head_stays x y long in
      elim (head_of x) as (λ o. head_of x ≡ o → front (x ++ y) ≡ front x) [
        | None ↦ λ e. front-no_head (x ++ y) longer (same ∙ e) ∙ sym (front-no_head x long e)
        | Some n ↦ λ e. elim (cases_lt (n + 9) (length x)) [
          | inl all ↦
              let here : n < length (drop 9 x) = omega (arith, length-drop 9 x) in
              front-head (x ++ y) n longer (same ∙ e) ∙ ap (λ rest. body rest n) (drop-append-le 9 x y long) ∙ body_stays (drop 9 x) y n here ∙ sym (front-head x n long e)
          | inr some ↦ absurd (judged (front-partly x n long e some))
        ]
      ] refl
]

-- all bytes of a frame are there
pub whole-there : (x : List ℕ) (n : ℕ) → front x ≡ Whole n → (n + 9 < length x) × (head_of x ≡ Some n)
whole-there x n whole = elim (cases_lt (length x) 9) [
  | inl few ↦ absurd (part-no_whole (front x) n (front-short x few) whole)
  | inr long ↦ elim (head_of x) as (λ o. head_of x ≡ o → (n + 9 < length x) × (head_of x ≡ Some n)) [
    | None ↦ λ e. absurd (broken-no_whole (front x) n (front-no_head x long e) whole)
    | Some m ↦ λ e. elim (cases_lt (m + 9) (length x)) [
      | inl all ↦ let same : m ≡ n = ended-whole m n _ (sym (front-there x m e all) ∙ whole) in (omega arith, e ∙ ap Some same)
      | inr some ↦ absurd (part-no_whole (front x) n (front-partly x m long e some) whole)
    ]
  ] refl
]

-- and its text stays
pub text-stays : (x y : List ℕ) (n : ℕ) → front x ≡ Whole n → text_in (x ++ y) n ≡ text_in x n
text-stays x y n whole =
    let there : n + 9 < length x = (whole-there x n whole).0 in
    ap (take n) (drop-append-le 9 x y (omega arith)) ∙ take-append-le n (drop 9 x) y (omega (arith, length-drop 9 x))

-- a frame is judged at its last byte
pub at_last_byte : (r : List ℕ) (b n : ℕ) → front r ≡ Part → front (r ++ b ∷ []) ≡ Whole n → length (r ++ b ∷ []) ≡ size_of n
at_last_byte r b n part whole =
    let there = whole-there (r ++ b ∷ []) n whole in
    let all : n + 9 < length (r ++ b ∷ []) = there.0 in
    let more : length (r ++ b ∷ []) ≡ length r + 1 = length-append r (b ∷ []) in
    let long : 9 ≤ length r = omega arith in
    let e : head_of r ≡ Some n = sym (head_stays r (b ∷ []) long) ∙ there.1 in
    elim (cases_lt (n + 9) (length r)) [
      | inl early ↦ absurd (ended-no_part n _ (sym (front-there r n e early) ∙ part))
      | inr late ↦ omega arith
    ]

-- ---- frames that are written

-- a frame, and more bytes, part by part
pub framed-parts : (text rest : List ℕ) → framed text ++ rest ≡ head (length text) ++ (text ++ 10 ∷ rest)
framed-parts text rest = append_assoc (head (length text)) (text ++ 10 ∷ []) rest ∙ ap (λ t. head (length text) ++ t) (append_assoc text (10 ∷ []) rest)

pub front-framed : (text rest : List ℕ) → length text ≤ max_text → front (framed text ++ rest) ≡ Whole (length text)
front-framed text rest small =
    let n = length text in
    let all : List ℕ = head n ++ (text ++ 10 ∷ rest) in
    let here : head_of all ≡ Some n = head-read n (text ++ 10 ∷ rest) small in
    let there : n + 9 < length all = omega (arith, length-append text (10 ∷ rest)) in
    let last : get_or (text ++ 10 ∷ rest) n 0 ≡ 10 = get_or-append_right text (10 ∷ rest) n n 0 refl (omega arith) ∙ ap (λ i. get_or (10 ∷ rest) i 0) (zero_left n) in
    ap front (framed-parts text rest) ∙ front-there all n here there ∙ ap (λ c. ended n (c == 10)) last

take-all : (x y : List ℕ) → take (length x) (x ++ y) ≡ x
take-all [] y = refl
take-all (c ∷ x) y = ap (λ t. c ∷ t) (take-all x y)

drop-all : (x y : List ℕ) → drop (length x) (x ++ y) ≡ y
drop-all [] y = refl
drop-all (c ∷ x) y = drop-all x y

-- after the nine bytes of a head
behind_head : (x y : List ℕ) (n : ℕ) → length x ≡ 9 → drop (n + 10) (x ++ y) ≡ drop (n + 1) y
behind_head x y n nine =
    ap (λ k. drop k (x ++ y)) (omega arith) ∙ sym (drop-drop (n + 1) (length x) (x ++ y)) ∙ ap (drop (n + 1)) (drop-all x y)

-- after a list and `k` more elements
drop-past : (x y : List ℕ) (k : ℕ) → drop (length x + k) (x ++ y) ≡ drop k y
drop-past x y k = sym (drop-drop k (length x) (x ++ y)) ∙ ap (drop k) (drop-all x y)

pub frame-read : (text rest : List ℕ) → length text ≤ max_text
    → (front (framed text ++ rest) ≡ Whole (length text)) × (text_in (framed text ++ rest) (length text) ≡ text) × (drop (size_of (length text)) (framed text ++ rest) ≡ rest)
frame-read text rest small =
    let n = length text in
    let parts = framed-parts text rest in (
      front-framed text rest small,
      ap (λ all. text_in all n) parts ∙ take-all text (10 ∷ rest),
      ap (drop (size_of n)) parts ∙ behind_head (head n) (text ++ 10 ∷ rest) n refl ∙ drop-past text (10 ∷ rest) 1,
    )
