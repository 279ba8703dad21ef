-- Lists of bytes.
use Rattle.std.proofs.Common.{◌≡◌, ℕ, zero, suc, ◌+◌, ◌/◌, ◌%◌, ◌<◌, Bool, true, false, cond, nat_lt, List, [], ◌∷◌, ◌++◌, IsUtf8, encode_utf8, inl, inr, refl, subst, arith, ltb-true}
use Rattle.std.proofs.lemmas.Bool.{and_parts}
use Rattle.std.specs.Prelude.{⊤}
use Rattle.base64.specs.GeneralPurpose.{IsBytes}
use lib.Utf8.{scalar, scalars, encode, encodes, scalar_cases}

-- each is a byte
abbrev pub Bytes : List ℕ → Type 0
Bytes [] = ⊤
Bytes (c ∷ t) = (c < 256) × Bytes t

pub bytes-from : (t : List ℕ) → IsBytes t → Bytes t
bytes-from [] is = tt
bytes-from (c ∷ t) is = (is zero, bytes-from t (λ i. is (suc i)))

pub bytes-to : (t : List ℕ) → Bytes t → IsBytes t
bytes-to [] is i = omega arith
bytes-to (c ∷ t) is zero = is.0
bytes-to (c ∷ t) is (suc i) = bytes-to t is.1 i

pub bytes-append : (s t : List ℕ) → Bytes s → Bytes t → Bytes (s ++ t)
bytes-append [] t is more = more
bytes-append (c ∷ s) t is more = (is.0, bytes-append s t is.1 more)

pub bytes-cond : (b : Bool) (s t : List ℕ) → (b ≡ true → Bytes s) → (b ≡ false → Bytes t) → Bytes (cond b s t)
bytes-cond true s t if_so if_not = if_so refl
bytes-cond false s t if_so if_not = if_not refl

-- the bytes of a character
pub bytes-encode : (c : ℕ) → c < 1114112 → Bytes (encode_utf8 c)
unfolding encode_utf8
bytes-encode c small =
    bytes-cond (nat_lt c 128) (c ∷ []) _ (λ e. let low = ltb-true c 128 e in (omega arith, tt)) (λ e1.
    bytes-cond (nat_lt c 2048) ((192 + c / 64) ∷ (128 + c % 64) ∷ []) _ (λ e. let low = ltb-true c 2048 e in (omega arith, (omega arith, tt))) (λ e2.
    bytes-cond (nat_lt c 65536) ((224 + c / 4096) ∷ (128 + (c / 64) % 64) ∷ (128 + c % 64) ∷ []) ((240 + c / 262144) ∷ (128 + (c / 4096) % 64) ∷ (128 + (c / 64) % 64) ∷ (128 + c % 64) ∷ [])
    (λ e. let low = ltb-true c 65536 e in (omega arith, (omega arith, (omega arith, tt))))
    (λ e3. (omega arith, (omega arith, (omega arith, (omega arith, tt)))))))

bytes-encodes : (cs : List ℕ) → scalars cs ≡ true → Bytes (encodes cs)
bytes-encodes [] e = tt
bytes-encodes (c ∷ cs) e =
    let p = and_parts (scalar c) (scalars cs) e in
    let small : c < 1114112 = elim (scalar_cases c p.0) [ inl low ↦ omega arith | inr high ↦ omega arith ] in
    bytes-append (encode c) (encodes cs) (bytes-encode c small) (bytes-encodes cs p.1)

pub bytes-utf8 : (t : List ℕ) → IsUtf8 t → Bytes t
bytes-utf8 t u = subst Bytes u.1.1 (bytes-encodes u.0 u.1.0)
