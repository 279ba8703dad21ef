-- Texts read from a text of bytes are bytes.
use Rattle.std.proofs.Common.{◌≡◌, ℕ, zero, suc, ◌+◌, ◌<◌, true, false, not, ◌==◌, [], ◌∷◌, take, drop, Some, None, Ok, if◌then◌else◌, subst, arith}
use Rattle.std.specs.Prelude.{⊤}
use Rattle.std.specs.List.{list_any, prefix_len, position_or_len, before_first, after_first}
use Rattle.base64.specs.GeneralPurpose.{IsBytes}
use Rattle.sal_types.specs.Reading.{◌>>=◌, with_front}
use Rattle.sal_schema.specs.Valid.{starts_identifier}
use Rattle.sal_json.proofs.Chosen.{same_ok}
use Rattle.sal_pathtext.specs.declared.fault.PathTextFault.TheVariants.{BadText}
use Rattle.sal_pathtext.specs.Words.{Text, Name, first, is_blank, after_blanks, word_len, is_double_quote, place, bad_text, expected, identifier, name, single, double, quoted, said, closed}
use Rattle.sal_pathtext.proofs.Fitting.{bind_ok}
use Rattle.sal_pathtext.proofs.Walked.{never}
use Rattle.sal_pathtext.proofs.WrittenNames.{from_word}

-- each is a byte
abbrev pub Bytes : Text → Type 0
Bytes [] = ⊤
Bytes (c ∷ t) = (c < 256) × Bytes t

pub bytes-from : (t : Text) → IsBytes t → Bytes t
bytes-from [] is = tt
bytes-from (c ∷ t) is = (is zero, bytes-from t (λ i. is (suc i)))

pub bytes-to : (t : Text) → Bytes t → IsBytes t
bytes-to [] is i = omega arith
bytes-to (c ∷ t) is zero = is.0
bytes-to (c ∷ t) is (suc i) = bytes-to t is.1 i

pub bytes-drop : (n : ℕ) (t : Text) → Bytes t → Bytes (drop n t)
bytes-drop zero t is = is
bytes-drop (suc n) [] is = tt
bytes-drop (suc n) (c ∷ t) is = bytes-drop n t is.1

bytes-take : (n : ℕ) (t : Text) → Bytes t → Bytes (take n t)
bytes-take zero t is = tt
bytes-take (suc n) [] is = tt
bytes-take (suc n) (c ∷ t) is = (is.0, bytes-take n t is.1)

abbrev pub AreBytes : Text × Text → Type 0
AreBytes p = Bytes p.0 × Bytes p.1

module _ (whole : Text) where
  -- ---- the text after a word

  pub expected-rest : (c : ℕ) (t rest : Text) → Bytes t → expected whole c t ≡ Ok rest → Bytes rest
  expected-rest c t rest is e = elim (first t == c) as (λ b. (if b then Ok (drop 1 t) else bad_text whole t) ≡ Ok rest → Bytes rest) [
    | true ↦ λ e1. subst Bytes (same_ok (drop 1 t) rest e1) (bytes-drop 1 t is)
    | false ↦ λ e1. never (BadText (place whole t)) rest e1
  ] e

  identifier-rest : (t : Text) (p : Text × Text) → Bytes t → identifier whole t ≡ Ok p → Bytes p.1
  identifier-rest t p is e = elim (starts_identifier (first t)) as (λ b. (if b then Ok (take (word_len t) t, drop (word_len t) t) else bad_text whole t) ≡ Ok p → Bytes p.1) [
    | true ↦ λ e1. subst (λ (q : Text × Text). Bytes q.1) (same_ok (take (word_len t) t, drop (word_len t) t) p e1) (bytes-drop (word_len t) t is)
    | false ↦ λ e1. never (BadText (place whole t)) p e1
  ] e

  pub name-rest : (t : Text) (p : Name × Text) → Bytes t → name whole t ≡ Ok p → Bytes p.1
  unfolding name
  name-rest t p is e =
      bind_ok (identifier whole t) (from_word whole) p e (λ one read e1.
      let after = identifier-rest t one is read in
      elim (first one.1 == 58) as (λ b. (if b then (identifier whole (drop 1 one.1) >>= λ two. Ok ((Some one.0, two.0), two.1)) else Ok ((None, one.0), one.1)) ≡ Ok p → Bytes p.1) [
        | true ↦ λ e2. bind_ok (identifier whole (drop 1 one.1)) (λ two. Ok ((Some one.0, two.0), two.1)) p e2 (λ two read2 e3.
            subst (λ (q : Name × Text). Bytes q.1) (same_ok ((Some one.0, two.0), two.1) p e3) (identifier-rest (drop 1 one.1) two (bytes-drop 1 one.1 after) read2))
        | false ↦ λ e2. subst (λ (q : Name × Text). Bytes q.1) (same_ok ((None, one.0), one.1) p e2) after
      ] e1)

  -- ---- the content of quotes, and the text after it

  single-bytes : (t : Text) (p : Text × Text) → Bytes t → single whole t ≡ Ok p → AreBytes p
  unfolding single
  single-bytes [] p is e = never (BadText (place whole [])) p e
  single-bytes (c ∷ []) p is e = elim (c == 39) as (λ b. (if b then Ok ([], []) else bad_text whole []) ≡ Ok p → AreBytes p) [
    | true ↦ λ e1. subst AreBytes (same_ok ([], []) p e1) (tt, tt)
    | false ↦ λ e1. never (BadText (place whole [])) p e1
  ] e
  single-bytes (c ∷ d ∷ t) p is e =
      elim (c == 39) as (λ b. (if not b then with_front (c ∷ []) (single whole (d ∷ t)) else if d == 39 then with_front (39 ∷ []) (single whole t) else Ok ([], d ∷ t)) ≡ Ok p → AreBytes p) [
        | true ↦ λ e1. elim (d == 39) as (λ b. (if b then with_front (39 ∷ []) (single whole t) else Ok ([], d ∷ t)) ≡ Ok p → AreBytes p) [
          | true ↦ λ e2. bind_ok (single whole t) (λ q. Ok (39 ∷ q.0, q.1)) p e2 (λ q read e3.
              let more = single-bytes t q is.1.1 read in
              subst AreBytes (same_ok (39 ∷ q.0, q.1) p e3) ((omega arith, more.0), more.1))
          | false ↦ λ e2. subst AreBytes (same_ok ([], d ∷ t) p e2) (tt, is.1)
        ] e1
        | false ↦ λ e1. bind_ok (single whole (d ∷ t)) (λ q. Ok (c ∷ q.0, q.1)) p e1 (λ q read e2.
            let more = single-bytes (d ∷ t) q is.1 read in
            subst AreBytes (same_ok (c ∷ q.0, q.1) p e2) ((is.0, more.0), more.1))
      ] e

  double-bytes : (t : Text) (p : Text × Text) → Bytes t → double whole t ≡ Ok p → AreBytes p
  double-bytes t p is e =
      elim (list_any is_double_quote t) as (λ b. (if b then Ok (before_first is_double_quote t, after_first is_double_quote t) else bad_text whole []) ≡ Ok p → AreBytes p) [
        | true ↦ λ e1. subst AreBytes (same_ok (before_first is_double_quote t, after_first is_double_quote t) p e1) (bytes-take (position_or_len is_double_quote t) t is, bytes-drop (position_or_len is_double_quote t + 1) t is)
        | false ↦ λ e1. never (BadText (place whole [])) p e1
      ] e

  quoted-bytes : (t : Text) (p : Text × Text) → Bytes t → quoted whole t ≡ Ok p → AreBytes p
  quoted-bytes t p is e =
      elim (first t == 39) as (λ b. (if b then single whole (drop 1 t) else if first t == 34 then double whole (drop 1 t) else bad_text whole t) ≡ Ok p → AreBytes p) [
        | true ↦ λ e1. single-bytes (drop 1 t) p (bytes-drop 1 t is) e1
        | false ↦ λ e1. elim (first t == 34) as (λ b. (if b then double whole (drop 1 t) else bad_text whole t) ≡ Ok p → AreBytes p) [
          | true ↦ λ e2. double-bytes (drop 1 t) p (bytes-drop 1 t is) e2
          | false ↦ λ e2. never (BadText (place whole t)) p e2
        ] e1
      ] e

  pub said-bytes : (t : Text) (p : Text × Text) → Bytes t → said whole t ≡ Ok p → AreBytes p
  unfolding said
  said-bytes t p is e =
      bind_ok (expected whole 61 (after_blanks t)) (λ value. quoted whole (after_blanks value)) p e (λ value read e1.
      let rest = expected-rest 61 (after_blanks t) value (bytes-drop (prefix_len is_blank t) t is) read in
      quoted-bytes (after_blanks value) p (bytes-drop (prefix_len is_blank value) value rest) e1)

  pub closed-rest : (t rest : Text) → Bytes t → closed whole t ≡ Ok rest → Bytes rest
  closed-rest t rest is e = expected-rest 93 (after_blanks t) rest (bytes-drop (prefix_len is_blank t) t is) e
