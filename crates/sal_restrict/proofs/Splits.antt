-- The parts of a text, from one to the next.
use Rattle.std.proofs.Common.{◌≡◌, ℕ, ◌+◌, ◌<◌, ◌≤◌, List, [], ◌∷◌, ◌++◌, length, take, drop, Option, Some, None, refl, ap, sym, ◌∙◌, inl, inr, append_assoc}
use Rattle.std.proofs.lemmas.Bool.{cases_lt}
use Rattle.std.proofs.lemmas.List.{take_all}
use Rattle.sal_types.proofs.Separated.{parted, part_len, parted-last, parted-more}
use Rattle.sal_restrict.specs.declared.ranges.Part.{Part}
use Rattle.sal_restrict.specs.declared.span.Span.{Span}
use Rattle.sal_restrict.specs.Readings.{part_of, parts_of}
use Rattle.sal_restrict.specs.RangeTexts.{part, parts, onto}

-- these before those that are left, if those are parts
abbrev pub behind : List Part → Option (List Part) → Option (List Part)
behind done None = None
behind done (Some more) = Some (done ++ more)

pub behind-onto : (done : List Part) (one : Part) (more : Option (List Part)) → behind done (onto (Some one) more) ≡ behind (done ++ one ∷ []) more
behind-onto done one None = refl
behind-onto done one (Some more) = ap Some (sym (append_assoc done (one ∷ []) more))

abbrev pub texts : List ℕ → List (List ℕ)
texts t = parted 124 t

abbrev pub text_len : List ℕ → ℕ
text_len t = part_len 124 t

pub texts-last : (t : List ℕ) → length t ≤ text_len t → texts t ≡ t ∷ []
texts-last = parted-last 124

pub texts-more : (t : List ℕ) → text_len t < length t → texts t ≡ take (text_len t) t ∷ texts (drop (text_len t + 1) t)
texts-more = parted-more 124

pub parts-none : (digits : ℕ) (outer : Part) (t : List ℕ) → part digits outer (take (text_len t) t) ≡ None → parts digits outer (texts t) ≡ None
parts-none digits outer t none = elim (cases_lt (text_len t) (length t)) [
  | inl less ↦ rw (texts-more t less, none) refl
  | inr last ↦ let whole = sym (take_all (text_len t) t last) in rw (texts-last t last) (rw none at (ap (λ u. onto (part digits outer u) (Some [])) whole))
]

-- the first text is a part, and no other follows
pub parts-last : (digits : ℕ) (outer : Part) (done : List Part) (t : List ℕ) (one : Part) → part digits outer (take (text_len t) t) ≡ Some one → length t ≤ text_len t
    → behind done (parts digits outer (texts t)) ≡ Some (done ++ one ∷ [])
parts-last digits outer done t one e last =
    let whole = sym (take_all (text_len t) t last) in
    rw (texts-last t last) (ap (λ u. behind done (onto (part digits outer u) (Some []))) whole ∙ ap (λ p. behind done (onto p (Some []))) e)

-- the first text is a part, and others follow
pub parts-more : (digits : ℕ) (outer : Part) (done : List Part) (t : List ℕ) (one : Part) → part digits outer (take (text_len t) t) ≡ Some one → text_len t < length t
    → behind done (parts digits outer (texts t)) ≡ behind (done ++ one ∷ []) (parts digits outer (texts (drop (text_len t + 1) t)))
parts-more digits outer done t one e less =
    let rest = parts digits outer (texts (drop (text_len t + 1) t)) in
    rw (texts-more t less) (ap (λ p. behind done (onto p rest)) e ∙ behind-onto done one rest)

pub parts_of-push : (scale : ℕ) (spans : List Span) (span : Span) → parts_of scale (spans ++ span ∷ []) ≡ parts_of scale spans ++ part_of scale span ∷ []
parts_of-push scale [] span = refl
parts_of-push scale (s ∷ spans) span = ap (λ more. part_of scale s ∷ more) (parts_of-push scale spans span)
