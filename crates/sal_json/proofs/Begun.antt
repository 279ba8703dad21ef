-- A pattern that matches only from where a text starts.
use Rattle.std.proofs.Common.{◌≡◌, ℕ, ◌<◌, true, List, length, Some, None, is_some, option_map, sym, ap, ◌∙◌, inl, inr, ⊎_elim, arith, if◌then◌else◌, IsUtf8}
use Rattle.std.proofs.lemmas.Bool.{cases_Bool, cond-true, cond-false}
use Rattle.std.proofs.lemmas.Str.{IsCharBoundary-start}
use Rattle.std.proofs.lemmas.Option.{none-some}
use Rattle.std.proofs.Math.Logic.{∥∥₁_elim}
use Rattle.std.specs.Coded.{coded_bool}
use base.Stored.{Coded-set}
use Rattle.regex_hir.specs.Re.{Re, Trace, accept, attempt}
use Rattle.regex_hir.specs.Text.{is_boundary}
use Rattle.regex_hir.specs.Find.{find, find_str}
use Rattle.regex_hir.proofs.OptionLemmas.{option_cases, none_of_no_value}
use Rattle.regex_hir.proofs.FindLemmas.{first_between_here, first_between_none}
use Rattle.regex_extract.specs.Bounds.{IsAnchored}
use Rattle.regex_vm.specs.Found.{first_match, span}
use Rattle.regex_meta.specs.Programs.{pattern_of}
use Rattle.regex_meta.specs.declared.program.Program.{Program}
use Rattle.regex_meta.proofs.LeftmostLemmas.{find_here}
use Rattle.regex_meta.proofs.PlansLemmas.{only_at_start, anchored_none}
use Rattle.regex_meta.proofs.ProgramLemmas.{run-attempt}
use Rattle.regex.proofs.Utf8Lemmas.{test_of_IsCharBoundary}

module _ (re : Re) (hay : List ℕ) where
  none_at : (i : ℕ) → attempt hay re accept i ≡ None → (if is_boundary hay i then attempt hay re accept i else None) ≡ None
  none_at i none = elim (cases_Bool (is_boundary hay i)) [
    | inl t ↦ cond-true _ _ None t ∙ none
    | inr f ↦ cond-false _ _ None f
  ]

  none_found : IsAnchored true re → attempt hay re accept 0 ≡ None → find_str re hay 0 ≡ None
  unfolding find_str
  none_found anchored none = first_between_none _ 0 (length hay) (λ i low high. none_at i (none_of_no_value _ (λ t e.
      let not_later : ¬ (0 < i) = λ late. only_at_start re hay anchored i t late high e in
      let zero : i ≡ 0 = omega arith in
      absurd (none-some t (sym none ∙ ap (λ x. attempt hay re accept x) (sym zero) ∙ e)))))

  found_here : is_boundary hay 0 ≡ true → (t : Trace) → attempt hay re accept 0 ≡ Some t →
      find_str re hay 0 ≡ Some (record { start = 0; trace = t })
  unfolding find_str
  found_here start t e = first_between_here _ 0 (length hay) t (omega arith) (cond-true _ _ None start ∙ e)

  -- as a text
  begun-find_str : IsUtf8 hay → IsAnchored true re → is_some (attempt hay re accept 0) ≡ is_some (find_str re hay 0)
  begun-find_str utf8 anchored = ⊎_elim
      (λ none. ap is_some none ∙ sym (ap is_some (none_found anchored none)))
      (λ some. ap is_some some.1
      ∙ sym (ap is_some (found_here (test_of_IsCharBoundary hay 0 (IsCharBoundary-start hay utf8)) some.0 some.1)))
      (option_cases (attempt hay re accept 0))

  -- as bytes
  begun-find : IsAnchored true re → is_some (find re hay 0) ≡ is_some (attempt hay re accept 0)
  begun-find anchored = ⊎_elim
      (λ none. ap is_some (anchored_none re hay anchored none) ∙ sym (ap is_some none))
      (λ some. ap is_some (find_here re hay 0 some.0 (omega arith) some.1) ∙ sym (ap is_some some.1))
      (option_cases (attempt hay re accept 0))

  pub as_text : IsUtf8 hay → ∥ IsAnchored true re ∥₁ → is_some (attempt hay re accept 0) ≡ is_some (find_str re hay 0)
  as_text utf8 anchored = ∥∥₁_elim anchored (Coded-set coded_bool _ _) (begun-find_str utf8)

  pub as_bytes : ∥ IsAnchored true re ∥₁ → is_some (find re hay 0) ≡ is_some (attempt hay re accept 0)
  as_bytes anchored = ∥∥₁_elim anchored (Coded-set coded_bool _ _) begun-find

-- the search at the start alone
pub at_start : (p : Program) (hay : List ℕ) → is_some (option_map span (first_match p.dfa.nfa hay (length hay) 0 0)) ≡ is_some (attempt hay (pattern_of p) accept 0)
at_start p hay = ⊎_elim
    (λ none. ap (λ o. is_some (option_map span o)) (first_between_none _ 0 0 (λ i low high. let zero : i ≡ 0 = omega arith in rw zero (run-attempt p hay 0 ∙ none)))
    ∙ sym (ap is_some none))
    (λ some. ap (λ o. is_some (option_map span o)) (first_between_here _ 0 0 some.0 (omega arith) (run-attempt p hay 0 ∙ some.1))
    ∙ sym (ap is_some some.1))
    (option_cases (attempt hay (pattern_of p) accept 0))
