-- A compiled pattern is found where what the grammar reads is found.
use Rattle.std.proofs.Common.{◌≡◌, ℕ, ◌<◌, ◌≤◌, List, length, Option, Some, None, IsSomeAnd, is_some, All, chars, get_or, ap, sym, ◌∙◌}
use Rattle.std.proofs.lemmas.List.{get_or_default}
use Rattle.regex_syntax.specs.Verdict.{Reads, default_config}
use Rattle.regex_syntax.specs.Grammar.{Names, group_count, read}
use Rattle.regex_syntax.specs.Brackets.{Nested}
use Rattle.regex_syntax.specs.Captures.{SameCaptures}
use Rattle.regex_syntax.proofs.CapturesLemmas.{spans, find_str_alike}
use Rattle.regex_syntax.proofs.Written.{is_some-option_map}
use Rattle.regex_hir.specs.Re.{Re}
use Rattle.regex_hir.specs.Find.{find_str}
use Rattle.regex_hir.specs.Meaning.{meaning}
use Rattle.regex_hir.specs.declared.hir.Hir.{Hir}
use Rattle.sal_json.specs.Patterns.{is_found, finds, IsFoundAs}

same_found : (a b : Re) → SameCaptures a b → (t : List ℕ) → All (λ x. x < 256) t → is_some (find_str a t 0) ≡ is_some (find_str b t 0)
same_found a b same t bytes =
    sym (is_some-option_map spans (find_str a t 0)) ∙ ap is_some (find_str_alike a b same t bytes 0) ∙ is_some-option_map spans (find_str b t 0)

found_as : (r : Option (Nested Re × Names)) (hir : Hir) (names : Names) (t : List ℕ) → All (λ x. x < 256) t
    → IsSomeAnd r (λ (re, found). (re.depth ≤ default_config.nest_limit) × SameCaptures (meaning hir) re.value × (names ≡ found) × (group_count (meaning hir) ≤ length names))
    → is_some (find_str (meaning hir) t 0) ≡ is_found r t
found_as None hir names t bytes taken = absurd taken
found_as (Some found) hir names t bytes taken = same_found (meaning hir) found.0.value taken.1 t bytes

pub found_as_read : (source : List ℕ) (hir : Hir) (names : Names) (t : List ℕ) → ((k : ℕ) → get_or t k 0 < 256) → Reads default_config source hir names
    → is_some (find_str (meaning hir) t 0) ≡ finds source t
unfolding Reads finds
found_as_read source hir names t bytes reads =
    found_as (read default_config (chars source)) hir names t (λ k d inside. rw (get_or_default t k d 0 inside) (bytes k)) reads

pub found_as_tree : (source : List ℕ) (hir : Hir) (names : Names) → Reads default_config source hir names → IsFoundAs hir source
unfolding Reads finds
found_as_tree source hir names reads t bytes = found_as (read default_config (chars source)) hir names t bytes reads
