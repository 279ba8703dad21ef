-- The texts that the grammar of `regex` reads.
use Rattle.std.proofs.Common.{◌≡◌, ℕ, ◌<◌, ◌≤◌, ◌⊎◌, true, false, List, length, Option, Some, None, IsSomeAnd, IfSome, chars, refl, ap, ◌∙◌, sym, inl, inr}
use Rattle.regex_syntax.specs.Verdict.{Reads, Refuses, default_config}
use Rattle.regex_syntax.specs.Grammar.{Names, group_count, read}
use Rattle.regex_syntax.specs.Brackets.{Nested}
use Rattle.regex_syntax.specs.Captures.{SameCaptures}
use Rattle.regex_syntax.specs.declared.error.ErrorKind.{ErrorKind}
use Rattle.regex_syntax.specs.declared.error.ErrorKind.TheVariants.{OutOfMemory, NestLimitExceeded}
use Rattle.regex_hir.specs.Re.{Re}
use Rattle.regex_hir.specs.Meaning.{meaning}
use Rattle.regex_hir.specs.declared.hir.Hir.{Hir}
use Rattle.sal_restrict.specs.WholeTexts.{whole_text}
use Rattle.sal_json.specs.Patterns.{is_refused, is_malformed}
use Rattle.sal_types.proofs.Handy.{within_limit, past_limit}

is_taken : (r : Option (Nested Re × Names)) (hir : Hir) (names : Names)
    → IsSomeAnd r (λ (re, found). (re.depth ≤ default_config.nest_limit) × SameCaptures (meaning hir) re.value × (names ≡ found) × (group_count (meaning hir) ≤ length names))
    → is_refused r ≡ false
is_taken None hir names taken = absurd taken
is_taken (Some found) hir names taken = within_limit found.0.depth taken.0

is_not_taken : (r : Option (Nested Re × Names)) (kind : ErrorKind) → (kind ≡ OutOfMemory → ⊥)
    → (kind ≡ OutOfMemory) ⊎ ((r ≡ None) ⊎ ((kind ≡ NestLimitExceeded) × IfSome r (λ (re, _). default_config.nest_limit < re.depth))) → is_refused r ≡ true
is_not_taken None kind other refuses = refl
is_not_taken (Some found) kind other (inl memory) = absurd (other memory)
is_not_taken (Some found) kind other (inr (inl none)) = cc
is_not_taken (Some found) kind other (inr (inr nested)) = past_limit found.0.depth nested.1

-- a pattern that was read
pub read-good : (t source : List ℕ) (hir : Hir) (names : Names) → source ≡ whole_text t → Reads default_config source hir names → is_malformed t ≡ false
unfolding Reads is_malformed
read-good t source hir names e reads =
    ap (λ s. is_refused (read default_config (chars s))) (sym e) ∙ is_taken (read default_config (chars source)) hir names reads

-- an error of syntax that is none of memory
pub refused-bad : (t source : List ℕ) (kind : ErrorKind) → source ≡ whole_text t → (kind ≡ OutOfMemory → ⊥) → Refuses default_config source kind → is_malformed t ≡ true
unfolding Refuses is_malformed
refused-bad t source kind e other refuses =
    ap (λ s. is_refused (read default_config (chars s))) (sym e) ∙ is_not_taken (read default_config (chars source)) kind other refuses
