-- Patterns that the grammar of `regex` does not accept.
use Rattle.std.specs.Prelude.{ℕ, Bool, true, nat_lt, List, Option, Some, None, chars}
use Rattle.regex_syntax.specs.Verdict.{default_config}
use Rattle.regex_syntax.specs.Grammar.{Names, read}
use Rattle.regex_syntax.specs.Brackets.{Nested}
use Rattle.regex_hir.specs.Re.{Re}
use Rattle.sal_restrict.specs.WholeTexts.{whole_text}

-- the grammar accepts nothing, or a pattern that is nested too deeply
abbrev pub is_refused : Option (Nested Re × Names) → Bool
is_refused None = true
is_refused (Some found) = nat_lt default_config.nest_limit found.0.depth

unfoldable pub is_malformed : List ℕ → Bool
is_malformed t = is_refused (read default_config (chars (whole_text t)))
