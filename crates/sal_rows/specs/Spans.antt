-- The spans of a submission: the foreign commits between its base and the newest commit, without those of its own chain.
use Rattle.std.specs.Prelude.{ℕ, ◌-◌, Bool, false, List, [], ◌∷◌, length, Option, None, Some, nat_eq, slice_get, unwrap_or}
use Rattle.std.specs.List.{filter}
use Rattle.sal_rows.specs.declared.clash.Span.{Span}
use Rattle.sal_rows.specs.Commits.{numbers_after}

-- a commit of the second chain, if any, is of the first; a submission without a chain has no own commits
abbrev pub is_of_chain : Option ℕ → Option ℕ → Bool
is_of_chain None other = false
is_of_chain (Some chain) None = false
is_of_chain (Some chain) (Some other) = nat_eq chain other

-- `chains` has the chain of each commit, from commit 1 on: whether commit k is of the chain
abbrev pub is_own : Option ℕ → List (Option ℕ) → ℕ → Bool
is_own chain chains k = is_of_chain chain (unwrap_or (slice_get chains (k - 1)) None)

-- the chain's commits after commit a
abbrev pub own_commits : ℕ → Option ℕ → List (Option ℕ) → List ℕ
own_commits a chain chains = filter (is_own chain chains) (numbers_after a (length chains - a))

-- the ranges between commit a and commit t without these commits
abbrev pub spans_between : ℕ → List ℕ → ℕ → List Span
spans_between a [] t = record { from = a; to = t } ∷ []
spans_between a (c ∷ cs) t = record { from = a; to = c - 1 } ∷ spans_between c cs t

-- the spans of a submission of the chain with base commit a
abbrev pub spans : ℕ → Option ℕ → List (Option ℕ) → List Span
spans a chain chains = spans_between a (own_commits a chain chains) (length chains)
