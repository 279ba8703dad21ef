-- The receipts of commits.
use Rattle.std.specs.Prelude.{ℕ, ◌+◌, List, [], ◌∷◌, ◌++◌, if◌then◌else◌, nat_eq}
use Rattle.sal_rows.specs.declared.outcome.Outcome.{Outcome}
use Rattle.sal_history.specs.Submissions.{Sent, if_done}

-- counted from the receipt r on, those of a domain's submissions with the outcome done
abbrev pub receipts_from : ℕ → ℕ → List Sent → List Outcome → List ℕ
receipts_from r domain [] os = []
receipts_from r domain (s ∷ ss) [] = []
receipts_from r domain (s ∷ ss) (o ∷ os) = (if nat_eq s.base.domain domain then if_done o r else []) ++ receipts_from (r + 1) domain ss os

-- the receipts of a domain's commits by their numbers: 0 is that of the opening
abbrev pub commit_receipts : ℕ → List Sent → List Outcome → List ℕ
commit_receipts domain ss os = 0 ∷ receipts_from 1 domain ss os
