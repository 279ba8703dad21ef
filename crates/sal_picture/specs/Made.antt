-- The commits of a log by their receipts.
use Rattle.std.specs.Prelude.{◌≡◌, ℕ, ◌+◌, ◌-◌, ◌<◌, List, [], ◌∷◌, if◌then◌else◌, length, map, Option, None, Some, nat_eq, slice_index_or}
use Rattle.std.specs.List.{range_with_len}
use Rattle.std.specs.Option.{option_or}
use Rattle.sal_commit.specs.declared.domain.Domain.{Domain}
use Rattle.sal_commit.specs.Stamps.{receipts_of as commit_receipts_of}
use Rattle.sal_tree.specs.declared.commit.Commit.{Commit}
use Rattle.sal_history.specs.History.{history, outcomes, sents}
use Rattle.sal_hub.specs.CommitReceipts.{commit_receipts}
use Rattle.sal_hub.specs.HubHistory.{HubHistory}
use Rattle.sal_shapes.specs.declared.scene.Made.{Made}

abbrev pub commit_at : ℕ → ℕ → Made
commit_at domain number = record { domain = domain; number = number }

-- the commit of this number, if its receipt is that of the submission at the index, counted from 0: one more than the index
abbrev pub here : ℕ → ℕ → ℕ → ℕ → Option Made
here domain number receipt i = if nat_eq receipt (i + 1) then Some (commit_at domain number) else None

-- The commit of a domain that the submission at this index made; the list has the receipts of the domain's commits from this number on,
-- 0 for its opening.
abbrev pub made_from : ℕ → ℕ → List ℕ → ℕ → Option Made
made_from domain number [] i = None
made_from domain number (receipt ∷ receipts) i = option_or (here domain number receipt i) (made_from domain (number + 1) receipts i)

-- among domains from this one on
abbrev pub made_among : ℕ → List (List ℕ) → ℕ → Option Made
made_among domain [] i = None
made_among domain (receipts ∷ more) i = option_or (made_from domain 0 receipts i) (made_among (domain + 1) more i)

-- those of each domain
abbrev pub receipts_of : HubHistory → List (List ℕ)
receipts_of known =
    map (λ domain. commit_receipts domain (sents (history known.world known.log)) (outcomes (history known.world known.log))) (range_with_len 0 (length known.world))

abbrev pub made_at : HubHistory → ℕ → Option Made
made_at known i = made_among 0 (receipts_of known) i

-- ---- for the code

-- the receipts of a domain's commits, in the code's form
abbrev pub receipts_in : Domain → List ℕ
receipts_in d = commit_receipts_of d.commits.items

-- the receipts of commits, counted from one on
abbrev pub receipts_since : ℕ → List Commit → List ℕ
receipts_since first commits = map (λ (c : Commit). c.receipt - first) commits

-- each domain has its index as its number
abbrev pub AreNumbered : List Domain → Type 0
AreNumbered ds = (n : ℕ) (d : Domain) → n < length ds → d ≡ slice_index_or ds n d → d.number ≡ n
