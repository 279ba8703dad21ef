-- The phases of a commit, by the trees that a domain keeps.
use Rattle.std.specs.Prelude.{◌≡◌, ℕ, ◌+◌, ◌<◌, List, ◌++◌, length, Option, unwrap_or}
use Rattle.std.specs.Option.{option_or, option_map}
use Rattle.sal_types.specs.declared.value.Store.{Store}
use Rattle.sal_types.specs.declared.value.Store.TheVariants.{Config, Oper}
use Rattle.sal_types.specs.declared.row.Row.{Row}
use Rattle.sal_rows.specs.declared.outcome.Outcome.{Outcome}
use Rattle.sal_rows.specs.declared.outcome.Outcome.TheVariants.{ChainFailed, Invalid}
use Rattle.sal_rows.specs.Apply.{apply_ops}
use Rattle.sal_rows.specs.declared.clash.Span.{Span}
use Rattle.sal_rows.specs.Spans.{spans}
use Rattle.sal_schema.specs.declared.table.SchemaTable.{SchemaTable}
use Rattle.sal_rules.specs.Breaches.{breach}
use Rattle.sal_tree.specs.declared.commit.Commit.{Commit}
use Rattle.sal_rows.specs.Clash.{tip}
use Rattle.sal_graft.specs.Kept.{AreKept, chains_of, opening_in, ops_of, rows_in}
use Rattle.sal_tx.specs.declared.tx.Submission.{Submission}
pub use Rattle.sal_tx.specs.Views.{LieBelow}
use Rattle.sal_history.specs.History.{unmounted_of}
use Rattle.sal_history.specs.Outcome as outcome
use Rattle.sal_history.specs.Submissions.{if_done}
use Rattle.sal_commit.specs.declared.domain.Domain.{Domain}
use Rattle.sal_commit.specs.Domains.{IsSame}
use Rattle.sal_commit.specs.Stamps.{first_receipt, receipts_of}

-- A submission that can be decided in the domain: its base is one of the domain's commits, and its rows are below their
-- paths.
pub record IsFor (d : Domain) (sub : Submission) : Type 0 where
  pub kept : AreKept d.commits.items
  pub base : sub.base_commit < length d.commits.items
  pub below : LieBelow sub.changes

-- the foreign commits: those after the base, except those of the submission's own chain
abbrev pub spans_of : Domain → Submission → List Span
spans_of d sub = spans sub.base_commit sub.chain (chains_of d.commits.items)

-- the conflict of a submission with the commits after its base, by the domain's version rules
abbrev pub conflict : Domain → Submission → Option Outcome
conflict d sub = outcome.conflict d.schema.value (opening_in d.commits.items) (ops_of d.commits.items) d.rules (rows_in sub.base) (spans_of d sub) sub.changes

-- the outcome that names the rule that rows of a store break
abbrev pub invalid_over : SchemaTable → Store → List Row → Option Outcome
invalid_over table s rows = option_map (λ b. Invalid s b.path b.rule) (breach table s rows)

abbrev pub invalid : Domain → Submission → Store → Option Outcome
invalid d sub s = outcome.invalid d.schema.value (opening_in d.commits.items) (ops_of d.commits.items) s sub.changes

abbrev pub breached : Domain → Submission → Option Outcome
breached d sub = option_or (invalid d sub Config) (invalid d sub Oper)

-- the outcome of a submission at the newest commit of the domain, if its chain has not failed and the domain is live
abbrev pub judge : Domain → Submission → Outcome
judge d sub = outcome.decide d.schema.value (opening_in d.commits.items) (ops_of d.commits.items) d.rules (rows_in sub.base) (spans_of d sub) sub.changes

-- the outcome that names the domain, if it is no longer live
abbrev pub gone : Domain → Option Outcome
gone d = unmounted_of d.live d.number

-- the outcome if its chain has failed by a receipt
abbrev pub decide : Option ℕ → Domain → Submission → Outcome
decide failed d sub = unwrap_or (option_or (option_map ChainFailed failed) (gone d)) (judge d sub)

-- why it cannot be committed, before the new trees are made: its chain has failed, the domain is not live, or it conflicts
abbrev pub refused : Option ℕ → Domain → Submission → Option Outcome
refused failed d sub = option_or (option_map ChainFailed failed) (option_or (gone d) (conflict d sub))

-- the next commit of the domain, made by the submission; its receipt is counted from that of the opening
pub record IsNext (d : Domain) (sub : Submission) (c : Commit) : Type 0 where
  pub number : c.number ≡ length d.commits.items
  pub receipt : c.receipt ≡ first_receipt d.commits.items + sub.receipt
  pub chain : c.chain ≡ sub.chain
  pub ops : c.ops.value ≡ sub.changes
  pub trees : (s : Store) → rows_in c.trees s ≡ apply_ops (tip (opening_in d.commits.items) (ops_of d.commits.items) s) s sub.changes

-- the domain after a decision: the commits before, and the submission's commit if it is done
pub record Decides (old : Domain) (sub : Submission) (outcome : Outcome) (new : Domain) : Type 0 where
  pub same : IsSame old new
  pub kept : AreKept new.commits.items
  pub opening : opening_in new.commits.items ≡ opening_in old.commits.items
  pub commits : ops_of new.commits.items ≡ ops_of old.commits.items ++ if_done outcome sub.changes
  pub chains : chains_of new.commits.items ≡ chains_of old.commits.items ++ if_done outcome sub.chain
  pub receipts : receipts_of new.commits.items ≡ receipts_of old.commits.items ++ if_done outcome sub.receipt
