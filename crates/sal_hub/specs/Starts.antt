-- The start of a transaction, and the transaction.
use Rattle.std.specs.Prelude.{◌≡◌, ℕ, length, [], Option, None, Some}
use Rattle.sal_types.specs.declared.value.Store.{Store}
use Rattle.sal_rows.specs.declared.outcome.Mode.{Mode}
use Rattle.sal_rows.specs.Clash.{tip}
use Rattle.sal_graft.specs.Kept.{opening_in, ops_of as commits_of, rows_in}
use Rattle.sal_tx.specs.declared.tx.Submission.{Submission}
use Rattle.sal_tx.specs.declared.tx.Tx.{Tx}
use Rattle.sal_tx.specs.Views.{Shows}
use Rattle.sal_commit.specs.declared.domain.Domain.{Domain}
use Rattle.sal_hub.specs.declared.start.Footing.{Footing}
use Rattle.sal_hub.specs.Tokens.{base_of, begun_of, mode_of, ops_of}

-- at the newest commit of the domain
pub record IsNewest (d : Domain) (footing : Footing) : Type 0 where
  pub commit : footing.commit ≡ length (commits_of d.commits.items)
  pub alone : footing.on ≡ None
  pub trees : (s : Store) → rows_in footing.trees s ≡ tip (opening_in d.commits.items) (commits_of d.commits.items) s

-- after the pending submission
pub record IsOn (sub : Submission) (receipt : ℕ) (footing : Footing) : Type 0 where
  pub commit : footing.commit ≡ sub.base_commit
  pub pending : footing.on ≡ Some receipt
  pub trees : Shows sub.base sub.changes footing.trees

-- a transaction of the domain and the chain, if any, with this start
pub record Starts (d : Domain) (footing : Footing) (member : Option ℕ) (under : Mode) (at : ℕ) (tx : Tx) : Type 0 where
  pub domain : (begun_of tx).domain ≡ d.number
  pub commit : (begun_of tx).base_commit ≡ footing.commit
  pub on : (begun_of tx).on ≡ footing.on
  pub chain : (begun_of tx).chain ≡ member
  pub place : (begun_of tx).place ≡ at
  pub schema : (begun_of tx).schema.value ≡ d.schema.value
  pub version : (begun_of tx).version ≡ d.version
  pub base : base_of tx ≡ footing.trees
  pub mode : mode_of tx ≡ under
  pub ops : ops_of tx ≡ []
