-- A domain at the beginning of the next epoch.
use Rattle.std.specs.Prelude.{◌≡◌, List, [], ◌∷◌, drop, length, nat_eq, slice_index_or}
use Rattle.sal_types.specs.declared.value.Store.{Store}
use Rattle.sal_rows.specs.declared.clash.Rules.{Rules}
use Rattle.sal_tree.specs.declared.commit.Commit.{Commit}
use Rattle.sal_graft.specs.Kept.{AreKept, chains_of, opening_in, ops_of}
use Rattle.sal_commit.specs.declared.domain.Domain.{Domain}
use Rattle.sal_commit.specs.Stamps.{receipts_of}
use Rattle.sal_commit.specs.Versions.{newest_in, tables_of, version_in}

-- the newest of the commits, of which this is the opening
abbrev pub newest_of : Commit → List Commit → Commit
newest_of opening commits = slice_index_or (opening ∷ commits) (length commits) opening

-- the commits of the next epoch: only its opening, with the trees and the receipt of the newest commit
abbrev pub begun_anew : List Commit → List Commit
begun_anew [] = []
begun_anew (opening ∷ commits) = record opening { receipt = (newest_of opening commits).receipt; trees = (newest_of opening commits).trees } ∷ []

-- The domain in the next epoch: the present version of its schema is version 0, the later versions stay, and its newest trees are its
-- opening. Only the controller's own domain is live.
pub record BeginsAnew (old : Domain) (under : Rules) (new : Domain) : Type 0 where
  pub number : new.number ≡ old.number
  pub live : new.live ≡ nat_eq old.number 0
  pub schema : new.schema ≡ old.schema
  pub first : new.first.value ≡ version_in old old.version
  pub upgrades : tables_of new.upgrades.items ≡ drop old.version (tables_of old.upgrades.items)
  pub version : new.version ≡ 0
  pub since : new.since ≡ 0
  pub rules : new.rules ≡ under
  pub commits : new.commits.items ≡ begun_anew old.commits.items
  pub kept : AreKept new.commits.items
  pub ops : ops_of new.commits.items ≡ []
  pub chains : chains_of new.commits.items ≡ []
  pub receipts : receipts_of new.commits.items ≡ 0 ∷ []
  pub opening : (s : Store) → opening_in new.commits.items s ≡ newest_in old s
