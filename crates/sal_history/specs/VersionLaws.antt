-- Laws of the versions of domain 0's schema for a whole log.
use Rattle.std.specs.Prelude.{◌≡◌, ℕ, suc, ◌+◌, List, None, Some, slice_get}
use Rattle.sal_types.specs.declared.value.Store.{Store}
use Rattle.sal_rules.specs.Breaches.{breach}
use Rattle.sal_history.specs.declared.call.Call.TheVariants.{Upgrade}
use Rattle.sal_history.specs.declared.call.Entry.{Entry}
use Rattle.sal_history.specs.declared.reply.Reply.TheVariants.{Accepted}
use Rattle.sal_history.specs.Answered.{Answered}
use Rattle.sal_history.specs.History.{history, newest_tree}
use Rattle.sal_history.specs.Versions.{tables_now, version_at}
use Rattle.sal_history.specs.World.{Domain, OneIsUpgraded, opening_of, table_of}

-- The opening trees of each domain break no rule of version 0.
abbrev pub OpeningsKeepTheRules : List Domain → Type 0
OpeningsKeepTheRules world = (domain : ℕ) (s : Store) → breach (table_of world 0 domain) s (opening_of world domain s) ≡ None

-- Then, in each log, the newest trees of each domain break no rule of the present version: those of domain 0 break none of the new
-- version directly after an accepted upgrade, and none later.
abbrev pub NewestTreesKeepTheRules : Type 0
NewestTreesKeepTheRules =
    (world : List Domain) (log : List Entry) → OneIsUpgraded world → OpeningsKeepTheRules world
    → (domain : ℕ) (s : Store) → breach (tables_now world (history world log) domain) s (newest_tree world log domain s) ≡ None

-- An accepted upgrade to a version follows directly on the version before it.
abbrev pub UpgradesGoOneByOne : Type 0
UpgradesGoOneByOne =
    (world : List Domain) (log : List Entry) (i : ℕ) (a : Answered) (version : ℕ)
    → slice_get (history world log) i ≡ Some a → a.entry.call ≡ Upgrade version → a.reply ≡ Accepted
    → (version_at (history world log) i + 1 ≡ version) × (version_at (history world log) (suc i) ≡ version)
