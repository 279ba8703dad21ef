-- The rows and parts of a listener whose client took every batch, from the replies of a log.
use Rattle.std.specs.Prelude.{◌≡◌, ℕ, ◌-◌, ◌≤◌, List, [], ◌++◌, Option, None, Some, length, if◌then◌else◌, nat_eq, unwrap_or}
use Rattle.std.specs.List.{fold}
use Rattle.sal_types.specs.declared.value.Store.{Store}
use Rattle.sal_types.specs.declared.row.Row.{Row}
use Rattle.sal_types.specs.Tree.{under, IsAscending}
use Rattle.sal_rows.specs.declared.batch.Part.{Part}
use Rattle.sal_rows.specs.Batches.{parts_after}
use Rattle.sal_rows.specs.Patch.{with_parts}
use Rattle.sal_schema.specs.Fitting.{has_own_row}
use Rattle.sal_history.specs.declared.call.Call.{Call}
use Rattle.sal_history.specs.declared.call.Call.TheVariants.{Listen, Take}
use Rattle.sal_history.specs.declared.call.Entry.{Entry}
use Rattle.sal_history.specs.declared.reply.Reply.{Reply}
use Rattle.sal_history.specs.declared.reply.Reply.TheVariants.{Listener, Batch as Told}
use Rattle.sal_history.specs.Listeners.{Listening, listener_at, version}
use Rattle.sal_history.specs.World.{Domain, opening_of, last_of}
use Rattle.sal_history.specs.History.{Answered, commits, history, trees_at}

-- the rows of the listener after a call with this reply: those of its opening, or the earlier ones with the parts of a batch applied
abbrev pub follows : Call → Reply → ℕ → List Row → List Row
follows (Listen domain store path) (Listener n at p opened) id rows = if nat_eq n id then opened.rows else rows
follows (Take n) (Told domain batch) id rows = if nat_eq n id then with_parts rows batch.lists else rows
follows call reply id rows = rows

-- the rows by its replies, in order
abbrev pub followed : List Answered → ℕ → List Row
followed answered id = fold (λ rows a. follows a.entry.call a.reply id rows) [] answered

-- the parts of the listener after a call with this reply: none at its opening, and those of a batch after the earlier ones
abbrev pub tells : Call → Reply → ℕ → List Part → List Part
tells (Listen domain store path) (Listener n at p opened) id parts = if nat_eq n id then [] else parts
tells (Take n) (Told domain batch) id parts = if nat_eq n id then parts ++ batch.lists else parts
tells call reply id parts = parts

-- the parts of its replies, in order
abbrev pub told : List Answered → ℕ → List Part
told answered id = fold (λ parts a. tells a.entry.call a.reply id parts) [] answered

-- the commit at which a call with this reply opened the listener
abbrev pub opens_at : Call → Reply → ℕ → Option ℕ
opens_at (Listen domain store path) (Listener n at p opened) id = if nat_eq n id then Some opened.version else None
opens_at call reply id = None

-- the commit of its opening
abbrev pub opened_at : List Answered → ℕ → ℕ
opened_at answered id = fold (λ v a. unwrap_or (opens_at a.entry.call a.reply id) v) 0 answered

-- the parts of the n commits after k, by the trees at the commits of this log
abbrev pub parts_of : List Domain → List Answered → Listening → ℕ → ℕ → List Part
parts_of world answered l k n = parts_after (has_own_row (last_of world l.domain) l.path) (trees_at world answered l.domain l.store) l.path k n

-- the opening trees of a world are trees
abbrev pub AreTrees : List Domain → Type 0
AreTrees world = (domain : ℕ) (store : Store) → IsAscending (opening_of world domain store)

-- The version of the listener is an existing commit, not before its opening. The rows by its replies are those under
-- its path there, and the parts are those of all commits since the opening, each once and in order.
pub record IsFollowed (world : List Domain) (answered : List Answered) (id : ℕ) (l : Listening) : Type 0 where
  pub reached : version answered id ≤ length (commits answered l.domain)
  pub begun : opened_at answered id ≤ version answered id
  pub parts : told answered id ≡ parts_of world answered l (opened_at answered id) (version answered id - opened_at answered id)
  pub rows : followed answered id ≡ under (trees_at world answered l.domain l.store (version answered id)) l.path

-- So it is with each listener of each log; they are numbered from 1 on.
abbrev pub ListenersFollowTheCommits : Type 0
ListenersFollowTheCommits =
    (world : List Domain) (log : List Entry) (id : ℕ) (l : Listening)
    → AreTrees world → 1 ≤ id → listener_at (history world log) id ≡ Some l → IsFollowed world (history world log) id l
