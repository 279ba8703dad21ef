-- Worked examples of services: RPC 5, notification 5, and device 1, which is mounted at the leaf a.
use Rattle.std.specs.Prelude.{ℕ, zero, suc, List, [], ◌∷◌, ◌++◌}
use Rattle.sal_types.specs.declared.row.Row.{Row}
use Rattle.sal_rows.specs.declared.outcome.Mode.TheVariants.{Rw}
use Rattle.sal_history.specs.declared.call.Call.{Call}
use Rattle.sal_history.specs.declared.call.Call.TheVariants.{Begin, Mount, Offer, OpenChain, Settle, Submit, Subscribe, TakeNotes, Unmount}
use Rattle.sal_history.specs.declared.call.Entry.{Entry}
use Rattle.sal_history.specs.Chains.{chain}
use Rattle.sal_history.specs.Examples.{a, b, by, leaf, opened, put}
use Rattle.sal_history.specs.World.{Domain}

-- ---- requests and notifications

-- rows that are passed on, and others
abbrev pub one : List Row
one = leaf a "1" ∷ []

abbrev pub two : List Row
two = leaf b "2" ∷ []

-- the same entry n times, before others
abbrev pub times : ℕ → Entry → List Entry → List Entry
times zero e rest = rest
times (suc n) e rest = e ∷ times n e rest

-- 64 notifications wait for client 1 and one for client 2 when another one is offered; then client 2 takes those for it
abbrev pub filled : List Entry
filled = by 1 (Subscribe 5) ∷ times 63 (by 0 (Offer 5 one)) (by 2 (Subscribe 5) ∷ by 0 (Offer 5 one) ∷ by 0 (Offer 5 two) ∷ by 2 TakeNotes ∷ [])

-- ---- domains

-- the controller's own domain and one device
abbrev pub devices : List Domain
devices = opened [] ++ opened []

abbrev pub mount : Call
mount = Mount a 1

abbrev pub on_device : Call
on_device = Begin 1 Rw

-- A submission of the mounted device is pending when it is unmounted, and a transaction is open. That one is submitted; then both
-- are settled.
abbrev pub across : List Entry
across =
    by 0 mount ∷ by 1 on_device ∷ by 1 on_device ∷ by 1 (Submit 1 (put a "x" ∷ [])) ∷ by 0 (Unmount 1) ∷ by 1 (Submit 2 (put b "y" ∷ []))
    ∷ by 1 (Settle 2) ∷ by 1 (Settle 1) ∷ []

-- A chain over the device fails by its first submission; its second one is pending when the device is unmounted.
abbrev pub failed_before : List Entry
failed_before =
    by 0 mount ∷ by 0 (OpenChain 1) ∷ by 0 chain ∷ by 1 on_device ∷ by 1 (Submit 3 (put a "y" ∷ [])) ∷ by 0 (Submit 2 (put a "x" ∷ []))
    ∷ by 0 chain ∷ by 0 (Submit 6 []) ∷ by 0 (Settle 2) ∷ by 0 (Unmount 1) ∷ by 0 (Settle 3) ∷ []

-- Both submissions of a chain over the device are pending when it is unmounted.
abbrev pub failed_by_it : List Entry
failed_by_it =
    by 0 mount ∷ by 0 (OpenChain 1) ∷ by 0 chain ∷ by 0 (Submit 2 (put a "x" ∷ [])) ∷ by 0 chain ∷ by 0 (Submit 4 []) ∷ by 0 (Unmount 1)
    ∷ by 0 (Settle 2) ∷ by 0 (Settle 1) ∷ by 0 chain ∷ []
