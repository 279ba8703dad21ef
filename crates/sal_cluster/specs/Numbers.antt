-- The numbers of a broker's commits in the streams of its domains.
use Rattle.std.specs.Prelude.{◌≡◌, ℕ, zero, suc, ◌+◌, ◌&&◌, List, [], ◌∷◌, length, nat_eq, nat_lt, slice_index_or, Bool, true}
use Rattle.sal_history.specs.History.{commits, history}
use Rattle.sal_hub.specs.HubHistory.{HubHistory}
use Rattle.sal_cluster.specs.declared.bases.Bases.{Bases}

-- there is such a domain among so many: the controller's own always is
abbrev pub is_domain : ℕ → ℕ → Bool
is_domain zero count = true
is_domain (suc n) count = nat_lt (suc n) count

-- the number of commit 0 of domain n in its stream
abbrev pub base_of : Bases → ℕ → ℕ
base_of bases n = slice_index_or bases.list n 0

-- the number of the newest commit of domain n in its stream
abbrev pub number_of : HubHistory → Bases → ℕ → ℕ
number_of known bases n = base_of bases n + length (commits (history known.world known.log) n)

-- these are the numbers of the newest commits of the domains from number n on
abbrev pub are_newest : HubHistory → Bases → ℕ → List ℕ → Bool
are_newest known bases n [] = true
are_newest known bases n (number ∷ more) = (is_domain n (length known.world) && nat_eq number (number_of known bases n)) && are_newest known bases (n + 1) more
