-- A hub that begins with the trees of a follower.
use Rattle.std.specs.Prelude.{◌≡◌, ℕ, List, [], ◌∷◌, ◌++◌, None}
use Rattle.std.specs.List.{All}
use Rattle.sal_types.specs.declared.value.Store.TheVariants.{Config, Oper}
use Rattle.sal_rows.specs.declared.clash.Rules.{Rules}
use Rattle.sal_rules.specs.Breaches.{breach}
use Rattle.sal_history.specs.World.{Domain, opening_of}
use Rattle.sal_hub.specs.HubHistory.{HubHistory}
use Rattle.sal_follow.specs.Framed.{Trees, stream_of, streamed, too_long, AreTexts}
use Rattle.sal_follow.specs.Laws.{AreFollowed, AreTreesAt}
use Rattle.sal_follow.specs.States.{Following}
use Rattle.sal_follow.specs.Stream.{fresh_at, followed}

-- the domain of a follower: its schema is version 0, its trees are the opening
abbrev pub domain_held : Rules → Following → Domain
domain_held rules f = record { table = f.schema; upgrades = []; opening = record { config = f.held.config; oper = f.held.oper }; rules = rules }

abbrev pub world_held : Rules → Following → List Domain
world_held rules f = domain_held rules f ∷ []

-- a hub without calls over that domain
abbrev pub resumed : Rules → Following → HubHistory
resumed rules f = record { world = world_held rules f; log = [] }

-- the opening trees of the first domain of a world
abbrev pub opening_trees : List Domain → Trees
opening_trees world = record { config = opening_of world 0 Config; oper = opening_of world 0 Oper }

-- If the bytes received are a prefix of a stream of a leader's commits by the follower's schema, from whatever number on, the opening trees of the
-- world are the leader's at the follower's commit.
abbrev pub OpensAtTheLeader : Following → List Domain → Type 0
OpensAtTheLeader f world =
    (first : ℕ) (trees : List Trees) (bytes more : List ℕ) → All (AreFollowed f.schema) trees → AreTexts f.schema (stream_of first trees) → too_long f.schema (stream_of first trees) ≡ None
    → f.held ≡ followed f.schema (fresh_at first) bytes → bytes ++ more ≡ streamed f.schema first trees → AreTreesAt first trees f.held.version (opening_trees world)

-- neither tree breaks a structural rule
pub record KeepsTheRules (f : Following) : Type 0 where
  pub config : breach f.schema Config f.held.config ≡ None
  pub oper : breach f.schema Oper f.held.oper ≡ None
