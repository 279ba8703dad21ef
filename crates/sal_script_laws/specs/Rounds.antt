-- The rounds of a load: the put of each, the commits of consecutive rounds, and their laws.
use Rattle.std.specs.Prelude.{◌≡◌, ℕ, zero, suc, ◌+◌, ◌*◌, ◌<◌, ◌≤◌, Bool, true, false, not, ◌&&◌, List, [], ◌∷◌, ◌++◌, length, map, sum_by, nat_eq, None, Ok}
use Rattle.std.specs.List.{list_any}
use Rattle.sal_types.specs.declared.value.Store.{Store}
use Rattle.sal_types.specs.declared.value.Store.TheVariants.{Config, Oper}
use Rattle.sal_types.specs.declared.value.Step.TheVariants.{Node}
use Rattle.sal_types.specs.declared.row.Row.{Row}
use Rattle.sal_types.specs.Tree.{cell, has}
use Rattle.sal_rows.specs.declared.clash.Rules.TheVariants.{One}
use Rattle.sal_rows.specs.declared.clash.Span.{Span}
use Rattle.sal_rows.specs.declared.op.Act.TheVariants.{Put}
use Rattle.sal_rows.specs.declared.op.Op.{Op}
use Rattle.sal_rows.specs.declared.outcome.Outcome.TheVariants.{Done}
use Rattle.sal_rows.specs.Commits.{numbers_after, tree_after}
use Rattle.sal_rules.specs.Refusals.{refusal}
use Rattle.sal_data.specs.Read.{read_data}
use Rattle.sal_pathtext.specs.Read.{read_path}
use Rattle.sal_history.specs.Outcome.{decide}
use Rattle.sal_history.specs.World.{Domain, opening_of}
use Rattle.sal_script.specs.Load.{entry_data, entry_path, key_of, number_of, value_in}
use Rattle.sal_script.specs.LoadExamples.{entry, rows, table}

-- ---- the world

-- the module's table, and no row, under version rules 1
abbrev pub load_world : List Domain
load_world = record { table = table; upgrades = []; opening = record { config = []; oper = [] }; rules = One } ∷ []

-- its opening trees
abbrev pub nothing : Store → List Row
nothing = opening_of load_world 0

-- ---- rounds

-- the key of a round's entry, and its number
pub record Round : Type 0 where
  pub key : ℕ
  pub value : ℕ

abbrev pub put_of : ℕ → ℕ → Op
put_of key value = record { store = Config; path = entry key; act = Put (rows key value) }

-- a round's commit is its put alone
abbrev pub commit_of : Round → List Op
commit_of round = put_of round.key round.value ∷ []

abbrev pub commits_of : List Round → List (List Op)
commits_of rounds = map commit_of rounds

-- the trees of the domain after these rounds
abbrev pub trees_behind : List Round → Store → List Row
trees_behind rounds store = tree_after store (nothing store) (commits_of rounds)

-- one of the rounds puts the entry with this key
abbrev pub has_key : List Round → ℕ → Bool
has_key rounds key = list_any (λ round. nat_eq round.key key) rounds

-- no two of them put the same entry
abbrev pub are_distinct : List Round → Bool
are_distinct [] = true
are_distinct (round ∷ rounds) = not (has_key rounds round.key) && are_distinct rounds

abbrev pub sum_of : List Round → ℕ
sum_of rounds = sum_by (λ round. round.value) rounds

-- ---- the rounds of a client

abbrev pub round_in : ℕ → ℕ → ℕ → Round
round_in start client round = record { key = key_of client round; value = value_in start client round }

-- the sum of the numbers that a client puts in its first rounds
abbrev pub sum_to : ℕ → ℕ → ℕ → ℕ
sum_to start client zero = 0
sum_to start client (suc round) = sum_to start client round + value_in start client round

-- the sum of as many numbers after this one
abbrev pub sum_after : ℕ → ℕ → ℕ
sum_after start count = sum_by (λ n. n) (numbers_after start count)

-- ---- their laws

-- There is no row at or below an entry that no round put.
abbrev pub IsAbsent : Type 0
IsAbsent = (rounds : List Round) (key : ℕ) → has_key rounds key ≡ false → has (trees_behind rounds Config) (entry key) ≡ false

-- There is no row at the list itself.
abbrev pub HasNoList : Type 0
HasNoList = (rounds : List Round) → cell (trees_behind rounds Config) (Node 0 ∷ []) ≡ None

-- Over rounds and a base after rounds, a put of an entry that no round put is the next commit, for any spans.
abbrev pub IsDecided : Type 0
IsDecided =
    (rounds front : List Round) (spans : List Span) (key value : ℕ) → has_key rounds key ≡ false
    → decide table nothing (commits_of rounds) One (trees_behind front) spans (put_of key value ∷ []) ≡ Done (length rounds + 1)

-- Rounds that put different entries leave three rows each, with the numbers that they put, and no operational row.
pub record AreCounted (rounds : List Round) : Type 0 where
  pub rows : length (trees_behind rounds Config) ≡ 3 * length rounds
  pub numbers : sum_by number_of (trees_behind rounds Config) ≡ sum_of rounds
  pub operational : trees_behind rounds Oper ≡ []

abbrev pub RoundsAreCounted : Type 0
RoundsAreCounted = (rounds : List Round) → are_distinct rounds ≡ true → AreCounted rounds

-- A transaction takes the put of an entry over any tree.
abbrev pub IsAccepted : Type 0
IsAccepted = (tree : List Row) (key value : ℕ) → refusal table tree (put_of key value) ≡ None

-- The path and the value of a round are read as its put's.
abbrev pub PathIsRead : Type 0
PathIsRead = (key : ℕ) → key ≤ 4294967295 → read_path table (entry_path key) ≡ Ok (entry key)

abbrev pub DataIsRead : Type 0
DataIsRead = (key value : ℕ) → key ≤ 4294967295 → value ≤ 4294967295 → read_data table (entry key) (entry_data key value) ≡ Ok (rows key value)

-- Two clients, or two rounds of one, have different keys.
abbrev pub KeysDiffer : Type 0
KeysDiffer = (client round other next : ℕ) → round < 1000000 → next < 1000000 → key_of client round ≡ key_of other next → (client ≡ other) × (round ≡ next)

-- Keys and numbers of a load are numbers of 32 bits.
abbrev pub AreShort : Type 0
AreShort =
    (start client round : ℕ) → start ≤ 65536 → client < 4 → round < 10000
    → (key_of client round ≤ 4294967295) × (value_in start client round ≤ 4294967295)

-- One round more keeps them different, if its entry is new.
abbrev pub StayDistinct : Type 0
StayDistinct = (rounds : List Round) (round : Round) → are_distinct rounds ≡ true → has_key rounds round.key ≡ false → are_distinct (rounds ++ round ∷ []) ≡ true

abbrev pub SumGrows : Type 0
SumGrows = (rounds : List Round) (round : Round) → sum_of (rounds ++ round ∷ []) ≡ sum_of rounds + round.value

-- The puts of the four clients in these rounds are the next numbers after the start, each once.
abbrev pub SumsAreAll : Type 0
SumsAreAll = (start rounds : ℕ) → sum_to start 0 rounds + sum_to start 1 rounds + sum_to start 2 rounds + sum_to start 3 rounds ≡ sum_after start (4 * rounds)
