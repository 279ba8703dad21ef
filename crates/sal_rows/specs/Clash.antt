-- Conflicts of a transaction with the commits after its base, by two tests of each operation, and under version rules 2 by
-- three; then by a test of each of its checked reads. The tests of writes follow the optimistic commit of the MD-SAL developer guide
-- and its tables of conflicts; the exact rules are this project's own.
use Rattle.std.specs.Prelude.{ℕ, ◌-◌, Bool, true, false, not, ◌&&◌, List, [], ◌∷◌, ◌++◌, length, take, find, reverse, Option, None, Some, is_some, slice_get, if◌then◌else◌, unwrap_or}
use Rattle.std.specs.List.{position_from}
use Rattle.std.specs.Option.{option_or, option_map, option_map_or}
use Rattle.sal_types.specs.declared.value.Store.{Store}
use Rattle.sal_types.specs.declared.value.Step.{Step}
use Rattle.sal_types.specs.declared.value.Cell.{Cell}
use Rattle.sal_types.specs.declared.value.Cell.TheVariants.{Mark, Leaf}
use Rattle.sal_types.specs.declared.row.Row.{Row}
use Rattle.sal_types.specs.Tree.{cell, has}
use Rattle.sal_rows.specs.declared.op.Act.{Act}
use Rattle.sal_rows.specs.declared.op.Act.TheVariants.{Put, Merge, Delete, Read}
use Rattle.sal_rows.specs.declared.op.Op.{Op}
use Rattle.sal_rows.specs.declared.outcome.ClashKind.TheVariants.{Deleted}
use Rattle.sal_rows.specs.Apply.{checks_path, is_read, last_setting, rows_of_act}
use Rattle.sal_rows.specs.Changes.{same_cell}
use Rattle.sal_rows.specs.Commits.{kind_by, numbers_after, numbers_in, tree_after, touches_at}
use Rattle.sal_rows.specs.declared.clash.Rules.{Rules}
use Rattle.sal_rows.specs.declared.clash.Rules.TheVariants.{One, Two}
use Rattle.sal_rows.specs.declared.clash.Span.{Span}
use Rattle.sal_rows.specs.PathClash.{difference, is_covered}
use Rattle.sal_rows.specs.declared.clash.Clash.{Clash}

-- a put and a merge require the parents above their path
abbrev pub needs_parents : Act → Bool
needs_parents (Put rows) = true
needs_parents (Merge rows) = true
needs_parents Delete = false
needs_parents Read = false

-- under version rules 2 a merge checks the leafs that it names
abbrev pub checks_leafs : Rules → Act → Bool
checks_leafs One act = false
checks_leafs Two (Put rows) = false
checks_leafs Two (Merge rows) = true
checks_leafs Two Delete = false
checks_leafs Two Read = false

abbrev pub is_leaf : Cell → Bool
is_leaf Mark = false
is_leaf (Leaf value) = true

-- the path of a row of the operation's data, by its index, and without one the operation's own path
abbrev pub path_by : Op → Option ℕ → List Step
path_by op None = op.path
path_by op (Some row) = option_map_or (λ (r : Row). r.path) (slice_get (rows_of_act op.act) row) op.path

-- the commits in the spans
abbrev pub numbers_over : List Span → List ℕ
numbers_over [] = []
numbers_over (span ∷ spans) = numbers_in span ++ numbers_over spans

-- the lengths of the prefixes of p between the root and p, the shortest first
abbrev pub depths_above : List Step → List ℕ
depths_above p = numbers_after 0 (length p - 1)

-- the opening trees and the commits after them; `base` are the trees at the start of the transaction
module _ (opening : Store → List Row) (commits : List (List Op)) where
  -- the tree of the store at the newest commit
  abbrev pub tip : Store → List Row
  tip s = tree_after s (opening s) commits

  -- the last of the commits in the spans that touched p
  abbrev pub last_touch_over : List Span → Store → List Step → Option ℕ
  last_touch_over spans s p = find (touches_at opening commits s p) (reverse (numbers_over spans))

  -- The base has a row at p, as each list entry and each presence container has one; no earlier operation of the
  -- transaction sets p, and the tip has nothing there.
  abbrev pub is_lost : (Store → List Row) → List Op → Store → List Step → Bool
  is_lost base earlier s p = is_some (cell (base s) p) && (not (has (tip s) p) && not (is_some (last_setting s earlier p)))

  -- the depth of the outermost parent above p that is lost
  abbrev pub lost_parent : (Store → List Row) → List Op → Store → List Step → Option ℕ
  lost_parent base earlier s p = find (λ d. is_lost base earlier s (take d p)) (depths_above p)

  -- The first test, of a put or merge: the outermost lost parent was deleted, and the last commit that touched it is
  -- named.
  abbrev pub parent_clash : (Store → List Row) → List Span → List Op → Op → Option Clash
  parent_clash base spans earlier op =
      if needs_parents op.act
      then option_map (λ d. record { op = length earlier; row = None; depth = d; kind = Deleted; commit = unwrap_or (last_touch_over spans op.store (take d op.path)) 0 }) (lost_parent base earlier op.store op.path)
      else None

  -- The second test, of a put or delete that no earlier put or delete covers: the first span over which its path is
  -- not unchanged.
  abbrev pub path_clash : List Span → List Op → Op → Option Clash
  path_clash spans earlier op =
      if checks_path op.act && not (is_covered earlier op.store op.path)
      then option_map (λ c. record { op = length earlier; row = None; depth = length op.path; kind = c.kind; commit = c.commit }) (difference opening commits op.store spans op.path)
      else None

  -- a leaf that a commit in the spans touched, and at whose path base and tip have different cells
  abbrev pub is_stale : (Store → List Row) → List Span → Store → Row → Bool
  is_stale base spans s row =
      is_leaf row.cell && (not (same_cell (cell (base s) row.path) (cell (tip s) row.path)) && is_some (last_touch_over spans s row.path))

  -- the conflict at the path of a row of the operation's data: its kind by the cells of base and tip, with the last commit that
  -- touched it
  abbrev pub at_row : (Store → List Row) → List Span → List Op → Op → ℕ → Clash
  at_row base spans earlier op row =
      record {
        op = length earlier;
        row = Some row;
        depth = length (path_by op (Some row));
        kind = kind_by (is_some (cell (base op.store) (path_by op (Some row)))) (is_some (cell (tip op.store) (path_by op (Some row))));
        commit = unwrap_or (last_touch_over spans op.store (path_by op (Some row))) 0;
      }

  -- The third test, under version rules 2, of a merge that no earlier put or delete covers: the first leaf of its data that is stale.
  -- Where the base has its own commits' cells, a leaf whose cells differ was touched (`SameOrTouched` in `Quiet`).
  abbrev pub leaf_clash : Rules → (Store → List Row) → List Span → List Op → Op → Option Clash
  leaf_clash rules base spans earlier op =
      if checks_leafs rules op.act && not (is_covered earlier op.store op.path)
      then option_map (at_row base spans earlier op) (position_from (is_stale base spans op.store) 0 (rows_of_act op.act))
      else None

  abbrev pub op_clash : Rules → (Store → List Row) → List Span → List Op → Op → Option Clash
  op_clash rules base spans earlier op =
      option_or (parent_clash base spans earlier op) (option_or (path_clash spans earlier op) (leaf_clash rules base spans earlier op))

  -- the first conflict of the operations, after the earlier ones
  abbrev pub clash_from : Rules → (Store → List Row) → List Span → List Op → List Op → Option Clash
  clash_from rules base spans earlier [] = None
  clash_from rules base spans earlier (op ∷ ops) = option_or (op_clash rules base spans earlier op) (clash_from rules base spans (earlier ++ op ∷ []) ops)

  -- The test of a read that no earlier put or delete covers: the first span over which its path is not unchanged.
  abbrev pub read_clash : List Span → List Op → Op → Option Clash
  read_clash spans earlier op =
      if is_read op.act && not (is_covered earlier op.store op.path)
      then option_map (λ c. record { op = length earlier; row = None; depth = length op.path; kind = c.kind; commit = c.commit }) (difference opening commits op.store spans op.path)
      else None

  -- the first conflict of the reads among the operations, after the earlier ones
  abbrev pub reads_from : List Span → List Op → List Op → Option Clash
  reads_from spans earlier [] = None
  reads_from spans earlier (op ∷ ops) = option_or (read_clash spans earlier op) (reads_from spans (earlier ++ op ∷ []) ops)

  -- The conflict of a transaction's operations with the commits in these spans. Its reads are tested after all its writes.
  abbrev pub clash : Rules → (Store → List Row) → List Span → List Op → Option Clash
  clash rules base spans ops = option_or (clash_from rules base spans [] ops) (reads_from spans [] ops)
