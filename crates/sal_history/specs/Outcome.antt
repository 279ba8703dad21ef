-- How a submission is decided at its domain's newest commit: the first that applies of a conflict by the domain's version rules, a breach in the
-- configuration, a breach in the operational tree, and done. The steps are those of canCommit, preCommit and commit of
-- the MD-SAL developer guide's three-phase commit.
use Rattle.std.specs.Prelude.{◌+◌, List, length, take, Option, slice_get, unwrap_or, option_and_then}
use Rattle.std.specs.Option.{option_or, option_map}
use Rattle.sal_types.specs.declared.value.Store.{Store}
use Rattle.sal_types.specs.declared.value.Store.TheVariants.{Config, Oper}
use Rattle.sal_types.specs.declared.row.Row.{Row}
use Rattle.sal_rows.specs.declared.op.Op.{Op}
use Rattle.sal_rows.specs.declared.outcome.Outcome.{Outcome}
use Rattle.sal_rows.specs.declared.outcome.Outcome.TheVariants.{Done, Conflict, Invalid}
use Rattle.sal_rows.specs.Apply.{apply_ops}
use Rattle.sal_rows.specs.declared.clash.Span.{Span}
use Rattle.sal_schema.specs.declared.table.SchemaTable.{SchemaTable}
use Rattle.sal_rules.specs.Breaches.{breach}
use Rattle.sal_rows.specs.declared.clash.Clash.{Clash}
use Rattle.sal_rows.specs.declared.clash.Rules.{Rules}
use Rattle.sal_rows.specs.Clash.{clash, path_by, tip}

-- a conflict of the operation, with its store and its place
abbrev pub conflict_of : Clash → Op → Outcome
conflict_of c op = Conflict op.store (take c.depth (path_by op c.row)) c.kind c.commit

-- the domain's schema, its opening trees and the commits so far
module _ (table : SchemaTable) (opening : Store → List Row) (commits : List (List Op)) where
  -- the first conflict of the operations with the foreign commits in the spans
  abbrev pub conflict : Rules → (Store → List Row) → List Span → List Op → Option Outcome
  conflict rules base spans ops = option_and_then (λ c. option_map (conflict_of c) (slice_get ops c.op)) (clash opening commits rules base spans ops)

  -- the store after the operations would break a structural rule
  abbrev pub invalid : Store → List Op → Option Outcome
  invalid s ops = option_map (λ b. Invalid s b.path b.rule) (breach table s (apply_ops (tip opening commits s) s ops))

  -- the outcome of operations over base trees; both stores change together, as the next commit
  abbrev pub decide : Rules → (Store → List Row) → List Span → List Op → Outcome
  decide rules base spans ops =
      unwrap_or (option_or (conflict rules base spans ops) (option_or (invalid Config ops) (invalid Oper ops))) (Done (length commits + 1))
