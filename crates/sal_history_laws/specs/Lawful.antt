-- Which operations are lawful over a base, and which trees are closed.
use Rattle.std.specs.Prelude.{◌≡◌, false, IsTrue, List, [], ◌∷◌, ◌++◌, None}
use Rattle.sal_types.specs.declared.value.Store.{Store}
use Rattle.sal_types.specs.declared.row.Row.{Row}
use Rattle.sal_rows.specs.declared.op.Op.{Op}
use Rattle.sal_rows.specs.Apply.{apply_ops, is_read}
use Rattle.sal_schema.specs.declared.table.SchemaTable.{SchemaTable}
use Rattle.sal_schema.specs.Fitting.{is_closed}
use Rattle.sal_rules.specs.Refusals.{refusal}
use Rattle.sal_rules.specs.Writes.{IsForSchema}

-- the trees of both stores are closed by the schema
abbrev pub AreClosed : SchemaTable → (Store → List Row) → Type 0
AreClosed table trees = (s : Store) → IsTrue (is_closed table (trees s))

-- Each operation that is no read is one for the schema, and is not refused over the base with the operations before it applied. A read may
-- be of any path.
abbrev pub AreLawful : SchemaTable → (Store → List Row) → List Op → List Op → Type 0
AreLawful table base earlier [] = Unit {0}
AreLawful table base earlier (op ∷ ops) =
    (is_read op.act ≡ false → IsForSchema table op × (refusal table (apply_ops (base op.store) op.store earlier) op ≡ None)) × AreLawful table base (earlier ++ op ∷ []) ops
