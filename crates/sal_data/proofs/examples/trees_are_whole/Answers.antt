-- The tree is whole since it is read from JSON.
use Rattle.std.proofs.Common.{◌≡◌, ℕ, zero, suc, ◌<◌, [], ◌∷◌, Ok, refl, subst, arith}
use Rattle.std.specs.Prelude.{slice_index}
use Rattle.std.specs.Fmt.{digits}
use Rattle.std.specs.Str.{chars}
use Rattle.serde_json.specs.Data.{string}
use Rattle.sal_restrict.specs.declared.yang_type.YangType.TheViews.{out-roll-YangType}
use Rattle.sal_schema.specs.Table.{closest}
use Rattle.sal_schema.specs.Valid.{IsTable}
use Rattle.sal_schema.proofs.ShownTables.{shown}
use Rattle.sal_json.specs.Laws.{HasBytes}
use Rattle.sal_json.specs.Read.{type_scalar, own_json}
use Rattle.sal_data.specs.Examples as example
use Rattle.sal_data.specs.Laws.{IsJson}
use Rattle.sal_data.specs.Read.{read_data}
use Rattle.sal_data.proofs.ReadWhole.{reads_whole}
use Rattle.sal_data.proofs.examples.trees_are_whole.Goals as goal

table-IsTable : IsTable example.table
unfolding closest
table-IsTable = shown example.table (record { nodes = omega arith; types = omega arith; modules = omega arith; identities = omega arith }) refl (simp out-roll-YangType)

-- a text of one byte
byte : (c : ℕ) → c < 256 → HasBytes (string (c ∷ []))
byte c small t e i = let same : c ∷ [] ≡ t = cc in subst (λ u. slice_index u i < 256) same (by i)
  where
    by : (i : ℕ) → slice_index (c ∷ []) i < 256
    by zero = small
    by (suc i) = omega arith

tree-IsJson : IsJson example.tree
tree-IsJson = (refl, ((refl, (tt, (refl, (byte 52 (omega arith), (refl, (((refl, (byte 120 (omega arith), (refl, (tt, (refl, (byte 108 (omega arith), tt)))))), tt), (refl, ((byte 97 (omega arith), (byte 98 (omega arith), tt)), tt)))))))), tt))

tree-reads : read_data example.table [] example.tree ≡ Ok example.tree_rows
unfolding digits chars closest
tree-reads = simp (type_scalar, own_json, out-roll-YangType)

pub returns-clause-of_a_schema : goal.returns-clause-of_a_schema
returns-clause-of_a_schema c = table-IsTable

pub returns-clause-whole : goal.returns-clause-whole
returns-clause-whole c = reads_whole example.table table-IsTable [] refl (omega arith) example.tree tree-IsJson example.tree_rows tree-reads
