-- The values of a program's steps are JSON, and what was read of them is for the schema.
use Rattle.std.proofs.Common.{◌≡◌, ℕ, zero, suc, ◌<◌, true, List, [], ◌∷◌, length, get_or, Result, Ok, Err, IsTrue, refl, sym, ap, ◌∙◌, subst, arith}
use Rattle.std.proofs.lemmas.Bool.{and_parts}
use Rattle.std.specs.List.{list_all}
use Rattle.sal_types.specs.declared.value.Store.{Store}
use Rattle.sal_types.specs.declared.value.Step.{Step}
use Rattle.sal_rows.specs.declared.op.Act.{Act}
use Rattle.sal_rows.specs.declared.op.Op.{Op}
use Rattle.sal_schema.specs.declared.table.SchemaTable.{SchemaTable}
use Rattle.sal_schema.specs.Valid.{IsTable}
use Rattle.sal_pathtext.specs.declared.fault.PathTextFault.{PathTextFault}
use Rattle.sal_pathtext.specs.Read.{read_path}
use Rattle.sal_data.specs.declared.fault.DataFault.{DataFault}
use Rattle.sal_rules.specs.Writes.{IsForSchema}
use Rattle.sal_script.proofs.Given.{Given}
use Rattle.sal_script.specs.declared.script.ScriptStep.{ScriptStep}
use Rattle.sal_script.specs.JsonMoves.{is_json_move, have_json_moves}
use Rattle.sal_script.specs.JsonScripts.{is_json_act}
use Rattle.sal_script.specs.Laws.{WritesAreForSchema}
use Rattle.sal_script.specs.Moves.{move_of, moves_of, clients_of}
use Rattle.sal_script.specs.Play.{DataAct, act_of}
use Rattle.sal_client.specs.Operations.{op_at, op_by}

pub json_at : (steps : List ScriptStep) (i : ℕ) (step : ScriptStep) → list_all is_json_move (moves_of steps) ≡ true → i < length steps → step ≡ get_or steps i step → is_json_move (move_of step) ≡ true
json_at [] i step are h at = absurd (omega arith)
json_at (x ∷ steps) zero step are h at = ap (λ (s : ScriptStep). is_json_move (move_of s)) at ∙ (and_parts (is_json_move (move_of x)) (list_all is_json_move (moves_of steps)) are).0
json_at (x ∷ steps) (suc i) step are h at = json_at steps i step (and_parts (is_json_move (move_of x)) (list_all is_json_move (moves_of steps)) are).1 (omega arith) at

pub program_at : (ps : List (List ScriptStep)) (i : ℕ) (p : List ScriptStep) → have_json_moves (clients_of ps) ≡ true → i < length ps → p ≡ get_or ps i p → list_all is_json_move (moves_of p) ≡ true
program_at [] i p have h at = absurd (omega arith)
program_at (x ∷ ps) zero p have h at = ap (λ (q : List ScriptStep). list_all is_json_move (moves_of q)) at ∙ (and_parts (list_all is_json_move (moves_of x)) (have_json_moves (clients_of ps)) have).0
program_at (x ∷ ps) (suc i) p have h at = program_at ps i p (and_parts (list_all is_json_move (moves_of x)) (have_json_moves (clients_of ps)) have).1 (omega arith) at

module _ (law : WritesAreForSchema) (table : SchemaTable) (good : IsTable table) (domain : ℕ) (store : Store) (text : List ℕ) (data_act : DataAct) (is : IsTrue (is_json_act data_act)) where
  by_act : (path : List Step) → read_path table text ≡ Ok path → (act : Result Act DataFault) → act_of table path data_act ≡ act → Given (IsForSchema table) (op_at domain store path act)
  by_act path read (Ok act) e = law table good store text path read data_act is act e
  by_act path read (Err fault) e = tt

  by_path : (path : Result (List Step) PathTextFault) → read_path table text ≡ path → Given (IsForSchema table) (op_by table domain store data_act path)
  by_path (Ok path) e = by_act path e (act_of table path data_act) refl
  by_path (Err fault) e = tt

  -- an operation that was read is for the schema
  pub op_for_schema : (op : Op) → Ok op ≡ op_by table domain store data_act (read_path table text) → IsForSchema table op
  op_for_schema op made = subst (Given (IsForSchema table)) (sym made) (by_path (read_path table text) refl)
