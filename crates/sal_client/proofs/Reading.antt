-- Operations that are read, or why they are not.
use Rattle.std.proofs.Common.{◌≡◌, ℕ, List, Result, Ok, Err, ap, sym, ◌∙◌, subst, refl}
use Rattle.sal_types.specs.declared.value.Store.{Store}
use Rattle.sal_types.specs.declared.value.Step.{Step}
use Rattle.sal_types.specs.declared.row.Row.{Row}
use Rattle.sal_types.specs.Reading.{◌>>=◌}
use Rattle.sal_rows.specs.declared.op.Act.{Act}
use Rattle.sal_schema.specs.declared.table.SchemaTable.{SchemaTable}
use Rattle.sal_pathtext.specs.declared.fault.PathTextFault.{PathTextFault}
use Rattle.sal_data.specs.declared.fault.DataFault.{DataFault}
use Rattle.sal_script.specs.Play.{DataAct, act_of, op_of}
use Rattle.sal_script.specs.Services.{path_or, rows_or}
use Rattle.sal_client.specs.declared.fault.StepFault.{StepFault}
use Rattle.sal_client.specs.declared.fault.StepFault.TheVariants.{Refused, NoMemory}
use Rattle.sal_client.specs.Faults.{Refuses}
use Rattle.sal_client.specs.Operations.{good_data, op_at, op_by}

pub path_ok : (read : Result (List Step) PathTextFault) (path : List Step) → path_or read ≡ Ok path → read ≡ Ok path
path_ok (Ok found) path is = let same : found ≡ path = cc in ap (λ p. let r : Result (List Step) PathTextFault = Ok p in r) same
path_ok (Err fault) path is = cc

pub data_ok : {X : Type 0} (domain : ℕ) (read : Result X DataFault) (x : X) → good_data domain read ≡ Ok x → read ≡ Ok x
data_ok {X} domain (Ok found) x is = let same : found ≡ x = cc in ap (λ y. let r : Result X DataFault = Ok y in r) same
data_ok domain (Err fault) x is = cc

-- rows of the controller's own domain
pub own_data : (read : Result (List Row) DataFault) → good_data 0 read ≡ rows_or read
own_data (Ok rows) = refl
own_data (Err fault) = refl

-- the act of the rows that were read
pub act_ok : {X Y : Type 0} (domain : ℕ) (read : Result X DataFault) (x : X) (f : X → Y) → good_data domain read ≡ Ok x → good_data domain (read >>= λ y. Ok (f y)) ≡ Ok (f x)
act_ok domain read x f is = ap (λ r. good_data domain (r >>= λ y. Ok (f y))) (data_ok domain read x is)

pub act_refuses : {X Y : Type 0} (fault : StepFault) (domain : ℕ) (read : Result X DataFault) (f : X → Y) → Refuses fault (good_data domain read) → Refuses fault (good_data domain (read >>= λ y. Ok (f y)))
act_refuses NoMemory domain read f is = tt
act_refuses (Refused refusal) domain (Ok x) f is = cc
act_refuses (Refused refusal) domain (Err why) f is = cc

module _ (table : SchemaTable) (domain : ℕ) (store : Store) (data_act : DataAct) where
  at_act : (fault : StepFault) (path : List Step) (act : Result Act DataFault) → Refuses fault (good_data domain act) → Refuses fault (op_at domain store path act)
  at_act NoMemory path act is = tt
  at_act (Refused refusal) path (Ok act) is = cc
  at_act (Refused refusal) path (Err why) is = cc

  -- the path is none
  pub path_refuses : (fault : StepFault) (read : Result (List Step) PathTextFault) → Refuses fault (path_or read) → Refuses fault (op_by table domain store data_act read)
  path_refuses NoMemory read is = tt
  path_refuses (Refused refusal) (Ok path) is = cc
  path_refuses (Refused refusal) (Err why) is = cc

  -- or the value is none there
  pub op_refuses : (fault : StepFault) (read : Result (List Step) PathTextFault) (path : List Step) → path_or read ≡ Ok path → Refuses fault (good_data domain (act_of table path data_act)) → Refuses fault (op_by table domain store data_act read)
  op_refuses fault read path here is = subst (λ r. Refuses fault (op_by table domain store data_act r)) (sym (path_ok read path here)) (at_act fault path (act_of table path data_act) is)

  -- or both are
  pub op_reads : (read : Result (List Step) PathTextFault) (path : List Step) (act : Act) → path_or read ≡ Ok path → good_data domain (act_of table path data_act) ≡ Ok act → op_by table domain store data_act read ≡ Ok (op_of store path act)
  op_reads read path act here is = ap (op_by table domain store data_act) (path_ok read path here) ∙ ap (op_at domain store path) (data_ok domain (act_of table path data_act) act is)
