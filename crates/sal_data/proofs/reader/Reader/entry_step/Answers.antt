use Rattle.serde_json.specs.View.{view}
use Rattle.sal_data.specs.Read as spec
use Rattle.sal_data.proofs.AnyPath.{keys_anywhere}
use Rattle.sal_data.proofs.reader.Reader.entry_step.Goals as goal

pub returns-in-Ok : goal.returns-in-Ok
returns-in-Ok c =
    let a = c.args in
    keys_anywhere a.self.now.schema.now a.node a.path.now (spec.before_last a.path.now) (view a.json.now) c.in-Ok.step c.in-Ok.ensures
