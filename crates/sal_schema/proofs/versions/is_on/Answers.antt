use Rattle.sal_schema.proofs.Sameness.{extends-is}
use Rattle.sal_schema.proofs.versions.is_on.Goals as goal

pub returns : goal.returns
returns c = extends-is c.args.newer.now c.args.older.now c.begins.result c.requires c.begins.ensures
