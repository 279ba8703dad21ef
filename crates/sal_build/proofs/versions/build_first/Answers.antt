use Rattle.sal_build.proofs.Extending.{schema_of}
use Rattle.sal_build.proofs.versions.build_first.Goals as goal

pub returns-clause-schema : goal.returns-clause-schema
returns-clause-schema c = schema_of c.args.stmts.now c.versioned.result c.versioned.ensures.version
