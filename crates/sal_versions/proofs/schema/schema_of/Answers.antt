use Rattle.sal_versions.proofs.ReadTexts.{texts_readable}
use Rattle.sal_versions.proofs.schema.schema_of.Goals as goal

pub build_owned-requires : goal.build_owned-requires
build_owned-requires c =
    texts_readable c.what_is_read_is_readable.ensures c.args.texts.now c.in_ok-stmts.stmts.items c.requires c.in_ok-stmts.ensures
