use Rattle.std.proofs.Common.{map, Ok, ap, sym, ◌∙◌}
use Rattle.sal_versions.proofs.ReadTexts.{each_read, texts_readable}
use Rattle.sal_versions.proofs.VersionTexts.{if_ok}
use Rattle.sal_versions.proofs.versions.first_of.Goals as goal

pub built-requires : goal.built-requires
built-requires c = texts_readable c.what_is_read_is_readable.ensures c.args.texts.now c.in_ok-stmts.stmts.items c.requires c.in_ok-stmts.ensures

pub returns-clause-read : goal.returns-clause-read
returns-clause-read c =
    if_ok c.built.result (λ v same. each_read 0 c.args.texts.now c.in_ok-stmts.stmts.items c.in_ok-stmts.ensures ∙ ap (λ s. map Ok s.items) (sym same)) c.built.ensures.same
