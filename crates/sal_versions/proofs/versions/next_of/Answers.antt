use Rattle.sal_versions.proofs.ReadTexts.{each_read}
use Rattle.sal_versions.proofs.VersionTexts.{if_ok}
use Rattle.sal_versions.proofs.versions.next_of.Goals as goal

pub with_more-requires-clause-readable : goal.with_more-requires-clause-readable
with_more-requires-clause-readable c =
    let more = c.in_ok-more.more.items in
    c.requires.readable more (each_read c.len.result c.args.texts.now more c.in_ok-more.ensures)

pub returns-clause-read : goal.returns-clause-read
returns-clause-read c =
    let more = c.in_ok-more.more.items in
    if_ok c.with_more.result (λ v joined. (more, each_read c.len.result c.args.texts.now more c.in_ok-more.ensures, joined)) c.with_more.ensures.stmts
