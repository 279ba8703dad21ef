-- A path that was read fits.
use Rattle.sal_pathtext.proofs.Walked.{read_fits}
use Rattle.sal_pathtext.proofs.read.read_path.Goals as goal

pub returns-clause-fits : goal.returns-clause-fits
returns-clause-fits c =
    let read = rw (c.new.ensures.schema, c.new.ensures.text) at c.in_ok-path.ensures in
    read_fits c.args.schema.now c.args.text.now c.in_ok-path.path c.len-nodes.ensures.table read
