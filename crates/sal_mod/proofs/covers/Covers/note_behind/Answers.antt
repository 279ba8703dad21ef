-- A put or delete is recorded as a write, a read as a read, and a merge not at all.
use Rattle.std.proofs.Common.{◌≡◌, true, false, length, refl, sym, ◌∙◌}
use Rattle.std.proofs.lemmas.Result.{on_ok_weaker}
use Rattle.sal_rows.specs.Apply.{checks_path, is_read}
use Rattle.sal_mod.proofs.Noted.{no_read, noted-more, skipped-more}
use Rattle.sal_mod.proofs.covers.Covers.note_behind.Goals as goal

pub returns-then-checks_path-clause-ok : goal.returns-then-checks_path-clause-ok
returns-then-checks_path-clause-ok c =
    let ops = c.args.ops.now in
    let op = c.args.op.now in
    let checks : checks_path op.act ≡ true = sym c.checks_path.ensures ∙ c.if-checks_path.true in
    on_ok_weaker c.note.result
    (λ noted. (noted-more checks_path ops op (length ops) c.args.self.now.writes c.note.new.self checks refl c.requires.0 noted, skipped-more is_read ops op c.args.self.now.reads (no_read op.act checks) c.requires.1))
    c.note.ensures.ok

pub returns-then-is_read-clause-ok : goal.returns-then-is_read-clause-ok
returns-then-is_read-clause-ok c =
    let ops = c.args.ops.now in
    let op = c.args.op.now in
    let fails : checks_path op.act ≡ false = sym c.checks_path.ensures ∙ c.if-checks_path.false in
    let reads : is_read op.act ≡ true = sym c.is_read.ensures ∙ c.if-is_read.true in
    on_ok_weaker c.note-then-is_read.result
    (λ noted. (skipped-more checks_path ops op c.args.self.now.writes fails c.requires.0, noted-more is_read ops op (length ops) c.args.self.now.reads c.note-then-is_read.new.self reads refl c.requires.1 noted))
    c.note-then-is_read.ensures.ok

pub returns-clause-ok : goal.returns-clause-ok
returns-clause-ok c =
    let ops = c.args.ops.now in
    let op = c.args.op.now in (
      skipped-more checks_path ops op c.args.self.now.writes (sym c.checks_path.ensures ∙ c.if-checks_path.false) c.requires.0,
      skipped-more is_read ops op c.args.self.now.reads (sym c.is_read.ensures ∙ c.if-is_read.false) c.requires.1,
    )
