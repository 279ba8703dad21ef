-- The broker is opened over the world of the prepared script.
use Rattle.std.proofs.Common.{Bool, Ok, ap, sym, ◌∙◌}
use Rattle.sal_hub.specs.HubHistory.{HubHistory}
use Rattle.sal_prepare.specs.Scripted.{seen}
use Rattle.sal_prepare.proofs.Each.{comes_err}
use Rattle.sal_embed.specs.Opening.{opened, reads_of, world_of}
use Rattle.sal_embed.proofs.Opened.{opened_bad, opened_fault, opened_reads, opened_world, reads_bad, reads_fault}
use Rattle.sal_embed.proofs.embedded.Embedded.open.Goals as goal

pub returns-in_err-prepared-clause-opens : goal.returns-in_err-prepared-clause-opens
returns-in_err-prepared-clause-opens c =
    let bytes = c.args.script.now in
    let e = c.in_err-prepared.field-0.0 in
    comes_err _ (world_of (opened bytes)) _ e c.from_residual.ensures.1 (opened_fault bytes e c.in_err-prepared.ensures.prepared)

pub returns-in_err-bare-clause-opens : goal.returns-in_err-bare-clause-opens
returns-in_err-bare-clause-opens c =
    let bytes = c.args.script.now in
    let it = seen c.in_ok-prepared.prepared in
    let e = c.in_err-bare.field-0.0 in
    comes_err _ (world_of (opened bytes)) _ e c.from_residual-in_err-bare.ensures.1 (opened_bad bytes it e c.in_ok-prepared.ensures.prepared c.in_err-bare.ensures)

pub returns-clause-opens : goal.returns-clause-opens
returns-clause-opens c =
    opened_world c.args.script.now (seen c.in_ok-prepared.prepared) c.in_ok-prepared.ensures.prepared c.in_ok-bare.ensures ∙ ap (λ (h : HubHistory). Ok h.world) (sym c.prepared_over.ensures.hub)

pub returns-in_err-prepared-clause-reads : goal.returns-in_err-prepared-clause-reads
returns-in_err-prepared-clause-reads c =
    let bytes = c.args.script.now in
    let e = c.in_err-prepared.field-0.0 in
    comes_err _ (reads_of (opened bytes)) _ e c.from_residual.ensures.1 (reads_fault bytes e c.in_err-prepared.ensures.prepared)

pub returns-in_err-bare-clause-reads : goal.returns-in_err-bare-clause-reads
returns-in_err-bare-clause-reads c =
    let bytes = c.args.script.now in
    let it = seen c.in_ok-prepared.prepared in
    let e = c.in_err-bare.field-0.0 in
    comes_err _ (reads_of (opened bytes)) _ e c.from_residual-in_err-bare.ensures.1 (reads_bad bytes it e c.in_ok-prepared.ensures.prepared c.in_err-bare.ensures)

pub returns-clause-reads : goal.returns-clause-reads
returns-clause-reads c =
    opened_reads c.args.script.now (seen c.in_ok-prepared.prepared) c.in_ok-prepared.ensures.prepared c.in_ok-bare.ensures ∙ ap (λ (b : Bool). Ok b) (sym c.prepared_over.ensures.reads)
