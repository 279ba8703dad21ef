-- All replies are written, and then the report.
use Rattle.std.proofs.Common.{◌≡◌, List, Result, Ok, Err, ℕ, map, refl, ap, sym, ◌∙◌, subst}
use Rattle.std.specs.Prelude.{IfOk}
use Rattle.sal_types.specs.declared.memory.NoMemory.{NoMemory as Wanting}
use Rattle.sal_client.proofs.Faults.{err_so}
use Rattle.sal_prepare.specs.Scripted.{tables_in}
use Rattle.sal_embed.specs.declared.caller.Caller.{Caller}
use Rattle.sal_embed.specs.declared.clients.Clients.{Clients}
use Rattle.sal_embed.specs.Broker.{AreTold, lines_in, report_with}
use Rattle.sal_embed.specs.Outcomes.{Reports}
use Rattle.sal_embed.proofs.Following.{all_near, follow_callers, follow_loses, follow_reports, follow_same}
use Rattle.sal_embed.proofs.clients.Clients.report.Goals as goal

pub tell_all-requires : goal.tell_all-requires
tell_all-requires c = all_near c.args.self.now.hub c.args.self.now.callers.items c.requires.callers

pub returns-in_err-tell_all-clause-reports : goal.returns-in_err-tell_all-clause-reports
returns-in_err-tell_all-clause-reports c =
    let old = c.args.self.now in
    let new : Clients = record old { callers = c.tell_all.new.callers } in
    let tables = tables_in c.args.schemas.now in
    let follow = c.tell_all.ensures.follow in
    let e = c.in_err-tell_all.field-0.0 in
    err_so (λ (r : Result (List ℕ) Wanting). Reports old new r) _ e c.from_residual.ensures.1
    (follow_same tables old new refl c.requires.schemas c.requires.callers follow, follow_loses tables old new refl c.requires.schemas c.requires.callers follow)

pub returns-in_err-tell_all-clause-callers : goal.returns-in_err-tell_all-clause-callers
returns-in_err-tell_all-clause-callers c =
    follow_callers (tables_in c.args.schemas.now) c.args.self.now.hub c.args.self.now.callers.items c.tell_all.new.callers.items c.tell_all.ensures.follow c.requires.callers

pub returns-in_err-tell_all-clause-long : goal.returns-in_err-tell_all-clause-long
returns-in_err-tell_all-clause-long c = c.tell_all.ensures.follow.long

pub returns-clause-reports : goal.returns-clause-reports
returns-clause-reports c =
    let old = c.args.self.now in
    let new : Clients = record old { callers = c.tell_all.new.callers } in
    let callers = new.callers.items in
    follow_reports (tables_in c.args.schemas.now) old new refl c.requires.schemas c.requires.callers c.tell_all.ensures.follow c.told_report.result c.in_ok-tell_all.ensures.told
    (λ text is.
    subst (λ (r : Result (List ℕ) Wanting). IfOk r (λ t. t ≡ report_with old.hub (map lines_in callers))) is
    (subst (λ (cs : List Caller). IfOk c.told_report.result (λ t. t ≡ report_with old.hub (map lines_in cs))) c.deref.ensures.value c.told_report.ensures))

pub returns-clause-callers : goal.returns-clause-callers
returns-clause-callers c =
    follow_callers (tables_in c.args.schemas.now) c.args.self.now.hub c.args.self.now.callers.items c.tell_all.new.callers.items c.tell_all.ensures.follow c.requires.callers

pub returns-clause-long : goal.returns-clause-long
returns-clause-long c = c.tell_all.ensures.follow.long
