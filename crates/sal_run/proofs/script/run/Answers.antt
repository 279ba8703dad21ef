-- The hub that is left when all seats are joined.
use Rattle.std.proofs.Common.{rules, ◌≡◌, List, Err, true, ap, sym, ◌∙◌, subst}
use Rattle.sal_history.specs.World.{Domain}
use Rattle.sal_script.specs.Tables.{versions_of}
use Rattle.sal_broker.specs.Seats.{SeatView, known}
use Rattle.sal_script.specs.declared.script.ScriptStep.{ScriptStep}
use Rattle.sal_script.specs.Along.{AreLogOf}
use Rattle.sal_script.specs.Limits.{within_limits}
use Rattle.sal_script.specs.Moves.{clients_of}
use Rattle.sal_client.specs.declared.wish.RunFault.TheVariants.{HistoryFull}
use Rattle.sal_run.proofs.Everyone.{are_left, begins, covers_all, never_full, same_world}
use Rattle.sal_run.proofs.script.run.Goals as goal

pub close-hub-requires-clause-joined : goal.close-hub-requires-clause-joined
close-hub-requires-clause-joined g c =
    let opened = c.in_ok-sal.ensures in
    let programs : List (List ScriptStep) = c.items-programs.result.now in
    let limits : within_limits programs ≡ true = subst (λ (ps : List (List ScriptStep)). within_limits ps ≡ true) (sym c.items-programs.ensures) c.args.script.now.limits in
    let begun = begins c.in_ok-sal.sal c.in_ok-sal.opening c.args.hub.world opened.0 opened.1 in
    covers_all c.args.readers.now c.in_ok-sal.sal programs c.in_ok-sal.opening c.in_ok-joined.joined c.in_ok-joined.replies limits begun c.in_ok-joined.ensures

pub unreachable-requires : goal.unreachable-requires
unreachable-requires g c =
    let opened = c.in_ok-sal.ensures in
    let programs : List (List ScriptStep) = c.items-programs.result.now in
    let limits : within_limits programs ≡ true = subst (λ (ps : List (List ScriptStep)). within_limits ps ≡ true) (sym c.items-programs.ensures) c.args.script.now.limits in
    let begun = begins c.in_ok-sal.sal c.in_ok-sal.opening c.args.hub.world opened.0 opened.1 in
    let closed = c.close-hub.ensures in
    let full : c.in_ok-joined.replies ≡ Err HistoryFull = search rules in
    never_full c.args.readers.now c.in_ok-sal.sal programs c.in_ok-sal.opening c.in_ok-joined.joined c.in_ok-joined.replies limits begun c.in_ok-joined.ensures
    c.close-hub.result closed.world closed.seen closed.own closed.joined closed.others full

pub returns-in-Ok-clause-left : goal.returns-in-Ok-clause-left
returns-in-Ok-clause-left g c =
    let opened = c.in_ok-sal.ensures in
    let programs : List (List ScriptStep) = c.items-programs.result.now in
    let limits : within_limits programs ≡ true = subst (λ (ps : List (List ScriptStep)). within_limits ps ≡ true) (sym c.items-programs.ensures) c.args.script.now.limits in
    let begun = begins c.in_ok-sal.sal c.in_ok-sal.opening c.args.hub.world opened.0 opened.1 in
    let closed = c.close-hub.ensures in
    let same : c.args.hub.world ≡ c.close-hub.result.world =
    ap (λ (v : SeatView). (known v).world) (sym opened.1)
    ∙ same_world c.args.readers.now c.in_ok-sal.sal programs c.in_ok-sal.opening c.in_ok-joined.joined c.in_ok-joined.replies limits begun c.in_ok-joined.ensures
    c.close-hub.result closed.world closed.seen closed.own closed.joined closed.others in
    let left =
    are_left c.args.readers.now c.in_ok-sal.sal programs c.in_ok-sal.opening c.in_ok-joined.joined c.in_ok-joined.replies limits begun c.in_ok-joined.ensures
    c.close-hub.result closed.world closed.seen closed.own closed.joined closed.others (c.requires.tables ∙ ap (λ (w : List Domain). versions_of w) same) c.in-Ok.replies c.in-Ok.is in
    subst (λ (ps : List (List ScriptStep)). AreLogOf c.args.hub.world (clients_of ps) c.close-hub.result.log c.in-Ok.replies) c.items-programs.ensures
    (subst (λ (w : List Domain). AreLogOf w (clients_of programs) c.close-hub.result.log c.in-Ok.replies) (sym same) left)
