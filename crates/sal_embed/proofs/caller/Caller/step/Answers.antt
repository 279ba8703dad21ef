-- The reply of the step before is written, the step is made, and its reply is written.
use Rattle.std.proofs.Common.{◌≡◌, ℕ, List, Result, Ok, Err, length, refl, ap, sym, ◌∙◌, subst, arith}
use Rattle.sal_schema.specs.declared.table.SchemaTable.{SchemaTable}
use Rattle.sal_script.specs.Moves.{move_of}
use Rattle.sal_script.specs.Tables.{tables_of}
use Rattle.sal_client.specs.Wishes.{GrowsAtMost}
use Rattle.sal_client.proofs.Faults.{err_so}
use Rattle.sal_prepare.specs.Scripted.{tables_in}
use Rattle.sal_embed.specs.declared.fault.StepFault.{StepFault}
use Rattle.sal_embed.specs.declared.fault.StepFault.TheVariants.{NoMemory}
use Rattle.sal_embed.specs.Broker.{Follows, IsCaller, untold}
use Rattle.sal_embed.specs.Callers.{IsFinished, Steps}
use Rattle.sal_embed.proofs.Turns.{fails_on, finished, near, same_world, stays_told, waiting}
use Rattle.sal_embed.proofs.caller.Caller.step.Goals as goal

pub tell-requires : goal.tell-requires
tell-requires c = record { few = near c.args.hub.now c.args.self.now.number c.args.self.now c.requires.caller }

pub returns-in_err-tell-clause-steps : goal.returns-in_err-tell-clause-steps
returns-in_err-tell-clause-steps c =
    let known = c.args.hub.now in
    let old = c.args.self.now in
    let new = c.tell.new.self in
    err_so (λ (r : Result (List ℕ) StepFault). Steps (tables_of known.world) known old (move_of c.args.step.now) known new r) _ NoMemory c.from_residual.ensures.1
    (λ h. stays_told (tables_in c.args.schemas.now) known old new c.requires.schemas c.tell.ensures.follows)

pub returns-in_err-tell-clause-caller : goal.returns-in_err-tell-clause-caller
returns-in_err-tell-clause-caller c = c.tell.ensures.follows.held c.args.hub.now c.args.self.now.number c.requires.caller

pub make-requires-clause-caller : goal.make-requires-clause-caller
make-requires-clause-caller c =
    let first = c.tell.ensures.follows in
    subst (λ (n : ℕ). IsCaller c.args.hub.now n c.tell.new.self) (sym first.number) (first.held c.args.hub.now c.args.self.now.number c.requires.caller)

pub returns-in_err-make-clause-steps : goal.returns-in_err-make-clause-steps
returns-in_err-make-clause-steps c =
    let known = c.args.hub.now in
    let known' = c.make.new.hub in
    let old = c.args.self.now in
    let mid = c.tell.new.self in
    let new = c.make.new.self in
    let tables = tables_of known.world in
    let e = c.in_err-make.field-0.0 in
    let first : Follows tables old mid = subst (λ (ts : List SchemaTable). Follows ts old mid) c.requires.schemas c.tell.ensures.follows in
    err_so (λ (r : Result (List ℕ) StepFault). Steps tables known old (move_of c.args.step.now) known' new r) _ e c.from_residual-in_err-make.ensures.1
    (fails_on tables known known' old mid new (move_of c.args.step.now) refl first e c.in_err-make.ensures.fails)

pub returns-in_err-make-clause-caller : goal.returns-in_err-make-clause-caller
returns-in_err-make-clause-caller c = subst (λ (n : ℕ). IsCaller c.make.new.hub n c.make.new.self) c.tell.ensures.follows.number c.make.ensures.caller

pub returns-in_err-make-clause-grows : goal.returns-in_err-make-clause-grows
returns-in_err-make-clause-grows c = subst (λ (n : ℕ). GrowsAtMost n c.args.hub.now c.make.new.hub) c.tell.ensures.follows.number c.make.ensures.grows

pub finish-requires-clause-few : goal.finish-requires-clause-few
finish-requires-clause-few c = near c.make.new.hub c.tell.new.self.number c.make.new.self c.make.ensures.caller

pub finish-requires-clause-waits : goal.finish-requires-clause-waits
finish-requires-clause-waits c = let made = c.in_ok-make.ensures.made in waiting (untold c.make.new.self) made.0 made.1

pub returns-clause-steps : goal.returns-clause-steps
returns-clause-steps c =
    let known = c.args.hub.now in
    let known' = c.make.new.hub in
    let old = c.args.self.now in
    let mid = c.tell.new.self in
    let after = c.make.new.self in
    let new = c.finish.new.self in
    let tables = tables_of known.world in
    let first : Follows tables old mid = subst (λ (ts : List SchemaTable). Follows ts old mid) c.requires.schemas c.tell.ensures.follows in
    let last : Follows tables after new = subst (λ (ts : List SchemaTable). Follows ts after new) c.requires.schemas c.finish.ensures.follows in
    finished known known' old mid after new (move_of c.args.step.now) (same_world mid.number known known' c.make.ensures.grows) first last c.make.ensures.caller.number c.in_ok-make.ensures.made c.finish.result
    (subst (λ (ts : List SchemaTable). IsFinished ts after c.finish.result) c.requires.schemas c.finish.ensures.finished)

pub returns-clause-caller : goal.returns-clause-caller
returns-clause-caller c =
    c.finish.ensures.follows.held c.make.new.hub c.args.self.now.number
    (subst (λ (n : ℕ). IsCaller c.make.new.hub n c.make.new.self) c.tell.ensures.follows.number c.make.ensures.caller)

pub returns-clause-grows : goal.returns-clause-grows
returns-clause-grows c = subst (λ (n : ℕ). GrowsAtMost n c.args.hub.now c.make.new.hub) c.tell.ensures.follows.number c.make.ensures.grows
