-- The step is read, the client has a place, and it makes the step.
use Rattle.std.proofs.Common.{ℕ, List, Result, refl, ap, ◌∙◌, subst, arith}
use Rattle.sal_script.specs.Moves.{move_of}
use Rattle.sal_client.proofs.Faults.{err_so}
use Rattle.sal_embed.specs.declared.fault.StepFault.{StepFault}
use Rattle.sal_embed.specs.declared.fault.StepFault.TheVariants.{NoMemory}
use Rattle.sal_embed.specs.declared.clients.Clients.{Clients}
use Rattle.sal_embed.specs.Answers.{fault_of}
use Rattle.sal_embed.specs.Outcomes.{Steps}
use Rattle.sal_embed.proofs.Opened.{bad_step}
use Rattle.sal_embed.proofs.Placed.{steps_by}
use Rattle.sal_embed.proofs.embedded.Embedded.step.Goals as goal

pub returns-in_err-step-clause-steps : goal.returns-in_err-step-clause-steps
returns-in_err-step-clause-steps c =
    let e = c.in_err-step.field-0.0 in
    let it = c.self.inside.clients in
    subst (λ (old : Clients). Steps old old c.args.client c.args.step.now c.from_residual.result) c.self.view_is
    (err_so (λ (r : Result (List ℕ) StepFault). Steps it it c.args.client c.args.step.now r) _ (fault_of e) c.from_residual.ensures.1
    (bad_step it c.args.client c.args.step.now e (omega arith) c.in_err-step.ensures.reads))

pub returns-in_err-step-clause-reads : goal.returns-in_err-step-clause-reads
returns-in_err-step-clause-reads c = refl

pub returns-in_err-place-clause-steps : goal.returns-in_err-place-clause-steps
returns-in_err-place-clause-steps c =
    let new = c.place.new.self in
    let placing = c.place.ensures.placing in
    subst (λ (old : Clients). Steps old new c.args.client c.args.step.now c.from_residual-in_err-place.result) c.self.view_is
    (err_so (λ (r : Result (List ℕ) StepFault). Steps c.self.inside.clients new c.args.client c.args.step.now r) _ NoMemory c.from_residual-in_err-place.ensures.1 (placing.same, λ k other. placing.loses k))

pub returns-in_err-place-clause-reads : goal.returns-in_err-place-clause-reads
returns-in_err-place-clause-reads c = c.place.ensures.reads ∙ ap (λ (it : Clients). it.checked_reads) c.self.view_is

pub returns-clause-steps : goal.returns-clause-steps
returns-clause-steps c =
    subst (λ (old : Clients). Steps old c.make.new.self c.args.client c.args.step.now c.make.result) c.self.view_is
    (steps_by c.self.inside.clients c.place.new.self c.make.new.self c.place.ensures.placing c.args.client (move_of c.in_ok-step.step) c.args.step.now (omega arith) c.in_ok-step.ensures.reads
    c.make.result c.make.ensures.makes)

pub returns-clause-reads : goal.returns-clause-reads
returns-clause-reads c = c.make.ensures.reads ∙ c.place.ensures.reads ∙ ap (λ (it : Clients). it.checked_reads) c.self.view_is
