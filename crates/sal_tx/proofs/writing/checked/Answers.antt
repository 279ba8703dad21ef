use Rattle.std.proofs.Common.{◌≡◌, ◌⊎◌, Option, None, Some, subst}
use Rattle.std.specs.Prelude.{MatchResult}
use Rattle.sal_rules.specs.declared.fault.TxFault.{TxFault}
use Rattle.sal_rules.specs.declared.fault.TxFault.TheVariants.{NoMemory}
use Rattle.sal_rules.specs.Refusals.{refusal}
use Rattle.sal_tree.specs.Rows.{rows_of}
use Rattle.sal_tx.specs.Views.{refused}
use Rattle.sal_tx.proofs.writing.checked.Goals as goal

pub returns : goal.returns
returns c =
    let over : refusal c.schema_of.result.now (rows_of c.args.tree.now) c.args.op.now ≡ refused c.args.parts.now c.args.op.now = λ i. refusal (c.schema_of.ensures i) (c.requires i) c.args.op.now in
    subst (λ (o : Option TxFault). MatchResult c.check.result (λ _. o ≡ None) (λ e. (e ≡ NoMemory) ⊎ (o ≡ Some e))) over c.check.ensures
