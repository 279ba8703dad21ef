-- The result of the stream is its result by the table of the script.
use Rattle.std.proofs.Common.{◌≡◌, ℕ, List, Result, ap, sym, ◌∙◌, subst}
use Rattle.sal_types.specs.Reading.{◌>>=◌}
use Rattle.sal_schema.specs.declared.table.SchemaTable.{SchemaTable}
use Rattle.sal_follow.specs.Stream.{followed, fresh}
use Rattle.sal_script.specs.Reading.{parts}
use Rattle.sal_script.specs.Script.{Parts}
use Rattle.sal_prepare.specs.declared.status.Status.{Status}
use Rattle.sal_prepare.specs.OwnSchemas.{own_table}
use Rattle.sal_prepare.specs.Texts.{IsTextOr}
use Rattle.sal_follow_script.specs.Follows.{follow_parts, told}
use Rattle.sal_follow_script.proofs.follow.follow_parts.Goals as goal

pub returns : goal.returns
returns c =
    let stream = c.args.input.second.now in
    let by : SchemaTable → Result (List ℕ) Status = λ table. told table (followed table fresh stream) in
    let same : follow_parts (record { first = c.args.input.first.now; second = stream }) ≡ by c.in_ok-own.own.schema.value =
    ap (λ (made : Result Parts Status). made >>= (λ parts. own_table parts >>= by)) c.in_ok-script.ensures
    ∙ ap (λ (made : Result SchemaTable Status). made >>= by) c.in_ok-own.ensures.table in
    subst (λ (made : Result (List ℕ) Status). IsTextOr made c.follow_stream.result) (sym same) c.follow_stream.ensures
