use Rattle.std.proofs.Common.{◌≡◌, ◌∙◌, ◌<◌, sym, false, length, arith}
use Rattle.std.proofs.lemmas.Grind.{common_steps}
use Rattle.sal_module.specs.Keywords.{same_keyword}
use Rattle.sal_grouping.proofs.IndexLists.{with_first-miss, defines-other, define-at, not-true, not-false}
use Rattle.sal_grouping.proofs.index.define_row.Goals as goal

pub returns-then-ne-clause-each : goal.returns-then-ne-clause-each
returns-then-ne-clause-each c b d h q =
    let other : same_keyword c.args.row.now.keyword c.args.keyword ≡ false = not-true (same_keyword c.args.row.now.keyword c.args.keyword) (sym c.ne.ensures ∙ c.if-ne.true) in
    rw (defines-other c.args.keyword b q c.args.row.now other) (sym (with_first-miss _ c.args.k))

pub returns-in_ok-define-clause-each : goal.returns-in_ok-define-clause-each
returns-in_ok-define-clause-each c =
    let is = not-false (same_keyword c.args.row.now.keyword c.args.keyword) (sym c.ne.ensures ∙ c.if-ne.false) in
    let within : c.in-Some.b < length c.args.maps.now.items = grind (arith, common_steps) in
    define-at c.args.maps.now.items c.in-Some.b c.args.k c.index_mut.result.now c.define.new.map c.args.keyword c.args.row.now c.in-Some.is is within c.index_mut.ensures.value
    (λ q. rw c.as_str.ensures at (c.in_ok-define.ensures q))
