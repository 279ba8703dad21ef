-- One domain more, up to the last.
use Rattle.std.proofs.Common.{ap, ◌∙◌, List, Option}
use Rattle.std.specs.Option.{option_or}
use Rattle.sal_commit.specs.Stamps.{receipts_of}
use Rattle.sal_tree.specs.declared.commit.Commit.{Commit}
use Rattle.sal_draw.specs.Acts.{made_in}
use Rattle.sal_shapes.specs.declared.scene.Made.{Made}
use Rattle.sal_picture.specs.Made.{made_from, receipts_in}
use Rattle.sal_picture.proofs.Tables.{domain_more, domains_all}
use Rattle.sal_picture.proofs.made.made_among.Goals as goal

pub loop-domain-preserved : goal.loop-domain-preserved
loop-domain-preserved c = λ i.
    let n = c.loop-domain.domain-index in
    let d = c.domain-item.result in
    c.in_ok-add_domain.ensures i
    ∙ ap (λ (cs : List Commit). option_or (made_in c.loop-domain.table.items i) (made_from d.number 0 (receipts_of cs) i)) c.deref.ensures.value
    ∙ ap (λ (o : Option Made). option_or o (made_from d.number 0 (receipts_in d) i)) (c.loop-domain.invariant i)
    ∙ domain_more c.args.domains.now n d i c.loop-domain-test.true c.domain-item.is (c.requires n d c.loop-domain-test.true c.domain-item.is)

pub returns : goal.returns
returns c = λ i. c.loop-domain.invariant i ∙ domains_all c.args.domains.now c.loop-domain.domain-index i c.loop-domain-test.false
