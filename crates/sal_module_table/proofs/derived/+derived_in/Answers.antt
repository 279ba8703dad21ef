use Rattle.std.proofs.Common.{◌≡◌, ◌∙◌, ◌-◌, ◌<◌, ◌^◌, ℕ, All, take, sym, ap, subst, arith}
use Rattle.std.proofs.lemmas.List.{take_all}
use Rattle.std.proofs.lemmas.List.Elements.{All-get_or}
use Rattle.sal_grouping.specs.Indexes.{lists}
use Rattle.sal_module_table.specs.Identities.{derived, joined}
use Rattle.sal_module_table.proofs.Derivations.{derived-zero, derived-some}
use Rattle.sal_module_table.proofs.derived.+derived_in.Goals as goal

pub returns-then-steps-eq0 : goal.returns-then-steps-eq0
returns-then-steps-eq0 t c =
    let edges = lists c.args.edges.now in
    c.new.ensures.items ∙ sym (ap (λ n. derived n edges c.args.i) c.if-steps-eq0.true ∙ derived-zero edges c.args.i)

pub returns : goal.returns
returns t c =
    let a = c.args in
    let edges = lists a.edges.now in
    let bases = c.out_of-base-items.result.now in
    let some : 0 < a.steps = omega (arith, c.if-steps-eq0.false) in
    let whole : take c.loop-base.base-index bases ≡ bases = take_all c.loop-base.base-index bases c.loop-base-test.false in
    c.take.ensures.row ∙ c.loop-base.invariant ∙ ap (joined (derived (a.steps - 1) edges)) (whole ∙ c.out_of-base-items.ensures) ∙ sym (derived-some edges a.steps a.i some)

pub add_with-requires : goal.add_with-requires
add_with-requires t c =
    let P : ℕ → Type 0 = λ b. b < 2 ^ 32 in
    let bases = c.out_of-base-items.result.now in
    let all : All P bases = subst (All P) (sym c.out_of-base-items.ensures) (c.requires c.args.i) in
    All-get_or P bases c.loop-base.base-index _ c.loop-base-test.true all
