use Rattle.std.proofs.Common.{rules, ◌≡◌, [], true, None, length, subst, arith}
use Rattle.std.proofs.lemmas.Grind.{common_steps}
use Rattle.sal_restrict.specs.declared.yang_type.YangType.{out-YangType}
use Rattle.sal_typedefs.specs.declared.judgement.Judgement.{Judgement}
use Rattle.sal_typedefs.specs.Restrictions.{numbering_of}
use Rattle.sal_typedefs.proofs.OnlyNames.{only-one}
use Rattle.sal_typedefs.proofs.site_judge.is_only_name.Goals as goal

pub returns : goal.returns
returns c holds =
    let alone : c.is_alone.result ≡ true = search rules in
    let one : length c.args.below.now ≡ 1 = grind (arith, common_steps) in
    let P : Judgement → Type 0 = λ d. numbering_of (out-YangType d.ty) ≡ None → d.entries.items ≡ [] in
    only-one c.args.stmt.now c.args.below.now c.index-below-0.result one c.index-below-0.is (record {
      alone = c.is_alone.ensures.alone alone;
      other = c.is_alone.ensures.other alone;
      listed = subst P c.value.ensures (c.is_listed.ensures holds);
    })
