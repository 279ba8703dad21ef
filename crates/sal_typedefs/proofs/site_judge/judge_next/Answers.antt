use Rattle.std.proofs.Common.{◌≡◌, ◌∙◌, true, [], sym, rules}
use Rattle.sal_typedefs.specs.Judgements.{IsOnlyName}
use Rattle.sal_typedefs.specs.Spots.{site_of}
use Rattle.sal_typedefs.proofs.OnlyNames.{only-name, some-name}
use Rattle.sal_typedefs.proofs.site_judge.judge_next.Goals as goal

pub returns : goal.returns
returns c judged are =
    let spot = c.args.spot.now in
    let holds : c.is_only_name.result ≡ true = search rules in
    let only : IsOnlyName spot.stmt.now c.args.below.items = rw c.as_slice.ensures.value at c.is_only_name.ensures holds in
    only-name c.args.typedefs.now (site_of spot) c.args.below.items c.pop.new.self.items c.in-Some.judgement judged only c.in-Some.ensures.items are

pub unreachable-requires : goal.unreachable-requires
unreachable-requires c =
    let spot = c.args.spot.now in
    let holds : c.is_only_name.result ≡ true = search rules in
    let only : IsOnlyName spot.stmt.now c.args.below.items = rw c.as_slice.ensures.value at c.is_only_name.ensures holds in
    let none : c.args.below.items ≡ [] = search rules in
    some-name spot.stmt.now c.args.below.items only none
