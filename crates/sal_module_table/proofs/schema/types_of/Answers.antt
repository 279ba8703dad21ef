use Rattle.std.proofs.Common.{rules, ◌≡◌, ◌∙◌, ◌++◌, ◌∷◌, [], ap, arith, if◌then◌else◌}
use Rattle.std.proofs.lemmas.List.{get_or_default}
use Rattle.sal_module_table.specs.Filled.{type_at}
use Rattle.sal_module_table.proofs.Leading.{types-more}
use Rattle.sal_module_table.proofs.schema.types_of.Goals as goal

pub loop-k-preserved : goal.loop-k-preserved
loop-k-preserved c =
    let forest = c.args.forest.now in
    let inv = c.loop-k.invariant in
    let k = c.loop-k.k in
    let same : type_at c.loop-k.filled.items k ≡ type_at c.in_ok-filled.filled.items k = inv.1 k (omega arith) in
    let put = c.in_ok-push_type.ensures.types ∙ ap (λ t. c.loop-k.types.items ++ (if c.is_typed.result then t ∷ [] else [])) same in (
      types-more c.args.modules.now forest c.args.own.items c.args.edges.now c.in_ok-filled.filled.items k _ c.is_typed.result c.loop-k.types.items c.push_type.new.types.items
          c.requires.own c.requires.edges c.in_ok-filled.ensures.each c.loop-k-test.true (get_or_default forest k _ _ c.loop-k-test.true) c.is_typed.ensures inv.0 put,
      λ j h. c.in_ok-push_type.ensures.others j (omega (arith, h)) ∙ inv.1 j (omega (arith, h)),
    )
