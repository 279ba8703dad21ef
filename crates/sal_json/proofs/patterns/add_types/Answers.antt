use Rattle.std.proofs.Common.{◌≡◌, true, false, map, take, ◌++◌, ◌∷◌, [], rules, ap, sym, ◌∙◌, append_assoc}
use Rattle.sal_json.specs.Patterns.{has_malformed, type_searched}
use Rattle.sal_json.proofs.Listed.{map_take-more, none_take-more}
use Rattle.sal_json.proofs.patterns.add_types.Goals as goal

pub loop-ty-preserved : goal.loop-ty-preserved
loop-ty-preserved c =
    let l = c.loop-ty in
    let types = c.args.schema.now.types in
    let ty = c.type_at.result.now in
    let before = c.args.types.now.items in
    let made : c.in_ok-add_type.field-0 ≡ true = search rules in
    let formed : has_malformed ty ≡ false = search rules in (
      c.in_ok-add_type.ensures.compiled made ∙ ap (λ lists. lists ++ type_searched ty ∷ []) l.invariant.0
          ∙ append_assoc before (map type_searched (take l.ty types)) (type_searched ty ∷ [])
          ∙ ap (λ lists. before ++ lists) (sym (map_take-more type_searched types l.ty ty c.type_at.ensures)),
      none_take-more has_malformed types l.ty ty c.type_at.ensures l.invariant.1 formed,
    )
