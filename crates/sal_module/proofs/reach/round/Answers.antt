use Rattle.std.proofs.Common.{◌≡◌, ◌∙◌, ℕ, Bool, [], ◌∷◌, ◌++◌, ◌+◌, List, map, take, ap, sym, arith}
use Rattle.std.specs.Prelude.{Vec}
use Rattle.std.specs.declared.alloc.Global.{Global}
use Rattle.std.specs.List.{list_any}
use Rattle.std.proofs.lemmas.Grind.{common_steps}
use Rattle.std.proofs.lemmas.List.{take_more, map-append}
use Rattle.sal_module.specs.Imports.{is_step}
use Rattle.sal_module.proofs.reach.round.Goals as goal

pub loop-out-preserved : goal.loop-out-preserved
loop-out-preserved c =
    let F : Vec ℕ Global → Bool = λ out. list_any (λ k. is_step c.args.marks.now c.args.target k) out.items in
    let edges = c.args.edges.now in
    let i = c.loop-out.out-index in
    let item = c.out-item.result in
    let more : take (i + 1) edges ≡ take i edges ++ item ∷ [] = take_more edges i item (omega arith) ∙ ap (λ (x : Vec ℕ Global). take i edges ++ x ∷ []) (sym c.out-item.is) in
    let one : c.goes.result ≡ F item = grind (arith, common_steps) in
    c.in_ok-push.ensures.items ∙ ap (λ (n : List Bool). n ++ c.goes.result ∷ []) c.loop-out.invariant ∙ ap (λ (b : Bool). map F (take i edges) ++ b ∷ []) one ∙ sym (map-append F (take i edges) (item ∷ [])) ∙ ap (map F) (sym more)
