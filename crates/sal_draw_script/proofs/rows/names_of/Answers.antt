use Rattle.std.proofs.Common.{◌≡◌, ◌+◌, ◌++◌, ◌∷◌, [], ℕ, List, ap, sym, ◌∙◌, arith}
use Rattle.std.proofs.lemmas.List.FromFn.{map-range_with_len_more}
use Rattle.sal_draw_script.specs.Rows.{client_name}
use Rattle.sal_draw_script.proofs.rows.names_of.Goals as goal

pub loop-lane-preserved : goal.loop-lane-preserved
loop-lane-preserved c =
    let lane = c.loop-lane.lane in
    let last : 0 + lane ≡ lane = omega arith in
    c.in_ok-append.ensures
    ∙ ap (λ (name : List ℕ). c.loop-lane.names.items ++ name ∷ []) c.in_ok-client_name.ensures
    ∙ ap (λ (names : List (List ℕ)). names ++ client_name lane ∷ []) c.loop-lane.invariant
    ∙ sym (map-range_with_len_more client_name 0 lane lane last)
