use Rattle.std.proofs.Common.{◌≡◌, List, ℕ, ◌++◌, ap, ◌∙◌, append_assoc}
use Rattle.std.specs.Prelude.{codes}
use Rattle.std.specs.List.{flat_map}
use Rattle.sal_shapes.specs.Svg.{head_text, shape_text}
use Rattle.sal_shapes.specs.declared.scene.Shape.{Shape}
use Rattle.sal_shapes.proofs.svg.svg_of.Goals as goal

pub returns : goal.returns
returns c =
    let head = head_text c.args.picture.now.size in
    let shapes = flat_map shape_text c.args.picture.now.shapes in
    let tail = codes "</svg>\n" in
    c.in_ok-push.ensures
    ∙ ap (λ (t : List ℕ). t ++ tail) (c.in_ok-push_shapes.ensures ∙ ap (λ (list : List Shape). c.push_head.new.out.items ++ flat_map shape_text list) c.items.ensures)
    ∙ ap (λ (t : List ℕ). (t ++ shapes) ++ tail) (c.in_ok-push_head.ensures ∙ ap (λ (t : List ℕ). t ++ head) c.new-out.ensures.items)
    ∙ append_assoc head shapes tail
