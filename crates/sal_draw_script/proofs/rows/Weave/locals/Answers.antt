-- The steps before and after the next shared call.
use Rattle.std.proofs.Common.{◌≡◌, ◌+◌, ◌++◌, ℕ, List, take, drop, ap, sym, ◌∙◌}
use Rattle.std.specs.Prelude.{map, slice_set}
use Rattle.std.proofs.lemmas.List.{drop-map, map-set, take-map}
use Rattle.sal_shapes.specs.declared.scene.Row.{Row}
use Rattle.sal_draw.specs.Acts.{track_of}
use Rattle.sal_draw_script.specs.declared.rows.Bead.{Bead as CodeBead}
use Rattle.sal_draw_script.specs.Rows.{Bead, bead_of, beads_in, local_row, locals, tables_in}
use Rattle.sal_draw_script.proofs.Weaving.{same_weave}
use Rattle.sal_draw_script.proofs.rows.Weave.locals.Goals as goal

pub returns : goal.returns
returns c =
    let self = c.args.self.now in
    let beads = c.args.beads.now in
    let bs = map bead_of beads in
    let n = c.locals-count.result in
    let left = self.left.items in
    let lane = c.args.at.lane in
    let row = local_row (tables_in c.args.schemas.now) lane c.args.at.hidden in
    let count : n ≡ locals bs = c.locals-count.ensures.count in
    let behind : beads_in c.behind.result ≡ drop (locals bs + 1) bs =
    ap (λ (list : List CodeBead). map bead_of list) c.behind.ensures ∙ sym (drop-map bead_of (n + 1) beads) ∙ ap (λ (k : ℕ). drop (k + 1) bs) count in
    let ahead : map bead_of (take n beads) ≡ take (locals bs) bs = sym (take-map bead_of n beads) ∙ ap (λ (k : ℕ). take k bs) count in
    same_weave _ _ (track_of self.track) self.place _ _
    (map-set beads_in left lane c.behind.result ∙ ap (λ (b : List Bead). slice_set (map beads_in left) lane b) behind)
    (c.in_ok-add_locals.ensures ∙ ap (λ (list : List Bead). self.rows.items ++ map row list) ahead)
