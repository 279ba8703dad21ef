-- There are as many lanes as clients with replies.
use Rattle.std.proofs.Common.{◌≡◌, ℕ, length, min, ap, sym, ◌∙◌}
use Rattle.std.specs.Prelude.{map}
use Rattle.std.specs.List.{range_with_len, zip}
use Rattle.std.proofs.lemmas.List.{length-map}
use Rattle.std.proofs.lemmas.Slice.Zip.{length-zip}
use Rattle.sal_script.specs.Moves.{clients_of, moves_of}
use Rattle.sal_draw.specs.Acts.{made_in}
use Rattle.sal_draw_script.specs.Rows.{all_beads, client_beads, client_name, rows_of, tables_in}
use Rattle.sal_draw_script.proofs.Weaving.{same_scene}
use Rattle.sal_draw_script.proofs.rows.scene_of.Goals as goal

pub returns : goal.returns
returns c =
    let steps = c.args.play.clients.now in
    let replies = c.args.play.replies.now in
    let clients = clients_of steps in
    let left = all_beads clients replies in
    let count : c.min-lanes.result ≡ length left =
    c.min-lanes.ensures ∙ sym (length-map (zip clients replies) client_beads ∙ length-zip clients replies ∙ ap (λ (n : ℕ). min n (length replies)) (length-map steps moves_of)) in
    let lanes : c.from_items.result ≡ map client_name (range_with_len 0 (length left)) =
    c.from_items.ensures ∙ c.in_ok-names.ensures ∙ ap (λ (n : ℕ). map client_name (range_with_len 0 n)) count in
    let rows : c.from_items-2.result ≡ rows_of (tables_in c.args.ground.schemas.now) (made_in c.args.ground.made.now) c.args.range left c.args.play.log.now = c.from_items-2.ensures ∙ c.in_ok-rows.ensures in
    same_scene _ _ c.args.domains _ _ lanes rows
