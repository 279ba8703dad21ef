-- The drawing depends on the log, the replies and the tables of the world.
use Rattle.std.proofs.Common.{◌≡◌, ℕ, List, Option, ap, length, ◌∙◌, sym}
use Rattle.std.proofs.lemmas.List.{length-map}
use Rattle.std.proofs.lemmas.Result.{IfOk-weaker}
use Rattle.sal_schema.specs.declared.table.SchemaTable.{SchemaTable}
use Rattle.sal_history.specs.declared.call.Entry.{Entry}
use Rattle.sal_script.specs.declared.reply.StepReply.{StepReply}
use Rattle.sal_script.specs.Moves.{clients_of}
use Rattle.sal_script.specs.Play.{Played}
use Rattle.sal_script.specs.Report.{told_domains}
use Rattle.sal_script.specs.Tables.{tables_of}
use Rattle.sal_shapes.specs.declared.scene.Made.{Made}
use Rattle.sal_shapes.specs.declared.scene.Scene.{Scene}
use Rattle.sal_draw.specs.Acts.{made_in}
use Rattle.sal_draw_script.specs.Rows as rows
use Rattle.sal_picture.specs.Made.{made_at}
use Rattle.sal_picture.specs.Pictured.{known, scene_in}
use Rattle.sal_picture.proofs.Scenes.{is_scene, same_scene}
use Rattle.sal_picture.proofs.script.scene_in.Goals as goal

pub returns : goal.returns
returns c =
    let hub = c.args.played.now.hub in
    let replies = c.args.played.now.replies in
    let clients = clients_of c.args.clients.now in
    let range = c.args.range in
    let played : Played = record { log = hub.log; replies = replies } in
    let tables : rows.tables_in c.args.schemas.now ≡ tables_of hub.world = c.requires.schemas in
    let made : made_in c.deref.result.now ≡ made_at (known hub.world played) =
    ap (λ (list : List (Option Made)). made_in list) c.deref.ensures.value ∙ (λ i k. c.in_ok-made.ensures k i) in
    let told : c.from_items.result ≡ told_domains hub.world hub.log = c.from_items.ensures ∙ c.in_ok-domains.ensures.told hub.world (sym (simp length-map at (ap length c.requires.schemas)))
    ∙ ap (λ (log : List Entry). told_domains hub.world log) c.log.ensures in
    let log : c.log-2.result.now ≡ hub.log = c.log-2.ensures in
    let left : c.items.result.now ≡ replies = c.items.ensures in
    let same = same_scene range clients (rows.tables_in c.args.schemas.now) (tables_of hub.world) (made_in c.deref.result.now) (made_at (known hub.world played))
    c.from_items.result (told_domains hub.world hub.log) c.items.result.now replies c.log-2.result.now hub.log tables made told left log in
    is_scene c.scene_of.result
    (rows.scene_of (rows.tables_in c.args.schemas.now) (made_in c.deref.result.now) range c.from_items.result (rows.all_beads clients c.items.result.now) c.log-2.result.now)
    (rows.scene_of (tables_of hub.world) (made_at (known hub.world played)) range (told_domains hub.world hub.log) (rows.all_beads clients replies) hub.log)
    same c.scene_of.ensures
