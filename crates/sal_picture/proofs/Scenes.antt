-- A scene by equal parts.
use Rattle.std.proofs.Common.{◌≡◌, ℕ, List, Option, Result, subst}
use Rattle.std.specs.Prelude.{IfOk}
use Rattle.sal_schema.specs.declared.table.SchemaTable.{SchemaTable}
use Rattle.sal_history.specs.declared.call.Entry.{Entry}
use Rattle.sal_script.specs.declared.reply.StepReply.{StepReply}
use Rattle.sal_script.specs.Moves.{Move}
use Rattle.sal_shapes.specs.declared.scene.Made.{Made}
use Rattle.sal_shapes.specs.declared.scene.Scene.{Scene}
use Rattle.sal_draw_script.specs.declared.rows.Range.{Range}
use Rattle.sal_draw_script.specs.Rows as rows

-- equal parts give the same scene
pub same_scene : (range : Range) (clients : List (List Move)) (t u : List SchemaTable) (m n : ℕ → Option Made) (ds es : List ℕ) (rs qs : List (List StepReply)) (log other : List Entry)
    → t ≡ u → m ≡ n → ds ≡ es → rs ≡ qs → log ≡ other
    → rows.scene_of t m range ds (rows.all_beads clients rs) log ≡ rows.scene_of u n range es (rows.all_beads clients qs) other
same_scene range clients t u m n ds es rs qs log other a b c d e = λ i. rows.scene_of (a i) (b i) range (c i) (rows.all_beads clients (d i)) (e i)

-- a result that is one scene is an equal one
pub is_scene : {E : Type 0} (result : Result Scene E) (s z : Scene) → s ≡ z → IfOk result (λ (scene : Scene). scene ≡ s) → IfOk result (λ (scene : Scene). scene ≡ z)
is_scene {E} result s z same is = subst (λ (x : Scene). IfOk result (λ (scene : Scene). scene ≡ x)) same is
