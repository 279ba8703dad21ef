-- Each kind of local step.
use Rattle.std.proofs.Common.{ap, sym, ◌∙◌}
use Rattle.serde_json.specs.View.{view}
use Rattle.sal_script.specs.Moves as asked
use Rattle.sal_script.specs.Moves.{move_of}
use Rattle.sal_client.specs.declared.looks.Look.TheVariants as looks
use Rattle.sal_client.specs.Looks.{look_move}
use Rattle.sal_client.proofs.Faults.{if_ok}
use Rattle.sal_client.proofs.Meeting.{for_step, only_answers}
use Rattle.sal_client.proofs.client.ClientState.meet_local.Goals as goal

pub returns-in-Put : goal.returns-in-Put
returns-in-Put c =
    let place = c.place_at.result in
    let same = c.place_at.ensures in
    for_step c.args.readers.now c.args.self.now c.write.new.self _ (move_of c.args.step.now) c.write.result
    ((λ i. asked.Put (same.0 i) (same.1 i) (same.2 i) (view c.in-Put.value)) ∙ ap move_of (sym c.in-Put.is)) c.write.ensures

pub returns-in-Merge : goal.returns-in-Merge
returns-in-Merge c =
    let place = c.place_at-in-Merge.result in
    let same = c.place_at-in-Merge.ensures in
    for_step c.args.readers.now c.args.self.now c.write-in-Merge.new.self _ (move_of c.args.step.now) c.write-in-Merge.result
    ((λ i. asked.Merge (same.0 i) (same.1 i) (same.2 i) (view c.in-Merge.value)) ∙ ap move_of (sym c.in-Merge.is)) c.write-in-Merge.ensures

pub returns-in-Delete : goal.returns-in-Delete
returns-in-Delete c =
    let place = c.place_at-in-Delete.result in
    let same = c.place_at-in-Delete.ensures in
    for_step c.args.readers.now c.args.self.now c.write-in-Delete.new.self _ (move_of c.args.step.now) c.write-in-Delete.result
    ((λ i. asked.Delete (same.0 i) (same.1 i) (same.2 i)) ∙ ap move_of (sym c.in-Delete.is)) c.write-in-Delete.ensures

pub returns-in-Read : goal.returns-in-Read
returns-in-Read c =
    let place = c.place_at-in-Read.result in
    let same = c.place_at-in-Read.ensures in
    let step = look_move place.slot place.store place.text.now looks.Read in
    for_step c.args.readers.now c.args.self.now c.look.new.self step (move_of c.args.step.now) c.look.result
    ((λ i. asked.Read (same.0 i) (same.1 i) (same.2 i)) ∙ ap move_of (sym c.in-Read.is)) c.look.ensures

pub returns-in-Exists : goal.returns-in-Exists
returns-in-Exists c =
    let place = c.place_at-in-Exists.result in
    let same = c.place_at-in-Exists.ensures in
    let step = look_move place.slot place.store place.text.now looks.Exists in
    for_step c.args.readers.now c.args.self.now c.look-in-Exists.new.self step (move_of c.args.step.now) c.look-in-Exists.result
    ((λ i. asked.Exists (same.0 i) (same.1 i) (same.2 i)) ∙ ap move_of (sym c.in-Exists.is)) c.look-in-Exists.ensures

pub returns-in-Mirror : goal.returns-in-Mirror
returns-in-Mirror c =
    let step = asked.Mirror c.in-Mirror.listener in
    for_step c.args.readers.now c.args.self.now c.args.self.now step (move_of c.args.step.now) c.mirror.result (ap move_of (sym c.in-Mirror.is))
    (if_ok c.mirror.result _ _ (λ r. only_answers c.args.readers.now c.args.self.now step r c.requires.schema) c.mirror.ensures)
