-- What is drawn of a log, from its answers.
use Rattle.std.proofs.Common.{◌≡◌, List, [], ◌∷◌, map, Option, refl, ap, sym, ◌∙◌}
use Rattle.std.specs.Prelude.{IfOk, Result, Ok, Err}
use Rattle.sal_rows.specs.declared.outcome.Outcome.{Outcome}
use Rattle.sal_history.specs.Answered.{Answered}
use Rattle.sal_history.specs.declared.call.Entry.{Entry}
use Rattle.sal_history.specs.declared.reply.Reply.{Reply}
use Rattle.sal_history.specs.History.{history, outcomes, sents}
use Rattle.sal_history.specs.World.{Domain}
use Rattle.sal_shapes.specs.declared.scene.Made.{Made}
use Rattle.sal_shapes.specs.declared.scene.Scene.{Scene}
use Rattle.sal_retell.specs.declared.front.Footing.{Footing}
use Rattle.sal_retell.specs.declared.retold.Retold.{Retold}
use Rattle.sal_retell.specs.Light.{sent_on}
use Rattle.sal_retell.specs.Told.{IsRetold, told_in}
use Rattle.sal_retell.proofs.Retelling.{entries_of_history}
use Rattle.sal_draw_log.specs.Drawn.{Said, made_of, made_on, said, saids_of, scene_in, scene_of}

saids_in : (answered : List Answered) → saids_of (map (λ (a : Answered). a.entry) answered) (map told_in answered) ≡ map said answered
saids_in [] = refl
saids_in (a ∷ answered) = ap (λ (xs : List Said). said a ∷ xs) (saids_in answered)

-- the entries of a log with the answers to them
saids_are : (world : List Domain) (log : List Entry) (replies : List Reply) → replies ≡ map told_in (history world log) → saids_of log replies ≡ map said (history world log)
saids_are world log replies are =
    (λ i. saids_of (sym (entries_of_history world log) i) (are i)) ∙ saids_in (history world log)

-- by the answers that were retold
scene_same : (world : List Domain) (log : List Entry) (os : List Outcome) (retold : Retold) (made : List (Option Made)) (sent : List Footing) (replies : List Reply) → os ≡ outcomes (history world log) → IsRetold (history world log) retold
    → made ≡ made_on sent os → sent ≡ retold.sent.items → replies ≡ retold.replies.items → scene_in made log (saids_of log replies) ≡ scene_of world log
scene_same world log os retold made sent replies whole is made_is sent_is replies_is =
    let sents_are : sent ≡ map sent_on (sents (history world log)) = sent_is ∙ is.sent in
    let all_made : made ≡ made_of (history world log) = made_is ∙ (λ i. made_on (sents_are i) (whole i)) in
    let said_all : saids_of log replies ≡ map said (history world log) = saids_are world log replies (replies_is ∙ is.replies) in
    (λ i. scene_in (all_made i) log (said_all i))

pub scene_by : {E : Type 0} (world : List Domain) (log : List Entry) (os : List Outcome) (retold : Retold) (made : List (Option Made)) (sent : List Footing) (replies : List Reply) (result : Result Scene E) → os ≡ outcomes (history world log)
    → IsRetold (history world log) retold → made ≡ made_on sent os → sent ≡ retold.sent.items → replies ≡ retold.replies.items
    → IfOk result (λ scene. scene ≡ scene_in made log (saids_of log replies)) → IfOk result (λ scene. scene ≡ scene_of world log)
scene_by world log os retold made sent replies (Ok scene) whole is made_is sent_is replies_is e = e ∙ scene_same world log os retold made sent replies whole is made_is sent_is replies_is
scene_by world log os retold made sent replies (Err fault) whole is made_is sent_is replies_is e = e
