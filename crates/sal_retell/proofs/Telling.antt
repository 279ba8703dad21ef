-- One entry after another.
use Rattle.std.proofs.Common.{◌≡◌, ℕ, ◌+◌, ◌<◌, ◌≤◌, List, [], ◌∷◌, ◌++◌, drop, get_or, length, map, ap, sym, ◌∙◌, subst, append-nil, append_assoc}
use Rattle.std.specs.List.{fold}
use Rattle.std.specs.Option.{option_to_list}
use Rattle.std.proofs.lemmas.List.{drop_all, drop_more}
use Rattle.sal_rows.specs.declared.outcome.Outcome.{Outcome}
use Rattle.sal_mount.specs.declared.call.MountCall.{MountCall}
use Rattle.sal_mount.specs.Mounts.{made_of, reply_to}
use Rattle.sal_mount.specs.Register.{IsOf, Register}
use Rattle.sal_history.specs.declared.call.Call.{Call}
use Rattle.sal_history.specs.declared.call.Entry.{Entry}
use Rattle.sal_history.specs.declared.reply.Reply.{Reply}
use Rattle.sal_history.specs.Services.{mount_call, mount_reply}
use Rattle.sal_retell.specs.declared.front.Footing.{Footing}
use Rattle.sal_retell.specs.declared.front.Front.{Front}
use Rattle.sal_retell.specs.declared.retold.Course.{Course}
use Rattle.sal_retell.specs.Light.{IsAt, IsMade, IsThrough, Light, Tells, answer_on, answers_on, asked_on, call_in, empty_light, light_in, more_light, next_light}

-- ---- calls on mounts

pub made_answer : (calls : List MountCall) (old new : Register) (call : MountCall) (r : Reply) → IsMade old new call r → IsOf calls old → r ≡ mount_reply (reply_to old.devices (made_of old.devices calls) call)
made_answer calls old new call r made is = sym (ap mount_reply (made.made.answer calls is) ∙ made.same)

pub made_longer : (calls : List MountCall) (old new : Register) (call : MountCall) (r : Reply) → IsMade old new call r → IsOf calls old → IsOf (calls ++ call ∷ []) new
made_longer calls old new call r made is = made.made.longer calls is

-- ---- one entry

pub told_one : (os : List Outcome) (call : Call) (old new : Course) (mid : Front) (f : Footing) (r : Reply)
    → f ≡ asked_on (light_in old.front []) os call
    → ((calls : List MountCall) → IsOf calls old.front.mounts → f ≡ asked_on (light_in old.front []) os call → r ≡ answer_on (light_in old.front calls) os call)
    → ((calls : List MountCall) → IsOf calls old.front.mounts → IsOf (calls ++ option_to_list (mount_call call)) mid.mounts)
    → light_in mid [] ≡ light_in old.front []
    → light_in new.front [] ≡ record (more_light (light_in mid []) f call r) { calls = [] }
    → new.front.mounts ≡ mid.mounts
    → new.replies.items ≡ old.replies.items ++ r ∷ []
    → Tells os call old new
told_one os call old new mid f r asked answered made same noted mounts grown = record {
  calls = λ calls is. subst (λ (x : Register). IsOf (calls ++ option_to_list (mount_call call)) x) (sym mounts) (made calls is);
  light = λ calls is. (
      let more = calls ++ option_to_list (mount_call call) in
      let answer = answered calls is asked in
      ap (λ (x : Light). (let y : Light = record x { calls = more } in y)) noted
      ∙ (λ i. (let y : Light = record (more_light (same i) (asked i) call (answer i)) { calls = more } in y))
      );
  reply = λ calls is. grown ∙ ap (λ (x : Reply). old.replies.items ++ x ∷ []) (answered calls is asked);
}

-- ---- along the log

pub at_first : (domains : ℕ) (log : List Entry) (os : List Outcome) (told : Course) → IsOf [] told.front.mounts → light_in told.front [] ≡ empty_light domains → told.replies.items ≡ [] → IsAt domains log os 0 told
at_first domains log os told mounts light replies = record {
  calls = [];
  mounts = mounts;
  replies = (λ i. replies i ++ answers_on os (light i) (map call_in log));
  light = ap (λ (x : Light). fold (next_light os) x (map call_in log)) light;
}

pub at_next : (domains : ℕ) (log : List Entry) (os : List Outcome) (i : ℕ) (e : Entry) (old new : Course) → i < length log → e ≡ get_or log i e → Tells os e.call old new → IsAt domains log os i old → IsAt domains log os (i + 1) new
at_next domains log os i e old new h is tells at =
    let c = e.call in
    let more = at.calls ++ option_to_list (mount_call c) in
    let l = light_in old.front at.calls in
    let rest = map call_in (drop (i + 1) log) in
    let left : map call_in (drop i log) ≡ c ∷ rest = ap (map call_in) (drop_more log i e h ∙ ap (λ (x : Entry). x ∷ drop (i + 1) log) (sym is)) in
    let next : light_in new.front more ≡ next_light os l c = tells.light at.calls at.mounts in
    record {
      calls = more;
      mounts = tells.calls at.calls at.mounts;
      replies =
          (λ j. tells.reply at.calls at.mounts j ++ answers_on os (next j) rest)
          ∙ append_assoc old.replies.items (answer_on l os c ∷ []) (answers_on os (next_light os l c) rest)
          ∙ ap (λ (cs : List Call). old.replies.items ++ answers_on os l cs) (sym left)
          ∙ at.replies;
      light = ap (λ (x : Light). fold (next_light os) x rest) next ∙ ap (fold (next_light os) l) (sym left) ∙ at.light;
    }

pub at_last : (domains : ℕ) (log : List Entry) (os : List Outcome) (i : ℕ) (told : Course) → length log ≤ i → IsAt domains log os i told → IsThrough domains log os told
at_last domains log os i told h at =
    let l = light_in told.front at.calls in
    let none : map call_in (drop i log) ≡ [] = ap (map call_in) (drop_all i log h) in
    record {
      replies = sym (append-nil told.replies.items) ∙ ap (λ (cs : List Call). told.replies.items ++ answers_on os l cs) (sym none) ∙ at.replies;
      sent = ap (λ (x : Light). x.sent) (ap (fold (next_light os) l) (sym none) ∙ at.light);
    }
