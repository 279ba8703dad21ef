-- Calls on mounts that are made once more are answered as before, and those of a log are those of its history.
use Rattle.std.proofs.Common.{◌≡◌, ℕ, ◌+◌, ◌<◌, List, [], ◌∷◌, ◌++◌, length, Option, Some, None, refl, ap, sym, ◌∙◌, append-nil, take}
use Rattle.std.proofs.lemmas.List.Elements.{filter_map-append}
use Rattle.std.proofs.lemmas.List.Sums.{fold-append, fold_more}
use Rattle.std.specs.Prelude.{slice_index_or}
use Rattle.std.specs.List.{cons_option, fold}
use Rattle.sal_mount.specs.declared.call.MountCall.{MountCall}
use Rattle.sal_mount.specs.declared.call.MountFault.{MountFault}
use Rattle.sal_mount.specs.declared.call.MountFault.TheVariants.{NoDomain, DeviceUsed, MountTaken, NoMemory}
use Rattle.sal_mount.specs.declared.call.MountReply.{MountReply}
use Rattle.sal_mount.specs.declared.call.MountReply.TheVariants.{Refused}
use Rattle.sal_mount.specs.Answers.{Makes, Refuses}
use Rattle.sal_mount.specs.Mounts.{make, made_of, reply_to}
use Rattle.sal_mount.specs.Register.{Register}
use Rattle.sal_history.specs.declared.call.Entry.{Entry}
use Rattle.sal_history.specs.Answered.{Answered}
use Rattle.sal_history.specs.History.{answer, history}
use Rattle.sal_history.specs.MountCalls.{mounts_in, with_call}
use Rattle.sal_history.specs.Services.{mount_call, mounting}
use Rattle.sal_history.specs.World.{Domain}

-- ---- one call

-- one call more, with its answer
pub made-more : (n : ℕ) (calls : List MountCall) (call : MountCall) (reply : MountReply) → reply_to n (made_of n calls) call ≡ reply
    → made_of n (calls ++ call ∷ []) ≡ made_of n calls ++ record { call = call; reply = reply } ∷ []
made-more n calls call reply e =
    fold-append (make n) [] calls (call ∷ []) ∙ ap (λ (r : MountReply). made_of n calls ++ record { call = call; reply = r } ∷ []) e

-- a call that is refused was made
pub made_if_refused : (old new : Register) (call : MountCall) (fault : MountFault) → Refuses old new call fault → Makes old new call (Refused fault)
made_if_refused old new call NoMemory it = absurd it
made_if_refused old new call (NoDomain id) it = it.made
made_if_refused old new call (DeviceUsed id) it = it.made
made_if_refused old new call (MountTaken id) it = it.made

-- ---- a log

abbrev with_entry : List MountCall → Entry → List MountCall
with_entry calls x = with_call calls (mount_call x.call)

-- one entry more
pub calls-more : (log : List Entry) (i : ℕ) (e : Entry) → i < length log → e ≡ slice_index_or log i e → mounts_in (take (i + 1) log) ≡ with_call (mounts_in (take i log)) (mount_call e.call)
calls-more log i e inside here = fold_more with_entry [] log i e inside ∙ ap (λ (x : Entry). with_call (mounts_in (take i log)) (mount_call x.call)) (sym here)

module _ (world : List Domain) where
  one_more : (answered : List Answered) (e : Entry) → mounting (answer world answered e) ≡ with_call (mounting answered) (mount_call e.call)
  one_more answered e =
      filter_map-append (λ (a : Answered). mount_call a.entry.call) answered _ ∙ with_option (mounting answered) (mount_call e.call)
    where
      with_option : (calls : List MountCall) (o : Option MountCall) → calls ++ cons_option o [] ≡ with_call calls o
      with_option calls None = append-nil calls
      with_option calls (Some call) = refl

  from : (answered : List Answered) (log : List Entry) → mounting (fold (answer world) answered log) ≡ fold with_entry (mounting answered) log
  from answered [] = refl
  from answered (e ∷ log) = from (answer world answered e) log ∙ ap (λ (calls : List MountCall). fold with_entry calls log) (one_more answered e)

  pub mounting-is : (log : List Entry) → mounting (history world log) ≡ mounts_in log
  mounting-is log = from [] log
