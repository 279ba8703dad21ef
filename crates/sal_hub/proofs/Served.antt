-- The states of services stay those of the log with each call that is on none of them.
use Rattle.std.proofs.Common.{◌≡◌, ◌⊎◌, ℕ, Bool, true, false, List, [], ◌∷◌, ◌++◌, Option, None, Some, refl, ap, sym, ◌∙◌, subst, append-nil, inl, inr}
use Rattle.std.specs.Option.{option_map, option_map_or, option_to_list}
use Rattle.sal_rows.specs.declared.outcome.CallFault.{CallFault}
use Rattle.sal_rows.specs.Spans.{is_of_chain}
use Rattle.sal_rpc.specs.declared.call.RpcCall.{RpcCall}
use Rattle.sal_rpc.specs.Routes as routes
use Rattle.sal_rpc.specs.Routing as routing
use Rattle.sal_note.specs.declared.call.NoteCall.{NoteCall}
use Rattle.sal_note.specs.Boxes as boxes
use Rattle.sal_note.specs.Queues as queues
use Rattle.sal_mount.specs.declared.call.MountCall.{MountCall}
use Rattle.sal_mount.specs.Register.{IsOf, Register}
use Rattle.sal_history.specs.declared.call.Call.{Call}
use Rattle.sal_history.specs.declared.call.Call.TheVariants.{Answer, Begin, Cancel, ChainBegin, CloseChain, Collect, Invoke, Listen, Mount, MountAt, NextCall, Offer, OpenChain, Provide, Pump, Settle, Submit, Subscribe, Take, TakeNotes, Unlisten, Unmount, Upgrade, Withdraw}
use Rattle.sal_history.specs.declared.call.Entry.{Entry}
use Rattle.sal_history.specs.declared.reply.Reply.{Reply}
use Rattle.sal_history.specs.World.{Domain}
use Rattle.sal_history.specs.History.{Answered, began_by, closes, decided_by, history, opened_chain, reply_to, sent_by, spends}
use Rattle.sal_history.specs.Services.{mount_call, note_call, note_calls, rpc_call, rpc_calls}
use Rattle.sal_history.specs.Submissions.{Base}
use Rattle.sal_history.specs.Versions.{upgraded}
use Rattle.sal_hub.specs.declared.pipeline.Pipeline.{Pipeline}
use Rattle.sal_hub.specs.declared.services.Services.{Services}
use Rattle.sal_hub.specs.Answers.{Fails, Made}
use Rattle.sal_hub.specs.Current.{IsKept, answers, known_of}
use Rattle.sal_hub.specs.HubHistory.{HubHistory, more}
use Rattle.sal_hub.specs.Journals.{Noted, jotted, mark_at}
use Rattle.sal_hub.specs.Mounted.{AreMounted}
use Rattle.sal_hub.specs.Notified.{AreNoted}
use Rattle.sal_hub.specs.PipelineView.{queue_of, world_in}
use Rattle.sal_hub.specs.Routed.{AreRouted}
use Rattle.sal_hub.specs.Services.{AreServed, IsServed}
use Rattle.sal_hub.proofs.Beginning.{quiet_kept}
use Rattle.sal_hub.proofs.Histories.{mounting-quiet, note-push, rpc-push}
use Rattle.sal_hub.proofs.Listened.{is_listening}

-- the call is one on a service
abbrev pub is_serving : Call → Bool
is_serving (Provide rpc context) = true
is_serving (Withdraw rpc context) = true
is_serving (Invoke rpc context input) = true
is_serving NextCall = true
is_serving (Answer id output) = true
is_serving (Collect id) = true
is_serving (Subscribe note) = true
is_serving (Offer note rows) = true
is_serving TakeNotes = true
is_serving (Mount path device) = true
is_serving (Unmount domain) = true
is_serving (MountAt path) = true
is_serving call = false

-- ---- a call on no service changes none of them

unmounting : (call : Call) → is_serving call ≡ false → mount_call call ≡ None
unmounting (Mount path device) e = cc
unmounting (Unmount domain) e = cc
unmounting (MountAt path) e = cc
unmounting call e = refl

unrouting : (call : Call) → is_serving call ≡ false → rpc_call call ≡ None
unrouting (Provide rpc context) e = cc
unrouting (Withdraw rpc context) e = cc
unrouting (Invoke rpc context input) e = cc
unrouting NextCall e = cc
unrouting (Answer id output) e = cc
unrouting (Collect id) e = cc
unrouting call e = refl

unnoting : (call : Call) → is_serving call ≡ false → note_call call ≡ None
unnoting (Subscribe note) e = cc
unnoting (Offer note rows) e = cc
unnoting TakeNotes e = cc
unnoting call e = refl

pub mounted_steady : (known : HubHistory) (e : Entry) (mounts : Register) → mount_call e.call ≡ None → AreMounted known mounts → AreMounted (more known e) mounts
mounted_steady known e mounts none are = record {
  devices = are.devices;
  calls = subst (λ (calls : List MountCall). IsOf calls mounts) (sym (mounting-quiet known.world known.log e none)) are.calls;
}

pub routed_steady : (known : HubHistory) (e : Entry) (r : routes.Routes) → rpc_call e.call ≡ None → AreRouted known r → AreRouted (more known e) r
routed_steady known e r none are =
    let calls : List routing.Asked = rpc_calls (history known.world known.log) in
    let same : rpc_calls (history known.world (known.log ++ e ∷ [])) ≡ calls =
    rpc-push known.world known.log e
    ∙ ap (λ (o : Option RpcCall). calls ++ option_to_list (option_map (λ (c : RpcCall). let a : routing.Asked = record { client = e.client; call = c } in a) o)) none
    ∙ append-nil calls in
    subst (λ (l : List routing.Asked). routes.IsOf l r) (sym same) are

pub noted_steady : (known : HubHistory) (e : Entry) (b : boxes.Boxes) → note_call e.call ≡ None → AreNoted known b → AreNoted (more known e) b
noted_steady known e b none are =
    let calls : List queues.Asked = note_calls (history known.world known.log) in
    let same : note_calls (history known.world (known.log ++ e ∷ [])) ≡ calls =
    note-push known.world known.log e
    ∙ ap (λ (o : Option NoteCall). calls ++ option_to_list (option_map (λ (c : NoteCall). let a : queues.Asked = record { client = e.client; call = c } in a) o)) none
    ∙ append-nil calls in
    subst (λ (l : List queues.Asked). boxes.IsOf l b) (sym same) are

pub served_steady : (known : HubHistory) (e : Entry) (sv : Services) → is_serving e.call ≡ false → AreServed known sv → AreServed (more known e) sv
served_steady known e sv other are = record {
  mounts = mounted_steady known e sv.mounts (unmounting e.call other) are.mounts;
  router = routed_steady known e sv.router (unrouting e.call other) are.router;
  notes = noted_steady known e sv.notes (unnoting e.call other) are.notes;
}

-- ---- a call on one service does not change the others

module _ (old new : HubHistory) (e : Entry) (how : (new ≡ old) ⊎ (new ≡ more old e)) (sv : Services) (are : AreServed old sv) where
  still_mounted : mount_call e.call ≡ None → (new ≡ old) ⊎ (new ≡ more old e) → AreMounted new sv.mounts
  still_mounted none (inl same) = subst (λ (known : HubHistory). AreMounted known sv.mounts) (sym same) are.mounts
  still_mounted none (inr longer) = subst (λ (known : HubHistory). AreMounted known sv.mounts) (sym longer) (mounted_steady old e sv.mounts none are.mounts)

  still_routed : rpc_call e.call ≡ None → (new ≡ old) ⊎ (new ≡ more old e) → AreRouted new sv.router
  still_routed none (inl same) = subst (λ (known : HubHistory). AreRouted known sv.router) (sym same) are.router
  still_routed none (inr longer) = subst (λ (known : HubHistory). AreRouted known sv.router) (sym longer) (routed_steady old e sv.router none are.router)

  still_noted : note_call e.call ≡ None → (new ≡ old) ⊎ (new ≡ more old e) → AreNoted new sv.notes
  still_noted none (inl same) = subst (λ (known : HubHistory). AreNoted known sv.notes) (sym same) are.notes
  still_noted none (inr longer) = subst (λ (known : HubHistory). AreNoted known sv.notes) (sym longer) (noted_steady old e sv.notes none are.notes)

  pub served_by_mounts : (mounts : Register) → rpc_call e.call ≡ None → note_call e.call ≡ None → AreMounted new mounts → AreServed new (record sv { mounts = mounts })
  served_by_mounts mounts unrouted unnoted now = record { mounts = now; router = still_routed unrouted how; notes = still_noted unnoted how }

  pub served_by_router : (router : routes.Routes) → mount_call e.call ≡ None → note_call e.call ≡ None → AreRouted new router → AreServed new (record sv { router = router })
  served_by_router router unmounted unnoted now = record { mounts = still_mounted unmounted how; router = now; notes = still_noted unnoted how }

  pub served_by_notes : (notes : boxes.Boxes) → mount_call e.call ≡ None → rpc_call e.call ≡ None → AreNoted new notes → AreServed new (record sv { notes = notes })
  served_by_notes notes unmounted unrouted now = record { mounts = still_mounted unmounted how; router = still_routed unrouted how; notes = now }

-- ---- a call on one service changes nothing else

pub serving_unheard : (call : Call) → is_serving call ≡ true → is_listening call ≡ false
serving_unheard (Listen domain s path) e = cc
serving_unheard (Take id) e = cc
serving_unheard (Unlisten id) e = cc
serving_unheard call e = refl

pub serving_unopened : (call : Call) → is_serving call ≡ true → (reply : Reply) → opened_chain call reply ≡ None
serving_unopened (OpenChain domain) e reply = cc
serving_unopened call e reply = refl

pub serving_unclosed : (call : Call) → is_serving call ≡ true → (reply : Reply) (id : ℕ) → closes call reply id ≡ false
serving_unclosed (CloseChain chain) e reply id = cc
serving_unclosed call e reply id = refl

pub serving_unbegun : (world : List Domain) (answered : List Answered) (call : Call) → is_serving call ≡ true → (reply : Reply) (id : ℕ) → option_map_or (λ (b : Base). is_of_chain (Some id) b.chain) (began_by world answered call reply) false ≡ false
serving_unbegun world answered (Begin domain mode) e reply id = cc
serving_unbegun world answered (ChainBegin chain mode) e reply id = cc
serving_unbegun world answered call e reply id = refl

pub serving_unsent : (answered : List Answered) (call : Call) → is_serving call ≡ true → (reply : Reply) → sent_by answered call reply ≡ None
serving_unsent answered (Submit place ops) e reply = cc
serving_unsent answered call e reply = refl

pub serving_undecided : (world : List Domain) (answered : List Answered) (call : Call) → is_serving call ≡ true → decided_by world answered call ≡ []
serving_undecided world answered (Settle receipt) e = cc
serving_undecided world answered Pump e = cc
serving_undecided world answered call e = refl

pub serving_unraised : (call : Call) → is_serving call ≡ true → (reply : Reply) → upgraded call reply ≡ false
serving_unraised (Upgrade version) e reply = cc
serving_unraised call e reply = refl

pub serving_unspent : (call : Call) → is_serving call ≡ true → (reply : Reply) (place : ℕ) → spends call reply place ≡ false
serving_unspent (Submit at ops) e reply place = cc
serving_unspent (Cancel at) e reply place = cc
serving_unspent call e reply place = refl

-- ---- the state after a call on one service

-- after one that was made, with its reply
pub record Entered {S : Type 0} (IsOfLog : HubHistory → S → Type 0) (known : HubHistory) (j : Noted) (p : Pipeline) (s : S) (e : Entry) (reply : Reply) : Type 0 where
  pub service : IsServed IsOfLog j p s
  pub answer : Made known (known_of j p) e reply

-- after one that failed
pub record Failed {S : Type 0} (IsOfLog : HubHistory → S → Type 0) (known : HubHistory) (j : Noted) (p : Pipeline) (s : S) (e : Entry) (fault : CallFault) : Type 0 where
  pub service : IsServed IsOfLog j p s
  pub answer : Fails known (known_of j p) e fault

-- a call on the router or on notifications
pub serving_kept : (j j' : Noted) (p : Pipeline) → IsKept j p → (client : ℕ) (call : Call) → is_serving call ≡ true → mount_call call ≡ None → j'.log ≡ jotted j.log client call → ((k : ℕ) → mark_at j'.marks k ≡ mark_at j.marks k) → IsKept j' p
serving_kept j j' p kept client call on off log marks =
    let world : List Domain = world_in (queue_of p).domains in
    let answered : List Answered = answers j.log (queue_of p) in
    let r : Reply = reply_to world answered client call in
    quiet_kept j j' p kept client call log (serving_unraised call on r) off (serving_unsent answered call on r) (serving_undecided world answered call on) (serving_unspent call on r)
    (serving_unopened call on r) marks
