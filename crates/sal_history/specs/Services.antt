-- The calls on services in a log: RPCs, notifications and mounts. The crate of each service defines their meaning;
-- here are their calls among the shared ones, and their answers as replies to those.
use Rattle.std.specs.Prelude.{ℕ, Bool, List, Option, Some, None}
use Rattle.std.specs.List.{filter_map}
use Rattle.std.specs.Option.{option_map}
use Rattle.sal_rows.specs.declared.outcome.CallFault.{CallFault}
use Rattle.sal_rows.specs.declared.outcome.CallFault.TheVariants as faults
use Rattle.sal_rpc.specs.Routing as routing
use Rattle.sal_rpc.specs.declared.call.RpcCall.{RpcCall}
use Rattle.sal_rpc.specs.declared.call.RpcCall.TheVariants as rpcs
use Rattle.sal_rpc.specs.declared.call.RpcFault.{RpcFault}
use Rattle.sal_rpc.specs.declared.call.RpcFault.TheVariants as rpc_faults
use Rattle.sal_rpc.specs.declared.call.RpcReply.{RpcReply}
use Rattle.sal_rpc.specs.declared.call.RpcReply.TheVariants as rpc_replies
use Rattle.sal_note.specs.Queues as queues
use Rattle.sal_note.specs.declared.call.NoteCall.{NoteCall}
use Rattle.sal_note.specs.declared.call.NoteCall.TheVariants as notes
use Rattle.sal_note.specs.declared.call.NoteFault.{NoteFault}
use Rattle.sal_note.specs.declared.call.NoteFault.TheVariants as note_faults
use Rattle.sal_note.specs.declared.call.NoteReply.{NoteReply}
use Rattle.sal_note.specs.declared.call.NoteReply.TheVariants as note_replies
use Rattle.sal_mount.specs.Mounts as mounts
use Rattle.sal_mount.specs.declared.call.MountCall.{MountCall}
use Rattle.sal_mount.specs.declared.call.MountCall.TheVariants as mount_calls
use Rattle.sal_mount.specs.declared.call.MountFault.{MountFault}
use Rattle.sal_mount.specs.declared.call.MountFault.TheVariants as mount_faults
use Rattle.sal_mount.specs.declared.call.MountReply.{MountReply}
use Rattle.sal_mount.specs.declared.call.MountReply.TheVariants as mount_replies
use Rattle.sal_history.specs.declared.call.Call.{Call}
use Rattle.sal_history.specs.declared.call.Call.TheVariants.{Provide, Withdraw, Invoke, NextCall, Answer, Collect, Subscribe, Offer, TakeNotes, Mount, Unmount, MountAt}
use Rattle.sal_history.specs.declared.reply.Reply.{Reply}
use Rattle.sal_history.specs.declared.reply.Reply.TheVariants as said
use Rattle.sal_history.specs.Answered.{Answered}

-- ---- RPCs

-- the call on the router, if the shared call is one
abbrev pub rpc_call : Call → Option RpcCall
rpc_call (Provide rpc context) = Some (rpcs.Provide rpc context)
rpc_call (Withdraw rpc context) = Some (rpcs.Withdraw rpc context)
rpc_call (Invoke rpc context input) = Some (rpcs.Invoke rpc context input)
rpc_call NextCall = Some rpcs.NextCall
rpc_call (Answer id output) = Some (rpcs.Answer id output)
rpc_call (Collect id) = Some (rpcs.Collect id)
rpc_call call = None

abbrev pub rpc_asked : ℕ → Call → Option routing.Asked
rpc_asked client call = option_map (λ c. record { client = client; call = c }) (rpc_call call)

-- the calls on the router, in order
abbrev pub rpc_calls : List Answered → List routing.Asked
rpc_calls answered = filter_map (λ a. rpc_asked a.entry.client a.entry.call) answered

-- each with its answer
abbrev pub routed : List Answered → List routing.Made
routed answered = routing.made_of (rpc_calls answered)

-- the RPC of the request with this id; no caller uses a request that was not made
abbrev pub rpc_of : List Answered → ℕ → Option ℕ
rpc_of answered id = option_map (λ r. r.rpc) (routing.request_at (routing.requests (routed answered)) id)

abbrev pub rpc_fault : RpcFault → CallFault
rpc_fault (rpc_faults.NoProvider rpc) = faults.NoProvider rpc
rpc_fault (rpc_faults.ProviderTaken rpc) = faults.ProviderTaken rpc
rpc_fault (rpc_faults.NoCall id) = faults.NoCall id
rpc_fault rpc_faults.NoMemory = faults.NoMemory

-- the router's answer, about a request of the RPC, as a reply to the shared call
abbrev pub rpc_reply : ℕ → RpcReply → Reply
rpc_reply rpc rpc_replies.Accepted = said.Accepted
rpc_reply rpc (rpc_replies.CallMade id) = said.CallMade id
rpc_reply rpc (rpc_replies.Handed request) = said.Request request
rpc_reply rpc (rpc_replies.Output rows) = said.Output rpc rows
rpc_reply rpc rpc_replies.Nothing = said.Nothing
rpc_reply rpc (rpc_replies.Refused fault) = said.Refused (rpc_fault fault)

-- the router's answer to the client's call after these entries
abbrev pub by_router : List Answered → ℕ → RpcCall → RpcReply
by_router answered client call = routing.reply_to (routed answered) client call

-- ---- notifications

abbrev pub note_call : Call → Option NoteCall
note_call (Subscribe note) = Some (notes.Subscribe note)
note_call (Offer note rows) = Some (notes.Offer note rows)
note_call TakeNotes = Some notes.TakeNotes
note_call call = None

abbrev pub note_asked : ℕ → Call → Option queues.Asked
note_asked client call = option_map (λ c. record { client = client; call = c }) (note_call call)

-- the calls on notifications, in order
abbrev pub note_calls : List Answered → List queues.Asked
note_calls answered = filter_map (λ a. note_asked a.entry.client a.entry.call) answered

-- each with its answer, and with the subscribers that it had
abbrev pub noted : List Answered → List queues.Made
noted answered = queues.made_of (note_calls answered)

abbrev pub note_fault : NoteFault → CallFault
note_fault (note_faults.NoteRejected subscriber) = faults.NoteRejected subscriber
note_fault note_faults.NoMemory = faults.NoMemory

abbrev pub note_reply : NoteReply → Reply
note_reply note_replies.Accepted = said.Accepted
note_reply (note_replies.Offered count) = said.Offered count
note_reply (note_replies.Notes list) = said.Notes list
note_reply (note_replies.Refused fault) = said.Refused (note_fault fault)

abbrev pub by_notes : List Answered → ℕ → NoteCall → Reply
by_notes answered client call = note_reply (queues.reply_to (noted answered) client call)

-- ---- mounts

abbrev pub mount_call : Call → Option MountCall
mount_call (Mount path device) = Some (mount_calls.Mount path device)
mount_call (Unmount domain) = Some (mount_calls.Unmount domain)
mount_call (MountAt path) = Some (mount_calls.MountAt path)
mount_call call = None

-- the calls on mounts, in order
abbrev pub mounting : List Answered → List MountCall
mounting answered = filter_map (λ a. mount_call a.entry.call) answered

-- each with its answer, for this number of domains
abbrev pub mounted : ℕ → List Answered → List mounts.Made
mounted domains answered = mounts.made_of domains (mounting answered)

abbrev pub mount_fault : MountFault → CallFault
mount_fault (mount_faults.NoDomain id) = faults.NoDomain id
mount_fault (mount_faults.DeviceUsed id) = faults.DeviceUsed id
mount_fault (mount_faults.MountTaken id) = faults.MountTaken id
mount_fault mount_faults.NoMemory = faults.NoMemory

abbrev pub mount_reply : MountReply → Reply
mount_reply mount_replies.Accepted = said.Accepted
mount_reply (mount_replies.MountAt mount) = said.MountAt mount
mount_reply (mount_replies.Refused fault) = said.Refused (mount_fault fault)

abbrev pub by_mounts : ℕ → List Answered → MountCall → Reply
by_mounts domains answered call = mount_reply (mounts.reply_to domains (mounted domains answered) call)

-- domain 0 is always live, a device's domain from its mount to its unmount
abbrev pub is_live_among : ℕ → List Answered → ℕ → Bool
is_live_among domains answered domain = mounts.is_live (mounted domains answered) domain
