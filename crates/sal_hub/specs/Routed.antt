-- The hub's RPCs are those of its log, and the effect of a call on the router.
use Rattle.std.specs.Prelude.{ℕ, Bool, true, false, List, Option, None, Some}
use Rattle.sal_types.specs.declared.value.Step.{Step}
use Rattle.sal_types.specs.declared.row.Row.{Row}
use Rattle.sal_rpc.specs.declared.call.Request.{Request as Requested}
use Rattle.sal_rpc.specs.declared.call.RpcCall.{RpcCall}
use Rattle.sal_rpc.specs.declared.call.RpcCall.TheVariants as rpcs
use Rattle.sal_rpc.specs.declared.call.RpcFault.{RpcFault}
use Rattle.sal_rpc.specs.declared.call.RpcFault.TheVariants.{NoMemory}
use Rattle.sal_rpc.specs.Routes.{IsOf, Routes}
use Rattle.sal_history.specs.declared.call.Call.{Call}
use Rattle.sal_history.specs.declared.call.Call.TheVariants.{Answer, Collect, Invoke, NextCall, Provide, Withdraw}
use Rattle.sal_history.specs.declared.reply.Reply.{Reply}
use Rattle.sal_history.specs.declared.reply.Reply.TheVariants.{Nothing, Output, Request}
use Rattle.sal_history.specs.History.{history}
use Rattle.sal_history.specs.Services.{rpc_calls}
use Rattle.sal_hub.specs.Journals.{Noted, taken_back}
use Rattle.sal_hub.specs.HubHistory.{HubHistory}

-- the routes are those of the log's calls on the router
abbrev pub AreRouted : HubHistory → Routes → Type 0
AreRouted known router = IsOf (rpc_calls (history known.world known.log)) router

-- ---- calls

-- as shared calls
abbrev pub shared : RpcCall → Call
shared (rpcs.Provide rpc context) = Provide rpc context
shared (rpcs.Withdraw rpc context) = Withdraw rpc context
shared (rpcs.Invoke rpc context input) = Invoke rpc context input
shared rpcs.NextCall = NextCall
shared (rpcs.Answer id rows) = Answer id rows
shared (rpcs.Collect id) = Collect id

-- the one that begins a registration, or ends it
abbrev pub registering : Bool → ℕ → Option (List Step) → RpcCall
registering true rpc context = rpcs.Provide rpc context
registering false rpc context = rpcs.Withdraw rpc context

-- ---- answers

-- the next request, if one waits
abbrev pub request_reply : Option Requested → Reply
request_reply None = Nothing
request_reply (Some request) = Request request

-- the answer to a request of the RPC, if it has one
abbrev pub collect_reply : ℕ → Option (List Row) → Reply
collect_reply rpc None = Nothing
collect_reply rpc (Some rows) = Output rpc rows

-- ---- effects of calls

-- the journal after a call that failed: it has its entry, unless memory ran out
abbrev pub left_by : RpcFault → Noted → Noted
left_by NoMemory j = taken_back j
left_by fault j = j
