-- The input for the replies of a log, in lists of numbers: no trees and no operations.
use Rattle.std.specs.Prelude.{◌≡◌, ℕ, false, not, ◌+◌, ◌-◌, ◌&&◌, Bool, List, [], ◌∷◌, ◌++◌, drop, length, map, take, max, min, Option, Some, None, if◌then◌else◌, nat_eq, nat_lt, option_and_then, slice_get, unwrap_or, Result, Ok, Err}
use Rattle.std.specs.List.{filter_map, fold, list_any}
use Rattle.std.specs.Option.{option_map, option_map_or, option_or, option_to_list}
use Rattle.sal_rows.specs.declared.outcome.CallFault.{CallFault}
use Rattle.sal_rows.specs.declared.outcome.CallFault.TheVariants.{ChainClosed, ChainFailed, NoDomain, PipelineFull, PreviousOpen, TxSpent}
use Rattle.sal_rows.specs.declared.outcome.Outcome.{Outcome}
use Rattle.sal_rows.specs.Spans.{is_of_chain}
use Rattle.sal_mount.specs.declared.call.MountCall.{MountCall}
use Rattle.sal_mount.specs.declared.call.MountFault.{MountFault}
use Rattle.sal_mount.specs.declared.call.MountFault.TheVariants.{NoMemory}
use Rattle.sal_mount.specs.declared.call.MountReply.{MountReply}
use Rattle.sal_mount.specs.declared.call.MountCall.TheVariants as mount_calls
use Rattle.sal_mount.specs.Answers.{Makes}
use Rattle.sal_mount.specs.Mounts as mounts
use Rattle.sal_mount.specs.Register.{IsOf, Register}
use Rattle.sal_history.specs.declared.call.Call.{Call}
use Rattle.sal_history.specs.declared.call.Call.TheVariants.{Begin, OpenChain, ChainBegin, CloseChain, Submit, Cancel, Settle, Pump, Mount, Unmount, MountAt, Mark, After}
use Rattle.sal_history.specs.declared.reply.Reply.{Reply}
use Rattle.sal_history.specs.declared.reply.Reply.TheVariants.{Begun, Chain, Accepted, Receipt, Settled, Decided, Nothing, Found, Late, Refused}
use Rattle.sal_history.specs.Answered.{Answered}
use Rattle.sal_history.specs.History.{chain_domains, fault_if, opened_chain, outcomes, refused_or, sents}
use Rattle.sal_history.specs.Numbered.{numbered}
use Rattle.sal_history.specs.Services.{mount_call, mount_fault, mount_reply, mounting}
use Rattle.sal_history.specs.Submissions.{Base, Sent, is_done, last_from}
use Rattle.sal_history.specs.World.{Domain}
use Rattle.sal_retell.specs.declared.front.Footing.{Footing}
use Rattle.sal_retell.specs.declared.front.Front.{Front}
use Rattle.sal_retell.specs.declared.retold.Course.{Course}
use Rattle.sal_history.specs.declared.call.Entry.{Entry}

-- ---- the records of each entry

-- a base without its trees
abbrev pub footing_of : Base → Footing
footing_of b = record { domain = b.domain; commit = b.commit; chain = b.chain }

abbrev pub sent_on : Sent → Footing
sent_on s = footing_of s.base

abbrev pub began_on : Answered → Option Footing
began_on a = option_map footing_of a.began

-- the index of the transaction that a call with this reply spent
abbrev pub spent_by : Call → Reply → Option ℕ
spent_by (Submit place ops) (Receipt n) = Some place
spent_by (Cancel place) reply = Some place
spent_by call reply = None

-- the chain that it closed
abbrev pub closed_by : Call → Reply → Option ℕ
closed_by (CloseChain id) Accepted = Some id
closed_by call reply = None

-- the mark that it set
abbrev pub marked_by : Call → Option ℕ
marked_by (Mark m) = Some m
marked_by call = None

-- The base of each entry's transaction, and of each receipt's; the domains of the chains; the chains that were closed, the indexes
-- of transactions that were spent, and the marks, in the order of the log; how many receipts are decided; how many domains there are; and
-- the calls on mounts.
pub record Light : Type 0 where
  pub began : List (Option Footing)
  pub sent : List Footing
  pub chains : List ℕ
  pub closed : List ℕ
  pub spent : List ℕ
  pub marks : List ℕ
  pub decided : ℕ
  pub devices : ℕ
  pub calls : List MountCall

abbrev pub light : List Domain → List Answered → Light
light world answered =
    record {
      began = map began_on answered;
      sent = map sent_on (sents answered);
      chains = chain_domains answered;
      closed = filter_map (λ a. closed_by a.entry.call a.reply) answered;
      spent = filter_map (λ a. spent_by a.entry.call a.reply) answered;
      marks = filter_map (λ a. marked_by a.entry.call) answered;
      decided = length (outcomes answered);
      devices = length world;
      calls = mounting answered;
    }

-- ---- the replies, with the outcomes of the whole log

abbrev pub has : List ℕ → ℕ → Bool
has list n = list_any (λ x. nat_eq x n) list

-- the footing is of the chain
abbrev pub is_on : ℕ → Footing → Bool
is_on chain f = is_of_chain (Some chain) f.chain

-- the entry began a transaction of the chain
abbrev pub begins_on : ℕ → Option Footing → Bool
begins_on chain o = option_map_or (is_on chain) o false

-- how many of these submissions with these outcomes are commits of the domain
abbrev pub commits_of : ℕ → List Footing → List Outcome → ℕ
commits_of domain [] os = 0
commits_of domain (f ∷ fs) [] = 0
commits_of domain (f ∷ fs) (o ∷ os) = (if nat_eq f.domain domain && is_done o then 1 else 0) + commits_of domain fs os

-- counted from n on, the first receipt of the chain with an outcome other than done
abbrev pub failing_on : ℕ → ℕ → List Footing → List Outcome → Option ℕ
failing_on n chain [] os = None
failing_on n chain (f ∷ fs) [] = None
failing_on n chain (f ∷ fs) (o ∷ os) = if is_on chain f && not (is_done o) then Some n else failing_on (n + 1) chain fs os

abbrev pub later_than : ℕ → Option ℕ → Option ℕ
later_than decided receipt = option_and_then (λ n. if nat_lt decided n then Some n else None) receipt

-- the transaction that began at the index is not spent
abbrev pub is_unspent : List ℕ → Option ℕ → Bool
is_unspent spent begun = option_map_or (λ place. not (has spent place)) begun false

-- no trees at commit 0 of domain 0
abbrev pub nowhere_on : Footing
nowhere_on = record { domain = 0; commit = 0; chain = None }

-- the footing of the entry at an index, if any
abbrev pub footing_at : List (Option Footing) → ℕ → Footing
footing_at began place = unwrap_or (unwrap_or (slice_get began place) None) nowhere_on

-- a begin on the commit, if the domain is live
abbrev pub begun_on : Bool → ℕ → ℕ → Reply
begun_on live domain commit = if live then Begun commit None else Refused (NoDomain domain)

abbrev pub settled_on : Option Footing → Option Outcome → Reply
settled_on (Some f) (Some o) = Settled f.domain o
settled_on f o = Receipt 0

abbrev pub pumped_on : ℕ → Option Footing → Option Outcome → Reply
pumped_on receipt (Some f) (Some o) = Decided receipt f.domain o
pumped_on receipt f o = Nothing

-- the receipt up to which all of `sent` are decided after a settle
abbrev pub settled_upto : ℕ → ℕ → ℕ → ℕ
settled_upto receipt decided sent = max decided (min receipt sent)

-- and after any call
abbrev pub decided_after : Call → ℕ → ℕ → ℕ
decided_after (Settle receipt) decided sent = settled_upto receipt decided sent
decided_after Pump decided sent = if nat_lt decided sent then decided + 1 else decided
decided_after call decided sent = decided

module _ (l : Light) where
  abbrev pub live : ℕ → Bool
  live domain = mounts.is_live (mounts.made_of l.devices l.calls) domain

  abbrev pub by_mounts : MountCall → Reply
  by_mounts call = mount_reply (mounts.reply_to l.devices (mounts.made_of l.devices l.calls) call)

  abbrev pub domain_on : ℕ → ℕ
  domain_on chain = unwrap_or (numbered l.chains chain) 0

  -- the pending receipt that the chain's next transaction follows
  abbrev pub pending_on : ℕ → Option ℕ
  pending_on chain = later_than l.decided (last_from 1 (is_on chain) l.sent)

  abbrev pub has_open : ℕ → Bool
  has_open chain = is_unspent l.spent (last_from 0 (begins_on chain) l.began)

  abbrev pub submitted_on : ℕ → Reply
  submitted_on place =
      if nat_lt (length l.sent - l.decided) 4096
      then (if has l.spent place then Refused TxSpent else Receipt (length l.sent + 1))
      else Refused PipelineFull

  abbrev pub chain_opened : ℕ → Reply
  chain_opened domain = if live domain then Chain (length l.chains + 1) else Refused (NoDomain domain)

  abbrev pub chain_closed : ℕ → Reply
  chain_closed chain = refused_or (fault_if (has l.closed chain) ChainClosed) Accepted

  abbrev pub looked : ℕ → Reply
  looked mark = if has l.marks mark then Found else Late

  module _ (os : List Outcome) where
    abbrev pub newest_on : ℕ → Option ℕ → Footing
    newest_on domain chain = record { domain = domain; commit = commits_of domain l.sent (take l.decided os); chain = chain }

    abbrev pub standing_on : ℕ → Option Footing → Footing
    standing_on chain None = newest_on (domain_on chain) (Some chain)
    standing_on chain (Some f) = record { domain = f.domain; commit = f.commit; chain = Some chain }

    abbrev pub chained_on : ℕ → Footing
    chained_on chain = standing_on chain (option_and_then (λ n. numbered l.sent n) (pending_on chain))

    -- the base of the transaction that the call begins
    abbrev pub asked_on : Call → Footing
    asked_on (Begin domain mode) = newest_on domain None
    asked_on (ChainBegin chain mode) = chained_on chain
    asked_on call = nowhere_on

    abbrev pub refusal_with : Bool → ℕ → Option CallFault
    refusal_with is_live chain =
        option_or (fault_if (has l.closed chain) ChainClosed)
        (option_or (option_map ChainFailed (failing_on 1 chain l.sent (take l.decided os)))
        (option_or (fault_if (has_open chain) PreviousOpen)
        (fault_if (not is_live) (NoDomain (domain_on chain)))))

    abbrev pub chain_begun : ℕ → Reply
    chain_begun chain = refused_or (refusal_with (live (domain_on chain)) chain) (Begun (chained_on chain).commit (pending_on chain))

    abbrev pub settled_in : ℕ → Reply
    settled_in receipt = settled_on (numbered l.sent receipt) (numbered (take (settled_upto receipt l.decided (length l.sent)) os) receipt)

    abbrev pub pumped_in : Reply
    pumped_in = pumped_on (l.decided + 1) (slice_get l.sent l.decided) (slice_get os l.decided)

    -- the reply to a call, or `Nothing` if it needs data
    abbrev pub answer_on : Call → Reply
    answer_on (Begin domain mode) = begun_on (live domain) domain (newest_on domain None).commit
    answer_on (OpenChain domain) = chain_opened domain
    answer_on (ChainBegin chain mode) = chain_begun chain
    answer_on (CloseChain chain) = chain_closed chain
    answer_on (Submit place ops) = submitted_on place
    answer_on (Cancel place) = Accepted
    answer_on (Settle receipt) = settled_in receipt
    answer_on Pump = pumped_in
    answer_on (Mount path device) = by_mounts (mount_calls.Mount path device)
    answer_on (Unmount domain) = by_mounts (mount_calls.Unmount domain)
    answer_on (MountAt path) = by_mounts (mount_calls.MountAt path)
    answer_on (Mark mark) = Accepted
    answer_on (After mark) = looked mark
    answer_on call = Nothing

-- ---- one more entry

-- the transaction that began with this reply, on this footing
abbrev pub began_with : Footing → Call → Reply → Option Footing
began_with f (Begin domain mode) (Begun commit on) = Some f
began_with f (ChainBegin chain mode) (Begun commit on) = Some f
began_with f call reply = None

abbrev pub sent_with : List (Option Footing) → Call → Reply → Option Footing
sent_with began (Submit place ops) (Receipt n) = Some (footing_at began place)
sent_with began call reply = None

-- the entry of a call with this reply and this footing
abbrev pub more_light : Light → Footing → Call → Reply → Light
more_light l f call reply =
    record {
      began = l.began ++ began_with f call reply ∷ [];
      sent = l.sent ++ option_to_list (sent_with l.began call reply);
      chains = l.chains ++ option_to_list (opened_chain call reply);
      closed = l.closed ++ option_to_list (closed_by call reply);
      spent = l.spent ++ option_to_list (spent_by call reply);
      marks = l.marks ++ option_to_list (marked_by call);
      decided = decided_after call l.decided (length l.sent);
      devices = l.devices;
      calls = l.calls ++ option_to_list (mount_call call);
    }

-- one more call, with its reply
abbrev pub next_light : List Outcome → Light → Call → Light
next_light os l call = more_light l (asked_on l os call) call (answer_on l os call)

-- ---- for the code

-- the code's records, with the calls of its register of mounts
abbrev pub light_in : Front → List MountCall → Light
light_in f calls =
    record {
      began = f.began.items;
      sent = f.sent.items;
      chains = f.chains.items;
      closed = f.closed.items;
      spent = f.spent.items;
      marks = f.marks.items;
      decided = f.decided;
      devices = f.mounts.devices;
      calls = calls;
    }

-- a call on mounts was made, with this reply
pub record IsMade (old new : Register) (call : MountCall) (r : Reply) : Type 0 where
  pub reply : MountReply
  pub made : Makes old new call reply
  pub same : mount_reply reply ≡ r

-- a fault that is a reply
abbrev pub IsAnswer : MountFault → Type 0
IsAnswer NoMemory = ⊥
IsAnswer fault = Unit {0}

-- the reply to a refused call on mounts
abbrev pub Refuses : {E : Type 0} → MountFault → Result Reply E → Type 0
Refuses fault (Ok r) = IsAnswer fault × (r ≡ Refused (mount_fault fault))
Refuses fault (Err e) = Unit {0}

-- one more entry, for any calls of the register of mounts
pub record Tells (os : List Outcome) (call : Call) (old new : Course) : Type 0 where
  pub calls : (calls : List MountCall) → IsOf calls old.front.mounts → IsOf (calls ++ option_to_list (mount_call call)) new.front.mounts
  pub light : (calls : List MountCall) → IsOf calls old.front.mounts → light_in new.front (calls ++ option_to_list (mount_call call)) ≡ next_light os (light_in old.front calls) call
  pub reply : (calls : List MountCall) → IsOf calls old.front.mounts → new.replies.items ≡ old.replies.items ++ answer_on (light_in old.front calls) os call ∷ []

-- the entries so far are those of a log over this many domains
abbrev pub empty_light : ℕ → Light
empty_light domains =
    record { began = []; sent = []; chains = []; closed = []; spent = []; marks = []; decided = 0; devices = domains; calls = [] }

-- the replies to calls, one after another
abbrev pub answers_on : List Outcome → Light → List Call → List Reply
answers_on os l [] = []
answers_on os l (call ∷ calls) = answer_on l os call ∷ answers_on os (next_light os l call) calls

abbrev pub call_in : Entry → Call
call_in e = e.call

-- the course of the entries before this index of the log
pub record IsAt (domains : ℕ) (log : List Entry) (os : List Outcome) (i : ℕ) (told : Course) : Type 0 where
  pub calls : List MountCall
  pub mounts : IsOf calls told.front.mounts
  pub replies : told.replies.items ++ answers_on os (light_in told.front calls) (map call_in (drop i log)) ≡ answers_on os (empty_light domains) (map call_in log)
  pub light : fold (next_light os) (light_in told.front calls) (map call_in (drop i log)) ≡ fold (next_light os) (empty_light domains) (map call_in log)

-- and that of all entries
pub record IsThrough (domains : ℕ) (log : List Entry) (os : List Outcome) (told : Course) : Type 0 where
  pub replies : told.replies.items ≡ answers_on os (empty_light domains) (map call_in log)
  pub sent : told.front.sent.items ≡ (fold (next_light os) (empty_light domains) (map call_in log)).sent
