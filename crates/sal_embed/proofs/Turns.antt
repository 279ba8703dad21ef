-- A client through one step: its last reply is written, it makes the step, and its reply is written.
use Rattle.std.proofs.Common.{◌≡◌, ◌⊎◌, ⊎_elim, ℕ, zero, suc, ◌+◌, ◌≤◌, Bool, true, false, List, [], ◌∷◌, ◌++◌, length, Option, None, Some, Result, Ok, Err, refl, ap, sym, ◌∙◌, subst, arith, append_assoc, append-nil, length-append, inl, inr, true≢false}
use Rattle.std.specs.Prelude.{MatchOption, Vec, ⊤, string_bytes}
use Rattle.std.specs.Option.{is_some}
use Rattle.std.specs.declared.alloc.Global.{Global}
use Rattle.sal_schema.specs.declared.table.SchemaTable.{SchemaTable}
use Rattle.sal_history.specs.declared.call.Entry.{Entry}
use Rattle.sal_history.specs.World.{Domain}
use Rattle.sal_script.specs.declared.reply.StepReply.{StepReply}
use Rattle.sal_script.specs.Moves.{Move}
use Rattle.sal_script.specs.Play.{Client}
use Rattle.sal_script.specs.Report.{client_lines, reply_line, reply_text}
use Rattle.sal_script.specs.Tables.{tables_of}
use Rattle.sal_hub.specs.HubHistory.{HubHistory}
use Rattle.sal_client.specs.declared.client.ClientState.{ClientState}
use Rattle.sal_client.specs.declared.run.ClientRun.{ClientRun}
use Rattle.sal_client.specs.Clients.{IsSound, client_of}
use Rattle.sal_client.specs.Runs.{replies_in}
use Rattle.sal_client.specs.Wishes.{GrowsAtMost, GrowsBy}
use Rattle.sal_embed.specs.declared.caller.Caller.{Caller}
use Rattle.sal_embed.specs.declared.fault.StepFault.{StepFault}
use Rattle.sal_embed.specs.declared.fault.StepFault.TheVariants.{BadStep, BadClient, Full, Lost, NoMemory, Untold, Broken}
use Rattle.sal_embed.specs.Answers.{IsAsBefore}
use Rattle.sal_embed.specs.Broker.{Follows, IsCaller, IsHeld, StandsAt, answering, told_by, untold}
use Rattle.sal_embed.specs.Callers.{Fails, GoesOn, IsEmptied, IsFinished, IsForgotten, IsMade, IsSameAt, Steps}
use Rattle.sal_embed.proofs.Standing.{kept_by}
use Rattle.sal_embed.proofs.Telling.{lines-push}

-- ---- the state of every client

-- the world stays
pub same_world : (c : ℕ) (known known' : HubHistory) → GrowsAtMost c known known' → known'.world ≡ known.world
same_world c known known' grows = ⊎_elim
    (λ (h : known' ≡ known). ap (λ (k : HubHistory). k.world) h)
    (λ (h : GrowsBy c known known'). ap (λ (k : HubHistory). k.world) h.2)
    grows

-- a log that is not longer is the same
pub not_longer : (c : ℕ) (known known' : HubHistory) → GrowsAtMost c known known' → length known'.log ≤ length known.log → known' ≡ known
not_longer c known known' grows few = ⊎_elim
    (λ (h : known' ≡ known). h)
    (λ (h : GrowsBy c known known').
    let one : length known'.log ≡ length known.log + 1 = ap (λ (k : HubHistory). length k.log) h.2 ∙ length-append known.log (h.0 ∷ []) in
    absurd (omega (arith, one, few)))
    grows

held_near : (known : HubHistory) (c : ℕ) (run : Option ClientRun) → MatchOption run ⊤ (IsHeld known c) → length (told_by run) ≤ 1
held_near known c None held = omega arith
held_near known c (Some run) held = held.few

-- it has at most one reply that is not written
pub near : (known : HubHistory) (c : ℕ) (caller : Caller) → IsCaller known c caller → length (untold caller) ≤ 1
near known c caller is = held_near known c caller.run is.held

-- ---- a reply is written

-- the run without replies
abbrev pub emptied : ClientRun → Vec StepReply Global → ClientRun
emptied run none = record run { client = record run.client { replies = none } }

pub sound_emptied : (known : HubHistory) (run : ClientRun) (none : Vec StepReply Global) → IsSound known run.client → IsSound known (emptied run none).client
sound_emptied known run none is = record {
  steady = record { transactions = is.steady.transactions; followers = is.steady.followers };
  receipts = is.receipts;
  chains = is.chains;
  invoked = is.invoked;
  listeners = is.listeners;
  apart = is.apart;
}

emptied_here : (old new : Option ClientRun) → IsEmptied old new → is_some new ≡ is_some old
emptied_here None None is = refl
emptied_here (Some a) (Some b) is = refl
emptied_here None (Some b) is = absurd is
emptied_here (Some a) None is = absurd is

pub emptied_told : (old new : Option ClientRun) → IsEmptied old new → told_by new ≡ []
emptied_told None None is = refl
emptied_told (Some a) (Some b) is = ap replies_in is.2 ∙ is.1
emptied_told None (Some b) is = absurd is
emptied_told (Some a) None is = absurd is

emptied_held : (known : HubHistory) (c : ℕ) (old new : Option ClientRun) → IsEmptied old new → MatchOption old ⊤ (IsHeld known c) → MatchOption new ⊤ (IsHeld known c)
emptied_held known c None None is held = tt
emptied_held known c (Some a) (Some b) is held = subst (IsHeld known c) (sym is.2) (record {
  number = held.number;
  sound = sound_emptied known a is.0 held.sound;
  few = subst (λ (rs : List StepReply). length rs ≤ 1) (sym is.1) (omega arith);
})
emptied_held known c None (Some b) is held = absurd is
emptied_held known c (Some a) None is held = absurd is

emptied_kept : (client : Client) (old new : Option ClientRun) → IsEmptied old new → kept_by client old → kept_by client new
emptied_kept client None None is kept = tt
emptied_kept client (Some a) (Some b) is kept = subst (λ (run : ClientRun). client ≡ answering client.replies (client_of run.client)) (sym is.2) kept
emptied_kept client None (Some b) is kept = absurd is
emptied_kept client (Some a) None is kept = absurd is

module _ (tables : List SchemaTable) (old mid new : Caller) (r : StepReply) where
  -- its line is added, and then it is dropped
  pub told_follows : mid.number ≡ old.number → mid.run ≡ old.run → mid.told ≡ old.told + 1 → string_bytes mid.lines ≡ string_bytes old.lines ++ reply_line tables old.number old.told r → untold old ≡ r ∷ [] → IsForgotten mid new → Follows tables old new
  told_follows number run one line waits gone = record {
    number = gone.number ∙ number;
    here = emptied_here mid.run new.run gone.run ∙ ap is_some run;
    held = λ known c is. record {
      number = gone.number ∙ number ∙ is.number;
      held = emptied_held known c mid.run new.run gone.run (subst (λ (it : Option ClientRun). MatchOption it ⊤ (IsHeld known c)) (sym run) is.held);
    };
    stands = λ known steps rs of at.
        let client = at.through.client in
        let told : List StepReply = at.keeps.told in
        let same : old.told ≡ length told = at.keeps.count in
        let empty : untold new ≡ [] = emptied_told mid.run new.run gone.run in
        let more = gone.told ∙ one in
        record {
          through = at.through;
          keeps = record {
            slots = emptied_kept client mid.run new.run gone.run (subst (kept_by client) (sym run) at.keeps.slots);
            told = told ++ r ∷ [];
            all = at.keeps.all ∙ ap (λ (us : List StepReply). told ++ us) waits ∙ sym (append-nil (told ++ r ∷ [])) ∙ ap (λ (us : List StepReply). (told ++ r ∷ []) ++ us) (sym empty);
            count = omega (arith, more, same, length-append told (r ∷ []));
            lines = ap string_bytes gone.lines ∙ line
                ∙ (λ k. at.keeps.lines k ++ reply_line (of k) old.number (same k) r)
                ∙ ap (λ (n : ℕ). client_lines (tables_of known.world) old.number 0 told ++ reply_line (tables_of known.world) old.number n r) (from_none (length told))
                ∙ sym (lines-push (tables_of known.world) old.number 0 told r);
          };
        };
  }
    where
      from_none : (n : ℕ) → n ≡ 0 + n
      from_none n = omega arith

-- there was nothing to write
pub follows_same : (tables : List SchemaTable) (old new : Caller) → new ≡ old → Follows tables old new
follows_same tables old new same = subst (λ (it : Caller). Follows tables old it) (sym same) (record {
  number = refl;
  here = refl;
  held = λ known c is. is;
  stands = λ known steps rs of at. at;
})

-- the client is kept in the same way, and its lines have the same bytes
pub follows_bytes : (tables : List SchemaTable) (old new : Caller) → new.number ≡ old.number → new.run ≡ old.run → new.told ≡ old.told → string_bytes new.lines ≡ string_bytes old.lines → Follows tables old new
follows_bytes tables old new number run count bytes = record {
  number = number;
  here = ap is_some run;
  held = λ known c is. record { number = number ∙ is.number; held = subst (λ (it : Option ClientRun). MatchOption it ⊤ (IsHeld known c)) (sym run) is.held };
  stands = λ known steps rs of at. record {
    through = at.through;
    keeps = record {
      slots = subst (kept_by at.through.client) (sym run) at.keeps.slots;
      told = at.keeps.told;
      all = at.keeps.all ∙ ap (λ (us : List StepReply). at.keeps.told ++ us) (ap told_by (sym run));
      count = count ∙ at.keeps.count;
      lines = bytes ∙ at.keeps.lines;
    };
  };
}

-- ---- the whole step

abbrev head_or : StepReply → List StepReply → StepReply
head_or r [] = r
head_or r (x ∷ xs) = x

module _ (tables : List SchemaTable) (known known' : HubHistory) (old before after new : Caller) (step : Move) where
  -- written, made and written again
  pub steps_on : tables ≡ tables_of known.world → known'.world ≡ known.world → Follows tables old before → Follows tables after new → after.number ≡ before.number → (r : StepReply) → GoesOn known before step r known' after → GoesOn known old step r known' new
  steps_on of world first last number r goes steps rs at =
      let c : ℕ = old.number in
      let ready : StandsAt known before.number steps rs before = subst (λ (n : ℕ). StandsAt known n steps rs before) (sym first.number) (first.stands known steps rs of at) in
      let made : StandsAt known' before.number (steps ++ step ∷ []) (rs ++ r ∷ []) after = goes steps rs ready in
      let told : StandsAt known' after.number (steps ++ step ∷ []) (rs ++ r ∷ []) new =
      last.stands known' (steps ++ step ∷ []) (rs ++ r ∷ []) (of ∙ ap tables_of (sym world)) (subst (λ (n : ℕ). StandsAt known' n (steps ++ step ∷ []) (rs ++ r ∷ []) after) (sym number) made) in
      subst (λ (n : ℕ). StandsAt known' n (steps ++ step ∷ []) (rs ++ r ∷ []) new) (number ∙ first.number) told

  -- written, and not made
  pub stays_on : tables ≡ tables_of known.world → Follows tables old before → IsSameAt known before known' after → IsSameAt known old known' after
  stays_on of first same = record {
    hub = same.hub;
    stands = λ steps rs at.
        subst (λ (n : ℕ). StandsAt known n steps rs after) first.number
        (same.stands steps rs (subst (λ (n : ℕ). StandsAt known n steps rs before) (sym first.number) (first.stands known steps rs of at)));
  }

-- no step was made, and a reply may have been written
pub stays_told : (tables : List SchemaTable) (known : HubHistory) (old new : Caller) → tables ≡ tables_of known.world → Follows tables old new → IsSameAt known old known new
stays_told tables known old new of follows = record { hub = refl; stands = λ steps rs at. follows.stands known steps rs of at }

-- a reply waits
pub waiting : (rs : List StepReply) (r : StepReply) → rs ≡ r ∷ [] → rs ≡ [] → ⊥
waiting rs r one none = cc

-- the one reply that is not written
pub same_reply : (rs : List StepReply) (r s : StepReply) → rs ≡ r ∷ [] → rs ≡ s ∷ [] → r ≡ s
same_reply rs r s one other = ap (head_or r) (sym one ∙ other)

-- the step was made, and its reply is written or waits
pub finished : (known known' : HubHistory) (old before after new : Caller) (step : Move) → known'.world ≡ known.world → Follows (tables_of known.world) old before → Follows (tables_of known.world) after new
    → after.number ≡ before.number → IsMade known before step known' after → (result : Result (List ℕ) StepFault) → IsFinished (tables_of known.world) after result
    → Steps (tables_of known.world) known old step known' new result
finished known known' old before after new step world first last number (r, waits, here, goes) (Ok text) (s, his, is) = (
  r,
  is ∙ ap (reply_text (tables_of known.world)) (same_reply (untold after) s r his waits),
  last.here ∙ here ∙ first.here,
  steps_on (tables_of known.world) known known' old before after new step refl world first last number r goes,
)
finished known known' old before after new step world first last number (r, waits, here, goes) (Err Untold) told =
    (r, last.here ∙ here ∙ first.here, steps_on (tables_of known.world) known known' old before after new step refl world first last number r goes)
finished known known' old before after new step world first last number made (Err BadStep) told = absurd told
finished known known' old before after new step world first last number made (Err BadClient) told = absurd told
finished known known' old before after new step world first last number made (Err Full) told = absurd told
finished known known' old before after new step world first last number made (Err Lost) told = absurd told
finished known known' old before after new step world first last number made (Err NoMemory) told = absurd told
finished known known' old before after new step world first last number made (Err Broken) told = absurd told

-- ---- a step that was not made

module _ (known : HubHistory) (old new : Caller) (number : new.number ≡ old.number) (lines : new.lines ≡ old.lines) (count : new.told ≡ old.told) where
  -- the client is as it was
  pub stays_full : (a b : ClientRun) → old.run ≡ Some a → new.run ≡ Some b → IsAsBefore known a.client b.client → IsSameAt known old known new
  stays_full a b was now same = record {
    hub = refl;
    stands = λ steps rs at. record {
      through = at.through;
      keeps = record {
        slots = subst (kept_by at.through.client) (sym now) (subst (kept_by at.through.client) was at.keeps.slots ∙ ap (answering at.through.client.replies) (sym same.client));
        told = at.keeps.told;
        all = at.keeps.all ∙ ap (λ (us : List StepReply). at.keeps.told ++ us) (ap told_by was ∙ ap (λ (client : Client). client.replies) (sym same.client) ∙ ap told_by (sym now));
        count = count ∙ at.keeps.count;
        lines = ap string_bytes lines ∙ at.keeps.lines;
      };
    };
  }

  -- the client is lost, whose replies were all written
  pub stays_lost : new.run ≡ None → untold old ≡ [] → IsSameAt known old known new
  stays_lost gone all = record {
    hub = refl;
    stands = λ steps rs at. record {
      through = at.through;
      keeps = record {
        slots = subst (kept_by at.through.client) (sym gone) tt;
        told = at.keeps.told;
        all = at.keeps.all ∙ ap (λ (us : List StepReply). at.keeps.told ++ us) (all ∙ ap told_by (sym gone));
        count = count ∙ at.keeps.count;
        lines = ap string_bytes lines ∙ at.keeps.lines;
      };
    };
  }

-- after the telling of the reply before
pub fails_on : (tables : List SchemaTable) (known known' : HubHistory) (old before after : Caller) (step : Move) → tables ≡ tables_of known.world → Follows tables old before → (fault : StepFault) → Fails known before known' after fault
    → Steps tables known old step known' after (Err fault)
fails_on tables known known' old before after step of first Lost (was, now, same) = (sym first.here ∙ was, now, stays_on tables known known' old before after after step of first same)
fails_on tables known known' old before after step of first Full (full, here, same) = (full, here ∙ first.here, stays_on tables known known' old before after after step of first same)
fails_on tables known known' old before after step of first NoMemory same = λ h. stays_on tables known known' old before after after step of first (same h)
fails_on tables known known' old before after step of first Untold fails = absurd fails
fails_on tables known known' old before after step of first BadStep fails = absurd fails
fails_on tables known known' old before after step of first BadClient fails = absurd fails
fails_on tables known known' old before after step of first Broken fails = absurd fails
