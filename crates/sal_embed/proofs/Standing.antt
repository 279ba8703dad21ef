-- A client after one of its own steps, and after a call of another client.
use Rattle.std.proofs.Common.{◌≡◌, ◌⊎◌, ⊎_elim, ℕ, ◌<◌, List, [], ◌∷◌, ◌++◌, length, Option, None, Some, refl, ap, sym, ◌∙◌, subst, append-nil}
use Rattle.std.specs.Prelude.{MatchOption, ⊤, string_bytes}
use Rattle.std.specs.Option.{option_map}
use Rattle.sal_schema.specs.declared.table.SchemaTable.{SchemaTable}
use Rattle.sal_history.specs.declared.call.Call.{Call}
use Rattle.sal_history.specs.declared.call.Entry.{Entry}
use Rattle.sal_history.specs.declared.reply.Reply.{Reply}
use Rattle.sal_history.specs.History.{reply}
use Rattle.sal_history.specs.World.{Domain}
use Rattle.sal_script.specs.declared.reply.StepReply.{StepReply}
use Rattle.sal_script.specs.declared.reply.StepReply.TheVariants.{Called}
use Rattle.sal_script.specs.Along.{IsAt}
use Rattle.sal_script.specs.Moves.{Move}
use Rattle.sal_script.specs.Play.{Client, Meeting, Run, keep, local, meet, replied, shared, spot_after}
use Rattle.sal_script.specs.Report.{client_lines}
use Rattle.sal_script.specs.Tables.{Versions, tables_of, versions_of}
use Rattle.sal_script.proofs.Along.{after_call, at_call, at_local, at_other, entry_at}
use Rattle.sal_hub.specs.HubHistory.{HubHistory, entry_of, more}
use Rattle.sal_client.specs.declared.client.ClientState.{ClientState}
use Rattle.sal_client.specs.declared.run.ClientRun.{ClientRun}
use Rattle.sal_client.specs.Clients.{Calls, client_of}
use Rattle.sal_client.specs.Runs.{replies_in}
use Rattle.sal_embed.specs.declared.caller.Caller.{Caller}
use Rattle.sal_embed.specs.Answers.{Answers, IsAnswered}
use Rattle.sal_embed.specs.Broker.{IsThrough, Keeps, StandsAt, answering, told_by, untold}
use Rattle.sal_embed.proofs.Answering.{keep_same, lift, meet_same}
use Rattle.sal_embed.proofs.Longer.{at_longer}

-- ---- the replies do not matter

abbrev next_of : Client → Meeting → Client
next_of other (local r next) = next
next_of other (shared call) = other

module _ (tables : List Versions) (c : ℕ) (step : Move) (r : StepReply) (known known' : HubHistory) (old next : Client) where
  -- the replies are those of before
  pub same_replies : Answers tables c step r known old known' next → next.replies ≡ old.replies
  same_replies answers = ⊎_elim
      (λ (h : (meet tables known.world known.log old step ≡ local r next) × (known' ≡ known)).
      let here = sym h.0 ∙ meet_same old.replies tables known.world known.log old step ∙ ap (lift old.replies) h.0 in
      ap (λ (m : Meeting). (next_of next m).replies) here)
      (λ (h : (call : Call) × Calls tables r c known old step known' next call).
      let q : Reply = reply known.world known.log (entry_of known c h.0) in
      ap (λ (client : Client). client.replies) (h.1.kept ∙ keep_same old.replies (spot_after known.world known.log) step q old ∙ ap (answering old.replies) (sym h.1.kept)))
      answers

-- ---- one of its own steps

module _ (c : ℕ) (steps : List Move) (step : Move) where
  -- the client with these replies, which was at the end of its program
  pub goes_on : (known known' : HubHistory) (rs : List StepReply) (r : StepReply) (old next : Client) → Answers (versions_of known.world) c step r known old known' next
      → IsAt (versions_of known.world) known.world c steps known.log (record { client = answering rs old; steps = [] })
      → IsAt (versions_of known'.world) known'.world c (steps ++ step ∷ []) known'.log (record { client = answering (rs ++ r ∷ []) next; steps = [] })
  goes_on known known' rs r old next answers was =
      let tables : List Versions = versions_of known.world in
      let longer = at_longer tables known.world (step ∷ []) c known.log steps (answering rs old) was in ⊎_elim
      (λ (h : (meet tables known.world known.log old step ≡ local r next) × (known' ≡ known)).
      subst (λ (k : HubHistory). IsAt (versions_of k.world) k.world c (steps ++ step ∷ []) k.log (record { client = answering (rs ++ r ∷ []) next; steps = [] })) (sym h.1)
      (at_local tables known.world c (steps ++ step ∷ []) known.log (answering rs old) (answering rs next) step [] r (meet_same rs tables known.world known.log old step ∙ ap (lift rs) h.0) longer))
      (λ (h : (call : Call) × Calls tables r c known old step known' next call).
      let call : Call = h.0 in
      let q : Reply = reply known.world known.log (entry_of known c call) in
      let made = at_call tables known.world c (steps ++ step ∷ []) known.log (answering rs old) step [] call (meet_same rs tables known.world known.log old step ∙ ap (lift rs) h.1.met) longer in
      let client : after_call tables known.world c known.log (answering rs old) step call ≡ answering (rs ++ r ∷ []) next =
      ap (replied (Called q)) (keep_same rs (spot_after known.world known.log) step q old ∙ ap (answering rs) (sym h.1.kept)) ∙ ap (λ (x : StepReply). answering (rs ++ x ∷ []) next) (sym h.1.replied) in
      subst (λ (k : HubHistory). IsAt (versions_of k.world) k.world c (steps ++ step ∷ []) k.log (record { client = answering (rs ++ r ∷ []) next; steps = [] })) (sym h.1.entry)
      (subst (λ (x : Client). IsAt tables known.world c (steps ++ step ∷ []) (known.log ++ entry_at tables known.world c known.log call ∷ []) (record { client = x; steps = [] })) client made))
      answers

-- ---- its state

-- the state of a client that has a run
abbrev pub kept_by : Client → Option ClientRun → Type 0
kept_by client run = MatchOption run ⊤ (λ (it : ClientRun). client ≡ answering client.replies (client_of it.client))

module _ (tables : List Versions) (step : Move) (known known' : HubHistory) (old new : Caller) (a b : ClientRun) where
  -- a client whose replies were all written, and which made one step more
  pub stands_on : tables ≡ versions_of known.world → old.run ≡ Some a → new.run ≡ Some b → a.client.number ≡ old.number → untold old ≡ [] → new.lines ≡ old.lines → new.told ≡ old.told → known'.world ≡ known.world
      → (answered : IsAnswered tables step known a.client known' b.client)
      → (untold new ≡ answered.0 ∷ []) × ((steps : List Move) (rs : List StepReply) → StandsAt known old.number steps rs old → StandsAt known' old.number (steps ++ step ∷ []) (rs ++ answered.0 ∷ []) new)
  stands_on of was now number all lines count world (r, next, answers, is) = (fresh, λ steps rs at. on steps rs at)
    where
      c : ℕ
      c = old.number

      none : replies_in a ≡ []
      none = sym (ap told_by was) ∙ all

      answers' : Answers (versions_of known.world) c step r known (client_of a.client) known' next
      answers' = subst (λ (n : ℕ). Answers (versions_of known.world) n step r known (client_of a.client) known' next) number (subst (λ (ts : List Versions). Answers ts a.client.number step r known (client_of a.client) known' next) of answers)

      fresh : untold new ≡ r ∷ []
      fresh = ap told_by now ∙ ap (λ (client : Client). client.replies) is ∙ ap (λ (rs : List StepReply). rs ++ r ∷ []) (same_replies (versions_of known.world) c step r known known' (client_of a.client) next answers' ∙ none)

      on : (steps : List Move) (rs : List StepReply) → StandsAt known c steps rs old → StandsAt known' c (steps ++ step ∷ []) (rs ++ r ∷ []) new
      on steps rs at =
          let client : Client = at.through.client in
          let mine : List StepReply = client.replies in
          let slots : client ≡ answering mine (client_of a.client) = subst (kept_by client) was at.keeps.slots in
          let last : Client = answering (mine ++ r ∷ []) next in
          let all_told : mine ≡ at.keeps.told = at.keeps.all ∙ ap (λ (us : List StepReply). at.keeps.told ++ us) all ∙ append-nil at.keeps.told in
          record {
            through = record {
              client = last;
              at = goes_on c steps step known known' mine r (client_of a.client) next answers'
                  (subst (λ (x : Client). IsAt (versions_of known.world) known.world c steps known.log (record { client = x; steps = [] })) slots at.through.at);
              replies = ap (λ (us : List StepReply). us ++ r ∷ []) at.through.replies;
            };
            keeps = record {
              slots = subst (kept_by last) (sym now) (sym (ap (answering (mine ++ r ∷ [])) is));
              told = at.keeps.told;
              all = (λ k. all_told k ++ r ∷ []) ∙ ap (λ (us : List StepReply). at.keeps.told ++ us) (sym fresh);
              count = count ∙ at.keeps.count;
              lines = ap string_bytes lines ∙ at.keeps.lines ∙ ap (λ (w : List Domain). client_lines (tables_of w) c 0 at.keeps.told) (sym world);
            };
          }

-- ---- a call of another

module _ (known : HubHistory) (e : Entry) where
  pub through_other : (c : ℕ) (steps : List Move) (rs : List StepReply) → (e.client ≡ c → ⊥) → IsThrough known.world known.log c steps rs → IsThrough known.world (known.log ++ e ∷ []) c steps rs
  through_other c steps rs other was = record {
    client = was.client;
    at = at_other (versions_of known.world) known.world c steps known.log (record { client = was.client; steps = [] }) e other was.at;
    replies = was.replies;
  }

  pub stands_other : (c : ℕ) (steps : List Move) (rs : List StepReply) (caller : Caller) → (e.client ≡ c → ⊥) → StandsAt known c steps rs caller → StandsAt (more known e) c steps rs caller
  unfolding through_other
  stands_other c steps rs caller other was = record {
    through = through_other c steps rs other was.through;
    keeps = record { slots = was.keeps.slots; told = was.keeps.told; all = was.keeps.all; count = was.keeps.count; lines = was.keeps.lines };
  }
