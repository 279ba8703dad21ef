-- A client that has a place, and has made no step; and the result of a step after that.
use Rattle.std.proofs.Common.{◌≡◌, ◌⊎◌, ⊎_elim, ℕ, zero, suc, ◌+◌, ◌<◌, ◌≤◌, Bool, true, false, List, [], ◌∷◌, ◌++◌, length, Option, None, Some, Result, Ok, Err, refl, ap, sym, ◌∙◌, subst, arith, inl, inr, length-append}
use Rattle.std.specs.Prelude.{MatchOption, ⊤, not, slice_get, string_bytes}
use Rattle.std.specs.Option.{is_some, option_map_or}
use Rattle.sal_schema.specs.declared.table.SchemaTable.{SchemaTable}
use Rattle.sal_history.specs.declared.call.Entry.{Entry}
use Rattle.sal_history.specs.World.{Domain}
use Rattle.sal_script.specs.declared.reply.StepReply.{StepReply}
use Rattle.sal_script.specs.Along.{new_run}
use Rattle.sal_script.specs.Moves.{Move}
use Rattle.sal_script.specs.Play.{Client, new_client}
use Rattle.sal_script.specs.Report.{reply_text}
use Rattle.sal_script.specs.Script.{one_step}
use Rattle.sal_script.specs.Tables.{tables_of, versions_of}
use Rattle.sal_script.proofs.Along.{at_others, at_start}
use Rattle.sal_script.proofs.Listed.{get-push}
use Rattle.sal_hub.specs.HubHistory.{HubHistory}
use Rattle.sal_client.specs.declared.run.ClientRun.{ClientRun}
use Rattle.sal_client.specs.Clients.{IsSound, client_of}
use Rattle.sal_client.specs.Runs.{replies_in}
use Rattle.sal_client.specs.Wishes.{GrowsAtMost}
use Rattle.sal_embed.specs.declared.caller.Caller.{Caller}
use Rattle.sal_embed.specs.declared.clients.Clients.{Clients}
use Rattle.sal_embed.specs.declared.fault.StepFault.{StepFault}
use Rattle.sal_embed.specs.declared.fault.StepFault.TheVariants.{BadStep, BadClient, Full, Lost, NoMemory, Untold, Broken}
use Rattle.sal_embed.specs.Broker.{AreCallers, AreThrough, IsCaller, IsHeld, StandsAt, answering, told_by, untold}
use Rattle.sal_embed.specs.Callers.{IsFresh}
use Rattle.sal_embed.specs.Outcomes.{HasStepped, IsPlacing, IsSame, LosesNoOther, LosesNone, Makes, Steps, is_lost}
use Rattle.sal_embed.specs.Scripts.{Programs, Replies}
use Rattle.sal_embed.proofs.Script.{none_in}
use Rattle.sal_embed.proofs.Standing.{kept_by}

-- ---- a client before its first step

abbrev begins : ℕ → Option ClientRun → Type 0
begins c run = MatchOption run ⊥ (λ (it : ClientRun). (it.client.number ≡ c) × (client_of it.client ≡ new_client) × ((known : HubHistory) → IsSound known it.client))

begins_kept : (c : ℕ) (run : Option ClientRun) → begins c run → kept_by new_client run
begins_kept c None fresh = tt
begins_kept c (Some run) fresh = sym (ap (answering []) fresh.1)

begins_told : (c : ℕ) (run : Option ClientRun) → begins c run → told_by run ≡ []
begins_told c None fresh = refl
begins_told c (Some run) fresh = ap (λ (client : Client). client.replies) fresh.1

begins_held : (known : HubHistory) (c : ℕ) (run : Option ClientRun) → begins c run → MatchOption run ⊤ (IsHeld known c)
begins_held known c None fresh = tt
begins_held known c (Some run) fresh = record {
  number = fresh.0;
  sound = fresh.2 known;
  few = subst (λ (rs : List StepReply). length rs ≤ 1) (sym (ap (λ (client : Client). client.replies) fresh.1)) (omega arith);
}

begins_here : (c : ℕ) (run : Option ClientRun) → begins c run → is_some run ≡ true
begins_here c None fresh = absurd fresh
begins_here c (Some run) fresh = refl

module _ (known : HubHistory) (c : ℕ) (caller : Caller) (fresh : IsFresh c caller) where
  fresh_caller : IsCaller known c caller
  fresh_caller = record { number = fresh.number; held = begins_held known c caller.run fresh.run }

  fresh_stands : ((i : ℕ) (e : Entry) → slice_get known.log i ≡ Some e → e.client ≡ c → ⊥) → StandsAt known c [] [] caller
  fresh_stands other = record {
    through = record {
      client = new_client;
      at = at_others (versions_of known.world) known.world c [] known.log [] (new_run []) (none_in known.log c other) (at_start (versions_of known.world) known.world c []);
      replies = refl;
    };
    keeps = record {
      slots = begins_kept c caller.run fresh.run;
      told = [];
      all = sym (begins_told c caller.run fresh.run);
      count = fresh.told;
      lines = fresh.lines;
    };
  }

-- ---- one more place

abbrev lost_at : Option Caller → Bool
lost_at found = option_map_or (λ (caller : Caller). not (is_some caller.run)) found false

get_more : {X : Type 0} (xs : List X) (y : X) (lost : Option X → Bool) (k : ℕ) → lost (Some y) ≡ lost None → lost (slice_get (xs ++ y ∷ []) k) ≡ lost (slice_get xs k)
get_more [] y lost zero same = same
get_more [] y lost (suc k) same = refl
get_more (x ∷ xs) y lost zero same = refl
get_more (x ∷ xs) y lost (suc k) same = get_more xs y lost k same

module _ (old new : Clients) (caller : Caller) (fresh : IsFresh (length old.callers.items) caller) (hub : new.hub ≡ old.hub) (now : new.callers.items ≡ old.callers.items ++ caller ∷ []) where
  placed_come : (programs : Programs) (replies : Replies) → AreThrough old.hub old.callers.items programs replies → AreThrough old.hub (old.callers.items ++ caller ∷ []) programs replies
  placed_come programs replies was =
      let c : ℕ = length old.callers.items in
      let none = was.beyond c (omega arith) in
      let mine : StandsAt old.hub c (programs c) (replies c) caller =
      subst (λ (rs : List StepReply). StandsAt old.hub c (programs c) rs caller) (sym none.1)
      (subst (λ (steps : List Move). StandsAt old.hub c steps [] caller) (sym none.0)
      (fresh_stands old.hub c caller fresh (λ i e at own. let placed = was.placed i e at in omega (arith, placed, own)))) in
      record {
        stands = λ k x at. ⊎_elim
            (λ (h : slice_get old.callers.items k ≡ Some x). was.stands k x h)
            (λ (h : (k ≡ c) × (caller ≡ x)). subst (λ (y : Caller). StandsAt old.hub k (programs k) (replies k) y) h.1 (subst (λ (n : ℕ). StandsAt old.hub n (programs n) (replies n) caller) (sym h.0) mine))
            (get-push old.callers.items caller k x at);
        beyond = λ k out. was.beyond k (omega (arith, out, length-append old.callers.items (caller ∷ [])));
        placed = λ i e at. let placed = was.placed i e at in omega (arith, placed, length-append old.callers.items (caller ∷ []));
      }

  pub placing : IsPlacing old new
  placing = record {
    same = record {
      hub = hub;
      come = λ programs replies was.
          subst (λ (k : HubHistory). AreThrough k new.callers.items programs replies) (sym hub)
          (subst (λ (callers : List Caller). AreThrough old.hub callers programs replies) (sym now) (placed_come programs replies was));
    };
    loses = λ k.
        ap (λ (callers : List Caller). lost_at (slice_get callers k)) now
        ∙ get_more old.callers.items caller lost_at k (ap not (begins_here (length old.callers.items) caller.run fresh.run));
  }

  pub placed_callers : AreCallers old.hub old.callers.items → AreCallers new.hub new.callers.items
  placed_callers are =
      subst (λ (k : HubHistory). AreCallers k new.callers.items) (sym hub)
      (subst (λ (callers : List Caller). AreCallers old.hub callers) (sym now)
      (λ k x at. ⊎_elim
      (λ (h : slice_get old.callers.items k ≡ Some x). are k x h)
      (λ (h : (k ≡ length old.callers.items) × (caller ≡ x)).
      subst (λ (y : Caller). IsCaller old.hub k y) h.1 (subst (λ (n : ℕ). IsCaller old.hub n caller) (sym h.0) (fresh_caller old.hub (length old.callers.items) caller fresh)))
      (get-push old.callers.items caller k x at)))

  pub placed_long : length new.callers.items ≡ length old.callers.items + 1
  placed_long = ap length now ∙ length-append old.callers.items (caller ∷ [])

-- the same clients
module _ (old new : Clients) (hub : new.hub ≡ old.hub) (same : new.callers.items ≡ old.callers.items) where
  pub placing_same : IsPlacing old new
  placing_same = record {
    same = record {
      hub = hub;
      come = λ programs replies was.
          subst (λ (k : HubHistory). AreThrough k new.callers.items programs replies) (sym hub)
          (subst (λ (callers : List Caller). AreThrough old.hub callers programs replies) (sym same) was);
    };
    loses = λ k. ap (λ (callers : List Caller). lost_at (slice_get callers k)) same;
  }

  pub callers_same : AreCallers old.hub old.callers.items → AreCallers new.hub new.callers.items
  callers_same are =
      subst (λ (k : HubHistory). AreCallers k new.callers.items) (sym hub) (subst (λ (callers : List Caller). AreCallers old.hub callers) (sym same) are)

pub placing_none : (it : Clients) → IsPlacing it it
placing_none it = record { same = record { hub = refl; come = λ programs replies was. was }; loses = λ k. refl }

module _ (old mid new : Clients) where
  pub placing_on : IsPlacing old mid → IsPlacing mid new → IsPlacing old new
  placing_on first more = record {
    same = record { hub = more.same.hub ∙ first.same.hub; come = λ programs replies was. more.same.come programs replies (first.same.come programs replies was) };
    loses = λ k. more.loses k ∙ first.loses k;
  }

  -- ---- a step after that

  module _ (first : IsPlacing old mid) (c : ℕ) (step : Move) where
    stepped_on : (r : StepReply) → HasStepped mid new c step r → HasStepped old new c step r
    stepped_on r more = record {
      grows = subst (λ (k : HubHistory). GrowsAtMost c k new.hub) first.same.hub more.grows;
      come = λ programs replies was. more.come programs replies (first.same.come programs replies was);
    }

    same_on : IsSame mid new → IsSame old new
    same_on more = record { hub = more.hub ∙ first.same.hub; come = λ programs replies was. more.come programs replies (first.same.come programs replies was) }

    none_on : LosesNone mid new → LosesNone old new
    none_on more k = more k ∙ first.loses k

    makes_on : (result : Result (List ℕ) StepFault) → Makes mid new c step result → Makes old new c step result
    makes_on (Ok text) (r, is, stepped, loses) = (r, is ∙ ap (λ (k : HubHistory). reply_text (tables_of k.world) r) first.same.hub, stepped_on r stepped, none_on loses)
    makes_on (Err Untold) (r, stepped, loses) = (r, stepped_on r stepped, none_on loses)
    makes_on (Err Full) (full, same, loses) = (subst (λ (k : HubHistory). 1000000 ≤ length k.log) first.same.hub full, same_on same, none_on loses)
    makes_on (Err Lost) (lost, same, loses) = (sym (first.loses c) ∙ lost, same_on same, none_on loses)
    makes_on (Err NoMemory) (same, loses) = (same_on same, λ k other. loses k other ∙ first.loses k)
    makes_on (Err Broken) grows = subst (λ (k : HubHistory). GrowsAtMost c k new.hub) first.same.hub grows
    makes_on (Err BadStep) made = absurd made
    makes_on (Err BadClient) made = absurd made

    pub steps_by : (bytes : List ℕ) → c < 65536 → one_step old.checked_reads bytes ≡ Ok step → (result : Result (List ℕ) StepFault) → Makes mid new c step result → Steps old new c bytes result
    steps_by bytes within is (Ok text) made = (within, (step, is, makes_on (Ok text) made))
    steps_by bytes within is (Err Untold) made = (within, (step, is, makes_on (Err Untold) made))
    steps_by bytes within is (Err Full) made = (within, (step, is, makes_on (Err Full) made))
    steps_by bytes within is (Err Lost) made = (within, (step, is, makes_on (Err Lost) made))
    steps_by bytes within is (Err Broken) made = (within, (step, is, makes_on (Err Broken) made))
    steps_by bytes within is (Err NoMemory) made = makes_on (Err NoMemory) made
    steps_by bytes within is (Err BadStep) made = absurd made
    steps_by bytes within is (Err BadClient) made = absurd made
