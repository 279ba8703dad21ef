-- All clients, after a step of one of them.
use Rattle.std.proofs.Common.{◌≡◌, ◌⊎◌, ⊎_elim, ℕ, zero, suc, ◌+◌, ◌<◌, ◌≤◌, Bool, true, false, List, [], ◌∷◌, ◌++◌, length, set, Option, None, Some, if◌then◌else◌, refl, ap, sym, ◌∙◌, subst, arith, inl, inr, length-append}
use Rattle.std.specs.Prelude.{MatchOption, ⊤, nat_eq, slice_get, not}
use Rattle.std.specs.Option.{is_some, option_map_or}
use Rattle.std.proofs.lemmas.Bool.{cases_lt, eq-eqb, ne_eqb}
use Rattle.std.proofs.lemmas.List.{length-set}
use Rattle.std.proofs.lemmas.Option.{same_Some, slice_get_within}
use Rattle.sal_history.specs.declared.call.Entry.{Entry}
use Rattle.sal_script.specs.declared.reply.StepReply.{StepReply}
use Rattle.sal_script.specs.Moves.{Move}
use Rattle.sal_script.proofs.Listed.{get-push, get-set, get_some}
use Rattle.sal_hub.specs.HubHistory.{HubHistory, more}
use Rattle.sal_client.specs.declared.client.ClientState.{ClientState}
use Rattle.sal_client.specs.declared.run.ClientRun.{ClientRun}
use Rattle.sal_client.specs.Clients.{IsSound}
use Rattle.sal_client.specs.Wishes.{GrowsAtMost, GrowsBy}
use Rattle.sal_client.proofs.Soundness.{IsSound-other, TokensLast}
use Rattle.sal_embed.specs.declared.caller.Caller.{Caller}
use Rattle.sal_embed.specs.Broker.{AreCallers, AreThrough, IsCaller, IsHeld, StandsAt}
use Rattle.sal_embed.specs.Scripts.{Each, Programs, Replies, with}
use Rattle.sal_embed.proofs.Standing.{stands_other}

-- ---- functions by number

pub with_own : {A : Type 0} (c : ℕ) (x : A) (lists : Each A) → with c x lists c ≡ lists c ++ x ∷ []
with_own c x lists = ap (λ (is : Bool). if is then lists c ++ x ∷ [] else lists c) (eq-eqb c c refl)

pub with_other : {A : Type 0} (c : ℕ) (x : A) (lists : Each A) (k : ℕ) → (k ≡ c → ⊥) → with c x lists k ≡ lists k
with_other c x lists k other = ap (λ (is : Bool). if is then lists k ++ x ∷ [] else lists k) (ne_eqb k c other)

-- ---- clients by number

module _ (lasts : TokensLast) (known : HubHistory) (e : Entry) where
  held_other : (c : ℕ) (run : Option ClientRun) → (e.client ≡ c → ⊥) → MatchOption run ⊤ (IsHeld known c) → MatchOption run ⊤ (IsHeld (more known e) c)
  held_other c None other held = tt
  held_other c (Some run) other held = record { number = held.number; sound = IsSound-other lasts known e run.client (λ own. other (own ∙ held.number)) held.sound; few = held.few }

  caller_other : (c : ℕ) (caller : Caller) → (e.client ≡ c → ⊥) → IsCaller known c caller → IsCaller (more known e) c caller
  caller_other c caller other is = record { number = is.number; held = held_other c caller.run other is.held }

-- the other clients, after at most one entry of client c
module _ (lasts : TokensLast) (known known' : HubHistory) (c : ℕ) (grows : GrowsAtMost c known known') where
  pub caller_beside : (k : ℕ) (caller : Caller) → (k ≡ c → ⊥) → IsCaller known k caller → IsCaller known' k caller
  caller_beside k caller other is = ⊎_elim
      (λ (h : known' ≡ known). subst (λ (x : HubHistory). IsCaller x k caller) (sym h) is)
      (λ (h : GrowsBy c known known'). subst (λ (x : HubHistory). IsCaller x k caller) (sym h.2) (caller_other lasts known h.0 k caller (λ own. other (sym own ∙ h.1)) is))
      grows

  pub stands_beside : (k : ℕ) (steps : List Move) (rs : List StepReply) (caller : Caller) → (k ≡ c → ⊥) → StandsAt known k steps rs caller → StandsAt known' k steps rs caller
  stands_beside k steps rs caller other is = ⊎_elim
      (λ (h : known' ≡ known). subst (λ (x : HubHistory). StandsAt x k steps rs caller) (sym h) is)
      (λ (h : GrowsBy c known known'). subst (λ (x : HubHistory). StandsAt x k steps rs caller) (sym h.2) (stands_other known h.0 k steps rs caller (λ own. other (sym own ∙ h.1)) is))
      grows

  -- each entry is of a client that has a place
  pub placed_beside : (n : ℕ) → c < n → ((i : ℕ) (x : Entry) → slice_get known.log i ≡ Some x → x.client < n) → (i : ℕ) (x : Entry) → slice_get known'.log i ≡ Some x → x.client < n
  placed_beside n within placed i x at = ⊎_elim
      (λ (h : known' ≡ known). placed i x (subst (λ (k : HubHistory). slice_get k.log i ≡ Some x) h at))
      (λ (h : GrowsBy c known known').
      ⊎_elim (λ old. placed i x old) (λ (last : (i ≡ length known.log) × (h.0 ≡ x)). subst (λ (y : Entry). y.client < n) last.1 (subst (λ (m : ℕ). m < n) (sym h.1) within))
      (get-push known.log h.0 i x (subst (λ (k : HubHistory). slice_get k.log i ≡ Some x) h.2 at)))
      grows

  module _ (callers : List Caller) (new : Caller) (within : c < length callers) where
    abbrev now : List Caller
    now = set callers c new

    pub callers_beside : AreCallers known callers → IsCaller known' c new → AreCallers known' now
    callers_beside are mine k caller at = ⊎_elim
        (λ (h : (k ≡ c) × (new ≡ caller)). subst (λ (x : Caller). IsCaller known' k x) h.1 (subst (λ (n : ℕ). IsCaller known' n new) (sym h.0) mine))
        (λ (h : (k ≡ c → ⊥) × (slice_get callers k ≡ Some caller)). caller_beside k caller h.0 (are k caller h.1))
        (get-set callers c new k caller at)

    -- one step more of client c
    pub come_on : (programs : Programs) (replies : Replies) (step : Move) (r : StepReply) → StandsAt known' c (programs c ++ step ∷ []) (replies c ++ r ∷ []) new → AreThrough known callers programs replies
        → AreThrough known' now (with c step programs) (with c r replies)
    come_on programs replies step r mine was = record {
      stands = λ k caller at. ⊎_elim
          (λ (h : (k ≡ c) × (new ≡ caller)).
          subst (λ (x : Caller). StandsAt known' k (with c step programs k) (with c r replies k) x) h.1
          (subst (λ (n : ℕ). StandsAt known' n (with c step programs n) (with c r replies n) new) (sym h.0)
          (subst (λ (rs : List StepReply). StandsAt known' c (with c step programs c) rs new) (sym (with_own c r replies))
          (subst (λ (steps : List Move). StandsAt known' c steps (replies c ++ r ∷ []) new) (sym (with_own c step programs)) mine))))
          (λ (h : (k ≡ c → ⊥) × (slice_get callers k ≡ Some caller)).
          subst (λ (rs : List StepReply). StandsAt known' k (with c step programs k) rs caller) (sym (with_other c r replies k h.0))
          (subst (λ (steps : List Move). StandsAt known' k steps (replies k) caller) (sym (with_other c step programs k h.0)) (stands_beside k (programs k) (replies k) caller h.0 (was.stands k caller h.1))))
          (get-set callers c new k caller at);
      beyond = λ k out.
          let out' : length callers ≤ k = omega (arith, out, length-set callers c new) in
          let other : k ≡ c → ⊥ = λ own. omega (arith, own, out', within) in
          let none = was.beyond k out' in
          (with_other c step programs k other ∙ none.0, with_other c r replies k other ∙ none.1);
      placed = λ i x at. subst (λ (n : ℕ). x.client < n) (sym (length-set callers c new)) (placed_beside (length callers) within was.placed i x at);
    }

-- no step more, of a client that is kept another way
module _ (known : HubHistory) (callers : List Caller) (c : ℕ) (new : Caller) where
  pub come_same : (programs : Programs) (replies : Replies) → StandsAt known c (programs c) (replies c) new → AreThrough known callers programs replies → AreThrough known (set callers c new) programs replies
  come_same programs replies mine was = record {
    stands = λ k caller at. ⊎_elim
        (λ (h : (k ≡ c) × (new ≡ caller)). subst (λ (x : Caller). StandsAt known k (programs k) (replies k) x) h.1 (subst (λ (n : ℕ). StandsAt known n (programs n) (replies n) new) (sym h.0) mine))
        (λ (h : (k ≡ c → ⊥) × (slice_get callers k ≡ Some caller)). was.stands k caller h.1)
        (get-set callers c new k caller at);
    beyond = λ k out. was.beyond k (omega (arith, out, length-set callers c new));
    placed = λ i x at. subst (λ (n : ℕ). x.client < n) (sym (length-set callers c new)) (was.placed i x at);
  }

  -- who is lost
  pub lost_beside : (k : ℕ) → (k ≡ c → ⊥) → slice_get (set callers c new) k ≡ slice_get callers k
  lost_beside k other = beside callers c new k other
    where
      beside : (xs : List Caller) (i : ℕ) (y : Caller) (n : ℕ) → (n ≡ i → ⊥) → slice_get (set xs i y) n ≡ slice_get xs n
      beside [] i y n apart = refl
      beside (x ∷ xs) zero y zero apart = absurd (apart refl)
      beside (x ∷ xs) zero y (suc n) apart = refl
      beside (x ∷ xs) (suc i) y zero apart = refl
      beside (x ∷ xs) (suc i) y (suc n) apart = beside xs i y n (λ same. apart (ap suc same))

  pub lost_own : c < length callers → slice_get (set callers c new) c ≡ Some new
  lost_own within = own callers c new within
    where
      own : (xs : List Caller) (i : ℕ) (y : Caller) → i < length xs → slice_get (set xs i y) i ≡ Some y
      own [] i y h = absurd (omega arith)
      own (x ∷ xs) zero y h = refl
      own (x ∷ xs) (suc i) y h = own xs i y (omega arith)
