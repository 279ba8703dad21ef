-- All clients, with some more replies written: they are the same as before.
use Rattle.std.proofs.Common.{◌≡◌, ◌⊎◌, ⊎_elim, ℕ, zero, suc, ◌+◌, ◌<◌, ◌≤◌, Bool, false, List, [], ◌∷◌, length, map, set, get_or, Option, None, Some, Result, Ok, Err, refl, ap, sym, ◌∙◌, subst, arith, inl, inr}
use Rattle.std.specs.Prelude.{not, slice_get}
use Rattle.std.specs.Option.{is_some, option_map_or}
use Rattle.std.proofs.lemmas.Bool.{cases_lt}
use Rattle.std.proofs.lemmas.List.{length-set}
use Rattle.std.proofs.lemmas.Option.{same_Some}
use Rattle.sal_types.specs.declared.memory.NoMemory.{NoMemory as Wanting}
use Rattle.sal_schema.specs.declared.table.SchemaTable.{SchemaTable}
use Rattle.sal_script.specs.declared.reply.StepReply.{StepReply}
use Rattle.sal_script.specs.Moves.{Move}
use Rattle.sal_script.specs.Report.{report}
use Rattle.sal_script.specs.Tables.{tables_of}
use Rattle.sal_script.proofs.Listed.{get-set, get_some}
use Rattle.sal_hub.specs.HubHistory.{HubHistory}
use Rattle.sal_embed.specs.declared.caller.Caller.{Caller}
use Rattle.sal_embed.specs.declared.clients.Clients.{Clients}
use Rattle.sal_embed.specs.Broker.{AllFollow, AreCallers, AreNear, AreThrough, AreTold, Follows, IsCaller, StandsAt, lines_in, report_with, untold}
use Rattle.sal_embed.specs.Outcomes.{IsSame, LosesNone, Reports}
use Rattle.sal_embed.specs.Scripts.{Programs, Replies, listed}
use Rattle.sal_embed.proofs.Made.{get_at}
use Rattle.sal_embed.proofs.Telling.{reported}
use Rattle.sal_embed.proofs.Turns.{follows_same, near}

-- ---- lists

get_below : {X : Type 0} (xs : List X) (i : ℕ) (x : X) → slice_get xs i ≡ Some x → i < length xs
get_below [] zero x at = cc
get_below [] (suc i) x at = cc
get_below (y ∷ xs) zero x at = omega arith
get_below (y ∷ xs) (suc i) x at = let below = get_below xs i x at in omega (arith, below)

get_beyond : {X : Type 0} (xs : List X) (i : ℕ) → length xs ≤ i → slice_get xs i ≡ None
get_beyond [] zero h = refl
get_beyond [] (suc i) h = refl
get_beyond (y ∷ xs) zero h = absurd (omega arith)
get_beyond (y ∷ xs) (suc i) h = get_beyond xs i (omega arith)

-- ---- one client

pub follows_then : (tables : List SchemaTable) (a b c : Caller) → Follows tables a b → Follows tables b c → Follows tables a c
follows_then tables a b c first more = record {
  number = more.number ∙ first.number;
  here = more.here ∙ first.here;
  held = λ known k is. more.held known k (first.held known k is);
  stands = λ known steps rs of at.
      subst (λ (n : ℕ). StandsAt known n steps rs c) first.number
      (more.stands known steps rs of (subst (λ (n : ℕ). StandsAt known n steps rs b) (sym first.number) (first.stands known steps rs of at)));
}

-- ---- all clients

module _ (tables : List SchemaTable) where
  pub follow_none : (callers : List Caller) → AllFollow tables callers callers
  follow_none callers = record { long = refl; each = λ c old new was now. follows_same tables old new (same_Some new old (sym now ∙ was)) }

  -- the reply of one of them is written
  pub follow_set : (olds mids : List Caller) (i : ℕ) (mid new : Caller) → AllFollow tables olds mids → i < length mids → mid ≡ get_or mids i mid → Follows tables mid new → AllFollow tables olds (set mids i new)
  follow_set olds mids i mid new was within at one = record {
    long = length-set mids i new ∙ was.long;
    each = λ c old x at_old at_new. ⊎_elim
        (λ (h : (c ≡ i) × (new ≡ x)).
        subst (λ (y : Caller). Follows tables old y) h.1
        (follows_then tables old mid new (was.each c old mid at_old (subst (λ (n : ℕ). slice_get mids n ≡ Some mid) (sym h.0) (get_at mids i mid within at))) one))
        (λ (h : (c ≡ i → ⊥) × (slice_get mids c ≡ Some x)). was.each c old x at_old h.1)
        (get-set mids i new c x at_new);
  }

pub near_set : (mids : List Caller) (i : ℕ) (new : Caller) → AreNear mids → length (untold new) ≤ 1 → AreNear (set mids i new)
near_set mids i new are one c x at = ⊎_elim
    (λ (h : (c ≡ i) × (new ≡ x)). subst (λ (y : Caller). length (untold y) ≤ 1) h.1 one)
    (λ (h : (c ≡ i → ⊥) × (slice_get mids c ≡ Some x)). are c x h.1)
    (get-set mids i new c x at)

pub told_set : (mids : List Caller) (i : ℕ) (new : Caller) → ((c : ℕ) (caller : Caller) → c < i → slice_get mids c ≡ Some caller → untold caller ≡ []) → untold new ≡ []
    → (c : ℕ) (caller : Caller) → c < i + 1 → slice_get (set mids i new) c ≡ Some caller → untold caller ≡ []
told_set mids i new told none c x below at = ⊎_elim
    (λ (h : (c ≡ i) × (new ≡ x)). subst (λ (y : Caller). untold y ≡ []) h.1 none)
    (λ (h : (c ≡ i → ⊥) × (slice_get mids c ≡ Some x)). told c x (before h.0) h.1)
    (get-set mids i new c x at)
  where
    before : (c ≡ i → ⊥) → c < i
    before other = elim (cases_lt c i) [
      | inl less ↦ less
      | inr more ↦ absurd (other (omega (arith, more, below)))
    ]

pub all_told : (callers : List Caller) (i : ℕ) → length callers ≤ i → ((c : ℕ) (caller : Caller) → c < i → slice_get callers c ≡ Some caller → untold caller ≡ []) → AreTold callers
all_told callers i all told c x at = let below = get_below callers c x at in told c x (omega (arith, below, all)) at

pub all_near : (known : HubHistory) (callers : List Caller) → AreCallers known callers → AreNear callers
all_near known callers are c caller at = near known c caller (are c caller at)

abbrev lost_at : Option Caller → Bool
lost_at found = option_map_or (λ (caller : Caller). not (is_some caller.run)) found false

module _ (tables : List SchemaTable) (known : HubHistory) (olds news : List Caller) (follow : AllFollow tables olds news) where
  -- the client that was there
  stood : (c : ℕ) (new : Caller) → slice_get news c ≡ Some new → (old : Caller) × (slice_get olds c ≡ Some old)
  stood c new at = let below = get_below news c new at in get_some olds c (omega (arith, below, follow.long))

  pub follow_callers : AreCallers known olds → AreCallers known news
  follow_callers are c new at = let old = stood c new at in (follow.each c old.0 new old.1 at).held known c (are c old.0 old.1)

  pub follow_come : tables ≡ tables_of known.world → AreCallers known olds → (programs : Programs) (replies : Replies) → AreThrough known olds programs replies → AreThrough known news programs replies
  follow_come of are programs replies was = record {
    stands = λ c new at.
        let old = stood c new at in
        let number = (are c old.0 old.1).number in
        let one = follow.each c old.0 new old.1 at in
        subst (λ (n : ℕ). StandsAt known n (programs c) (replies c) new) number
        (one.stands known (programs c) (replies c) of (subst (λ (n : ℕ). StandsAt known n (programs c) (replies c) old.0) (sym number) (was.stands c old.0 old.1)));
    beyond = λ c out. was.beyond c (omega (arith, out, follow.long));
    placed = λ i e at. let below = was.placed i e at in omega (arith, below, follow.long);
  }

  pub follow_lost : (k : ℕ) → lost_at (slice_get news k) ≡ lost_at (slice_get olds k)
  follow_lost k = elim (cases_lt k (length olds)) [
    | inl less ↦
        let old = get_some olds k less in
        let new = get_some news k (omega (arith, less, follow.long)) in
        ap lost_at new.1 ∙ ap not (follow.each k old.0 new.0 old.1 new.1).here ∙ sym (ap lost_at old.1)
    | inr more ↦ ap lost_at (get_beyond news k (omega (arith, more, follow.long))) ∙ sym (ap lost_at (get_beyond olds k (omega (arith, more))))
  ]

module _ (tables : List SchemaTable) (old new : Clients) (hub : new.hub ≡ old.hub) (of : tables ≡ tables_of old.hub.world) (are : AreCallers old.hub old.callers.items) (follow : AllFollow tables old.callers.items new.callers.items) where
  pub follow_same : IsSame old new
  follow_same = record {
    hub = hub;
    come = λ programs replies was.
        subst (λ (k : HubHistory). AreThrough k new.callers.items programs replies) (sym hub)
        (follow_come tables old.hub old.callers.items new.callers.items follow of are programs replies was);
  }

  pub follow_loses : LosesNone old new
  follow_loses k = follow_lost tables old.hub old.callers.items new.callers.items follow k

  -- the report, or that memory ran out
  pub follow_reports : (result : Result (List ℕ) Wanting) → AreTold new.callers.items → ((text : List ℕ) → result ≡ Ok text → text ≡ report_with old.hub (map lines_in new.callers.items)) → Reports old new result
  follow_reports (Err wanting) told writes = (follow_same, follow_loses)
  follow_reports (Ok text) told writes = (
    λ programs replies was.
        writes text refl ∙ reported old.hub new.callers.items programs replies (follow_come tables old.hub old.callers.items new.callers.items follow of are programs replies was) told
        ∙ ap (λ (n : ℕ). report old.hub.world (record { log = old.hub.log; replies = listed n replies })) follow.long,
    follow_same,
    follow_loses,
  )
