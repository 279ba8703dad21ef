-- The clients after one of them made a step.
use Rattle.std.proofs.Common.{◌≡◌, ◌⊎◌, ⊎_elim, ℕ, zero, suc, ◌+◌, ◌<◌, ◌≤◌, Bool, true, false, List, [], ◌∷◌, ◌++◌, length, set, get_or, Option, None, Some, Result, Ok, Err, refl, ap, sym, ◌∙◌, subst, arith, inl, inr}
use Rattle.std.specs.Prelude.{not, slice_get}
use Rattle.std.specs.Option.{is_some, option_map_or}
use Rattle.std.proofs.lemmas.Bool.{cases_order}
use Rattle.sal_schema.specs.declared.table.SchemaTable.{SchemaTable}
use Rattle.sal_script.specs.declared.reply.StepReply.{StepReply}
use Rattle.sal_script.specs.Moves.{Move}
use Rattle.sal_script.specs.Report.{reply_text}
use Rattle.sal_script.specs.Tables.{tables_of}
use Rattle.sal_hub.specs.Answers.{limit}
use Rattle.sal_hub.specs.HubHistory.{HubHistory}
use Rattle.sal_client.specs.Wishes.{GrowsAtMost}
use Rattle.sal_client.proofs.Soundness.{TokensLast}
use Rattle.sal_embed.specs.declared.caller.Caller.{Caller}
use Rattle.sal_embed.specs.declared.clients.Clients.{Clients}
use Rattle.sal_embed.specs.declared.fault.StepFault.{StepFault}
use Rattle.sal_embed.specs.declared.fault.StepFault.TheVariants.{BadStep, BadClient, Full, Lost, NoMemory, Untold, Broken}
use Rattle.sal_embed.specs.Broker.{AreCallers, AreThrough, IsCaller, StandsAt}
use Rattle.sal_embed.specs.Callers.{Fails, GoesOn, IsSameAt, Steps}
use Rattle.sal_embed.specs.Outcomes.{HasCome, HasStepped, IsSame, LosesNoOther, LosesNone, Makes, broken_if, is_lost}
use Rattle.sal_embed.specs.Scripts.{Programs, Replies, with}
use Rattle.sal_embed.proofs.Turns.{not_longer}
use Rattle.sal_embed.proofs.Coming.{callers_beside, come_on, come_same, lost_beside, lost_own}

-- the item at an index
pub get_at : {X : Type 0} (xs : List X) (i : ℕ) (x : X) → i < length xs → x ≡ get_or xs i x → slice_get xs i ≡ Some x
get_at [] i x h at = absurd (omega arith)
get_at (y ∷ xs) zero x h at = ap Some (sym at)
get_at (y ∷ xs) (suc i) x h at = get_at xs i x (omega arith) at

abbrev lost_at : Option Caller → Bool
lost_at found = option_map_or (λ (caller : Caller). not (is_some caller.run)) found false

module _ (lasts : TokensLast) (old new : Clients) (c : ℕ) (caller caller' : Caller) (within : c < length old.callers.items) (at : slice_get old.callers.items c ≡ Some caller) (number : caller.number ≡ c)
    (now : new.callers.items ≡ set old.callers.items c caller') (grows : GrowsAtMost c old.hub new.hub) where
  pub callers_now : AreCallers old.hub old.callers.items → IsCaller new.hub c caller' → AreCallers new.hub new.callers.items
  callers_now are mine = subst (λ (callers : List Caller). AreCallers new.hub callers) (sym now) (callers_beside lasts old.hub new.hub c grows old.callers.items caller' within are mine)

  has_stepped : (step : Move) (r : StepReply) → GoesOn old.hub caller step r new.hub caller' → HasStepped old new c step r
  has_stepped step r goes = record {
    grows = grows;
    come = λ programs replies was.
        subst (λ (callers : List Caller). AreThrough new.hub callers (with c step programs) (with c r replies)) (sym now)
        (come_on lasts old.hub new.hub c grows old.callers.items caller' within programs replies step r
        (subst (λ (n : ℕ). StandsAt new.hub n (programs c ++ step ∷ []) (replies c ++ r ∷ []) caller') number
        (goes (programs c) (replies c) (subst (λ (n : ℕ). StandsAt old.hub n (programs c) (replies c) caller) (sym number) (was.stands c caller at)))) was);
  }

  is_same : IsSameAt old.hub caller new.hub caller' → IsSame old new
  is_same same = record {
    hub = same.hub;
    come = λ programs replies was.
        subst (λ (k : HubHistory). AreThrough k new.callers.items programs replies) (sym same.hub)
        (subst (λ (callers : List Caller). AreThrough old.hub callers programs replies) (sym now)
        (come_same old.hub old.callers.items c caller' programs replies
        (subst (λ (n : ℕ). StandsAt old.hub n (programs c) (replies c) caller') number
        (same.stands (programs c) (replies c) (subst (λ (n : ℕ). StandsAt old.hub n (programs c) (replies c) caller) (sym number) (was.stands c caller at)))) was));
  }

  loses_no_other : LosesNoOther c old new
  loses_no_other k other = ap (λ (callers : List Caller). lost_at (slice_get callers k)) now ∙ ap lost_at (lost_beside old.hub old.callers.items c caller' k other)

  loses_none : is_some caller'.run ≡ is_some caller.run → LosesNone old new
  loses_none here k =
      elim (cases_order k c) [
        | inl same ↦
            ap (is_lost new) same
            ∙ ap (λ (callers : List Caller). lost_at (slice_get callers c)) now ∙ ap lost_at (lost_own old.hub old.callers.items c caller' within) ∙ ap not here ∙ sym (ap lost_at at)
            ∙ ap (is_lost old) (sym same)
        | inr differs ↦ loses_no_other k (λ own. elim differs [ inl less ↦ omega (arith, less, own) | inr more ↦ omega (arith, more, own) ])
      ]

  -- by the result of the step, and whether the log has grown
  pub makes_by : (tables : List SchemaTable) (step : Move) (grown : Bool) → (grown ≡ false → length new.hub.log ≤ length old.hub.log) → tables ≡ tables_of old.hub.world → (result : Result (List ℕ) StepFault)
      → Steps tables old.hub caller step new.hub caller' result → Makes old new c step (broken_if grown result)
  makes_by tables step grown few of (Ok text) (r, is, here, goes) = (r, is ∙ ap (λ (ts : List SchemaTable). reply_text ts r) of, has_stepped step r goes, loses_none here)
  makes_by tables step grown few of (Err Untold) (r, here, goes) = (r, has_stepped step r goes, loses_none here)
  makes_by tables step grown few of (Err Full) (full, here, same) = (full, is_same same, loses_none here)
  makes_by tables step grown few of (Err Lost) (before, after, same) = (ap lost_at at ∙ ap not before, is_same same, loses_none (after ∙ sym before))
  makes_by tables step true few of (Err NoMemory) fails = grows
  makes_by tables step false few of (Err NoMemory) fails = (is_same (fails (not_longer c old.hub new.hub grows (few refl))), loses_no_other)
  makes_by tables step grown few of (Err BadStep) fails = absurd fails
  makes_by tables step grown few of (Err BadClient) fails = absurd fails
  makes_by tables step grown few of (Err Broken) fails = absurd fails
