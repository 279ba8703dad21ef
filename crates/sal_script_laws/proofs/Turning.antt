-- Each turn of a load keeps its state.
use Rattle.std.proofs.Common.{◌≡◌, ℕ, zero, suc, ◌+◌, ◌<◌, ◌≤◌, List, [], ◌∷◌, ◌++◌, length, set, Option, Some, refl, ap, sym, ◌∙◌, subst, arith, length-append}
use Rattle.std.specs.Prelude.{slice_get}
use Rattle.std.proofs.lemmas.Option.{none-some, same_Some, slice_get_within}
use Rattle.sal_rows.specs.declared.outcome.Mode.TheVariants.{Rw}
use Rattle.sal_history.specs.declared.call.Call.{Call}
use Rattle.sal_history.specs.declared.call.Call.TheVariants as made
use Rattle.sal_history.specs.declared.call.Entry.{Entry}
use Rattle.sal_history.specs.declared.reply.Reply.{Reply}
use Rattle.sal_history.specs.declared.reply.Reply.TheVariants.{Receipt}
use Rattle.sal_history.specs.Submissions.{Base}
use Rattle.sal_history.specs.Versions.{schema_version}
use Rattle.sal_history.specs.History.{Answered, entries_of, history, reply, reply_to, sents}
use Rattle.sal_script.specs.declared.reply.StepReply.TheVariants.{Called}
use Rattle.sal_script.specs.Load.{key_of, value_in}
use Rattle.sal_script.specs.LoadExamples.{table}
use Rattle.sal_script.specs.Moves.{Move, Begin, Submit, Settle}
use Rattle.sal_script.specs.Play.{spot_after, Arrival, Client, Run, PlayState, arrive, calls, ended, go, keep, make, replied, state_with}
use Rattle.sal_script_laws.specs.Rounds.{AreShort, DataIsRead, IsAccepted, IsDecided, KeysDiffer, PathIsRead, StayDistinct, SumGrows, commit_of, load_world, round_in}
use Rattle.sal_script_laws.proofs.Answering.{get_last, length-history, more_of, now_of, sents-more, still_free}
use Rattle.sal_script_laws.proofs.Deciding.{rounds_of}
use Rattle.sal_script_laws.proofs.Loaded.{HasBegun, IsLoaded, base_is, begins, is_receipt, sents_longer, settles, spends_own, submits}
use Rattle.sal_script_laws.proofs.Phases.{Phase, begun, calls_by, put_by, ready, receipt_of, set_phase, submitted}
use Rattle.sal_script_laws.proofs.Program.{after_put, put_arrives, put_step, rounds_from, settle_arrives}
use Rattle.sal_script_laws.proofs.Standing.{IsAt, Keeps, SpendsOwn, advance}

-- Known properties of the rounds of a load.
pub record AreKnown : Type 0 where
  pub decided : IsDecided
  pub accepted : IsAccepted
  pub path : PathIsRead
  pub values : DataIsRead
  pub differ : KeysDiffer
  pub short : AreShort
  pub distinct : StayDistinct
  pub grows : SumGrows

module _ (known : AreKnown) (rounds start : ℕ) (few : rounds ≤ 10000) (low : start ≤ 65536) (state : PlayState) (was : Keeps rounds start state) (c : ℕ) (run : Run) (at : slice_get state.runs c ≡ Some run) where
  abbrev past : List Answered
  past = history load_world state.log

  abbrev entry : Call → Entry
  entry call = record { client = c; number = entries_of state.log c; call = call }

  within : c < 4
  within = omega (arith, slice_get_within state.runs c run at, was.size)

  -- the run after its call
  abbrev after : Call → Move → Run → Run
  after call step r =
      let answer : Reply = reply load_world state.log (entry call) in
      record { client = replied (Called answer) (keep (spot_after load_world state.log) step answer r.client); steps = r.steps }

  -- a state that is reached by the call
  abbrev moved : Call → Move → Run → PlayState
  moved call step r = record { log = state.log ++ entry call ∷ []; runs = set state.runs c (after call step r) }

  abbrev KeepsNext : Arrival → Type 0
  KeepsNext a = (next : PlayState) → state_with state c (make ((table ∷ []) ∷ []) load_world state.log c a) ≡ Some next → Keeps rounds start next

  by_call : (call : Call) (step : Move) (r : Run) → Keeps rounds start (moved call step r) → KeepsNext (calls call step r)
  by_call call step r keeps next is = subst (Keeps rounds start) (same_Some (moved call step r) next is) keeps

  -- ---- a begin

  begin_keeps : (round left : ℕ) → was.phases c ≡ ready round (suc left) → IsAt rounds start past c (ready round (suc left)) run
      → KeepsNext (calls (made.Begin 0 Rw) (Begin 0 0 Rw) (record { client = run.client; steps = put_step start c round ∷ Submit 0 ∷ Settle 0 ∷ rounds_from start c (suc round) left }))
  begin_keeps round left phase is =
      let call : Call = made.Begin 0 Rw in
      let r : Run = record { client = run.client; steps = put_step start c round ∷ Submit 0 ∷ Settle 0 ∷ rounds_from start c (suc round) left } in
      let next : Phase = begun round left (length state.log) in
      let long : length past ≡ length state.log = length-history state.log in
      let last : slice_get (more_of past (entry call)) (length state.log) ≡ Some (now_of past (entry call)) =
      ap (slice_get (more_of past (entry call))) (sym long) ∙ get_last past (now_of past (entry call)) in
      let opens : HasBegun (more_of past (entry call)) c (length state.log) = record {
        beginning = now_of past (entry call);
        stands = last;
        by = refl;
        front = rounds_of was.loaded.dec;
        began = ap (λ (b : Base). let o : Option Base = Some b in o) (base_is start past was.phases was.loaded c (entries_of state.log c) next within);
        free = still_free past (entry call) (length state.log) (was.loaded.unspent (length state.log) (omega (arith, long))) refl;
      } in
      let same : put_by next ≡ put_by (was.phases c) = sym (ap put_by phase) in
      let sums : suc round + left ≡ rounds = omega (arith, is.0) in
      let counts : calls_by next ≡ calls_by (was.phases c) + 1 = let here = ap calls_by phase in omega (arith, here) in
      let more : length (sents past) ≤ length (sents (more_of past (entry call))) = let l = ap length (sents-more past (entry call)) in let n = length-append (sents past) [] in omega (arith, l, n) in
      by_call call (Begin 0 0 Rw) r
      (advance rounds start state was c run (after call (Begin 0 0 Rw) r) next (entry call) at refl counts (λ place a there other. refl) more
      (sums, refl, (schema_version past, refl), opens)
      (begins start past was.phases was.loaded c (entries_of state.log c) next within same (ap receipt_of phase)))

  -- ---- a submit

  submit_keeps : (round left place version : ℕ) → was.phases c ≡ begun round left place → IsAt rounds start past c (begun round left place) run
      → KeepsNext (calls (made.Submit place (commit_of (round_in start c round))) (Submit 0) (record { client = after_put (key_of c round) (value_in start c round) place version run.client; steps = Settle 0 ∷ rounds_from start c (suc round) left }))
  submit_keeps round left place version phase is =
      let call : Call = made.Submit place (commit_of (round_in start c round)) in
      let r : Run = record { client = after_put (key_of c round) (value_in start c round) place version run.client; steps = Settle 0 ∷ rounds_from start c (suc round) left } in
      let b : HasBegun past c place = is.3 in
      let next : Phase = submitted round left (length (sents past) + 1) in
      let told : reply_to load_world past c call ≡ Receipt (length (sents past) + 1) = is_receipt start past was.phases was.loaded c (entries_of state.log c) next within place b in
      let slot : (after call (Submit 0) r).client.receipts 0 ≡ Some (length (sents past) + 1) =
      ap (λ (answer : Reply). (replied (Called answer) (keep (spot_after load_world state.log) (Submit 0) answer r.client)).receipts 0) told in
      let loaded : IsLoaded start (more_of past (entry call)) (set_phase c next was.phases) =
      submits start past was.phases was.loaded c (entries_of state.log c) next within place b known.differ known.distinct known.grows round (sym (ap put_by phase)) (omega (arith, is.0, few)) refl (ap receipt_of phase) refl in
      let longer : length (sents (more_of past (entry call))) ≡ length (sents past) + 1 = sents_longer start past was.phases was.loaded c (entries_of state.log c) next within place b (round_in start c round) in
      let counts : calls_by next ≡ calls_by (was.phases c) + 1 = let here = ap calls_by phase in omega (arith, here) in
      let own : SpendsOwn past (entry call) = λ later a there other. spends_own start past was.phases was.loaded c (entries_of state.log c) next within place b (commit_of (round_in start c round)) (reply_to load_world past c call) later a there other in
      by_call call (Submit 0) r
      (advance rounds start state was c run (after call (Submit 0) r) next (entry call) at refl counts own (omega (arith, longer))
      (is.0, refl, slot, omega (arith, longer))
      loaded)

  -- ---- a settle

  settle_keeps : (round left n : ℕ) → was.phases c ≡ submitted round left n → IsAt rounds start past c (submitted round left n) run
      → KeepsNext (calls (made.Settle n) (Settle 0) (record { client = run.client; steps = rounds_from start c (suc round) left }))
  settle_keeps round left n phase is =
      let call : Call = made.Settle n in
      let r : Run = record { client = run.client; steps = rounds_from start c (suc round) left } in
      let next : Phase = ready (suc round) left in
      let same : put_by next ≡ put_by (was.phases c) = sym (ap put_by phase) in
      let counts : calls_by next ≡ calls_by (was.phases c) + 1 = let here = ap calls_by phase in omega (arith, here) in
      let more : length (sents past) ≤ length (sents (more_of past (entry call))) = let l = ap length (sents-more past (entry call)) in let k = length-append (sents past) [] in omega (arith, l, k) in
      by_call call (Settle 0) r
      (advance rounds start state was c run (after call (Settle 0) r) next (entry call) at refl counts (λ place a there other. refl) more
      (is.0, refl)
      (settles start past was.phases was.loaded c (entries_of state.log c) next within known.decided n is.3 same (ap receipt_of phase)))

  -- ---- a turn

  -- the client is at its end
  no_call : (client : Client) → KeepsNext (ended client)
  no_call client next is = absurd (none-some next is)

  by_phase : (phase : Phase) → was.phases c ≡ phase → IsAt rounds start past c phase run → KeepsNext (arrive ((table ∷ []) ∷ []) load_world state.log run.client run.steps)
  by_phase (ready round zero) phase is =
      subst (λ (steps : List Move). KeepsNext (arrive ((table ∷ []) ∷ []) load_world state.log run.client steps)) (sym is.1) (no_call run.client)
  by_phase (ready round (suc left)) phase is =
      subst (λ (steps : List Move). KeepsNext (arrive ((table ∷ []) ∷ []) load_world state.log run.client steps)) (sym is.1) (begin_keeps round left phase is)
  by_phase (begun round left place) phase is =
      let sizes = known.short start c round low within (omega (arith, is.0, few)) in
      subst (λ (steps : List Move). KeepsNext (arrive ((table ∷ []) ∷ []) load_world state.log run.client steps)) (sym is.1)
      (subst KeepsNext (sym (put_arrives known.path known.values known.accepted state.log run.client (key_of c round) (value_in start c round) place is.2.0 (Settle 0 ∷ rounds_from start c (suc round) left) sizes.0 sizes.1 is.2.1))
      (submit_keeps round left place is.2.0 phase is))
  by_phase (submitted round left n) phase is =
      subst (λ (steps : List Move). KeepsNext (arrive ((table ∷ []) ∷ []) load_world state.log run.client steps)) (sym is.1)
      (subst KeepsNext (sym (settle_arrives state.log run.client n (rounds_from start c (suc round) left) is.2))
      (settle_keeps round left n phase is))

  pub turn_keeps : (next : PlayState) → state_with state c (go ((table ∷ []) ∷ []) load_world state.log c run) ≡ Some next → Keeps rounds start next
  turn_keeps = by_phase (was.phases c) refl (was.each c run at)
