-- The state of a load between two turns, and what one more call of a client does to it.
use Rattle.std.proofs.Common.{◌≡◌, ℕ, suc, ◌+◌, ◌<◌, ◌≤◌, false, List, [], ◌∷◌, ◌++◌, length, set, Some, sym, ◌∙◌, subst, arith, inl, inr, length-append}
use Rattle.std.specs.Prelude.{slice_get}
use Rattle.std.proofs.lemmas.List.{length-set}
use Rattle.std.proofs.lemmas.Option.{slice_get_within}
use Rattle.sal_history.specs.declared.call.Entry.{Entry}
use Rattle.sal_history.specs.History.{Answered, history, reply_to, sents, spends}
use Rattle.sal_script.specs.Moves.{Submit, Settle}
use Rattle.sal_script.specs.Play.{Run, PlayState}
use Rattle.sal_script.proofs.Growing.{get_front}
use Rattle.sal_script.proofs.Listed.{get-set}
use Rattle.sal_script_laws.specs.Rounds.{load_world}
use Rattle.sal_script_laws.proofs.Answering.{history-push, more_of, now_of, still_free}
use Rattle.sal_script_laws.proofs.Loaded.{HasBegun, IsLoaded}
use Rattle.sal_script_laws.proofs.Phases.{Phase, Phases, begun, calls_by, four, four_set, ready, set_other, set_own, set_phase, submitted}
use Rattle.sal_script_laws.proofs.Program.{HasOpened, put_step, rounds_from}

-- the steps and the slots of a client in the phase
abbrev pub IsAt : ℕ → ℕ → List Answered → ℕ → Phase → Run → Type 0
IsAt rounds start answered c (ready round left) run = (round + left ≡ rounds) × (run.steps ≡ rounds_from start c round left)
IsAt rounds start answered c (begun round left place) run =
    (suc round + left ≡ rounds) × (run.steps ≡ put_step start c round ∷ Submit 0 ∷ Settle 0 ∷ rounds_from start c (suc round) left)
    × HasOpened run.client place × HasBegun answered c place
IsAt rounds start answered c (submitted round left receipt) run =
    (suc round + left ≡ rounds) × (run.steps ≡ Settle 0 ∷ rounds_from start c (suc round) left)
    × (run.client.receipts 0 ≡ Some receipt) × (receipt ≤ length (sents answered))

-- the call spends no transaction of another client
abbrev pub SpendsOwn : List Answered → Entry → Type 0
SpendsOwn answered e = (place : ℕ) (a : Answered) → slice_get answered place ≡ Some a → (a.entry.client ≡ e.client → ⊥) → spends e.call (reply_to load_world answered e.client e.call) place ≡ false

-- another client's call changes nothing of it
stays : (rounds start : ℕ) (answered : List Answered) (e : Entry) (d : ℕ) (phase : Phase) (run : Run) → (d ≡ e.client → ⊥) → SpendsOwn answered e → length (sents answered) ≤ length (sents (more_of answered e))
    → IsAt rounds start answered d phase run → IsAt rounds start (more_of answered e) d phase run
stays rounds start answered e d (ready round left) run other own more was = was
stays rounds start answered e d (begun round left place) run other own more was =
    let b : HasBegun answered d place = was.3 in (
      was.0,
      was.1,
      was.2,
      record {
        beginning = b.beginning;
        stands = get_front answered (now_of answered e ∷ []) place b.beginning b.stands;
        by = b.by;
        front = b.front;
        began = b.began;
        free = still_free answered e place b.free (own place b.beginning b.stands (λ same. other (sym b.by ∙ same)));
      },
    )
stays rounds start answered e d (submitted round left receipt) run other own more was = (was.0, was.1, was.2, omega (arith, was.3, more))

-- the four clients, and the log that they have made
pub record Keeps (rounds start : ℕ) (state : PlayState) : Type 0 where
  pub phases : Phases
  pub size : length state.runs ≡ 4
  pub each : (c : ℕ) (run : Run) → slice_get state.runs c ≡ Some run → IsAt rounds start (history load_world state.log) c (phases c) run
  pub calls : length state.log ≡ four (λ c. calls_by (phases c))
  pub loaded : IsLoaded start (history load_world state.log) phases

module _ (rounds start : ℕ) (state : PlayState) (was : Keeps rounds start state) (c : ℕ) (run next : Run) (phase : Phase) (e : Entry) where
  abbrev before : List Answered
  before = history load_world state.log

  -- one more call of a client, which reaches its next phase
  pub advance : slice_get state.runs c ≡ Some run → e.client ≡ c → calls_by phase ≡ calls_by (was.phases c) + 1
      → SpendsOwn before e → length (sents before) ≤ length (sents (more_of before e)) → IsAt rounds start (more_of before e) c phase next
      → IsLoaded start (more_of before e) (set_phase c phase was.phases) → Keeps rounds start (record { log = state.log ++ e ∷ []; runs = set state.runs c next })
  advance at by counts own more now loaded =
      let within : c < 4 = omega (arith, slice_get_within state.runs c run at, was.size) in
      let grown = history-push state.log e in
      record {
        phases = set_phase c phase was.phases;
        size = length-set state.runs c next ∙ was.size;
        each = λ d r there. subst (λ (h : List Answered). IsAt rounds start h d (set_phase c phase was.phases d) r) (sym grown)
            (elim (get-set state.runs c next d r there) [
              | inl w ↦
                  subst (λ (p : Phase). IsAt rounds start (more_of before e) d p r) (sym (set_own c d phase was.phases w.0))
                  (subst (λ (k : ℕ). IsAt rounds start (more_of before e) k phase r) (sym w.0) (subst (IsAt rounds start (more_of before e) c phase) w.1 now))
              | inr w ↦
                  subst (λ (p : Phase). IsAt rounds start (more_of before e) d p r) (sym (set_other c d phase was.phases w.0))
                  (stays rounds start before e d (was.phases d) r (λ same. w.0 (same ∙ by)) own more (was.each d r w.1))
            ]);
        calls = let set = four_set (λ d. calls_by) was.phases c phase within in omega (arith, was.calls, set, counts, length-append state.log (e ∷ []));
        loaded = subst (λ (h : List Answered). IsLoaded start h (set_phase c phase was.phases)) (sym grown) loaded;
      }
