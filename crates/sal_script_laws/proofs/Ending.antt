-- The end of a load.
use Rattle.std.proofs.Common.{◌≡◌, ℕ, zero, suc, ◌+◌, ◌*◌, ◌<◌, ◌≤◌, List, [], ◌∷◌, ◌++◌, length, Option, None, Some, Ok, refl, ap, sym, ◌∙◌, subst, arith, append-nil, length-append}
use Rattle.std.specs.Prelude.{slice_get, sum_by}
use Rattle.std.proofs.lemmas.List.{length-map}
use Rattle.std.proofs.lemmas.Option.{none-some, same_Some}
use Rattle.sal_types.specs.declared.value.Store.TheVariants.{Config}
use Rattle.sal_rows.specs.declared.op.Op.{Op}
use Rattle.sal_rows.specs.Commits.{tree_after}
use Rattle.sal_history.specs.History.{commits, history, newest_tree}
use Rattle.sal_script.specs.declared.reply.StepReply.{StepReply}
use Rattle.sal_script.specs.Load.{clients_of, key_of, number_of, program_of, summary_of, totals_of, value_in}
use Rattle.sal_script.specs.LoadExamples.{table}
use Rattle.sal_script.specs.Moves.{Move, Settle}
use Rattle.sal_script.specs.Play.{Played, Run, PlayState, arrive, end_by, new_client, play_by, play_from, replies_at, replies_of, start as start_of, advance, advance_of}
use Rattle.sal_script.specs.Report.{trees_in}
use Rattle.sal_script.proofs.Listed.{get_some}
use Rattle.sal_script.proofs.Orders.{all_end, same_Ok}
use Rattle.sal_script_laws.specs.Numbers.{LoadsComeToOne, SummariesAreOne, load_totals}
use Rattle.sal_script_laws.specs.Rounds.{AreCounted, Round, RoundsAreCounted, SumsAreAll, are_distinct, commit_of, commits_of, load_world, nothing, sum_after, sum_of, sum_to, trees_behind}
use Rattle.sal_script_laws.proofs.Deciding.{Sub, rounds_of}
use Rattle.sal_script_laws.proofs.Loaded.{commits_are}
use Rattle.sal_script_laws.proofs.Phases.{Phase, begun, calls_by, four, put_by, ready, receipt_of, submitted}
use Rattle.sal_script_laws.proofs.Program.{program_from, put_arrives, rounds_from, settle_arrives}
use Rattle.sal_script_laws.proofs.Standing.{IsAt, Keeps}
use Rattle.sal_script_laws.proofs.Turning.{AreKnown, turn_keeps}

module _ (known : AreKnown) (counted : RoundsAreCounted) (all_numbers : SumsAreAll) (rounds start : ℕ) (few : rounds ≤ 10000) (low : start ≤ 65536) where
  -- ---- the beginning

  first_at : (c : ℕ) (run : Run) → (let r : Run = record { client = new_client; steps = program_of start c rounds } in r) ≡ run → IsAt rounds start [] c (ready 0 rounds) run
  first_at c run is = ((let same : 0 + rounds ≡ rounds = omega arith in same), sym (ap (λ (r : Run). r.steps) is) ∙ program_from start c rounds)

  all_at : (c : ℕ) (run : Run) → slice_get (start_of (clients_of rounds start)).runs c ≡ Some run → IsAt rounds start [] c (ready 0 rounds) run
  all_at zero run at = first_at 0 run (same_Some (record { client = new_client; steps = program_of start 0 rounds }) run at)
  all_at (suc zero) run at = first_at 1 run (same_Some (record { client = new_client; steps = program_of start 1 rounds }) run at)
  all_at (suc (suc zero)) run at = first_at 2 run (same_Some (record { client = new_client; steps = program_of start 2 rounds }) run at)
  all_at (suc (suc (suc zero))) run at = first_at 3 run (same_Some (record { client = new_client; steps = program_of start 3 rounds }) run at)
  all_at (suc (suc (suc (suc c)))) run at = absurd (none-some run at)

  begins : Keeps rounds start (start_of (clients_of rounds start))
  begins = record {
    phases = λ c. ready 0 rounds;
    size = refl;
    each = all_at;
    calls = omega arith;
    loaded = record {
      dec = [];
      pend = [];
      given = refl;
      told = refl;
      put = record { distinct = refl; many = omega arith; sum = omega arith; known = λ i x at. absurd (none-some x at) };
      held = λ n more less. absurd (omega (arith, more, less));
      unspent = λ place far. refl;
    };
  }

  -- ---- the end

  module _ (state : PlayState) (was : Keeps rounds start state) where
    -- a client that is at its end has done all its rounds
    ended_as : (c : ℕ) (run : Run) (rs : List StepReply) (phase : Phase) → c < 4 → IsAt rounds start (history load_world state.log) c phase run
        → replies_at (arrive ((table ∷ []) ∷ []) load_world state.log run.client run.steps) ≡ Some rs → phase ≡ ready rounds 0
    ended_as c run rs (ready round zero) within is end = let same : round ≡ rounds = omega (arith, is.0) in ap (λ k. ready k 0) same
    ended_as c run rs (ready round (suc left)) within is end =
        absurd (none-some rs (sym (ap (λ (steps : List Move). replies_at (arrive ((table ∷ []) ∷ []) load_world state.log run.client steps)) is.1) ∙ end))
    ended_as c run rs (begun round left place) within is end =
        let sizes = known.short start c round low within (omega (arith, is.0, few)) in
        absurd (none-some rs (sym (ap (λ (steps : List Move). replies_at (arrive ((table ∷ []) ∷ []) load_world state.log run.client steps)) is.1
        ∙ ap replies_at (put_arrives known.path known.values known.accepted state.log run.client (key_of c round) (value_in start c round) place is.2.0 (Settle 0 ∷ rounds_from start c (suc round) left) sizes.0 sizes.1 is.2.1)) ∙ end))
    ended_as c run rs (submitted round left n) within is end =
        absurd (none-some rs (sym (ap (λ (steps : List Move). replies_at (arrive ((table ∷ []) ∷ []) load_world state.log run.client steps)) is.1
        ∙ ap replies_at (settle_arrives state.log run.client n (rounds_from start c (suc round) left) is.2)) ∙ end))

    module _ (all : List (List StepReply)) (ended : replies_of ((table ∷ []) ∷ []) load_world state.log state.runs ≡ Some all) where
      at_end : (c : ℕ) → c < 4 → was.phases c ≡ ready rounds 0
      at_end c within =
          let ends = all_end ((table ∷ []) ∷ []) load_world state.log state.runs all ended in
          let rs = get_some all c (omega (arith, within, was.size, ends.0)) in
          let last = ends.1 c rs.0 rs.1 in
          ended_as c last.0 rs.0 (was.phases c) within (was.each c last.0 last.1) last.2

      -- a number of each client at its end
      ends_with : (f : ℕ → Phase → ℕ) → four (λ c. f c (was.phases c)) ≡ four (λ c. f c (ready rounds 0))
      ends_with f =
          let one : (c : ℕ) → c < 4 → f c (was.phases c) ≡ f c (ready rounds 0) = λ c within. ap (f c) (at_end c within) in
          let e0 = one 0 (omega arith) in
          let e1 = one 1 (omega arith) in
          let e2 = one 2 (omega arith) in
          let e3 = one 3 (omega arith) in
          omega (arith, e0, e1, e2, e3)

      -- nothing is pending
      none_left : (pend : List Sub) → was.loaded.pend ≡ pend → pend ≡ []
      none_left [] is = refl
      none_left (sub ∷ pend) is =
          let more : length (was.loaded.dec ++ was.loaded.pend) ≡ length was.loaded.dec + length (sub ∷ pend) = length-append was.loaded.dec was.loaded.pend ∙ ap (λ (xs : List Sub). length was.loaded.dec + length xs) is in
          let held = was.loaded.held (length was.loaded.dec + 1) (omega arith) (omega (arith, more)) in
          absurd (none-some (length was.loaded.dec + 1) (sym (ap receipt_of (at_end held.0 held.1)) ∙ held.2))

      abbrev done : List Round
      done = rounds_of was.loaded.dec

      all_done : rounds_of (was.loaded.dec ++ was.loaded.pend) ≡ done
      all_done = ap rounds_of (ap (λ (xs : List Sub). was.loaded.dec ++ xs) (none_left was.loaded.pend refl) ∙ append-nil was.loaded.dec)

      many : length done ≡ 4 * rounds
      many =
          let counts : length done ≡ four (λ c. put_by (was.phases c)) = sym (ap length all_done) ∙ was.loaded.put.many in
          omega (arith, counts, ends_with (λ c. put_by))

      committed : commits (history load_world state.log) 0 ≡ commits_of done
      committed = commits_are start (history load_world state.log) was.phases was.loaded

      tree_is : newest_tree load_world state.log 0 Config ≡ trees_behind done Config
      tree_is = ap (λ (cs : List (List Op)). tree_after Config (nothing Config) cs) committed

      leaves : AreCounted done
      leaves = counted done (ap are_distinct (sym all_done) ∙ was.loaded.put.distinct)

      calls_are : length state.log ≡ 12 * rounds
      calls_are = omega (arith, was.calls, ends_with (λ c. calls_by))

      commits_count : length (commits (history load_world state.log) 0) ≡ 4 * rounds
      commits_count = ap length committed ∙ length-map done commit_of ∙ many

      rows_are : length (newest_tree load_world state.log 0 Config) ≡ 12 * rounds
      rows_are = ap length tree_is ∙ leaves.rows ∙ omega (arith, many)

      sum_is : sum_by number_of (newest_tree load_world state.log 0 Config) ≡ sum_after start (4 * rounds)
      sum_is =
          ap (sum_by number_of) tree_is ∙ leaves.numbers ∙ sym (ap sum_of all_done) ∙ was.loaded.put.sum
          ∙ ends_with (λ c (p : Phase). sum_to start c (put_by p)) ∙ all_numbers start rounds

      totals_are : totals_of state.log (trees_in load_world state.log 0) ≡ load_totals rounds start
      totals_are = λ i. record { calls = calls_are i; commits = commits_count i; rows = rows_are i; values = sum_is i }

  -- ---- the way

  abbrev Comes : Played → Type 0
  Comes played = totals_of played.log (trees_in load_world played.log 0) ≡ load_totals rounds start

  ended_by : (index : ℕ) (state : PlayState) (all : Option (List (List StepReply))) (played : Played) → Keeps rounds start state → replies_of ((table ∷ []) ∷ []) load_world state.log state.runs ≡ all
      → end_by ((table ∷ []) ∷ []) load_world index state.log all ≡ Ok played → Comes played
  ended_by index state None played was at is = cc
  ended_by index state (Some all) played was at is = subst Comes (same_Ok (let p : Played = record { log = state.log; replies = all } in p) played is) (totals_are state was all at)

  turned_by : (state next : PlayState) (c : ℕ) (run : Option Run) → slice_get state.runs c ≡ run → Keeps rounds start state → advance_of ((table ∷ []) ∷ []) load_world state c run ≡ Some next → Keeps rounds start next
  turned_by state next c None at was is = cc
  turned_by state next c (Some run) at was is = turn_keeps known rounds start few low state was c run at next is

  going_on : (index c : ℕ) (order : List ℕ) (state : PlayState) (next : Option PlayState) (played : Played) → advance ((table ∷ []) ∷ []) load_world state c ≡ next → Keeps rounds start state
      → ((s : PlayState) → Keeps rounds start s → play_from ((table ∷ []) ∷ []) load_world (index + 1) s order ≡ Ok played → Comes played)
      → play_by index (λ s. play_from ((table ∷ []) ∷ []) load_world (index + 1) s order) next ≡ Ok played → Comes played
  going_on index c order state None played went was more is = cc
  going_on index c order state (Some next) played went was more is = more next (turned_by state next c (slice_get state.runs c) refl was went) is

  plays : (order : List ℕ) (index : ℕ) (state : PlayState) (played : Played) → Keeps rounds start state → play_from ((table ∷ []) ∷ []) load_world index state order ≡ Ok played → Comes played
  plays [] index state played was is = ended_by index state (replies_of ((table ∷ []) ∷ []) load_world state.log state.runs) played was refl is
  plays (c ∷ order) index state played was is =
      going_on index c order state (advance ((table ∷ []) ∷ []) load_world state c) played refl was (λ s new rest. plays order (index + 1) s played new rest) is

module _ (known : AreKnown) (counted : RoundsAreCounted) (all_numbers : SumsAreAll) where
  pub loads_come_to_one : LoadsComeToOne
  loads_come_to_one rounds start order played few low is = plays known counted all_numbers rounds start few low order 0 (start_of (clients_of rounds start)) played (begins known counted all_numbers rounds start few low) is

  pub summaries_are_one : SummariesAreOne
  summaries_are_one rounds start text few low is = is.written ∙ ap (summary_of rounds start) (loads_come_to_one rounds start is.order is.played few low is.plays)
