-- How a client goes along the log: by its local steps, by entries of others, and by its own calls.
use Rattle.std.proofs.Common.{◌≡◌, ℕ, ◌+◌, ◌<◌, ◌≤◌, List, [], ◌++◌, Bool, length, Option, None, Some, refl, ap, sym, ◌∙◌, subst, arith, append-nil, length-append}
use Rattle.std.specs.Option.{option_map}
use Rattle.std.specs.Prelude.{nat_eq}
use Rattle.std.specs.List.{filter}
use Rattle.std.proofs.lemmas.List.Elements.{filter-append}
use Rattle.std.proofs.lemmas.List.Sums.{length-filter}
use mathlib.Core.List.{IsPrefix}
use Rattle.sal_history.specs.declared.call.Entry.{Entry}
use Rattle.sal_history.specs.History.{entries_of}
use Rattle.sal_history.specs.World.{Domain}
use Rattle.sal_turn.specs.Entries.{entries_by}
use Rattle.sal_broker.specs.Seats.{client_of as maker_of}
use Rattle.sal_hub.specs.HubHistory.{HubHistory, more}
use Rattle.sal_script.specs.Along.{BeganIn, IsAt, IsListening, ListensIn, along, new_run}
use Rattle.sal_script.specs.Moves.{Move, moves_of}
use Rattle.sal_script.specs.Play.{Listener, Open, Run, arrive, go, make}
use Rattle.sal_script.specs.Tables.{Versions, versions_of}
use Rattle.sal_script.specs.declared.script.ScriptStep.{ScriptStep}
use Rattle.sal_script.proofs.Along.{along-push, at_found_own, made_of, pass_own}
use Rattle.sal_client.specs.declared.client.ClientState.{ClientState}
use Rattle.sal_client.specs.declared.run.ClientRun.{ClientRun as CodeRun}
use Rattle.sal_client.specs.declared.wish.Wish.{Wish}
use Rattle.sal_client.specs.Clients.{IsSound, StaysSound, client_of, open_of}
use Rattle.sal_client.specs.Followers.{listener_of}
use Rattle.sal_client.specs.Runs.{Comes, IsProgram, MakesNext, asking, moves_from, run_of}
use Rattle.sal_client.specs.Slots.{held}
use Rattle.sal_client.specs.Wishes.{GrowsBy}
use Rattle.sal_client.proofs.Soundness.{IsSound-others, TokensLast, steady_longer}
use Rattle.sal_run.specs.Stands.{StandsIn}

-- ---- the state of a sound client began in the log

mapped : {X Y : Type 0} (f : X → Y) (o : Option X) (y : Y) → option_map f o ≡ Some y → (x : X) × (o ≡ Some x) × (f x ≡ y)
mapped f None y is = cc
mapped f (Some x) y is = (x, refl, out is)
  where
    out : {Y : Type 0} {a b : Y} → (let o : Option Y = Some a in o) ≡ Some b → a ≡ b
    out e = cc

pub began_of : (known : HubHistory) (c : ClientState) → IsSound known c → BeganIn known.log (client_of c)
began_of known c is slot tx at =
    let found = mapped open_of (held c.transactions slot) tx at in
    subst (λ (t : Open). t.place < length known.log) found.2 (is.steady.transactions slot found.0 found.1).token.before

pub listens_of : (known : HubHistory) (c : ClientState) → IsSound known c → ListensIn known.world c.number known.log (client_of c)
listens_of known c is slot listener at =
    let found = mapped listener_of (held c.listeners slot) listener at in
    subst (λ (l : Listener). IsListening known.world c.number known.log l) found.2 (record {
      made = (is.listeners slot found.0 found.1).made;
      reached = (is.steady.followers slot found.0 found.1).reached;
    })

-- ---- the client's own call

module _ (tables : List Versions) (c : ℕ) (steps : List Move) (known known' : HubHistory) where
  -- after a call that it made
  pub at_made : (old now : Run) → GrowsBy c known known' → go tables known.world known.log c old ≡ Some (record { log = known'.log; run = now })
      → BeganIn known'.log now.client → ListensIn known.world c known'.log now.client
      → IsAt tables known.world c steps known.log old → IsAt tables known.world c steps known'.log now
  at_made old now (e, own, grown) made began listens was = record {
    called = now;
    follows =
        ap (λ (log : List Entry). along tables known.world c log (new_run steps)) (ap (λ (k : HubHistory). k.log) grown)
        ∙ along-push tables known.world c known.log e (new_run steps) (made_of known.log was.called) was.follows
        ∙ pass_own tables known.world c (made_of known.log was.called) e own
        ∙ ap (make tables known.world known.log c) here
        ∙ made;
    answered = λ more. refl;
    began = began;
    listens = listens;
  }
    where
      here : arrive tables known.world known.log was.called.client was.called.steps ≡ arrive tables known.world known.log old.client old.steps
      here = subst (λ (l : List Entry). arrive tables known.world l was.called.client was.called.steps ≡ arrive tables known.world l old.client old.steps) (append-nil known.log) (was.answered [])

-- ---- the entries of others

-- after the entries that are known there is none of the client's
pub none_behind : (c : ℕ) (log found own : List Entry) (begins : IsPrefix log found) → entries_by maker_of c log ≡ own → entries_by maker_of c found ≡ own → entries_of begins.0 c ≡ 0
none_behind c log found own begins before after =
    let p : Entry → Bool = λ e. nat_eq e.client c in
    let whole : length (filter p found) ≡ length (filter p log) + length (filter p begins.0) =
    ap (λ (l : List Entry). length (filter p l)) (sym begins.1) ∙ ap length (filter-append p log begins.0) ∙ length-append (filter p log) (filter p begins.0) in
    let first = ap length before in
    let second = ap length after in
    sym (length-filter p begins.0) ∙ omega (arith, whole, first, second)

-- ---- a client at some place

module _ (lasts : TokensLast) (tables : List Versions) (steps : List ScriptStep) (c : ℕ) where
  -- it has answered local steps, and is ready to make a call
  pub stands_asking : (known : HubHistory) (own : List Entry) (wish : Wish) (old new : CodeRun) → Comes tables steps old (Some wish) new → StaysSound old.client new.client → IsProgram steps new → new.client.number ≡ old.client.number
      → StandsIn tables steps c known own old (run_of steps old) → StandsIn tables steps c known own new (asking wish steps new)
  stands_asking known own wish old new comes stays program same was =
      let sound = stays.sound known was.sound in
      let number = same ∙ was.number in
      record {
        number = number;
        reads = was.reads;
        whole = was.whole;
        program = program;
        sound = sound;
        at = record {
          called = was.at.called;
          follows = was.at.follows;
          answered = λ more. was.at.answered more ∙ comes.0 (record { world = known.world; log = known.log ++ more }) (steady_longer lasts known more old.client was.sound.steady) was.reads;
          began = began_of known new.client sound;
          listens = subst (λ (n : ℕ). ListensIn known.world n known.log (client_of new.client)) number (listens_of known new.client sound);
        };
      }

  -- it has answered the last of its steps
  pub at_last : (known : HubHistory) (own : List Entry) (old new : CodeRun) → Comes tables steps old None new → StaysSound old.client new.client → new.client.number ≡ old.client.number
      → StandsIn tables steps c known own old (run_of steps old) → IsAt tables known.world c (moves_of steps) known.log (record { client = client_of new.client; steps = [] })
  at_last known own old new comes stays same was =
      let sound = stays.sound known was.sound in record {
        called = was.at.called;
        follows = was.at.follows;
        answered = λ more. was.at.answered more ∙ comes (record { world = known.world; log = known.log ++ more }) (steady_longer lasts known more old.client was.sound.steady) was.reads;
        began = began_of known new.client sound;
        listens = subst (λ (n : ℕ). ListensIn known.world n known.log (client_of new.client)) (same ∙ was.number) (listens_of known new.client sound);
      }

  -- a turn found a longer log, with no more entries of the client
  pub stands_found : (known found : HubHistory) (own : List Entry) (r : CodeRun) (now : Run) → known.world ≡ found.world → IsPrefix known.log found.log → entries_by maker_of c found.log ≡ own
      → StandsIn tables steps c known own r now → StandsIn tables steps c found own r now
  stands_found known found own r now same begins mine was = record {
    number = was.number;
    reads = was.reads ∙ ap (λ (w : List Domain). versions_of w) same;
    whole = mine;
    program = was.program;
    sound = subst (λ (w : List Domain). IsSound (record { world = w; log = found.log }) r.client) same longer;
    at = subst (λ (w : List Domain). IsAt tables w c (moves_of steps) found.log now) same (at_found_own tables known.world c (moves_of steps) known.log found.log own now begins was.whole mine was.at);
  }
    where
      longer : IsSound (record { world = known.world; log = found.log }) r.client
      longer = subst (λ (l : List Entry). IsSound (record { world = known.world; log = l }) r.client) begins.1
          (IsSound-others lasts known begins.0 r.client (subst (λ (n : ℕ). entries_of begins.0 n ≡ 0) (sym was.number) (none_behind c known.log found.log own begins was.whole mine)) was.sound)

  -- it made the call that it was ready to make
  pub stands_made : (known known' : HubHistory) (own own' : List Entry) (wish : Wish) (old new : CodeRun) → known'.world ≡ known.world → MakesNext tables c known wish (client_of old.client) known' (client_of new.client)
      → IsSound known' new.client → new.at ≡ old.at → new.client.number ≡ old.client.number → entries_by maker_of c known'.log ≡ own'
      → StandsIn tables steps c known own old (asking wish steps old) → StandsIn tables steps c known' own' new (run_of steps new)
  stands_made known known' own own' wish old new same makes sound at number mine was = record {
    number = number ∙ was.number;
    reads = was.reads ∙ ap (λ (w : List Domain). versions_of w) (sym same);
    whole = mine;
    program = record { within = subst (λ (n : ℕ). n ≤ length steps) (sym at) was.program.within; short = was.program.short; json = was.program.json };
    sound = sound;
    at = subst (λ (w : List Domain). IsAt tables w c (moves_of steps) known'.log (run_of steps new)) (sym same)
        (subst (λ (n : ℕ). IsAt tables known.world c (moves_of steps) known'.log (record { client = client_of new.client; steps = moves_from n steps })) (sym at)
        (at_made tables c (moves_of steps) known known' (asking wish steps old) (record { client = client_of new.client; steps = moves_from old.at steps }) makes.1 (makes.0 (moves_from old.at steps))
        (began_of known' new.client sound)
        (subst (λ (w : List Domain). ListensIn w c known'.log (client_of new.client)) same (subst (λ (n : ℕ). ListensIn known'.world n known'.log (client_of new.client)) (number ∙ was.number) (listens_of known' new.client sound)))
        was.at));
  }
