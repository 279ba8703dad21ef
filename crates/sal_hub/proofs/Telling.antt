-- The answers to listeners are those of the log.
use Rattle.std.proofs.Common.{◌≡◌, ℕ, ◌+◌, ◌-◌, ◌<◌, Bool, true, false, not, List, [], ◌∷◌, length, get_or, Option, None, Some, refl, ap, sym, ◌∙◌, subst, arith, length-append, if◌then◌else◌, nat_le}
use Rattle.std.specs.Prelude.{slice_get}
use Rattle.std.specs.Option.{option_map, option_map_or, option_or}
use Rattle.std.proofs.lemmas.List.{length-map}
use Rattle.sal_types.specs.declared.value.Store.{Store}
use Rattle.sal_rows.specs.declared.batch.Opened.{Opened}
use Rattle.sal_rows.specs.declared.outcome.CallFault.{CallFault}
use Rattle.sal_rows.specs.declared.outcome.CallFault.TheVariants.{NoDomain, NoListener, TooManyListeners}
use Rattle.sal_rows.specs.Batches.{batch, opened}
use Rattle.sal_rows.specs.Commits.{tree_at}
use Rattle.sal_schema.specs.Fitting.{has_own_row}
use Rattle.sal_listen.specs.Given.{trees_of}
use Rattle.sal_commit.specs.declared.domain.Domain.{Domain}
use Rattle.sal_history.specs.declared.call.Call.{Call}
use Rattle.sal_history.specs.declared.call.Call.TheVariants.{Take, Unlisten}
use Rattle.sal_history.specs.declared.call.Entry.{Entry}
use Rattle.sal_history.specs.declared.reply.Reply.TheVariants.{Accepted, Batch as Told, Listener as Made, Refused}
use Rattle.sal_history.specs.World as world
use Rattle.sal_history.specs.History.{Answered, batch_of, commits, entries_of, fault_if, history, listen_refusal, listening, refused_or, reply_to, taken, trees_at}
use Rattle.sal_history.specs.Listeners.{Listening, has_listener, listener_at, listeners}
use Rattle.sal_hub.specs.declared.listener.Listener.{Listener}
use Rattle.sal_hub.specs.declared.listener.ListenerId.{ListenerId}
use Rattle.sal_hub.specs.declared.listener_calls.Ask.{Ask}
use Rattle.sal_hub.specs.declared.listeners.Listeners.{Listeners}
use Rattle.sal_hub.specs.declared.pipeline.Pipeline.{Pipeline}
use Rattle.sal_hub.specs.Answers.{Made as IsMadeCall}
use Rattle.sal_hub.specs.Current.{IsKept, answers, known_of}
use Rattle.sal_hub.specs.Domains.{IsDomain}
use Rattle.sal_hub.specs.Journals.{Noted, jotted}
use Rattle.sal_hub.specs.HubHistory.{HubHistory, more}
use Rattle.sal_hub.specs.PipelineView.{is_live_in, queue_of, world_in}
use Rattle.sal_hub.specs.Listeners.{Adds, AreListeners, batch_in, call_of, has_in, listening_of, new_of, opened_in, refusal_by}
use Rattle.sal_hub.specs.Tokens.{IsListener}
use Rattle.sal_hub.proofs.Heard.{has_is, listened_is, made_listeners, listener_is, refusal_is}
use Rattle.sal_hub.proofs.Listed.{slice_get_seam}
use Rattle.sal_hub.proofs.Listened.{IsQuiet, listeners_steady, quiet_refused}
use Rattle.sal_hub.proofs.Serving.{count_is, domain_is, domains_are, live_within}

module _ (journal : Noted) (p : Pipeline) (is : IsKept journal p) where
  abbrev w : List world.Domain
  w = world_in (queue_of p).domains

  abbrev done : List Answered
  done = answers journal.log (queue_of p)

  trees_are : (n : ℕ) (d : Domain) → n < length p.domains.items → d ≡ get_or p.domains.items n d → (s : Store) → trees_of d.commits.items s ≡ trees_at w done n s
  trees_are n d h at s = let here : IsDomain (known_of journal p) n d = domain_is journal p is n d h at in λ i. tree_at (here.opening i) (here.commits i) s

  pub opened_reply : (ask : Ask) (d : Domain) → ask.domain < length p.domains.items → d ≡ get_or p.domains.items ask.domain d → listen_refusal (world_in (queue_of p).domains) (answers journal.log (queue_of p)) ask.domain ≡ None
      → reply_to (world_in (queue_of p).domains) (answers journal.log (queue_of p)) ask.client (call_of ask) ≡ Made (length (listeners (answers journal.log (queue_of p))) + 1) ask.domain ask.path.now (opened_in d ask)
  opened_reply ask d h at allowed =
      let trees = trees_are ask.domain d h at ask.store in
      let count = count_is journal p is ask.domain d h at in
      ap (λ (o : Option CallFault). refused_or o (listening w done ask.domain ask.store ask.path.now)) allowed
      ∙ (λ i. Made (length (listeners done) + 1) ask.domain ask.path.now (opened (sym trees i) ask.path.now (sym count i)))

  pub refused_reply : (ask : Ask) (f : CallFault) → listen_refusal (world_in (queue_of p).domains) (answers journal.log (queue_of p)) ask.domain ≡ Some f
      → reply_to (world_in (queue_of p).domains) (answers journal.log (queue_of p)) ask.client (call_of ask) ≡ Refused f
  refused_reply ask f why = ap (λ (o : Option CallFault). refused_or o (listening w done ask.domain ask.store ask.path.now)) why

  module _ (ls : Listeners) (are : AreListeners (known_of journal p) ls) (client n : ℕ) (l : Listener) (low : 0 < n) (here : slice_get ls.list.items (n - 1) ≡ Some l) where
    has_as : has_in ls.list.items client (n - 1) ≡ has_listener done client n
    has_as = has_is (known_of journal p) ls are client n l low here

    pub untold_reply : has_in ls.list.items client (n - 1) ≡ false → reply_to (world_in (queue_of p).domains) (answers journal.log (queue_of p)) client (Take n) ≡ Refused (NoListener n)
    untold_reply no_one = ap (λ b. if b then taken w done n else Refused (NoListener n)) (sym has_as ∙ no_one)

    pub ungone_reply : has_in ls.list.items client (n - 1) ≡ false → reply_to (world_in (queue_of p).domains) (answers journal.log (queue_of p)) client (Unlisten n) ≡ Refused (NoListener n)
    ungone_reply no_one = ap (λ b. if b then Accepted else Refused (NoListener n)) (sym has_as ∙ no_one)

    pub gone_reply : has_in ls.list.items client (n - 1) ≡ true → reply_to (world_in (queue_of p).domains) (answers journal.log (queue_of p)) client (Unlisten n) ≡ Accepted
    gone_reply some = ap (λ b. if b then Accepted else Refused (NoListener n)) (sym has_as ∙ some)

    pub told_reply : (d : Domain) → l.domain < length p.domains.items → d ≡ get_or p.domains.items l.domain d → has_in ls.list.items client (n - 1) ≡ true
        → reply_to (world_in (queue_of p).domains) (answers journal.log (queue_of p)) client (Take n) ≡ Told l.domain (batch_in d l)
    told_reply d h at some =
        let of_domain : IsDomain (known_of journal p) l.domain d = domain_is journal p is l.domain d h at in
        let trees = trees_are l.domain d h at l.store in
        let count = count_is journal p is l.domain d h at in
        let since = (listened_is (known_of journal p) ls are n l low here).version in
        ap (λ b. if b then taken w done n else Refused (NoListener n)) (sym has_as ∙ some)
        ∙ ap (λ (o : Option Listening). option_map_or (batch_of w done n) o (Refused (NoListener n))) (listener_is (known_of journal p) ls are n l low here)
        ∙ (λ i. Told l.domain (batch (has_own_row (sym of_domain.last i) l.path) (sym trees i) l.path (sym since i) (sym count i)))

-- ---- the entry is the log's next

module _ (journal journal' : Noted) (p : Pipeline) (client : ℕ) (call : Call) (log : journal'.log ≡ jotted journal.log client call) where
  abbrev entry : Entry
  entry = record { client = client; number = entries_of journal.log client; call = call }

  pub with_next : known_of journal' p ≡ more (known_of journal p) (record { client = client; number = entries_of journal.log client; call = call })
  with_next = λ i. let known : HubHistory = record { world = world_in (queue_of p).domains; log = log i } in known

  pub refused_listeners : (ls : Listeners) (f : CallFault) → AreListeners (known_of journal p) ls → reply_to (world_in (queue_of p).domains) (answers journal.log (queue_of p)) client call ≡ Refused f → AreListeners (known_of journal' p) ls
  refused_listeners ls f are why =
      subst (λ known. AreListeners known ls) (sym with_next)
      (listeners_steady (known_of journal p) entry ls are (subst (λ r. IsQuiet client call r) (sym why) (quiet_refused client call f)))

-- ---- the token of a new one

module _ (known : HubHistory) (ls ls' : Listeners) (are : AreListeners known ls') (ask : Ask) (version : ℕ) (adds : Adds ls (new_of ask version) ls') (id : ListenerId) (number : id.number ≡ length ls'.list.items) where
  long : length ls'.list.items ≡ length ls.list.items + 1
  long = ap length adds.list ∙ length-append ls.list.items (new_of ask version ∷ [])

  pub given_made : listener_at (history known.world known.log) id.number ≡ Some (record { client = ask.client; domain = ask.domain; store = ask.store; path = ask.path.now })
  given_made =
      let place : id.number - 1 ≡ length ls.list.items = omega (arith, number, long) in
      listener_is known ls' are id.number (new_of ask version) (omega (arith, number, long))
      (ap (λ n. slice_get ls'.list.items n) place ∙ ap (λ (xs : List Listener). slice_get xs (length ls.list.items)) adds.list ∙ slice_get_seam ls.list.items (new_of ask version) [])

  pub given_token : id.domain ≡ ask.domain → IsListener known id
  given_token domain = (omega (arith, number, long), ap (option_map (λ (l : Listening). l.domain)) given_made ∙ ap Some (sym domain))

-- ---- a listener that is made

open_live : (b : Bool) (f : CallFault) (o : Option CallFault) → option_or (fault_if (not b) f) o ≡ None → b ≡ true
open_live true f o e = refl
open_live false f o e = cc

module _ (journal journal' : Noted) (p : Pipeline) (is : IsKept journal p) (ls ls' : Listeners) (are : AreListeners (known_of journal p) ls) (ask : Ask) (log : journal'.log ≡ jotted journal.log ask.client (call_of ask)) where
  abbrev before : List Answered
  before = answers journal.log (queue_of p)

  pub unmade_listeners : (f : CallFault) → refusal_by (is_live_in (queue_of p).domains ask.domain) ask.domain ls.live ≡ Some f → AreListeners (known_of journal' p) ls
  unmade_listeners f why =
      refused_listeners journal journal' p ask.client (call_of ask) log ls f are (refused_reply journal p is ask f (sym (refusal_is (known_of journal p) ls are (is_live_in (queue_of p).domains ask.domain) ask.domain (is.current.live ask.domain)) ∙ why))

  module _ (allowed : refusal_by (is_live_in (queue_of p).domains ask.domain) ask.domain ls.live ≡ None) (d : Domain) (at : d ≡ get_or p.domains.items ask.domain d) (o : Opened) (stands : o ≡ opened_in d ask) (adds : Adds ls (new_of ask o.version) ls') where
    within : ask.domain < length p.domains.items
    within = live_within journal p is ask.domain (open_live (is_live_in (queue_of p).domains ask.domain) (NoDomain ask.domain) (fault_if (nat_le 256 ls.live) TooManyListeners) allowed)

    reply_now : reply_to (world_in (queue_of p).domains) before ask.client (call_of ask) ≡ Made (length (listeners before) + 1) ask.domain ask.path.now o
    reply_now =
        opened_reply journal p is ask d within at (sym (refusal_is (known_of journal p) ls are (is_live_in (queue_of p).domains ask.domain) ask.domain (is.current.live ask.domain)) ∙ allowed)
        ∙ ap (λ (x : Opened). Made (length (listeners before) + 1) ask.domain ask.path.now x) (sym stands)

    pub opened_listeners : AreListeners (known_of journal' p) ls'
    opened_listeners =
        let there : ask.domain < length (known_of journal p).world = omega (arith, within, (domains_are journal p is).all) in
        let newest : o.version ≡ length (commits before ask.domain) = ap (λ (x : Opened). x.version) stands ∙ count_is journal p is ask.domain d within at in
        subst (λ known. AreListeners known ls') (sym (with_next journal journal' p ask.client (call_of ask) log))
        (made_listeners (known_of journal p) ls are ask (entries_of journal.log ask.client) o reply_now there (omega (arith, newest)) ls' adds)

    module _ (id : ListenerId) (number : id.number ≡ length ls'.list.items) where
      pub opened_answer : length journal.log < 1000000 → IsMadeCall (known_of journal p) (known_of journal' p) (record { client = ask.client; number = entries_of journal.log ask.client; call = call_of ask }) (Made id.number ask.domain ask.path.now o)
      opened_answer room =
          let last : length (listeners before) + 1 ≡ id.number = omega (arith, number, ap length adds.list, length-append ls.list.items (new_of ask o.version ∷ []), ap length are.made, length-map ls.list.items listening_of) in
          record { room = room; log = with_next journal journal' p ask.client (call_of ask) log; reply = reply_now ∙ ap (λ n. Made n ask.domain ask.path.now o) last }

      pub opened_made : listener_at (answers journal'.log (queue_of p)) id.number ≡ Some (record { client = ask.client; domain = ask.domain; store = ask.store; path = ask.path.now })
      opened_made = given_made (known_of journal' p) ls ls' opened_listeners ask o.version adds id number

      pub opened_token : id.domain ≡ ask.domain → IsListener (known_of journal' p) id
      opened_token domain = given_token (known_of journal' p) ls ls' opened_listeners ask o.version adds id number domain
