-- A listener that is taken from or removed: what is kept stays the log's, and the answer is the log's.
use Rattle.std.proofs.Common.{◌≡◌, ℕ, ◌-◌, ◌<◌, true, false, length, get_or, nat_eq, List, Option, Some, ap, sym, ◌∙◌, subst, arith}
use Rattle.std.proofs.lemmas.Bool.{and_parts}
use Rattle.std.specs.Prelude.{slice_get, ◌&&◌}
use Rattle.std.specs.Option.{option_map_or}
use Rattle.std.proofs.lemmas.Option.{get_or_from_slice_get}
use Rattle.sal_rows.specs.declared.batch.Batch.{Batch}
use Rattle.sal_rows.specs.declared.outcome.CallFault.TheVariants.{NoListener}
use Rattle.sal_commit.specs.declared.domain.Domain.{Domain}
use Rattle.sal_history.specs.declared.call.Call.TheVariants.{Take, Unlisten}
use Rattle.sal_history.specs.declared.reply.Reply.TheVariants.{Accepted, Batch as Told, Refused}
use Rattle.sal_history.specs.History.{Answered, commits, entries_of, reply_to}
use Rattle.sal_hub.specs.declared.listener.Listener.{Listener}
use Rattle.sal_hub.specs.declared.listener.ListenerId.{ListenerId}
use Rattle.sal_hub.specs.declared.listeners.Listeners.{Listeners}
use Rattle.sal_hub.specs.declared.pipeline.Pipeline.{Pipeline}
use Rattle.sal_hub.specs.Answers.{Made}
use Rattle.sal_hub.specs.Current.{IsKept, answers, known_of}
use Rattle.sal_hub.specs.Domains.{IsDomain}
use Rattle.sal_hub.specs.Journals.{Noted, jotted}
use Rattle.sal_hub.specs.PipelineView.{queue_of, world_in}
use Rattle.sal_hub.specs.Listeners.{AreListeners, IsBatchFor, Removes, Tells, batch_in, has_in}
use Rattle.sal_hub.specs.Tokens.{IsListener}
use Rattle.sal_hub.proofs.Heard.{domain_named, gone_listeners, listened_is, named_at, some_live, told_listeners}
use Rattle.sal_hub.proofs.Listed.{slice_get_some}
use Rattle.sal_hub.proofs.Serving.{count_is, domain_is, domains_are}
use Rattle.sal_hub.proofs.Telling.{gone_reply, refused_listeners, told_reply, ungone_reply, untold_reply, with_next}

-- the element that was read at an index
pub same_at : {X : Type 0} (xs : List X) (i : ℕ) (x y : X) → x ≡ get_or xs i x → slice_get xs i ≡ Some y → x ≡ y
same_at xs i x y read at = read ∙ get_or_from_slice_get xs i y x at

live_of : (ls : List Listener) (client i : ℕ) (l : Listener) → slice_get ls i ≡ Some l → has_in ls client i ≡ true → l.live ≡ true
live_of ls client i l at has = (and_parts (nat_eq l.client client) l.live (ap (λ (o : Option Listener). option_map_or (λ (x : Listener). nat_eq x.client client && x.live) o false) (sym at) ∙ has)).1

-- ---- its domain, and the commits there that it has not taken

module _ (journal : Noted) (p : Pipeline) (is : IsKept journal p) (ls : Listeners) (are : AreListeners (known_of journal p) ls) (n : ℕ) (l : Listener) (low : 0 < n) (at : slice_get ls.list.items (n - 1) ≡ Some l) where
  pub domain_within : l.domain < length p.domains.items
  domain_within = omega (arith, (listened_is (known_of journal p) ls are n l low at).domain, (domains_are journal p is).all)

  pub told_within : (d : Domain) → d ≡ get_or p.domains.items l.domain d → l.version < length d.commits.items
  told_within d here =
      let of_domain : IsDomain (known_of journal p) l.domain d = domain_is journal p is l.domain d domain_within here in
      omega (arith, (listened_is (known_of journal p) ls are n l low at).reached, count_is journal p is l.domain d domain_within here, of_domain.kept.opened)

-- ---- calls

module _ (journal journal' : Noted) (p : Pipeline) (is : IsKept journal p) (ls ls' : Listeners) (are : AreListeners (known_of journal p) ls) (client : ℕ) (id : ListenerId) (token : IsListener (known_of journal p) id) where
  abbrev before : List Answered
  before = answers journal.log (queue_of p)

  abbrev one : Listener
  one = (named_at (known_of journal p) ls are id token).0

  at : slice_get ls.list.items (id.number - 1) ≡ Some one
  at = (named_at (known_of journal p) ls are id token).1

  -- take
  module _ (log : journal'.log ≡ jotted journal.log client (Take id.number)) where
    module _ (no_one : has_in ls.list.items client (id.number - 1) ≡ false) where
      not_told : reply_to (world_in (queue_of p).domains) before client (Take id.number) ≡ Refused (NoListener id.number)
      not_told = untold_reply journal p is ls are client id.number one token.0 at no_one

      pub untold_listeners : AreListeners (known_of journal' p) ls
      untold_listeners = refused_listeners journal journal' p client (Take id.number) log ls (NoListener id.number) are not_told

      pub untold_answer : length journal.log < 1000000 → Made (known_of journal p) (known_of journal' p) (record { client = client; number = entries_of journal.log client; call = Take id.number }) (Refused (NoListener id.number))
      untold_answer room = record { room = room; log = with_next journal journal' p client (Take id.number) log; reply = not_told }

    module _ (some : has_in ls.list.items client (id.number - 1) ≡ true) (b : Batch) (stands : IsBatchFor p.domains.items ls.list.items (id.number - 1) b) where
      within : one.domain < length p.domains.items
      within = domain_within journal p is ls are id.number one token.0 at

      abbrev d : Domain
      d = (slice_get_some p.domains.items one.domain within).0

      read : d ≡ get_or p.domains.items one.domain d
      read = sym (get_or_from_slice_get p.domains.items one.domain d d (slice_get_some p.domains.items one.domain within).1)

      batch_is : b ≡ batch_in d one
      batch_is = stands d one at (slice_get_some p.domains.items one.domain within).1

      is_told : reply_to (world_in (queue_of p).domains) before client (Take id.number) ≡ Told one.domain b
      is_told = told_reply journal p is ls are client id.number one token.0 at d within read some ∙ ap (Told one.domain) (sym batch_is)

      pub told_now : Tells ls (id.number - 1) b.to ls' → AreListeners (known_of journal' p) ls'
      told_now tells =
          let newest : b.to ≡ length (commits before one.domain) = ap (λ (x : Batch). x.to) batch_is ∙ count_is journal p is one.domain d within read in
          subst (λ known. AreListeners known ls') (sym (with_next journal journal' p client (Take id.number) log))
          (told_listeners (known_of journal p) ls are client (entries_of journal.log client) id.number one token.0 at b is_told (omega (arith, newest)) ls' tells)

      pub told_answer : length journal.log < 1000000 → Made (known_of journal p) (known_of journal' p) (record { client = client; number = entries_of journal.log client; call = Take id.number }) (Told id.domain b)
      told_answer room = record {
        room = room;
        log = with_next journal journal' p client (Take id.number) log;
        reply = is_told ∙ ap (λ n. Told n b) (domain_named (known_of journal p) ls are id one token at);
      }

  -- unlisten
  pub live_now : has_in ls.list.items client (id.number - 1) ≡ true → 0 < ls.live
  live_now some = some_live (known_of journal p) ls are (id.number - 1) one at (live_of ls.list.items client (id.number - 1) one at some)

  module _ (log : journal'.log ≡ jotted journal.log client (Unlisten id.number)) where
    module _ (no_one : has_in ls.list.items client (id.number - 1) ≡ false) where
      not_gone : reply_to (world_in (queue_of p).domains) before client (Unlisten id.number) ≡ Refused (NoListener id.number)
      not_gone = ungone_reply journal p is ls are client id.number one token.0 at no_one

      pub ungone_listeners : AreListeners (known_of journal' p) ls
      ungone_listeners = refused_listeners journal journal' p client (Unlisten id.number) log ls (NoListener id.number) are not_gone

      pub ungone_answer : length journal.log < 1000000 → Made (known_of journal p) (known_of journal' p) (record { client = client; number = entries_of journal.log client; call = Unlisten id.number }) (Refused (NoListener id.number))
      ungone_answer room = record { room = room; log = with_next journal journal' p client (Unlisten id.number) log; reply = not_gone }

    module _ (some : has_in ls.list.items client (id.number - 1) ≡ true) where
      is_gone : reply_to (world_in (queue_of p).domains) before client (Unlisten id.number) ≡ Accepted
      is_gone = gone_reply journal p is ls are client id.number one token.0 at some

      pub gone_now : Removes ls (id.number - 1) ls' → AreListeners (known_of journal' p) ls'
      gone_now removes =
          subst (λ known. AreListeners known ls') (sym (with_next journal journal' p client (Unlisten id.number) log))
          (gone_listeners (known_of journal p) ls are client (entries_of journal.log client) id.number one token.0 at (live_of ls.list.items client (id.number - 1) one at some) is_gone ls' removes)

      pub gone_answer : length journal.log < 1000000 → Made (known_of journal p) (known_of journal' p) (record { client = client; number = entries_of journal.log client; call = Unlisten id.number }) Accepted
      gone_answer room = record { room = room; log = with_next journal journal' p client (Unlisten id.number) log; reply = is_gone }
