-- A client's listeners along a log: what other entries leave of them, and what its own calls make of them.
use Rattle.std.proofs.Common.{◌≡◌, ℕ, ◌+◌, ◌<◌, ◌≤◌, Bool, true, false, List, [], ◌∷◌, ◌++◌, length, Option, None, Some, if◌then◌else◌, refl, ap, sym, ◌∙◌, subst, arith}
use Rattle.std.specs.Prelude.{nat_eq, unwrap_or}
use Rattle.std.specs.Option.{option_map, option_map_or}
use Rattle.std.proofs.lemmas.Bool.{eq-eqb}
use Rattle.std.proofs.lemmas.Option.{same_Some}
use Rattle.sal_types.specs.declared.value.Store.{Store}
use Rattle.sal_types.specs.declared.value.Step.{Step}
use Rattle.sal_types.specs.declared.row.Row.{Row}
use Rattle.sal_types.specs.Tree.{under}
use Rattle.sal_rows.specs.declared.batch.Batch.{Batch as Told}
use Rattle.sal_rows.specs.declared.batch.Opened.{Opened}
use Rattle.sal_rows.specs.declared.outcome.CallFault.{CallFault}
use Rattle.sal_rows.specs.declared.outcome.CallFault.TheVariants.{NoListener}
use Rattle.sal_rows.specs.Batches.{batch, opened}
use Rattle.sal_schema.specs.Fitting.{has_own_row}
use Rattle.sal_history.specs.declared.call.Call.TheVariants.{Listen, Take}
use Rattle.sal_history.specs.declared.call.Entry.{Entry}
use Rattle.sal_history.specs.declared.reply.Reply.{Reply}
use Rattle.sal_history.specs.declared.reply.Reply.TheVariants.{Batch, Listener as Made, Refused}
use Rattle.sal_history.specs.Listeners.{Listening, brings_to, has_listener, listener_at, listeners, version}
use Rattle.sal_history.specs.World.{Domain, opening_of, last_of}
use Rattle.sal_history.specs.History.{Answered, batch_of, commits, history, listen_refusal, listening, refused_or, reply_to, taken, trees_at}
use Rattle.sal_history.proofs.Numbered.{numbered-within}
use Rattle.sal_script.proofs.Growing.{listener_later, more_commits, trees_later}
use Rattle.sal_hub.specs.declared.listener.ListenerId.{ListenerId}
use Rattle.sal_hub.specs.HubHistory.{HubHistory, entry_of, more}
use Rattle.sal_hub.specs.Listeners.{IsMade, listener_reply}
use Rattle.sal_hub.specs.Tokens.{IsListener}
use Rattle.sal_hub.proofs.Listened.{version-push}
use Rattle.sal_client.specs.declared.follower.Follower.{Follower}
use Rattle.sal_client.specs.Followers.{Advances, Follows, IsOwnListener}
use Rattle.sal_client.proofs.Mirroring.{goes_on}
use Rattle.sal_client.proofs.Versions.{brings_nothing, version_stays}

abbrev pub listening_of : ℕ → Follower → Listening
listening_of number f = record { client = number; domain = f.id.domain; store = f.store; path = f.path }

-- its token
pub token_of : (known : HubHistory) (number : ℕ) (f : Follower) → IsOwnListener known number f → IsListener known f.id
token_of known number f is = (is.low, ap (option_map (λ (l : Listening). l.domain)) is.made)

module _ (known : HubHistory) (e : Entry) where
  abbrev so_far : List Answered
  so_far = history known.world known.log

  -- the same rows over a longer log
  rows_stay : (domain : ℕ) (store : Store) (path : List Step) (k : ℕ) (rows : List Row) → k ≤ length (commits so_far domain) → rows ≡ under (trees_at known.world so_far domain store k) path
      → rows ≡ under (trees_at known.world (history known.world (known.log ++ e ∷ [])) domain store k) path
  rows_stay domain store path k rows reached is = is ∙ ap (λ (t : List Row). under t path) (sym (trees_later known.world known.log (e ∷ []) domain store k reached))

  -- whatever the entry
  pub follows_on : (f : Follower) → Follows known f → Follows (more known e) f
  follows_on f is = record {
    reached = omega (arith, is.reached, more_commits known.world known.log (e ∷ []) f.id.domain);
    rows = rows_stay f.id.domain f.store f.path f.mirror.version f.mirror.rows is.reached is.rows;
  }

  -- an entry that brings it nowhere
  pub listener_kept : (number : ℕ) (f : Follower) → brings_to e.call (reply_to known.world (history known.world known.log) e.client e.call) f.id.number ≡ None → IsOwnListener known number f → IsOwnListener (more known e) number f
  listener_kept number f none is = record {
    low = is.low;
    made = listener_later known.world known.log (e ∷ []) f.id.number (listening_of number f) is.made;
    version = version_stays known.world known.log e f.id.number none ∙ is.version;
  }

  -- as one of another client, or that takes from another listener
  pub listener_stays : (number : ℕ) (f : Follower) → (e.client ≡ number → e.call ≡ Take f.id.number → ⊥) → IsOwnListener known number f → IsOwnListener (more known e) number f
  listener_stays number f quiet is = listener_kept number f (brings_nothing known.world known.log e f.id.number (listening_of number f) is.made quiet) is

-- ---- a listen

module _ (known : HubHistory) (number domain : ℕ) (store : Store) (path : List Step) (given : ListenerId × Opened)
    (answered : reply_to known.world (history known.world known.log) number (Listen domain store path) ≡ listener_reply domain path given) where
  abbrev call_entry : Entry
  call_entry = entry_of known number (Listen domain store path)

  abbrev before : List Answered
  before = history known.world known.log

  abbrev newest : ℕ
  newest = length (commits before domain)

  abbrev start : Opened
  start = opened (trees_at known.world before domain store) path newest

  abbrev id_in : Reply → ℕ
  id_in (Made n d p o) = n
  id_in r = 0

  abbrev opened_in : Reply → Opened
  opened_in (Made n d p o) = o
  opened_in r = start

  parts_by : (o : Option CallFault) → refused_or o (listening known.world before domain store path) ≡ listener_reply domain path given → (given.0.number ≡ length (listeners before) + 1) × (given.1 ≡ start)
  parts_by None e = (sym (ap id_in e), sym (ap opened_in e))
  parts_by (Some fault) e = cc

  parts : (given.0.number ≡ length (listeners before) + 1) × (given.1 ≡ start)
  parts = parts_by (listen_refusal known.world before domain) answered

  -- its number is greater than that of each that was made before
  pub new_number : (id : ℕ) (l : Listening) → listener_at before id ≡ Some l → id < given.0.number
  new_number id l made = let within = (numbered-within (listeners before) id l made).1 in omega (arith, within, parts.0)

  brought : brings_to (Listen domain store path) (reply_to known.world before number (Listen domain store path)) given.0.number ≡ Some given.1.version
  brought = ap (λ r. brings_to (Listen domain store path) r given.0.number) answered ∙ ap (λ b. if b then Some given.1.version else None) (eq-eqb given.0.number given.0.number refl)

  module _ (of : given.0.domain ≡ domain) (f : Follower) (is : f ≡ record { id = given.0; store = store; path = path; mirror = record { version = given.1.version; rows = given.1.rows } }) where
    abbrev new_one : Follower
    new_one = record { id = given.0; store = store; path = path; mirror = record { version = given.1.version; rows = given.1.rows } }

    at_newest : given.1.version ≡ newest
    at_newest = ap (λ (o : Opened). o.version) parts.1

    rows_here : given.1.rows ≡ under (trees_at known.world (history known.world (known.log ++ call_entry ∷ [])) domain store given.1.version) path
    rows_here =
        rows_stay known call_entry domain store path given.1.version given.1.rows (omega (arith, at_newest))
        (ap (λ (o : Opened). o.rows) parts.1 ∙ ap (λ k. under (trees_at known.world before domain store k) path) (sym at_newest))

    pub new_follows : Follows (more known call_entry) f
    new_follows = subst (Follows (more known call_entry)) (sym is) (record {
      reached = omega (arith, at_newest, ap (λ d. length (commits (history known.world (known.log ++ call_entry ∷ [])) d)) of, more_commits known.world known.log (call_entry ∷ []) domain);
      rows = rows_here ∙ (λ i. under (trees_at known.world (history known.world (known.log ++ call_entry ∷ [])) (sym of i) store given.1.version) path);
    })

    pub new_listener : IsMade (more known call_entry) given.0 (record { client = number; domain = domain; store = store; path = path }) → IsOwnListener (more known call_entry) number f
    new_listener made = subst (IsOwnListener (more known call_entry) number) (sym is) (record {
      low = omega (arith, parts.0);
      made = made ∙ (λ i. Some (let l : Listening = record { client = number; domain = sym of i; store = store; path = path } in l));
      version = version-push known.world known.log call_entry given.0.number ∙ ap (λ (o : Option ℕ). unwrap_or o (version before given.0.number)) brought;
    })

-- ---- a take

module _ (known : HubHistory) (number : ℕ) (f : Follower) (is : IsOwnListener known number f) (b : Told)
    (answered : reply_to known.world (history known.world known.log) number (Take f.id.number) ≡ Batch f.id.domain b) where
  abbrev take_entry : Entry
  take_entry = entry_of known number (Take f.id.number)

  abbrev earlier : List Answered
  earlier = history known.world known.log

  abbrev trees : ℕ → List Row
  trees k = trees_at known.world earlier f.id.domain f.store k

  abbrev last : ℕ
  last = length (commits earlier f.id.domain)

  abbrev own : Bool
  own = has_own_row (last_of known.world f.id.domain) f.path

  abbrev batch_in : Reply → Told
  batch_in (Batch d x) = x
  batch_in r = b

  told_by : (has : Bool) → (if has then taken known.world earlier f.id.number else Refused (NoListener f.id.number)) ≡ Batch f.id.domain b → b ≡ batch own trees f.path (version earlier f.id.number) last
  told_by false e = cc
  told_by true e = sym (ap batch_in (ap (λ (o : Option Listening). option_map_or (batch_of known.world earlier f.id.number) o (Refused (NoListener f.id.number))) (sym is.made) ∙ e))

  told : b ≡ batch own trees f.path f.mirror.version last
  told = told_by (has_listener earlier number f.id.number) answered ∙ ap (λ v. batch own trees f.path v last) is.version

  -- the batch begins at the version of the rows
  pub told_from : f.mirror.version ≡ b.from
  told_from = sym (ap (λ (x : Told). x.from) told)

  brought_to : brings_to (Take f.id.number) (reply_to known.world earlier number (Take f.id.number)) f.id.number ≡ Some b.to
  brought_to = ap (λ r. brings_to (Take f.id.number) r f.id.number) answered ∙ ap (λ t. if t then Some b.to else None) (eq-eqb f.id.number f.id.number refl)

  abbrev later : List Entry
  later = known.log ++ take_entry ∷ []

  module _ (after : Follower) (goes : Advances b f after) where
    moved : after.mirror.version ≡ last
    moved = goes.version ∙ ap (λ (x : Told). x.to) told

    pub told_follows : Follows known f → Follows (more known take_entry) after
    told_follows follows =
        let rows : after.mirror.rows ≡ under (trees last) f.path =
        goes_on (opening_of known.world f.id.domain) (commits earlier f.id.domain) f.store f.path f.mirror.version f.mirror.rows goes.ascending follows.rows own last b after.mirror.rows follows.reached told goes.rows in
        record {
          reached = omega (arith, moved, ap (λ (id : ListenerId). length (commits (history known.world later) id.domain)) goes.id, more_commits known.world known.log (take_entry ∷ []) f.id.domain);
          rows = rows_stay known take_entry f.id.domain f.store f.path last after.mirror.rows (omega arith) rows
              ∙ (λ i. under (trees_at known.world (history known.world later) (sym goes.id i).domain (sym goes.store i) (sym moved i)) (sym goes.path i));
        }

    pub told_listener : IsOwnListener (more known take_entry) number after
    told_listener = record {
      low = subst (λ (id : ListenerId). 0 < id.number) (sym goes.id) is.low;
      made = ap (λ (id : ListenerId). listener_at (history known.world later) id.number) goes.id
          ∙ listener_later known.world known.log (take_entry ∷ []) f.id.number (listening_of number f) is.made
          ∙ (λ i. Some (let l : Listening = record { client = number; domain = (sym goes.id i).domain; store = sym goes.store i; path = sym goes.path i } in l));
      version = ap (λ (id : ListenerId). version (history known.world later) id.number) goes.id ∙ version-push known.world known.log take_entry f.id.number
          ∙ ap (λ (o : Option ℕ). unwrap_or o (version earlier f.id.number)) brought_to ∙ sym goes.version;
    }
