-- The calls of mounts: what is kept stays the log's, and the answer is the log's.
use Rattle.std.proofs.Common.{◌≡◌, ℕ, zero, suc, ◌+◌, ◌<◌, Bool, true, false, not, ◌&&◌, ◌||◌, List, [], ◌∷◌, ◌++◌, length, map, get_or, set, Option, None, Some, Err, refl, ap, sym, ◌∙◌, subst, arith, append-nil, if◌then◌else◌, nat_eq}
use Rattle.std.specs.Prelude.{slice_get}
use Rattle.std.specs.Option.{option_map, option_map_or, option_or, option_to_list}
use Rattle.std.proofs.lemmas.Bool.Decides.{nat_tests}
use Rattle.std.proofs.lemmas.List.{length-map}
use Rattle.std.proofs.lemmas.List.Sums.{fold-append}
use Rattle.std.proofs.lemmas.Option.{same_Some}
use Rattle.sal_types.specs.declared.value.Step.{Step}
use Rattle.sal_mount.specs.declared.call.MountCall.{MountCall}
use Rattle.sal_mount.specs.declared.call.MountCall.TheVariants as asked
use Rattle.sal_mount.specs.declared.call.MountFault.{MountFault}
use Rattle.sal_mount.specs.declared.call.MountFault.TheVariants.{DeviceUsed, MountTaken, NoDomain, NoMemory}
use Rattle.sal_mount.specs.declared.call.MountReply.{MountReply}
use Rattle.sal_mount.specs.declared.call.MountReply.TheVariants.{Accepted, Refused}
use Rattle.sal_mount.specs.Answers.{Makes, Fails as MountFails}
use Rattle.sal_mount.specs.Mounts.{Made as Once, fault_if, is_device, is_live as is_up, is_unmounted, make, made_of, mount_at, mounts, refused_or, reply_to as reply_by, unmounts, was_mounted}
use Rattle.sal_mount.specs.Register.{IsKept as IsRegister, IsOf, Register}
use Rattle.sal_history.specs.declared.call.Call.{Call}
use Rattle.sal_history.specs.declared.call.Call.TheVariants.{Mount, MountAt, Unmount}
use Rattle.sal_history.specs.declared.call.Entry.{Entry}
use Rattle.sal_history.specs.declared.reply.Reply.{Reply}
use Rattle.sal_history.specs.World.{Domain, no_table}
use Rattle.sal_history.specs.History.{Answered, entries_of, history, is_live, reply_to, sents}
use Rattle.sal_history.specs.Services.{by_mounts, mount_call, mount_fault, mount_reply, mounted, mounting}
use Rattle.sal_history.specs.Submissions.{Sent}
use Rattle.sal_commit.specs.declared.domain.Domain.{Domain as Stored}
use Rattle.sal_hub.specs.declared.pipeline.Pipeline.{Pipeline}
use Rattle.sal_hub.specs.Answers.{Fails, Made}
use Rattle.sal_hub.specs.Current.{IsCurrent, IsKept, answers, known_of}
use Rattle.sal_hub.specs.Journals.{Noted, mark_at}
use Rattle.sal_hub.specs.HubHistory.{HubHistory}
use Rattle.sal_hub.specs.PipelineView.{AllKept, IsSound, KeepVersions, PipelineView, DomainView, is_live_in, queue_of, opened_as, set_live, shown, with_live, world_in}
use Rattle.sal_hub.specs.Mounted.{AreMounted, Enters, IsJotted}
use Rattle.sal_hub.proofs.Deciding.{versions-same}
use Rattle.sal_hub.proofs.Histories.{mounting-push}
use Rattle.sal_hub.proofs.Keeping.{as_stored, none_more, or_false, pushed, sound_over, unsent}
use Rattle.sal_hub.proofs.Living.{is_device_low, live-mounted, live-same, live-unmounted, live_there, accepted_device}
use Rattle.sal_hub.proofs.Served.{is_serving, serving_undecided, serving_unopened, serving_unraised, serving_unsent, serving_unspent}

-- ---- a domain that is live from now on, or not

next_eq : (i n : ℕ) → nat_eq (suc i) (suc n) ≡ nat_eq i n
next_eq i n = elim (nat_eq i n) as (λ b. nat_eq i n ≡ b → nat_eq (suc i) (suc n) ≡ b) [ true ↦ λ e. grind (arith, nat_tests) | false ↦ λ e. grind (arith, nat_tests) ] refl

live-with : (ds : List DomainView) (i : ℕ) (b : Bool) → i < length ds → (n : ℕ) → is_live_in (with_live ds i b) n ≡ (if nat_eq i n then b else is_live_in ds n)
live-with [] i b h n = absurd (omega (arith, h))
live-with (d ∷ ds) zero b h zero = let own : nat_eq 0 0 ≡ true = grind (arith, nat_tests) in ap (λ t. if t then b else d.live) (sym own)
live-with (d ∷ ds) zero b h (suc n) = let other : nat_eq 0 (suc n) ≡ false = grind (arith, nat_tests) in ap (λ t. if t then b else is_live_in ds n) (sym other)
live-with (d ∷ ds) (suc i) b h zero = let other : nat_eq (suc i) 0 ≡ false = grind (arith, nat_tests) in ap (λ t. if t then b else d.live) (sym other)
live-with (d ∷ ds) (suc i) b h (suc n) = live-with ds i b (omega (arith, h)) n ∙ ap (λ t. if t then b else is_live_in ds n) (sym (next_eq i n))

world-with : (ds : List DomainView) (i : ℕ) (b : Bool) → world_in (with_live ds i b) ≡ world_in ds
world-with [] i b = refl
world-with (d ∷ ds) zero b = refl
world-with (d ∷ ds) (suc i) b = ap (λ (w : List Domain). opened_as d ∷ w) (world-with ds i b)

told-with : {X : Type 0} (f : DomainView → X) (z : X) → ((d : DomainView) (b : Bool) → f (record d { live = b }) ≡ f d) → (ds : List DomainView) (i : ℕ) (b : Bool) (n : ℕ)
    → option_map_or f (slice_get (with_live ds i b) n) z ≡ option_map_or f (slice_get ds n) z
told-with f z same [] i b n = refl
told-with f z same (d ∷ ds) zero b zero = same d b
told-with f z same (d ∷ ds) zero b (suc n) = refl
told-with f z same (d ∷ ds) (suc i) b zero = refl
told-with f z same (d ∷ ds) (suc i) b (suc n) = told-with f z same ds i b n

versions-with : (ds : List DomainView) (i : ℕ) (b : Bool) → KeepVersions ds (with_live ds i b)
versions-with ds i b = record {
  tables = λ n. told-with (λ (x : DomainView). x.table) no_table (λ d b. refl) ds i b n;
  versions = λ n. told-with (λ (x : DomainView). x.version) 0 (λ d b. refl) ds i b n;
}

length-with : (ds : List DomainView) (i : ℕ) (b : Bool) → length (with_live ds i b) ≡ length ds
length-with [] i b = refl
length-with (d ∷ ds) zero b = refl
length-with (d ∷ ds) (suc i) b = ap suc (length-with ds i b)

-- as the code writes it
shown-with : (ds : List Stored) (i : ℕ) (b : Bool) (d d' : Stored) → i < length ds → d ≡ get_or ds i d → shown d' ≡ record (shown d) { live = b } → map shown (set ds i d') ≡ with_live (map shown ds) i b
shown-with [] i b d d' h is same = absurd (omega (arith, h))
shown-with (x ∷ ds) zero b d d' h is same = ap (λ (e : DomainView). e ∷ map shown ds) (same ∙ (λ j. (let e : DomainView = record (shown (is j)) { live = b } in e)))
shown-with (x ∷ ds) (suc i) b d d' h is same = ap (λ (es : List DomainView). shown x ∷ es) (shown-with ds i b d d' (omega (arith, h)) is same)

pub line_with : (p : Pipeline) (i : ℕ) (b : Bool) (d d' : Stored) → i < length p.domains.items → d ≡ get_or p.domains.items i d → shown d' ≡ record (shown d) { live = b }
    → ◌≡◌ {A = PipelineView} (record { domains = map shown (set p.domains.items i d'); gone = p.gone; waiting = p.waiting.items; outcomes = p.outcomes.items; failures = p.failures.items }) (set_live (queue_of p) i b)
line_with p i b d d' h is same = λ j. record { domains = shown-with p.domains.items i b d d' h is same j; gone = p.gone; waiting = p.waiting.items; outcomes = p.outcomes.items; failures = p.failures.items }

-- only this part of a domain changes
at-with : (ds : List DomainView) (i : ℕ) (b : Bool) (n : ℕ) (e : DomainView) → slice_get (with_live ds i b) n ≡ Some e → (d : DomainView) × (slice_get ds n ≡ Some d) × (e ≡ as_stored d e)
at-with [] i b n e at = cc
at-with (d ∷ ds) zero b zero e at = (
    let here : DomainView = record d { live = b } in
    let same : here ≡ e = same_Some here e at in
    (d, refl, sym same ∙ ap (as_stored d) same)
    )
at-with (d ∷ ds) zero b (suc n) e at = (e, at, refl)
at-with (d ∷ ds) (suc i) b zero e at = (e, at, refl)
at-with (d ∷ ds) (suc i) b (suc n) e at = at-with ds i b n e at

sound-with : (ss : List Sent) (queue : PipelineView) (i : ℕ) (b : Bool) → IsSound ss queue → IsSound ss (set_live queue i b)
sound-with ss queue i b = sound_over ss queue (with_live queue.domains i b) (length-with queue.domains i b) (at-with queue.domains i b)

-- ---- consequences of an answer

accepted_fresh : (a b : Bool) (f g : MountFault) (o : Option MountFault) → refused_or (option_or (fault_if a f) (option_or (fault_if b g) o)) ≡ Accepted → b ≡ false
accepted_fresh true b f g o e = cc
accepted_fresh false true f g o e = cc
accepted_fresh false false f g o e = refl

unmount_accepted : (a b : Bool) (f : MountFault) → (if not a && b then Accepted else Refused f) ≡ Accepted → (a ≡ false) × (b ≡ true)
unmount_accepted true b f e = cc
unmount_accepted false true f e = (refl, refl)
unmount_accepted false false f e = cc

-- the shared answer to a call on mounts
by_call : (world : List Domain) (answered : List Answered) (client : ℕ) (call : Call) (m : MountCall) → mount_call call ≡ Some m → reply_to world answered client call ≡ by_mounts (length world) answered m
by_call world answered client (Mount path device) m e = ap (by_mounts (length world) answered) (same_Some (asked.Mount path device) m e)
by_call world answered client (Unmount domain) m e = ap (by_mounts (length world) answered) (same_Some (asked.Unmount domain) m e)
by_call world answered client (MountAt path) m e = ap (by_mounts (length world) answered) (same_Some (asked.MountAt path) m e)
by_call world answered client call m e = cc

serves : (call : Call) (m : MountCall) → mount_call call ≡ Some m → is_serving call ≡ true
serves (Mount path device) m e = refl
serves (Unmount domain) m e = refl
serves (MountAt path) m e = refl
serves call m e = cc

-- ---- one call

module _ (journal journal' : Noted) (p : Pipeline) (is : IsKept journal p) (r r' : Register) (are : AreMounted (known_of journal p) r) (client : ℕ) (call : Call) (m : MountCall) (asks : mount_call call ≡ Some m) where
  abbrev w : List Domain
  w = world_in (queue_of p).domains

  abbrev answered : List Answered
  answered = answers journal.log (queue_of p)

  abbrev entry : Entry
  entry = record { client = client; number = entries_of journal.log client; call = call }

  abbrev before : List Once
  before = mounted (length w) answered

  module _ (reply : MountReply) (makes : Makes r r' m reply) where
    pub reply_is : reply_by (length (world_in (queue_of p).domains)) (mounted (length (world_in (queue_of p).domains)) (answers journal.log (queue_of p))) m ≡ reply
    reply_is = ap (λ n. reply_by n (made_of n (mounting answered)) m) (sym are.devices) ∙ makes.answer (mounting answered) are.calls

    calls_more : mounting (history w (journal.log ++ entry ∷ [])) ≡ mounting answered ++ m ∷ []
    calls_more = mounting-push w journal.log entry ∙ ap (λ (o : Option MountCall). mounting answered ++ option_to_list o) asks

    made_more : mounted (length w) (history w (journal.log ++ entry ∷ [])) ≡ before ++ record { call = m; reply = reply } ∷ []
    made_more =
        ap (made_of (length w)) calls_more ∙ fold-append (make (length w)) [] (mounting answered) (m ∷ [])
        ∙ ap (λ (rep : MountReply). let once : Once = record { call = m; reply = rep } in before ++ once ∷ []) reply_is

    live_more : (n : ℕ) → is_live w (history w (journal.log ++ entry ∷ [])) n ≡ is_up (before ++ record { call = m; reply = reply } ∷ []) n
    live_more n = ap (λ (made : List Once). is_up made n) made_more

    module _ (entered : IsJotted journal journal' client call) (p' : Pipeline) (same : world_in (queue_of p').domains ≡ world_in (queue_of p).domains) where
      pub mounts_now : AreMounted (known_of journal' p') r'
      mounts_now = record {
        devices = makes.devices ∙ are.devices ∙ ap length (sym same);
        calls = subst (λ (calls : List MountCall). IsOf calls r') (sym calls_more ∙ (λ i. mounting (history (sym same i) (sym entered.log i)))) (makes.longer (mounting answered) are.calls);
      }

      pub answer_now : length journal.log < 1000000 → Made (known_of journal p) (known_of journal' p') (record { client = client; number = entries_of journal.log client; call = call }) (mount_reply reply)
      answer_now room = record {
        room = room;
        log = λ i. let known : HubHistory = record { world = same i; log = entered.log i } in known;
        reply = by_call w answered client call m asks ∙ ap mount_reply reply_is;
      }

      current_now : (queue : PipelineView) → queue ≡ queue_of p' → KeepVersions (queue_of p).domains queue.domains → IsSound (sents (answers journal.log (queue_of p))) queue → queue.outcomes ≡ p.outcomes.items → length queue.failures ≡ length p.failures.items
          → ((n : ℕ) → is_live_in queue.domains n ≡ is_up (before ++ record { call = m; reply = reply } ∷ []) n) → IsCurrent journal'.log journal'.marks (queue_of p')
      current_now queue is_line versions sound decided failed lives =
          let on : is_serving call ≡ true = serves call m asks in
          let shared : Reply = reply_to w answered client call in
          subst (λ (l : List Entry). IsCurrent l journal'.marks (queue_of p')) (sym entered.log)
          (subst (IsCurrent (journal.log ++ entry ∷ []) journal'.marks) is_line
          (pushed journal.log journal.marks (queue_of p) is.current entry (serving_unraised call on shared) queue journal'.marks
          (unsent journal.log journal.marks (queue_of p) is.current entry queue (serving_unsent answered call on shared) sound)
          (ap (λ (l : PipelineView). world_in l.domains) is_line ∙ same) versions
          (decided ∙ sym (append-nil p.outcomes.items) ∙ ap (λ os. p.outcomes.items ++ os) (sym (serving_undecided w answered call on)))
          (λ k. entered.marks k ∙ sym (or_false (mark_at journal.marks k)) ∙ ap (λ b. mark_at journal.marks k || b) (sym (serving_unspent call on shared k)))
          (failed ∙ none_more (length p.failures.items) ∙ ap (λ (o : Option ℕ). length p.failures.items + length (option_to_list o)) (sym (serving_unopened call on shared)))
          (λ n. lives n ∙ sym (live_more n))))

    -- a call that mounts and unmounts nothing
    module _ (entered : IsJotted journal journal' client call) (no_mount : mounts m reply ≡ None) (no_unmount : (n : ℕ) → unmounts m reply n ≡ false) where
      pub same_kept : IsKept journal' p
      same_kept = record {
        kept = is.kept;
        current = current_now entered p refl (queue_of p) refl (versions-same (queue_of p).domains) is.current.sound refl refl
            (λ n. is.current.live n ∙ sym (live-same before (record { call = m; reply = reply }) no_mount no_unmount n));
        let_go = is.let_go;
      }

    -- one that changes whether a domain is live
    module _ (entered : IsJotted journal journal' client call) (p' : Pipeline) (kept : AllKept p'.domains.items) (domain : ℕ) (live : Bool) (queue : queue_of p' ≡ set_live (queue_of p) domain live) (low : domain < length p.domains.items)
        (lives : (n : ℕ) → is_up (before ++ record { call = m; reply = reply } ∷ []) n ≡ (if nat_eq domain n then live else is_live w answered n)) where
      same_world : world_in (queue_of p').domains ≡ w
      same_world = ap (λ (l : PipelineView). world_in l.domains) queue ∙ world-with (queue_of p).domains domain live

      flags : (n : ℕ) → is_live_in (with_live (queue_of p).domains domain live) n ≡ is_up (before ++ record { call = m; reply = reply } ∷ []) n
      flags n =
          live-with (queue_of p).domains domain live (omega (arith, low, length-map p.domains.items shown)) n
          ∙ ap (λ b. if nat_eq domain n then live else b) (is.current.live n) ∙ sym (lives n)

      pub set_kept : IsKept journal' p'
      set_kept = record {
        kept = kept;
        current = current_now entered p' same_world (set_live (queue_of p) domain live) (sym queue) (versions-with (queue_of p).domains domain live) (sound-with (sents (answers journal.log (queue_of p))) (queue_of p) domain live is.current.sound) refl refl flags;
        let_go = ap (λ (l : PipelineView). l.gone) queue ∙ is.let_go ∙ ap (λ (l : PipelineView). length l.outcomes) (sym queue);
      }

-- ---- a call that is refused, or fails for lack of memory

module _ (journal journal' : Noted) (p : Pipeline) (is : IsKept journal p) (r r' : Register) (are : AreMounted (known_of journal p) r) (client : ℕ) (call : Call) (m : MountCall) (asks : mount_call call ≡ Some m) where
  no_mount_refused : (c : MountCall) (fault : MountFault) → mounts c (Refused fault) ≡ None
  no_mount_refused (asked.Mount path device) fault = refl
  no_mount_refused c fault = refl

  no_unmount_refused : (c : MountCall) (fault : MountFault) (n : ℕ) → unmounts c (Refused fault) n ≡ false
  no_unmount_refused (asked.Unmount domain) fault n = refl
  no_unmount_refused c fault n = refl

  pub refused_kept : (fault : MountFault) → MountFails r r' m fault → Enters {X = Unit {0}} journal journal' client call (Err fault) → IsKept journal' p
  refused_kept NoMemory fails same = subst (λ j. IsKept j p) (sym same) is
  refused_kept fault fails entered = same_kept journal journal' p is r r' are client call m asks (Refused fault) fails.made entered (no_mount_refused m fault) (no_unmount_refused m fault)

  pub refused_mounts : (fault : MountFault) → MountFails r r' m fault → Enters {X = Unit {0}} journal journal' client call (Err fault) → AreMounted (known_of journal' p) r'
  refused_mounts NoMemory fails same = subst (λ j. AreMounted (known_of j p) r') (sym same) (subst (λ x. AreMounted (known_of journal p) x) (sym fails) are)
  refused_mounts fault fails entered = mounts_now journal journal' p is r r' are client call m asks (Refused fault) fails.made entered p refl

  pub refused_answer : length journal.log < 1000000 → (fault : MountFault) → MountFails r r' m fault → Enters {X = Unit {0}} journal journal' client call (Err fault)
      → Fails (known_of journal p) (known_of journal' p) (record { client = client; number = entries_of journal.log client; call = call }) (mount_fault fault)
  refused_answer room NoMemory fails same = ap (λ j. known_of j p) same
  refused_answer room (NoDomain n) fails entered = answer_now journal journal' p is r r' are client call m asks (Refused (NoDomain n)) fails.made entered p refl room
  refused_answer room (DeviceUsed n) fails entered = answer_now journal journal' p is r r' are client call m asks (Refused (DeviceUsed n)) fails.made entered p refl room
  refused_answer room (MountTaken n) fails entered = answer_now journal journal' p is r r' are client call m asks (Refused (MountTaken n)) fails.made entered p refl room

-- ---- mount

module _ (journal journal' : Noted) (p : Pipeline) (is : IsKept journal p) (r r' : Register) (are : AreMounted (known_of journal p) r) (client : ℕ) (path : List Step) (device : ℕ) (makes : Makes r r' (asked.Mount path device) Accepted) where
  abbrev world : List Domain
  world = world_in (queue_of p).domains

  abbrev so_far : List Once
  so_far = mounted (length world) (answers journal.log (queue_of p))

  accepted : reply_by (length world) so_far (asked.Mount path device) ≡ Accepted
  accepted = reply_is journal journal' p is r r' are client (Mount path device) (asked.Mount path device) refl Accepted makes

  -- the device is one of those that there are
  pub mount_low : device < length p.domains.items
  mount_low =
      let it : is_device (length world) device ≡ true = accepted_device (is_device (length world) device) (NoDomain device) (option_or (fault_if (was_mounted so_far device) (DeviceUsed device)) (option_map MountTaken (mount_at so_far path))) accepted in
      omega (arith, is_device_low (length world) device it, length-map (queue_of p).domains opened_as, length-map p.domains.items shown)

  -- and was not unmounted
  fresh : is_unmounted so_far device ≡ false
  fresh =
      let register : IsRegister so_far r = subst (λ n. IsRegister (made_of n (mounting (answers journal.log (queue_of p)))) r) are.devices are.calls in
      register.mounted_first device (accepted_fresh (not (is_device (length world) device)) (was_mounted so_far device) (NoDomain device) (DeviceUsed device) (option_map MountTaken (mount_at so_far path)) accepted)

  module _ (entered : IsJotted journal journal' client (Mount path device)) (p' : Pipeline) (kept : AllKept p'.domains.items) (queue : queue_of p' ≡ set_live (queue_of p) device true) where
    pub mount_kept : IsKept journal' p'
    mount_kept = set_kept journal journal' p is r r' are client (Mount path device) (asked.Mount path device) refl Accepted makes entered p' kept device true queue mount_low (live-mounted so_far path device fresh)

    pub mount_mounts : AreMounted (known_of journal' p') r'
    mount_mounts = mounts_now journal journal' p is r r' are client (Mount path device) (asked.Mount path device) refl Accepted makes entered p' (ap (λ (l : PipelineView). world_in l.domains) queue ∙ world-with (queue_of p).domains device true)

    pub mount_answer : length journal.log < 1000000 → Made (known_of journal p) (known_of journal' p') (record { client = client; number = entries_of journal.log client; call = Mount path device }) (mount_reply Accepted)
    mount_answer room = answer_now journal journal' p is r r' are client (Mount path device) (asked.Mount path device) refl Accepted makes entered p' (ap (λ (l : PipelineView). world_in l.domains) queue ∙ world-with (queue_of p).domains device true) room

-- ---- unmount

module _ (journal journal' : Noted) (p : Pipeline) (is : IsKept journal p) (r r' : Register) (are : AreMounted (known_of journal p) r) (client domain : ℕ) (makes : Makes r r' (asked.Unmount domain) Accepted) where
  abbrev there : List Domain
  there = world_in (queue_of p).domains

  abbrev earlier : List Once
  earlier = mounted (length there) (answers journal.log (queue_of p))

  was_live : (nat_eq domain 0 ≡ false) × (is_up earlier domain ≡ true)
  was_live = unmount_accepted (nat_eq domain 0) (is_up earlier domain) (NoDomain domain) (reply_is journal journal' p is r r' are client (Unmount domain) (asked.Unmount domain) refl Accepted makes)

  pub unmount_low : domain < length p.domains.items
  unmount_low =
      let long : length there ≡ length p.domains.items = length-map (queue_of p).domains opened_as ∙ length-map p.domains.items shown in
      let some : 0 < length there = omega (arith, is.current.sound.some, length-map (queue_of p).domains opened_as) in
      omega (arith, live_there there some (answers journal.log (queue_of p)) domain was_live.1, long)

  module _ (entered : IsJotted journal journal' client (Unmount domain)) (p' : Pipeline) (kept : AllKept p'.domains.items) (queue : queue_of p' ≡ set_live (queue_of p) domain false) where
    pub unmount_kept : IsKept journal' p'
    unmount_kept = set_kept journal journal' p is r r' are client (Unmount domain) (asked.Unmount domain) refl Accepted makes entered p' kept domain false queue unmount_low (live-unmounted earlier domain was_live.0)

    pub unmount_mounts : AreMounted (known_of journal' p') r'
    unmount_mounts = mounts_now journal journal' p is r r' are client (Unmount domain) (asked.Unmount domain) refl Accepted makes entered p' (ap (λ (l : PipelineView). world_in l.domains) queue ∙ world-with (queue_of p).domains domain false)

    pub unmount_answer : length journal.log < 1000000 → Made (known_of journal p) (known_of journal' p') (record { client = client; number = entries_of journal.log client; call = Unmount domain }) (mount_reply Accepted)
    unmount_answer room = answer_now journal journal' p is r r' are client (Unmount domain) (asked.Unmount domain) refl Accepted makes entered p' (ap (λ (l : PipelineView). world_in l.domains) queue ∙ world-with (queue_of p).domains domain false) room
