-- The input of a broker: a script without clients and order, and its world.
use Rattle.std.proofs.Common.{◌≡◌, ℕ, zero, suc, ◌<◌, ◌≤◌, List, [], ◌∷◌, Option, None, Some, Result, Ok, Err, length, refl, ap, sym, ◌∙◌, subst, arith}
use Rattle.std.specs.Prelude.{codes, slice_get}
use Rattle.std.specs.declared.alloc.Global.{Global}
use Rattle.std.specs.declared.sync.Arc.{Arc}
use Rattle.std.proofs.lemmas.List.{length-map}
use Rattle.sal_history.specs.declared.call.Entry.{Entry}
use Rattle.sal_script.specs.Reading.{IsFaultOf}
use Rattle.sal_script.specs.Script.{one_step}
use Rattle.sal_script.specs.Tables.{Versions, tables_of, versions_of}
use Rattle.sal_script.specs.declared.fault.ScriptFault.{ScriptFault}
use Rattle.sal_script.specs.declared.fault.ScriptFault.TheVariants as script
use Rattle.sal_embed.specs.declared.caller.Caller.{Caller}
use Rattle.sal_embed.specs.declared.clients.Clients.{Clients}
use Rattle.sal_embed.specs.Answers.{fault_of}
use Rattle.sal_embed.specs.Broker.{AreCallers}
use Rattle.sal_embed.specs.Outcomes.{Steps}
use Rattle.sal_embed.specs.Whole.{IsWhole}
use Rattle.sal_types.specs.Reading.{◌>>=◌}
use Rattle.sal_schema.specs.declared.table.SchemaTable.{SchemaTable}
use Rattle.sal_history.specs.World.{Domain}
use Rattle.sal_script.specs.Moves.{Move}
use Rattle.sal_script.specs.Script.{Parts}
use Rattle.sal_prepare.specs.Scripted.{IsStatusOf, Prepared, domains_of, tables_in, over_world, prepared, prepared_of, reader_versions, world_over}
use Rattle.sal_prepare.specs.declared.status.Status.{Status}
use Rattle.sal_prepare.specs.declared.status.Status.TheVariants.{Done, BadWords, ReadFault, WriteFault, TooLong, BadScript, BadSchema, BadOpening, BadOrder, NoMemory, NoPart, BadStream, BadExport}
use Rattle.sal_prepare.proofs.Each.{bind_fault}
use Rattle.sal_embed.specs.Laws.{WorldsAreOfModules}
use Rattle.sal_embed.specs.Opening.{IsBadAt, IsBegun, bare, opened, played_by, reads_of, without, world_of}

-- ---- members that a script may not have

-- the first of them is the status
pub bad_first : {X A : Type 0} (place : List ℕ) (xs : List X) (status : Status) → (xs ≡ [] → ⊥) → IsBadAt place status → (made : Result A Status) → IsStatusOf (without place xs made) status
bad_first place [] status some bad made = absurd (some refl)
bad_first place (x ∷ xs) NoMemory some bad made = tt
bad_first place (x ∷ xs) (BadScript named) some bad made = ap (λ (p : List ℕ). Err (BadScript p)) (sym bad)
bad_first place (x ∷ xs) (BadSchema n text) some bad made = absurd bad
bad_first place (x ∷ xs) (BadOpening text) some bad made = absurd bad
bad_first place (x ∷ xs) Done some bad made = absurd bad
bad_first place (x ∷ xs) BadWords some bad made = absurd bad
bad_first place (x ∷ xs) ReadFault some bad made = absurd bad
bad_first place (x ∷ xs) WriteFault some bad made = absurd bad
bad_first place (x ∷ xs) TooLong some bad made = absurd bad
bad_first place (x ∷ xs) (BadOrder index) some bad made = absurd bad
bad_first place (x ∷ xs) NoPart some bad made = absurd bad
bad_first place (x ∷ xs) (BadStream text) some bad made = absurd bad
bad_first place (x ∷ xs) (BadExport commit) some bad made = absurd bad

module _ (it : Prepared) where
  -- a script with clients is refused
  pub clients_bad : (status : Status) → (it.parts.clients ≡ [] → ⊥) → IsBadAt (codes "clients") status → IsStatusOf (bare it) status
  clients_bad status some bad = bad_first (codes "clients") it.parts.clients status some bad (without (codes "order") it.parts.order (Ok it))

  -- so is one without, with an order
  pub order_bad : (status : Status) → it.parts.clients ≡ [] → (it.parts.order ≡ [] → ⊥) → IsBadAt (codes "order") status → IsStatusOf (bare it) status
  order_bad status none some bad =
      subst (λ (xs : List (List Move)). IsStatusOf (without (codes "clients") xs (without (codes "order") it.parts.order (Ok it))) status) (sym none)
      (bad_first {A = Prepared} (codes "order") it.parts.order status some bad (Ok it))

  pub is_bare : it.parts.clients ≡ [] → it.parts.order ≡ [] → bare it ≡ Ok it
  is_bare clients order =
      ap (λ (xs : List (List Move)). without (codes "clients") xs (without (codes "order") it.parts.order (Ok it))) clients
      ∙ ap (λ (xs : List ℕ). let made : Result Prepared Status = without (codes "order") xs (Ok it) in made) order

-- an opened script has the world of the prepared one
pub opened_world : (bytes : List ℕ) (it : Prepared) → prepared bytes ≡ Ok it → bare it ≡ Ok it → world_of (opened bytes) ≡ Ok it.world
opened_world bytes it made is = ap (λ (r : Result Prepared Status). world_of (r >>= bare)) made ∙ ap world_of is

-- and the same status
pub opened_fault : (bytes : List ℕ) (status : Status) → IsStatusOf (prepared bytes) status → IsStatusOf (world_of (opened bytes)) status
opened_fault bytes status is = bind_fault (opened bytes) (λ (it : Prepared). Ok it.world) status (bind_fault (prepared bytes) bare status is)

pub opened_bad : (bytes : List ℕ) (it : Prepared) (status : Status) → prepared bytes ≡ Ok it → IsStatusOf (bare it) status → IsStatusOf (world_of (opened bytes)) status
opened_bad bytes it status made is =
    bind_fault (opened bytes) (λ (p : Prepared). Ok p.world) status (subst (λ (r : Result Prepared Status). IsStatusOf (r >>= bare) status) (sym made) is)

-- and whether reads are checked is the same
pub opened_reads : (bytes : List ℕ) (it : Prepared) → prepared bytes ≡ Ok it → bare it ≡ Ok it → reads_of (opened bytes) ≡ Ok it.parts.checked
opened_reads bytes it made is = ap (λ (r : Result Prepared Status). reads_of (r >>= bare)) made ∙ ap reads_of is

pub reads_fault : (bytes : List ℕ) (status : Status) → IsStatusOf (prepared bytes) status → IsStatusOf (reads_of (opened bytes)) status
reads_fault bytes status is = bind_fault (opened bytes) (λ (it : Prepared). Ok it.parts.checked) status (bind_fault (prepared bytes) bare status is)

pub reads_bad : (bytes : List ℕ) (it : Prepared) (status : Status) → prepared bytes ≡ Ok it → IsStatusOf (bare it) status → IsStatusOf (reads_of (opened bytes)) status
reads_bad bytes it status made is =
    bind_fault (opened bytes) (λ (p : Prepared). Ok p.parts.checked) status (subst (λ (r : Result Prepared Status). IsStatusOf (r >>= bare) status) (sym made) is)

-- ---- no step was made

none_at : {A : Type 0} (i : ℕ) (x : A) → slice_get [] i ≡ Some x → ⊥
none_at zero x at = cc
none_at (suc i) x at = cc

pub begun : (it : Clients) → it.hub.log ≡ [] → it.callers.items ≡ [] → IsBegun it
begun it log callers = record {
  log = log;
  callers = callers;
  come = record {
    stands = λ c caller at. absurd (none_at c caller (subst (λ (xs : List Caller). slice_get xs c ≡ Some caller) callers at));
    beyond = λ c out. (refl, refl);
    placed = λ i e at. absurd (none_at i e (subst (λ (es : List Entry). slice_get es i ≡ Some e) log at));
  };
}

pub whole_begun : (it : Clients) (schemas : List (Arc SchemaTable Global)) (readers : List Versions) → tables_in schemas ≡ tables_of it.hub.world → length schemas ≤ 64 → readers ≡ versions_of it.hub.world → it.callers.items ≡ []
    → IsWhole it (tables_in schemas) readers
whole_begun it schemas readers tables few versions callers = record {
  tables = tables;
  few = omega (arith, few, length-map schemas (λ (s : Arc SchemaTable Global). s.value));
  versions = versions;
  callers = λ c caller at. absurd (none_at c caller (subst (λ (xs : List Caller). slice_get xs c ≡ Some caller) callers at));
  placed = omega (arith, ap length callers);
}

-- ---- after a call

pub whole_on : (old new : Clients) (schemas : List SchemaTable) (readers : List Versions) → IsWhole old schemas readers → new.hub.world ≡ old.hub.world → AreCallers new.hub new.callers.items → length new.callers.items ≤ 65536
    → IsWhole new schemas readers
whole_on old new schemas readers was world callers placed = record {
  tables = was.tables ∙ ap tables_of (sym world);
  few = was.few;
  versions = was.versions ∙ ap versions_of (sym world);
  callers = callers;
  placed = placed;
}

-- bytes that are no step
pub bad_step : (it : Clients) (c : ℕ) (bytes : List ℕ) (e : ScriptFault) → c < 65536 → IsFaultOf (one_step it.checked_reads bytes) e → Steps it it c bytes (Err (fault_of e))
bad_step it c bytes (script.BadScript place) within is = (within, (place, is), refl)
bad_step it c bytes script.NoMemory within is = (record { hub = refl; come = λ programs replies was. was }, λ k other. refl)

-- ---- the world of a script with other clients

abbrev over : Parts → List Domain → Prepared
over parts world = record { parts = parts; world = world }

abbrev world_in : List Domain → Result Prepared Status → List Domain
world_in other (Ok it) = it.world
world_in other (Err status) = other

module _ (parts other : Parts) (world : List Domain) where
  worlds_same : (made : Result (List Domain) Status) → (made >>= (λ w. Ok (over parts w))) ≡ Ok (over parts world) → (made >>= (λ w. Ok (over other w))) ≡ Ok (over other world)
  worlds_same (Ok w) is = ap (λ (v : List Domain). let made : Result Prepared Status = Ok (over other v) in made) (ap (world_in w) is)
  worlds_same (Err status) is = cc

module _ (parts : Parts) (world : List Domain) (clients : List (List Move)) (order : List ℕ) where
  readers_same : (versions : Result (List (List SchemaTable)) Status) → (versions >>= over_world parts) ≡ Ok (over parts world) → (versions >>= over_world (played_by clients order parts)) ≡ Ok (over (played_by clients order parts) world)
  readers_same (Ok tables) is = worlds_same parts (played_by clients order parts) world (world_over parts.rules (domains_of parts) tables) is
  readers_same (Err status) is = cc

pub worlds_are_of_modules : WorldsAreOfModules
worlds_are_of_modules parts world clients order made = readers_same parts world clients order (reader_versions parts) made
