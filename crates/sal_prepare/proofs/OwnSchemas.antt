-- The patterns of all versions of one schema.
use Rattle.std.proofs.Common.{◌≡◌, ℕ, ◌+◌, ◌<◌, zero, suc, true, false, ◌||◌, List, [], ◌∷◌, length, get_or, take, Option, Some, Result, Ok, Err, refl, ap, sym, ◌∙◌, subst, arith}
use Rattle.std.proofs.lemmas.Bool.{or_parts}
use Rattle.std.specs.Prelude.{slice_get, IfOk, IfErr}
use Rattle.std.proofs.lemmas.List.{length-map, take_all}
use Rattle.std.specs.declared.alloc.Global.{Global}
use Rattle.std.specs.declared.sync.Arc.{Arc}
use Rattle.std.specs.List.{list_any}
use Rattle.std.specs.Option.{option_map_or}
use Rattle.sal_schema.specs.declared.table.SchemaTable.{SchemaTable}
use Rattle.sal_client.specs.Malformed.{is_malformed}
use Rattle.sal_prepare.specs.declared.status.Status.{Status}
use Rattle.sal_prepare.specs.declared.status.Status.TheVariants.{Done, BadWords, ReadFault, WriteFault, TooLong, BadScript, BadSchema, BadOpening, BadOrder, NoMemory, NoPart, BadStream, BadExport}
use Rattle.sal_prepare.specs.OwnSchemas.{IsUnformedBy}
use Rattle.sal_prepare.specs.Scripted.{tables_in, Comes, IsStatusOf, IsUnformed, if_formed, or_unformed, pattern_text, unformed}
use Rattle.sal_script.specs.Tables.{last_among}
use Rattle.sal_client.proofs.Compiled.{next_table, none_more, older_formed}
use Rattle.sal_versions.specs.Versions.{AreInOrder}
use Rattle.sal_prepare.proofs.Formed.{found_from, none_from}
use Rattle.sal_prepare.proofs.Statuses.{same_fault}

-- a version with a malformed pattern has the status of that
pub unformed_by : (v : ℕ) (table : SchemaTable) (status : Status) → is_malformed table ≡ true → IsUnformed 0 v status → IsUnformedBy v table status
unformed_by v table NoMemory bad told = tt
unformed_by v table (BadSchema n text) bad told = (bad, number (same_fault told), words (same_fault told))
  where
    number : BadSchema 0 (pattern_text v) ≡ BadSchema n text → n ≡ 0
    number e = cc

    words : BadSchema 0 (pattern_text v) ≡ BadSchema n text → text ≡ pattern_text v
    words e = cc
unformed_by v table (BadScript place) bad told = absurd (other told)
  where
    other : (let r : Result (List SchemaTable) Status = unformed 0 v in r) ≡ Err (BadScript place) → ⊥
    other e = cc
unformed_by v table (BadOpening text) bad told = absurd (other told)
  where
    other : (let r : Result (List SchemaTable) Status = unformed 0 v in r) ≡ Err (BadOpening text) → ⊥
    other e = cc
unformed_by v table Done bad told = absurd told
unformed_by v table BadWords bad told = absurd told
unformed_by v table ReadFault bad told = absurd told
unformed_by v table WriteFault bad told = absurd told
unformed_by v table TooLong bad told = absurd told
unformed_by v table (BadOrder index) bad told = absurd told
unformed_by v table NoPart bad told = absurd told
unformed_by v table (BadStream text) bad told = absurd told
unformed_by v table (BadExport commit) bad told = absurd told

-- the versions before it are well formed, and so it is the first one that counts
pub first_unformed : (tables : List SchemaTable) (v : ℕ) (table : SchemaTable) (status : Status) → slice_get tables v ≡ Some table → list_any is_malformed (take v tables) ≡ false
    → IsUnformedBy v table status → IsStatusOf (if_formed 0 tables) status
first_unformed tables v table NoMemory at none told = tt
first_unformed tables v table (BadSchema n text) at none told =
    let here : option_map_or is_malformed (slice_get tables v) false ≡ true = ap (λ (o : Option SchemaTable). option_map_or is_malformed o false) at ∙ told.0 in
    let own : 0 + v ≡ v = omega (arith) in
    ap (or_unformed 0 tables) (found_from tables 0 v here none ∙ ap (λ k. Some k) own)
    ∙ ap (λ k. Err (BadSchema k (pattern_text v))) (sym told.1)
    ∙ ap (λ t. Err (BadSchema n t)) (sym told.2)
first_unformed tables v table (BadScript place) at none told = absurd told
first_unformed tables v table (BadOpening text) at none told = absurd told
first_unformed tables v table Done at none told = absurd told
first_unformed tables v table BadWords at none told = absurd told
first_unformed tables v table ReadFault at none told = absurd told
first_unformed tables v table WriteFault at none told = absurd told
first_unformed tables v table TooLong at none told = absurd told
first_unformed tables v table (BadOrder index) at none told = absurd told
first_unformed tables v table NoPart at none told = absurd told
first_unformed tables v table (BadStream text) at none told = absurd told
first_unformed tables v table (BadExport commit) at none told = absurd told

-- if the last one is well formed, all are
pub older_well : (tables : List SchemaTable) → AreInOrder tables → is_malformed (last_among tables) ≡ false → list_any is_malformed tables ≡ false
older_well [] order last = refl
older_well (t ∷ []) order last = ap (λ b. b || false) last
older_well (t ∷ next ∷ more) order last =
    let rest : list_any is_malformed (next ∷ more) ≡ false = older_well (next ∷ more) order.1 last in
    let newer : is_malformed next ≡ false = (or_parts (is_malformed next) (list_any is_malformed more) rest).0 in
    ap (λ b. b || list_any is_malformed (next ∷ more)) (older_formed next t order.0 newer) ∙ rest

-- if all are well formed, they are the versions
pub all_well : (tables : List SchemaTable) → list_any is_malformed tables ≡ false → if_formed 0 tables ≡ Ok tables
all_well tables none = ap (or_unformed 0 tables) (none_from tables 0 none)

-- ---- version after version

abbrev Shared : Type 0
Shared = Arc SchemaTable Global

table_got : (versions : List Shared) (i : ℕ) (s : Shared) → i < length versions → s ≡ get_or versions i s → slice_get (tables_in versions) i ≡ Some s.value
table_got [] i s inside at = absurd (omega (arith, inside))
table_got (x ∷ versions) zero s inside at = ap (λ (y : Shared). Some y.value) (sym at)
table_got (x ∷ versions) (suc i) s inside at = table_got versions i s (omega (arith, inside)) at

-- this one is the first that is not well formed
pub stops_at : (versions : List Shared) (i : ℕ) (s : Shared) (status : Status) → i < length versions → s ≡ get_or versions i s → list_any is_malformed (take i (tables_in versions)) ≡ false → IsUnformedBy i s.value status
    → IsStatusOf (if_formed 0 (tables_in versions)) status
stops_at versions i s status inside at none told = first_unformed (tables_in versions) i s.value status (table_got versions i s inside at) none told

-- this one is well formed, too
pub goes_on : (versions : List Shared) (i : ℕ) (s : Shared) → i < length versions → s ≡ get_or versions i s → list_any is_malformed (take i (tables_in versions)) ≡ false → is_malformed s.value ≡ false
    → list_any is_malformed (take (i + 1) (tables_in versions)) ≡ false
goes_on versions i s inside at none well =
    ap (λ (ts : List SchemaTable). list_any is_malformed ts) (next_table versions i s inside at) ∙ none_more is_malformed (take i (tables_in versions)) s.value none well

-- and it is the last one
pub all_go_on : (versions : List Shared) (i : ℕ) (s : Shared) → i + 1 ≡ length versions → s ≡ get_or versions i s → list_any is_malformed (take i (tables_in versions)) ≡ false → is_malformed s.value ≡ false
    → if_formed 0 (tables_in versions) ≡ Ok (tables_in versions)
all_go_on versions i s last at none well =
    let all : list_any is_malformed (take (i + 1) (tables_in versions)) ≡ false = goes_on versions i s (omega (arith, last)) at none well in
    let long : length (tables_in versions) ≡ length versions = length-map versions (λ (x : Shared). x.value) in
    all_well (tables_in versions) (subst (λ (ts : List SchemaTable). list_any is_malformed ts ≡ false) (take_all (i + 1) (tables_in versions) (omega (arith, long, last))) all)

-- a result of the last one is a result of all
pub comes_last : {X : Type 0} (versions : List Shared) (i : ℕ) (s : Shared) (r : Result X Status) → i + 1 ≡ length versions → s ≡ get_or versions i s → list_any is_malformed (take i (tables_in versions)) ≡ false
    → IfOk r (λ x. is_malformed s.value ≡ false) → IfErr r (IsUnformedBy i s.value) → Comes (λ x. tables_in versions) (if_formed 0 (tables_in versions)) r
comes_last versions i s (Ok x) last at none well bad = all_go_on versions i s last at none well
comes_last versions i s (Err e) last at none well bad = stops_at versions i s e (omega (arith, last)) at none bad
