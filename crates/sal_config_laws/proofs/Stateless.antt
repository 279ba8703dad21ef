-- Configurations without state data, operation by operation and commit by commit.
use Rattle.std.proofs.Common.{◌≡◌, ℕ, zero, suc, Bool, true, false, not, ◌&&◌, List, [], ◌∷◌, ◌++◌, map, take, Option, None, Some, refl, ap, sym, ◌∙◌, subst, arith, if◌then◌else◌}
use Rattle.std.specs.Prelude.{find, nat_eq, option_map, slice_get}
use Rattle.std.specs.List.{list_all}
use Rattle.std.specs.Option.{option_or}
use Rattle.std.proofs.lemmas.Bool.{and_parts, and_from, eqb-true}
use Rattle.std.proofs.lemmas.Option.{none-some, same_Some}
use Rattle.sal_types.specs.declared.value.Store.{Store}
use Rattle.sal_types.specs.declared.value.Store.TheVariants.{Config}
use Rattle.sal_types.specs.declared.value.Step.{Step}
use Rattle.sal_types.specs.declared.value.Cell.{Cell}
use Rattle.sal_types.specs.declared.row.Row.{Row}
use Rattle.sal_types.specs.Prefix.{is_prefix}
use Rattle.sal_types.specs.Tree.{cell}
use Rattle.sal_rows.specs.declared.op.Act.{Act}
use Rattle.sal_rows.specs.declared.op.Act.TheVariants.{Put, Merge, Delete, Read}
use Rattle.sal_rows.specs.declared.op.Op.{Op}
use Rattle.sal_rows.specs.declared.outcome.Outcome.{Outcome}
use Rattle.sal_rows.specs.Apply.{act_setting, apply_ops, cell_by, is_read, last_setting, rows_of_act, same_store, setting}
use Rattle.sal_rows.specs.Commits.{tree_after}
use Rattle.sal_rows.proofs.Applied.{cell-apply_ops, IsAscending-apply_ops}
use Rattle.sal_rows.proofs.Quiet.{no_map, same_stores}
use Rattle.sal_schema.specs.declared.table.SchemaTable.{SchemaTable}
use Rattle.sal_schema.specs.Fitting.{is_key_leaf, is_of_state, is_root, row_fits, cell_fits, is_whole_above, is_in_message}
use Rattle.sal_schema.specs.Paths.{fits_path}
use Rattle.sal_schema.specs.Valid.{IsTable}
use Rattle.sal_schema.specs.Versions.{Extends}
use Rattle.sal_schema.proofs.Stays.{fit-inside, of-state-same}
use Rattle.sal_rules.specs.declared.fault.TxFault.{TxFault}
use Rattle.sal_rules.specs.declared.fault.TxFault.TheVariants.{KeyLeaf, NotConfig, ParentMissing, RootPath}
use Rattle.sal_rules.specs.Refusals.{first_state, missing_of, not_config, or_else, refusal, when}
use Rattle.sal_history.specs.History.{commits, history, outcomes, sents}
use Rattle.sal_history.specs.Submissions.{Sent, done, done_ops, if_done, is_done}
use Rattle.sal_history.specs.Versions.{schema_version, tables_now}
use Rattle.sal_history.specs.World.{Domain, opening_of, table_of}
use Rattle.sal_history.proofs.Versions.{first-version}
use Rattle.sal_history_laws.specs.Lawful.{AreLawful}
use Rattle.sal_history_laws.specs.Logs.{AreSound, IsSentLawful}
use Rattle.sal_history_laws.proofs.Closing.{no_first, no_second}
use Rattle.sal_history_laws.proofs.Standing.{at_cell, at_rows}
use Rattle.sal_history_laws.proofs.Versions.{opening_is, table_is, versions_extend}
use Rattle.sal_config_laws.specs.Configurations.{BeginWithoutState, ConfigurationsHaveNoState, WritesLeaveNoState, is_config, is_config_row}

-- ---- an operation that is not refused

-- the property if nothing is found
none_found : {X : Type 0} (p : X → Bool) (xs : List X) → find p xs ≡ None → list_all (λ x. not (p x)) xs ≡ true
none_found p [] e = refl
none_found p (x ∷ xs) e =
    elim (p x) as (λ b. p x ≡ b → (if b then Some x else find p xs) ≡ None → (not (p x) && list_all (λ y. not (p y)) xs) ≡ true) [
      | true ↦ λ is h. cc
      | false ↦ λ is h. and_from (not (p x)) (list_all (λ y. not (p y)) xs) (ap not is) (none_found p xs h)
    ] refl e

module _ (table : SchemaTable) where
  -- rows among which none of state was found
  rows_free : (path : List Step) (rows : List Row) → first_state table path rows ≡ None → is_config table rows ≡ true
  rows_free path rows e =
      elim (is_of_state table path) as (λ b. (if b then Some path else option_map (λ (row : Row). row.path) (find (λ (row : Row). is_of_state table row.path) rows)) ≡ None → is_config table rows ≡ true) [
        | true ↦ λ h. cc
        | false ↦ λ h. none_found (λ (row : Row). is_of_state table row.path) rows (no_map (λ (row : Row). row.path) (find (λ (row : Row). is_of_state table row.path) rows) h)
      ] e

  -- an operation on the configuration that is not refused has no row of state
  op_free : (tree : List Row) (op : Op) → refusal table tree op ≡ None → op.store ≡ Config → is_config table (rows_of_act op.act) ≡ true
  op_free tree op allowed mine =
      let state : Option TxFault = option_map NotConfig (not_config table op.store op.path (rows_of_act op.act)) in
      let parent : Option TxFault = option_map ParentMissing (missing_of table tree op) in
      let behind_root : or_else (when (is_key_leaf table op.path) (KeyLeaf op.path)) (or_else state parent) ≡ None = no_second (when (is_root op.path) RootPath) (or_else (when (is_key_leaf table op.path) (KeyLeaf op.path)) (or_else state parent)) allowed in
      let behind_key : or_else state parent ≡ None = no_second (when (is_key_leaf table op.path) (KeyLeaf op.path)) (or_else state parent) behind_root in
      let none : not_config table op.store op.path (rows_of_act op.act) ≡ None = no_map NotConfig (not_config table op.store op.path (rows_of_act op.act)) (no_first state parent behind_key) in
      rows_free op.path (rows_of_act op.act) (subst (λ s. not_config table s op.path (rows_of_act op.act) ≡ None) mine none)

  -- a read has no rows
  read_free : (act : Act) → is_read act ≡ true → is_config table (rows_of_act act) ≡ true
  read_free (Put rows) e = cc
  read_free (Merge rows) e = cc
  read_free Delete e = cc
  read_free Read e = refl

  each_free : (tree : List Row) (op : Op) → (is_read op.act ≡ false → refusal table tree op ≡ None) → op.store ≡ Config → is_config table (rows_of_act op.act) ≡ true
  each_free tree op allowed mine =
      elim (is_read op.act) as (λ b. is_read op.act ≡ b → is_config table (rows_of_act op.act) ≡ true) [
        | true ↦ λ reads. read_free op.act reads
        | false ↦ λ writes. op_free tree op (allowed writes) mine
      ] refl

  -- the operations of a list on the configuration have none
  abbrev pub AreFree : List Op → Type 0
  AreFree [] = Unit {0}
  AreFree (op ∷ ops) = (op.store ≡ Config → is_config table (rows_of_act op.act) ≡ true) × AreFree ops

  lawful_free : (base : Store → List Row) (earlier ops : List Op) → AreLawful table base earlier ops → AreFree ops
  lawful_free base earlier [] lawful = tt
  lawful_free base earlier (op ∷ ops) lawful = (λ mine. each_free (apply_ops (base op.store) op.store earlier) op (λ writes. (lawful.0 writes).1) mine, lawful_free base (earlier ++ op ∷ []) ops lawful.1)

  -- ---- paths that are set

  act_free : (p : List Step) (act : Act) (r : List Step) (c : Cell) → is_config table (rows_of_act act) ≡ true → act_setting p act r ≡ Some (Some c) → not (is_of_state table r) ≡ true
  act_free p (Put rows) r c all e =
      elim (is_prefix p r) as (λ b. (if b then Some (cell rows r) else None) ≡ Some (Some c) → not (is_of_state table r) ≡ true) [
        | true ↦ λ h. at_cell (is_config_row table) rows r c all (same_Some (cell rows r) (Some c) h)
        | false ↦ λ h. absurd (none-some (Some c) h)
      ] e
  act_free p (Merge rows) r c all e =
      elim (cell rows r) as (λ o. cell rows r ≡ o → option_map Some o ≡ Some (Some c) → not (is_of_state table r) ≡ true) [
        | None ↦ λ is h. absurd (none-some (Some c) h)
        | Some d ↦ λ is h. at_cell (is_config_row table) rows r c all (is ∙ same_Some (Some d) (Some c) h)
      ] refl e
  act_free p Delete r c all e =
      elim (is_prefix p r) as (λ b. (if b then Some None else None) ≡ Some (Some c) → not (is_of_state table r) ≡ true) [
        | true ↦ λ h. absurd (none-some c (same_Some None (Some c) h))
        | false ↦ λ h. absurd (none-some (Some c) h)
      ] e
  act_free p Read r c all e = absurd (none-some (Some c) e)

  set_free : (ops : List Op) (r : List Step) (c : Cell) → AreFree ops → last_setting Config ops r ≡ Some (Some c) → not (is_of_state table r) ≡ true
  set_free [] r c all e = absurd (none-some (Some c) e)
  set_free (op ∷ ops) r c all e =
      elim (last_setting Config ops r) as (λ o. last_setting Config ops r ≡ o → option_or o (setting Config op r) ≡ Some (Some c) → not (is_of_state table r) ≡ true) [
        | Some x ↦ λ is h. set_free ops r c all.1 (is ∙ h)
        | None ↦ λ is h. here h
      ] refl e
    where
      here : setting Config op r ≡ Some (Some c) → not (is_of_state table r) ≡ true
      here h =
          elim (same_store op.store Config) as (λ b. same_store op.store Config ≡ b → (if b then act_setting op.path op.act r else None) ≡ Some (Some c) → not (is_of_state table r) ≡ true) [
            | true ↦ λ mine k. act_free op.path op.act r c (all.0 (same_stores op.store Config mine)) k
            | false ↦ λ other k. absurd (none-some (Some c) k)
          ] refl h

  -- ---- trees

  apply_free : (tree : List Row) (ops : List Op) → is_config table tree ≡ true → AreFree ops → is_config table (apply_ops tree Config ops) ≡ true
  apply_free tree ops all free =
      at_rows (is_config_row table) (apply_ops tree Config ops) (IsAscending-apply_ops tree Config ops) (λ r c e. by r c (sym (cell-apply_ops tree Config ops r) ∙ e))
    where
      by : (r : List Step) (c : Cell) → cell_by (last_setting Config ops r) (cell tree r) ≡ Some c → not (is_of_state table r) ≡ true
      by r c e =
          elim (last_setting Config ops r) as (λ o. last_setting Config ops r ≡ o → cell_by o (cell tree r) ≡ Some c → not (is_of_state table r) ≡ true) [
            | None ↦ λ is h. at_cell (is_config_row table) tree r c all h
            | Some x ↦ λ is h. set_free ops r c free (is ∙ ap Some h)
          ] refl e

  abbrev pub AllFree : List (List Op) → Type 0
  AllFree [] = Unit {0}
  AllFree (ops ∷ cs) = AreFree ops × AllFree cs

  commits_free : (tree : List Row) (cs : List (List Op)) → is_config table tree ≡ true → AllFree cs → is_config table (tree_after Config tree cs) ≡ true
  commits_free tree [] all free = all
  commits_free tree (ops ∷ cs) all free = commits_free (apply_ops tree Config ops) cs (apply_free tree ops all free.0) free.1

  take_free : (k : ℕ) (cs : List (List Op)) → AllFree cs → AllFree (take k cs)
  take_free zero cs free = tt
  take_free (suc k) [] free = tt
  take_free (suc k) (ops ∷ cs) free = (free.0, take_free k cs free.1)

-- ---- the commits of a log

module _ (tables : ℕ → SchemaTable) (domain : ℕ) where
  abbrev AllLawful : List Sent → Type 0
  AllLawful ss = (i : ℕ) (s : Sent) → slice_get ss i ≡ Some s → IsSentLawful tables s

  -- a submission of the domain
  sent_free : (s : Sent) → nat_eq s.base.domain domain ≡ true → IsSentLawful tables s → AreFree (tables domain) s.ops
  sent_free s mine lawful =
      subst (λ n. AreFree (tables n) s.ops) (eqb-true s.base.domain domain mine) (lawful_free (tables s.base.domain) s.base.trees [] s.ops lawful)

  done_free : (ss : List Sent) (os : List Outcome) → AllLawful ss → AllFree (tables domain) (done_ops domain ss os)
  done_free [] os lawful = tt
  done_free (s ∷ ss) [] lawful = tt
  done_free (s ∷ ss) (o ∷ os) lawful =
      let rest : AllFree (tables domain) (done_ops domain ss os) = done_free ss os (λ i t at. lawful (suc i) t at) in
      elim (nat_eq s.base.domain domain) as (λ b. nat_eq s.base.domain domain ≡ b → AllFree (tables domain) (map (λ (x : Sent). x.ops) ((if b then if_done o s else []) ++ done domain ss os))) [
        | true ↦ λ mine.
            elim (is_done o) as (λ b. AllFree (tables domain) (map (λ (x : Sent). x.ops) ((if b then s ∷ [] else []) ++ done domain ss os))) [
              | true ↦ (sent_free s mine (lawful 0 s refl), rest)
              | false ↦ rest
            ]
        | false ↦ λ other. rest
      ] refl

-- ---- openings

module _ (newer older : SchemaTable) (good : IsTable older) (e : Extends newer older) where
  -- rows that fit the older version are of state by both or by none
  later_free : (rows whole : List Row) → list_all (row_fits older [] whole) rows ≡ true → is_config older rows ≡ true → is_config newer rows ≡ true
  later_free [] whole fit free = refl
  later_free (row ∷ rows) whole fit free =
      let fit_parts = and_parts (row_fits older [] whole row) (list_all (row_fits older [] whole) rows) fit in
      let free_parts = and_parts (not (is_of_state older row.path)) (is_config older rows) free in
      let front = and_parts ((fits_path older row.path && is_prefix [] row.path) && (cell_fits older row.path row.cell && is_whole_above older whole [] row.path)) (not (is_in_message older row.path)) fit_parts.0 in
      let places = and_parts (fits_path older row.path && is_prefix [] row.path) (cell_fits older row.path row.cell && is_whole_above older whole [] row.path) front.0 in
      let path = and_parts (fits_path older row.path) (is_prefix [] row.path) places.0 in
      let same = of-state-same newer older good e row.path (fit-inside newer older good e row.path path.0) in
      and_from (not (is_of_state newer row.path)) (is_config newer rows) (ap not same ∙ free_parts.0) (later_free rows whole fit_parts.1 free_parts.1)

-- by version 0
first_free : (world : List Domain) (number : ℕ) → BeginWithoutState world → is_config (table_of world 0 number) (opening_of world number Config) ≡ true
first_free [] number begin = refl
first_free (d ∷ world) zero begin = subst (λ t. is_config t d.opening.config ≡ true) (sym (first-version d.table d.upgrades)) (begin 0 d refl)
first_free (d ∷ world) (suc n) begin = first_free world n (λ k x at. begin (suc k) x at)

opening_free : (world : List Domain) (v number : ℕ) → AreSound world → BeginWithoutState world → is_config (table_of world v number) (opening_of world number Config) ≡ true
opening_free world v number sound begin =
    later_free (table_of world v number) (table_of world 0 number) (table_is world 0 number sound) (versions_extend world 0 v number sound (omega arith)) (opening_of world number Config) (opening_of world number Config)
    (opening_is world number sound Config) (first_free world number begin)

-- ---- the laws

pub writes_leave_no_state : WritesLeaveNoState
writes_leave_no_state table base tree ops all lawful = apply_free table tree ops all (lawful_free table base [] ops lawful)

pub configurations_have_no_state : ConfigurationsHaveNoState
configurations_have_no_state world log sound begin lawful domain k =
    let answered = history world log in
    commits_free (tables_now world answered domain) (opening_of world domain Config) (take k (commits answered domain)) (opening_free world (schema_version answered) domain sound begin)
    (take_free (tables_now world answered domain) k (commits answered domain) (done_free (tables_now world answered) domain (sents answered) (outcomes answered) lawful))
