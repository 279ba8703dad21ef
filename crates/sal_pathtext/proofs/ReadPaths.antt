-- A path that was read is one of data, and each of its values is readable.
use Rattle.std.proofs.Common.{◌≡◌, ℕ, zero, suc, ◌≤◌, Bool, true, false, not, ◌==◌, List, [], ◌∷◌, ◌++◌, length, drop, Option, Some, None, Ok, Err, if◌then◌else◌, refl, sym, ap, subst, ◌∙◌, arith}
use Rattle.std.specs.Prelude.{⊤, option_map, find}
use Rattle.std.specs.List.{prefix_len}
use Rattle.std.specs.Option.{option_map_or}
use Rattle.std.proofs.lemmas.Bool.Decides.{nat_tests}
use Rattle.std.proofs.lemmas.Option.{option_and_then_some}
use Rattle.sal_types.specs.declared.value.Value.{Value}
use Rattle.sal_types.specs.declared.value.Step.{Step}
use Rattle.sal_types.specs.declared.value.Step.TheVariants.{Node, Key, Item}
use Rattle.sal_types.specs.Reading.{◌>>=◌}
use Rattle.sal_schema.specs.declared.kind.Kind.{Kind}
use Rattle.sal_schema.specs.declared.kind.Kind.TheVariants.{Container, List as ListKind, LeafList, Leaf}
use Rattle.sal_schema.specs.declared.table.SchemaTable.{SchemaTable}
use Rattle.sal_schema.specs.Kinds.{is_data, is_leaf_list, is_message}
use Rattle.sal_schema.specs.Table.{is_kind, is_same, kind_of, keys_of, type_of, module_of, data_parent, is_data_child}
use Rattle.sal_schema.specs.Valid.{IsTable}
use Rattle.sal_schema.proofs.Conjuncts.{and_first}
use Rattle.sal_json.specs.declared.fault.ScalarFault.TheVariants.{WrongKind}
use Rattle.sal_json.specs.Read.{text_scalar_of}
use Rattle.sal_json.specs.Written.{text_of}
use Rattle.sal_json.proofs.Chosen.{from_some, same_ok}
use Rattle.sal_json.proofs.ReadBack.{key_reads_back}
use Rattle.sal_pathtext.specs.declared.fault.PathTextFault.TheVariants.{BadText, BadPredicate, UnknownNode}
use Rattle.sal_pathtext.specs.declared.given.Given.{Given}
use Rattle.sal_pathtext.specs.declared.here.Here.{Here}
use Rattle.sal_pathtext.specs.Laws.{IsReadable, AreReadable, IsReadableStep, AreReadableSteps, begins_with_data, ReadIsData, ReadIsReadable, ReadsAgain}
use Rattle.sal_pathtext.specs.Words.{Text, first, is_blank, is_empty, after_blanks, place, bad_text, name, said, closed}
use Rattle.sal_pathtext.specs.Nodes.{is_for, value_given, with_value, values_given, not_given, meant, dot_meant, key_meant, entry_given, value_of}
use Rattle.sal_pathtext.specs.Read.{top, taken, found, subject, predicate, predicates, lacks_keys, behind_name, behind_entry, named, entered, step, one_more, steps, read_path}
use Rattle.sal_pathtext.specs.Written.{behind}
use Rattle.sal_pathtext.proofs.Children.{meant-is}
use Rattle.sal_pathtext.proofs.Fitting.{bind_ok, found_ok, taken_ok, some_value, some_step, some_list, from_value, from_said, from_leaf, from_subject}
use Rattle.sal_pathtext.proofs.Walked.{Taken, never, full, from_node, from_name, from_given, from_owner, from_step, read_fits}
use Rattle.sal_pathtext.proofs.ReadBytes.{Bytes, bytes-from, bytes-to, bytes-drop, name-rest, said-bytes, closed-rest}
use Rattle.sal_pathtext.proofs.WrittenSteps.{starts, written-reads}

module _ (table : SchemaTable) (good : IsTable table) where
  -- ---- values

  value_readable : (leaf : ℕ) (t : List ℕ) (value : Value) → Bytes t → value_of table leaf t ≡ Ok value → IsReadable table leaf value
  value_readable leaf t value is e =
      let (m, known, e1) = from_some (λ m. option_map_or (λ ty. text_scalar_of table ty m t) (type_of table leaf) (Err WrongKind)) (module_of table leaf) WrongKind value e in
      let (ty, there, read) = from_some (λ ty. text_scalar_of table ty m t) (type_of table leaf) WrongKind value e1 in
      let again = key_reads_back table good ty m t value (bytes-to t is) read in
      (λ i. option_map_or (λ k. option_map_or (λ y. text_scalar_of table y k (option_map_or (λ j. option_map_or (λ z. text_of table z j value) (there i) []) (known i) [])) (there i) (Err WrongKind)) (known i) (Err WrongKind)) ∙ again

  -- each value that was given is readable
  abbrev pub AreRead : List Given → Type 0
  AreRead [] = ⊤
  AreRead (one ∷ given) = IsReadable table one.leaf one.value × AreRead given

  read-append : (given : List Given) (one : Given) → AreRead given → IsReadable table one.leaf one.value → AreRead (given ++ one ∷ [])
  read-append [] one all is = (is, tt)
  read-append (x ∷ given) one all is = (all.0, read-append given one all.1 is)

  given_read : (given : List Given) (leaf : ℕ) (value : Value) → AreRead given → value_given given leaf ≡ Some value → IsReadable table leaf value
  given_read [] leaf value all e = cc
  given_read (x ∷ given) leaf value all e = by (λ e. given_read given leaf value all.1 e) (is_for leaf x) refl e
    where
      by : (value_given given leaf ≡ Some value → IsReadable table leaf value) → (b : Bool) → is_for leaf x ≡ b → option_map (λ (one : Given). one.value) (if b then Some x else find (is_for leaf) given) ≡ Some value → IsReadable table leaf value
      by later true is e =
          let here : x.leaf ≡ leaf = grind (arith, nat_tests) in
          let same : x.value ≡ value = some_value x.value value e in
          subst (λ l. IsReadable table l value) here (subst (λ v. IsReadable table x.leaf v) same all.0)
      by later false is e = later e

  values_read : (given : List Given) (keys : List ℕ) (values : List Value) → AreRead given → values_given given keys ≡ Some values → AreReadable table keys values
  values_read given [] values all e = tt
  values_read given (leaf ∷ keys) values all e =
      option_and_then_some (λ value. with_value value (values_given given keys)) (value_given given leaf) values e (λ value is rest. by (λ more others. values_read given keys more all others) value is (values_given given keys) refl rest)
    where
      by : ((more : List Value) → values_given given keys ≡ Some more → AreReadable table keys more) → (value : Value) → value_given given leaf ≡ Some value → (more : Option (List Value)) → values_given given keys ≡ more
          → with_value value more ≡ Some values → AreReadable table (leaf ∷ keys) values
      by later value is None others e = cc
      by later value is (Some more) others e =
          subst (AreReadable table (leaf ∷ keys)) (some_list (value ∷ more) values e) (given_read given leaf value all is, later more others)

  entry_read : (n : ℕ) (given : List Given) (one : Step) → AreRead given → entry_given table n given ≡ Some one → IsReadableStep table (Some n) one × ((o : Option ℕ) → behind o one ≡ o)
  entry_read n given one all e = by (is_kind is_leaf_list table n) e
    where
      Is : Step → Type 0
      Is one = IsReadableStep table (Some n) one × ((o : Option ℕ) → behind o one ≡ o)

      item : (o : Option Value) → value_given given n ≡ o → option_map Item o ≡ Some one → Is one
      item None was e = cc
      item (Some value) was e = subst Is (some_step (Item value) one e) (given_read given n value all was, λ o. refl)

      keys : (o : Option (List Value)) → values_given given (keys_of table n) ≡ o → option_map Key o ≡ Some one → Is one
      keys None was e = cc
      keys (Some values) was e = subst Is (some_step (Key values) one e) (values_read given (keys_of table n) values all was, λ o. refl)

      by : (b : Bool) → (if b then option_map Item (value_given given n) else option_map Key (values_given given (keys_of table n))) ≡ Some one → Is one
      by true e = item (value_given given n) refl e
      by false e = keys (values_given given (keys_of table n)) refl e

  module _ (whole : Text) where
    -- ---- predicates

    subject-rest : (n : ℕ) (t : Text) (p : Option ℕ × Text) → Bytes t → subject table whole n t ≡ Ok p → Bytes p.1
    unfolding subject
    subject-rest n t p is e =
        elim (first t == 46) as (λ b. (if b then Ok (dot_meant table n, drop 1 t) else (name whole t >>= λ one. Ok (key_meant table n one.0, one.1))) ≡ Ok p → Bytes p.1) [
          | true ↦ λ e1. subst (λ (q : Option ℕ × Text). Bytes q.1) (same_ok (dot_meant table n, drop 1 t) p e1) (bytes-drop 1 t is)
          | false ↦ λ e1. bind_ok (name whole t) (λ one. Ok (key_meant table n one.0, one.1)) p e1 (λ one read e2.
              subst (λ (q : Option ℕ × Text). Bytes q.1) (same_ok (key_meant table n one.0, one.1) p e2) (name-rest whole t one is read))
        ] e

    abbrev IsGiven : Given × Text → Type 0
    IsGiven p = IsReadable table p.0.leaf p.0.value × Bytes p.1

    predicate_read : (n : ℕ) (given : List Given) (t : Text) (p : Given × Text) → Bytes t → predicate table whole n given t ≡ Ok p → IsGiven p
    unfolding predicate
    predicate_read n given t p is e =
        let at = place whole t in
        let start = drop 1 t in
        bind_ok (subject table whole n (after_blanks start)) (from_subject table whole at given) p e (λ one read1 e1.
        let after = subject-rest n (after_blanks start) one (bytes-drop (prefix_len is_blank start) start (bytes-drop 1 t is)) read1 in
        bind_ok (found (BadPredicate at) (not_given given one.0)) (from_leaf table whole at one.1) p e1 (λ leaf free e2.
        bind_ok (said whole one.1) (from_said table whole at leaf) p e2 (λ spoken read2 e3.
        let both = said-bytes whole one.1 spoken after read2 in
        bind_ok (taken at (value_of table leaf spoken.0)) (from_value table whole spoken.1 leaf) p e3 (λ value read3 e4.
        bind_ok (closed whole spoken.1) (λ end. Ok (record { leaf = leaf; value = value }, end)) p e4 (λ end read4 e5.
        subst IsGiven (same_ok (record { leaf = leaf; value = value }, end) p e5)
        (value_readable leaf spoken.0 value both.0 (taken_ok at (value_of table leaf spoken.0) value read3), closed-rest whole spoken.1 end both.1 read4))))))

    abbrev AreGiven : List Given × Text → Type 0
    AreGiven p = AreRead p.0 × Bytes p.1

    predicates_read : (most n : ℕ) (given : List Given) (t : Text) (p : List Given × Text) → AreRead given → Bytes t → predicates table whole most n given t ≡ Ok p → AreGiven p
    unfolding predicates
    predicates_read zero n given t p all is e = subst AreGiven (same_ok (given, t) p e) (all, is)
    predicates_read (suc most) n given t p all is e =
        elim (first t == 91) as (λ b. (if b then (predicate table whole n given t >>= λ q. predicates table whole most n (given ++ q.0 ∷ []) q.1) else Ok (given, t)) ≡ Ok p → AreGiven p) [
          | true ↦ λ e1. bind_ok (predicate table whole n given t) (λ q. predicates table whole most n (given ++ q.0 ∷ []) q.1) p e1 (λ q read rest.
              let one = predicate_read n given t q is read in
              predicates_read most n (given ++ q.0 ∷ []) q.1 p (read-append given q.0 all one.0) one.1 rest)
          | false ↦ λ e1. subst AreGiven (same_ok (given, t) p e1) (all, is)
        ] e

    -- ---- steps

    -- what holds of a step that was read here
    abbrev IsStep : Here → Taken → Type 0
    IsStep here p = IsReadableStep table here.node p.0 × Bytes p.2 × (p.1.node ≡ behind here.node p.0)

    named_read : (here : Here) (t : Text) (p : Taken) → Bytes t → named table whole here t ≡ Ok p → IsStep here p
    unfolding named
    named_read here t p is e =
        let at = place whole t in
        bind_ok (name whole t) (from_name table good whole here at) p e (λ called read e1.
        let rest = name-rest whole t called is read in
        elim (lacks_keys table here) as (λ b. (if b then Err (BadPredicate here.name_at) else (found (UnknownNode at) (meant table here.node called.0) >>= from_node table good whole at called.1)) ≡ Ok p → IsStep here p) [
          | true ↦ λ e2. never (BadPredicate here.name_at) p e2
          | false ↦ λ e2. bind_ok (found (UnknownNode at) (meant table here.node called.0)) (from_node table good whole at called.1) p e2 (λ n there e3.
              subst (IsStep here) (same_ok (Node n, behind_name table n at, called.1) p e3) (tt, rest, refl))
        ] e1)

    entered_read : (here : Here) (t : Text) (p : Taken) → Bytes t → entered table whole here t ≡ Ok p → IsStep here p
    unfolding entered
    entered_read here t p is e =
        elim here.wants_entry as (λ b. (if b then (found (BadPredicate (place whole t)) here.node >>= from_owner table good whole here t) else Err (BadPredicate (place whole t))) ≡ Ok p → IsStep here p) [
          | false ↦ λ e1. never (BadPredicate (place whole t)) p e1
          | true ↦ λ e1.
              bind_ok (found (BadPredicate (place whole t)) here.node) (from_owner table good whole here t) p e1 (λ n there e2.
              bind_ok (predicates table whole (length t) n [] t) (from_given table good whole here n) p e2 (λ read ended e3.
              bind_ok (found (BadPredicate here.name_at) (entry_given table n read.0)) (λ one. Ok (one, behind_entry here, read.1)) p e3 (λ one made e4.
              let owner = found_ok (BadPredicate (place whole t)) here.node n there in
              let all = predicates_read (length t) n [] t read tt is ended in
              let entry = entry_read n read.0 one all.0 (found_ok (BadPredicate here.name_at) (entry_given table n read.0) one made) in
              subst (IsStep here) (same_ok (one, behind_entry here, read.1) p e4)
              (subst (λ o. IsReadableStep table o one) (sym owner) entry.0, all.1, sym (entry.1 here.node)))))
        ] e

    step_read : (here : Here) (t : Text) (p : Taken) → Bytes t → step table whole here t ≡ Ok p → IsStep here p
    step_read here t p is e =
        elim (first t == 91) as (λ b. (if b then entered table whole here t else if first t == 47 then named table whole here (drop 1 t) else bad_text whole t) ≡ Ok p → IsStep here p) [
          | true ↦ λ e1. entered_read here t p is e1
          | false ↦ λ e1. elim (first t == 47) as (λ b. (if b then named table whole here (drop 1 t) else bad_text whole t) ≡ Ok p → IsStep here p) [
            | true ↦ λ e2. named_read here (drop 1 t) p (bytes-drop 1 t is) e2
            | false ↦ λ e2. never (BadText (place whole t)) p e2
          ] e1
        ] e

    steps_read : (room : ℕ) (here : Here) (t : Text) (path : List Step) → Bytes t → steps table whole room here t ≡ Ok path → AreReadableSteps table here.node path
    unfolding steps
    steps_read zero here t path is e =
        elim (is_empty t) as (λ b. (if b then Ok [] else one_more table whole here t) ≡ Ok path → AreReadableSteps table here.node path) [
          | true ↦ λ e1. subst (AreReadableSteps table here.node) (same_ok [] path e1) tt
          | false ↦ λ e1. full table good whole here t path e1
        ] e
    steps_read (suc room) here t path is e =
        elim (is_empty t) as (λ b. (if b then Ok [] else (step table whole here t >>= from_step table good whole room)) ≡ Ok path → AreReadableSteps table here.node path) [
          | true ↦ λ e1. subst (AreReadableSteps table here.node) (same_ok [] path e1) tt
          | false ↦ λ e1. bind_ok (step table whole here t) (from_step table good whole room) path e1 (λ p read e2.
              bind_ok (steps table whole room p.1 p.2) (λ others. Ok (p.0 ∷ others)) path e2 (λ others more e3.
              let one = step_read here t p is read in
              let rest = steps_read room p.1 p.2 others one.1 more in
              subst (AreReadableSteps table here.node) (same_ok (p.0 ∷ others) path e3) (one.0, subst (λ o. AreReadableSteps table o others) one.2 rest)))
        ] e

    -- ---- the first step, and how many there are

    data_is_no_message : (o : Option Kind) → option_map_or is_data o false ≡ true → not (option_map_or is_message o false) ≡ true
    data_is_no_message None e = cc
    data_is_no_message (Some k) e = by k e
      where
        by : (k : Kind) → is_data k ≡ true → not (is_message k) ≡ true
        by (Container presence) e = refl
        by ListKind e = refl
        by LeafList e = refl
        by Leaf e = refl
        by k e = cc

    -- a node that was named at the top is one for data
    named_begins : (here : Here) (t : Text) (p : Taken) (path : List Step) → named table whole here t ≡ Ok p → starts table here.node (p.0 ∷ path) ≡ true
    unfolding named
    named_begins here t p path e =
        let at = place whole t in
        bind_ok (name whole t) (from_name table good whole here at) p e (λ called read e1.
        elim (lacks_keys table here) as (λ b. (if b then Err (BadPredicate here.name_at) else (found (UnknownNode at) (meant table here.node called.0) >>= from_node table good whole at called.1)) ≡ Ok p → starts table here.node (p.0 ∷ path) ≡ true) [
          | true ↦ λ e2. never (BadPredicate here.name_at) p e2
          | false ↦ λ e2. bind_ok (found (UnknownNode at) (meant table here.node called.0)) (from_node table good whole at called.1) p e2 (λ n there e3.
              let child = meant-is table here.node called.0 n (found_ok (UnknownNode at) (meant table here.node called.0) n there) in
              ap (λ (q : Taken). starts table here.node (q.0 ∷ path)) (sym (same_ok (Node n, behind_name table n at, called.1) p e3)) ∙ by here.node n child)
        ] e1)
      where
        by : (o : Option ℕ) (n : ℕ) → is_data_child table o n ≡ true → starts table o (Node n ∷ path) ≡ true
        by None n child = data_is_no_message (kind_of table n) (and_first (is_kind is_data table n) (is_same (data_parent table n) None) child)
        by (Some m) n child = refl

    -- what follows from the first step at the top
    abbrev Begins : Here → List Step → Type 0
    Begins here path = starts table here.node path ≡ true

    step_begins : (here : Here) (t : Text) (p : Taken) (path : List Step) → (first t == 91) ≡ false → step table whole here t ≡ Ok p → Begins here (p.0 ∷ path)
    step_begins here t p path slash e =
        let e1 : (if first t == 47 then named table whole here (drop 1 t) else bad_text whole t) ≡ Ok p =
        sym (ap (λ b. if b then entered table whole here t else if first t == 47 then named table whole here (drop 1 t) else bad_text whole t) slash) ∙ e in
        elim (first t == 47) as (λ b. (if b then named table whole here (drop 1 t) else bad_text whole t) ≡ Ok p → Begins here (p.0 ∷ path)) [
          | true ↦ λ e2. named_begins here (drop 1 t) p path e2
          | false ↦ λ e2. never (BadText (place whole t)) p e2
        ] e1

    steps_begin : (room : ℕ) (here : Here) (t : Text) (path : List Step) → (first t == 91) ≡ false → steps table whole (suc room) here t ≡ Ok path → Begins here path
    unfolding steps
    steps_begin room here t path slash e =
        elim (is_empty t) as (λ b. (if b then Ok [] else (step table whole here t >>= from_step table good whole room)) ≡ Ok path → Begins here path) [
          | true ↦ λ e1. subst (Begins here) (same_ok [] path e1) (none here.node)
          | false ↦ λ e1. bind_ok (step table whole here t) (from_step table good whole room) path e1 (λ p read e2.
              bind_ok (steps table whole room p.1 p.2) (λ others. Ok (p.0 ∷ others)) path e2 (λ others more e3.
              subst (Begins here) (same_ok (p.0 ∷ others) path e3) (step_begins here t p others slash read)))
        ] e
      where
        none : (o : Option ℕ) → starts table o [] ≡ true
        none None = refl
        none (Some n) = refl

    steps-short : (room : ℕ) (here : Here) (t : Text) (path : List Step) → steps table whole room here t ≡ Ok path → length path ≤ room
    unfolding steps
    steps-short zero here t path e =
        elim (is_empty t) as (λ b. (if b then Ok [] else one_more table whole here t) ≡ Ok path → length path ≤ 0) [
          | true ↦ λ e1. subst (λ (p : List Step). length p ≤ 0) (same_ok [] path e1) (omega arith)
          | false ↦ λ e1. full table good whole here t path e1
        ] e
    steps-short (suc room) here t path e =
        elim (is_empty t) as (λ b. (if b then Ok [] else (step table whole here t >>= from_step table good whole room)) ≡ Ok path → length path ≤ suc room) [
          | true ↦ λ e1. subst (λ (p : List Step). length p ≤ suc room) (same_ok [] path e1) (omega arith)
          | false ↦ λ e1. bind_ok (step table whole here t) (from_step table good whole room) path e1 (λ p read e2.
              bind_ok (steps table whole room p.1 p.2) (λ others. Ok (p.0 ∷ others)) path e2 (λ others more e3.
              let rest = steps-short room p.1 p.2 others more in
              subst (λ (p : List Step). length p ≤ suc room) (same_ok (p.0 ∷ others) path e3) (omega (arith, rest))))
        ] e

-- ---- whole paths

module _ (table : SchemaTable) (whole : Text) where
  -- the root, or steps from the top
  by_steps : {P : Type 0} (path : List Step) → read_path table whole ≡ Ok path → ([] ≡ path → P) → (first whole ≡ 47 → steps table whole 32 top whole ≡ Ok path → P) → P
  unfolding read_path
  by_steps {P = P} path e root some =
      elim (first whole == 47) as (λ b. (first whole == 47) ≡ b → (if b then (if length whole == 1 then Ok [] else steps table whole 32 top whole) else Err (BadText 0)) ≡ Ok path → P) [
        | true ↦ λ slash e1. elim (length whole == 1) as (λ b. (if b then Ok [] else steps table whole 32 top whole) ≡ Ok path → P) [
          | true ↦ λ e2. root (same_ok [] path e2)
          | false ↦ λ e2. some (is_slash slash) e2
        ] e1
        | false ↦ λ slash e1. never (BadText 0) path e1
      ] refl e
    where
      is_slash : (first whole == 47) ≡ true → first whole ≡ 47
      is_slash e = grind (arith, nat_tests)

pub read-is_data : ReadIsData
read-is_data table good text path e = record {
  fits = read_fits table text path good e;
  of_data = by_steps table text path e (λ root. subst (λ p. begins_with_data table p ≡ true) root refl) (λ slash some. steps_begin table good text 31 top text path (no_bracket text slash) some);
  short = by_steps table text path e (λ root. subst (λ (p : List Step). length p ≤ 32) root (omega arith)) (λ slash some. steps-short table good text 32 top text path some);
}
  where
    no_bracket : (t : Text) → first t ≡ 47 → (first t == 91) ≡ false
    no_bracket t e = rw e refl

pub read-is_readable : ReadIsReadable
read-is_readable table good text path is e =
    by_steps table text path e (λ root. subst (λ p. AreReadableSteps table None p) root tt) (λ slash some. steps_read table good text 32 top text path (bytes-from text is) some)

pub reads-again : ReadsAgain
reads-again table good text path is e = written-reads table good path (read-is_data table good text path e) (read-is_readable table good text path is e)
