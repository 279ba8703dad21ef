-- The text that is written for a path reads as this path.
use Rattle.std.proofs.Common.{◌≡◌, ℕ, zero, suc, ◌+◌, ◌-◌, ◌<◌, ◌≤◌, Bool, true, false, not, ◌&&◌, ◌==◌, List, [], ◌∷◌, ◌++◌, length, drop, Option, Some, None, Ok, Err, if◌then◌else◌, refl, sym, ap, subst, ◌∙◌, arith, append_assoc, length-append}
use Rattle.std.specs.Prelude.{◌||◌, IfSome, option_map}
use Rattle.std.specs.Option.{option_map_or}
use Rattle.std.proofs.lemmas.Bool.{true≢false, not-true}
use Rattle.std.proofs.lemmas.Bool.Decides.{nat_tests}
use Rattle.sal_types.specs.declared.value.Value.{Value}
use Rattle.sal_types.specs.declared.value.Step.{Step}
use Rattle.sal_types.specs.declared.value.Step.TheVariants.{Node, Key, Item}
use Rattle.sal_types.specs.Reading.{◌>>=◌}
use Rattle.sal_schema.specs.declared.kind.Kind.{Kind}
use Rattle.sal_schema.specs.declared.kind.Kind.TheVariants.{List as ListKind}
use Rattle.sal_schema.specs.declared.table.SchemaTable.{SchemaTable}
use Rattle.sal_schema.specs.Kinds.{is_list, is_leaf_list, is_message}
use Rattle.sal_schema.specs.Paths.{may_follow, are_of_nodes, may_pick, step_fits, after_step, fits_from}
use Rattle.sal_schema.specs.Table.{is_kind, kind_of, keys_of, name_of, is_data_child}
use Rattle.sal_schema.specs.Valid.{IsTable}
use Rattle.sal_schema.specs.Values.{is_of_node}
use Rattle.sal_schema.proofs.Conjuncts.{and_first, and_second}
use Rattle.sal_schema.specs.Lookups.{own_module}
use Rattle.sal_pathtext.specs.declared.fault.PathTextFault.TheVariants.{BadPredicate, UnknownNode, BadText}
use Rattle.sal_pathtext.specs.declared.given.Given.{Given}
use Rattle.sal_pathtext.specs.declared.here.Here.{Here}
use Rattle.sal_pathtext.specs.Laws.{IsReadable, AreReadable, IsReadableStep, AreReadableSteps, begins_with_data, WrittenReads, WrittenApart}
use Rattle.sal_pathtext.specs.Words.{Text, first, place}
use Rattle.sal_pathtext.specs.Nodes.{value_given, values_given, entry_given, meant}
use Rattle.sal_pathtext.specs.Read.{top, found, predicates, lacks_keys, behind_name, behind_entry, named, entered, step, steps, read_path}
use Rattle.sal_pathtext.specs.Written.{name_text, said_text, item_text, keys_text, step_text, steps_text, behind, written}
use Rattle.sal_pathtext.proofs.Steps.{steps-end, steps_at}
use Rattle.sal_pathtext.proofs.Walked.{from_node, from_name, from_given, from_owner}
use Rattle.sal_pathtext.proofs.WrittenNames.{IsEnd, name-again, meant-again, spelled}
use Rattle.sal_pathtext.proofs.WrittenEntries.{givens, list_has_keys, free-nil, values_found, item-again, keys-again}
use Rattle.sal_json.proofs.Chosen.{same_ok}

module _ (table : SchemaTable) where
  -- ---- the rest of a text

  -- the path does not begin with a message at the top
  abbrev pub starts : Option ℕ → List Step → Bool
  starts None path = begins_with_data table path
  starts (Some p) path = true

  -- what is here: it ends a name, and it is no predicate after an entry
  pub record GoesOn (wants : Bool) (t : Text) : Type 0 where
    pub end : IsEnd t
    pub no_predicate : wants ≡ false → (first t == 91) ≡ false

  as-many : (leafs : List ℕ) (values : List Value) → are_of_nodes table leafs values ≡ true → length leafs ≡ length values
  as-many [] [] e = refl
  as-many [] (v ∷ values) e = cc
  as-many (leaf ∷ leafs) [] e = cc
  as-many (leaf ∷ leafs) (v ∷ values) e =
      let more = as-many leafs values (and_second (is_of_node table leaf v) (are_of_nodes table leafs values) e) in
      omega (arith, more)

  -- the predicates of keys begin with a bracket
  keys-begin : (n : ℕ) (leafs : List ℕ) (values : List Value) (rest : Text) → 0 < length leafs → length leafs ≡ length values
      → first (keys_text table n leafs values ++ rest) ≡ 91
  keys-begin n [] values rest some same = absurd (omega arith)
  keys-begin n (leaf ∷ leafs) [] rest some same = absurd (omega (arith, same))
  keys-begin n (leaf ∷ leafs) (v ∷ values) rest some same = refl

  bracket-goes-on : (wants : Bool) (t : Text) → wants ≡ true → first t ≡ 91 → GoesOn wants t
  bracket-goes-on wants t is bracket = record {
    end = record { no_word = rw bracket refl; no_colon = rw bracket refl };
    no_predicate = λ isnt. absurd (true≢false (sym is ∙ isnt));
  }

  module _ (good : IsTable table) where
    -- the place before a step
    goes-on : (o : Option ℕ) (wants : Bool) (path : List Step) → fits_from table (record { node = o; wants_entry = wants }) path ≡ true → GoesOn wants (steps_text table o path)
    goes-on o wants [] fits = record { end = record { no_word = refl; no_colon = refl }; no_predicate = λ isnt. refl }
    goes-on o wants (Node n ∷ path) fits = record { end = record { no_word = refl; no_colon = refl }; no_predicate = λ isnt. refl }
    goes-on o wants (Key values ∷ path) fits = by o (and_first wants (option_map_or (λ n. may_pick table n (Key values)) o false) one) (and_second wants (option_map_or (λ n. may_pick table n (Key values)) o false) one)
      where
        one : step_fits table (record { node = o; wants_entry = wants }) (Key values) ≡ true
        one = and_first (step_fits table (record { node = o; wants_entry = wants }) (Key values)) (fits_from table (after_step table (record { node = o; wants_entry = wants }) (Key values)) path) fits

        by : (o : Option ℕ) → wants ≡ true → option_map_or (λ n. may_pick table n (Key values)) o false ≡ true → GoesOn wants (steps_text table o (Key values ∷ path))
        by None is picks = cc
        by (Some n) is picks =
            let listed = and_first (is_kind is_list table n) (are_of_nodes table (keys_of table n) values) picks in
            let same = as-many (keys_of table n) values (and_second (is_kind is_list table n) (are_of_nodes table (keys_of table n) values) picks) in
            bracket-goes-on wants (keys_text table n (keys_of table n) values ++ steps_text table (Some n) path) is
            (keys-begin n (keys_of table n) values (steps_text table (Some n) path) (list_has_keys table n good listed).some same)
    goes-on o wants (Item value ∷ path) fits = by o (and_first wants (option_map_or (λ n. may_pick table n (Item value)) o false) one) (and_second wants (option_map_or (λ n. may_pick table n (Item value)) o false) one)
      where
        one : step_fits table (record { node = o; wants_entry = wants }) (Item value) ≡ true
        one = and_first (step_fits table (record { node = o; wants_entry = wants }) (Item value)) (fits_from table (after_step table (record { node = o; wants_entry = wants }) (Item value)) path) fits

        by : (o : Option ℕ) → wants ≡ true → option_map_or (λ n. may_pick table n (Item value)) o false ≡ true → GoesOn wants (steps_text table o (Item value ∷ path))
        by None is picks = cc
        by (Some n) is picks = bracket-goes-on wants (item_text table n value ++ steps_text table (Some n) path) is refl

    module _ (whole : Text) where
      -- ---- one step

      -- a step that was read at its place, with the rest of the text
      pub record IsRead (here : Here) (one : Step) (rest : Text) : Type 0 where
        pub next : Here
        pub read : step table whole here (step_text table here.node one ++ rest) ≡ Ok (one, next, rest)
        pub node : next.node ≡ behind here.node one
        pub fits : after_step table (record { node = here.node; wants_entry = here.wants_entry }) one ≡ record { node = next.node; wants_entry = next.wants_entry }
        pub on : (path : List Step) → starts (behind here.node one) path ≡ true
        pub some : 0 < length (step_text table here.node one ++ rest)

      is_child : (o : Option ℕ) (n : ℕ) (path : List Step) → may_follow table o n ≡ true → starts o (Node n ∷ path) ≡ true → is_data_child table o n ≡ true
      is_child (Some p) n path follows begins = follows
      is_child None n path follows begins = by (is_data_child table None n) (is_kind is_message table n) follows begins
        where
          by : (child message : Bool) → (child || message) ≡ true → not message ≡ true → child ≡ true
          by true message e f = refl
          by false true e f = cc
          by false false e f = cc

      node-again : (here : Here) (n : ℕ) (rest : Text) → here.wants_entry ≡ false → is_data_child table here.node n ≡ true → IsEnd rest → IsRead here (Node n) rest
      unfolding named
      node-again here n rest free child end =
          let t = name_text table here.node n ++ rest in
          let at = place whole t in
          let lacks : lacks_keys table here ≡ false = ap (λ b. b && option_map_or (is_kind is_list table) here.node false) free in
          let read : named table whole here t ≡ Ok (Node n, behind_name table n at, rest) =
          ap (λ r. r >>= from_name table good whole here at) (name-again table good whole here.node n rest child end)
          ∙ ap (λ b. if b then Err (BadPredicate here.name_at) else (found (UnknownNode at) (meant table here.node (spelled table good here.node n)) >>= from_node table good whole at rest)) lacks
          ∙ ap (λ o. found (UnknownNode at) o >>= from_node table good whole at rest) (meant-again table good here.node n child) in
          record {
            next = behind_name table n at;
            read = read;
            node = refl;
            fits = refl;
            on = λ path. refl;
            some = omega arith;
          }

      -- an entry whose predicates were read
      entry-again : (here : Here) (n : ℕ) (one : Step) (given : List Given) (t rest : Text) → here.wants_entry ≡ true → here.node ≡ Some n
          → predicates table whole (length t) n [] t ≡ Ok (given, rest) → entry_given table n given ≡ Some one → entered table whole here t ≡ Ok (one, behind_entry here, rest)
      unfolding entered
      entry-again here n one given t rest wants owner reads made =
          ap (λ b. if b then (found (BadPredicate (place whole t)) here.node >>= from_owner table good whole here t) else Err (BadPredicate (place whole t))) wants
          ∙ ap (λ o. found (BadPredicate (place whole t)) o >>= from_owner table good whole here t) owner
          ∙ ap (λ r. r >>= from_given table good whole here n) reads
          ∙ ap (λ o. found (BadPredicate here.name_at) o >>= λ step. Ok (step, behind_entry here, rest)) made

      no_leaf_list : (o : Option Kind) → option_map_or is_list o false ≡ true → option_map_or is_leaf_list o false ≡ false
      no_leaf_list None e = cc
      no_leaf_list (Some k) e = by k e
        where
          by : (k : Kind) → is_list k ≡ true → is_leaf_list k ≡ false
          by ListKind e = refl
          by k e = cc

      -- as many bytes as keys at least
      keys-long : (n : ℕ) (leafs : List ℕ) (values : List Value) (rest : Text) → length leafs ≡ length values → length leafs ≤ length (keys_text table n leafs values ++ rest)
      keys-long n [] [] rest same = omega arith
      keys-long n [] (v ∷ values) rest same = absurd (omega (arith, same))
      keys-long n (leaf ∷ leafs) [] rest same = absurd (omega (arith, same))
      keys-long n (leaf ∷ leafs) (v ∷ values) rest same =
          let own = name_text table (Some n) leaf ++ said_text table leaf v in
          let more = keys-long n leafs values rest (omega (arith, same)) in
          let seam : keys_text table n (leaf ∷ leafs) (v ∷ values) ++ rest ≡ 91 ∷ (own ++ (keys_text table n leafs values ++ rest)) = append_assoc (91 ∷ own) (keys_text table n leafs values) rest in
          let counted : length (own ++ (keys_text table n leafs values ++ rest)) ≡ length own + length (keys_text table n leafs values ++ rest) = length-append own (keys_text table n leafs values ++ rest) in
          subst (λ t. suc (length leafs) ≤ length t) (sym seam) (omega (arith, counted, more))

      keys_of-again : (here : Here) (n : ℕ) (values : List Value) (rest : Text) → here.wants_entry ≡ true → here.node ≡ Some n → may_pick table n (Key values) ≡ true
          → AreReadable table (keys_of table n) values → (first rest == 91) ≡ false → entered table whole here (keys_text table n (keys_of table n) values ++ rest) ≡ Ok (Key values, behind_entry here, rest)
      keys_of-again here n values rest wants owner picks reads end =
          let leafs = keys_of table n in
          let t = keys_text table n leafs values ++ rest in
          let listed = and_first (is_kind is_list table n) (are_of_nodes table leafs values) picks in
          let same = as-many leafs values (and_second (is_kind is_list table n) (are_of_nodes table leafs values) picks) in
          let has = list_has_keys table n good listed in
          let free = free-nil leafs in
          let read = keys-again table whole good n leafs values [] (length t) rest has.keys free has.differ same reads (keys-long n leafs values rest same) end in
          let made : entry_given table n (givens leafs values) ≡ Some (Key values) =
          ap (λ b. if b then option_map Item (value_given (givens leafs values) n) else option_map Key (values_given (givens leafs values) leafs)) (no_leaf_list (kind_of table n) listed)
          ∙ ap (λ o. option_map Key o) (values_found [] leafs values free has.differ same) in
          entry-again here n (Key values) (givens leafs values) t rest wants owner read made

      item_of-again : (here : Here) (n : ℕ) (value : Value) (rest : Text) → here.wants_entry ≡ true → here.node ≡ Some n → may_pick table n (Item value) ≡ true
          → IsReadable table n value → (first rest == 91) ≡ false → entered table whole here (item_text table n value ++ rest) ≡ Ok (Item value, behind_entry here, rest)
      item_of-again here n value rest wants owner picks reads end =
          let is = and_first (is_kind is_leaf_list table n) (is_of_node table n value) picks in
          let one : Given = record { leaf = n; value = value } in
          let itself : (n == n) ≡ true = grind (arith, nat_tests) in
          let held : value_given (one ∷ []) n ≡ Some value = rw itself refl in
          let made : entry_given table n (one ∷ []) ≡ Some (Item value) =
          ap (λ b. if b then option_map Item (value_given (one ∷ []) n) else option_map Key (values_given (one ∷ []) (keys_of table n))) is
          ∙ ap (λ o. option_map Item o) held in
          let read = item-again table whole (length (drop 1 (item_text table n value ++ rest))) n value rest is reads end in
          entry-again here n (Item value) (one ∷ []) (item_text table n value ++ rest) rest wants owner read made

      -- the text of an entry, after its node, as a step
      entered-again : (here : Here) (n : ℕ) (one : Step) (t rest : Text) → here.wants_entry ≡ true → here.node ≡ Some n → first (t ++ rest) ≡ 91 → step_text table (Some n) one ≡ t
          → behind here.node one ≡ here.node → after_step table (record { node = here.node; wants_entry = here.wants_entry }) one ≡ record { node = here.node; wants_entry = false }
          → entered table whole here (t ++ rest) ≡ Ok (one, behind_entry here, rest) → IsRead here one rest
      entered-again here n one t rest wants owner bracket spelt stays after reads =
          let text : step_text table here.node one ≡ t = ap (λ o. step_text table o one) owner ∙ spelt in
          let is : (first (t ++ rest) == 91) ≡ true = rw bracket refl in
          record {
            next = behind_entry here;
            read = ap (λ u. step table whole here (u ++ rest)) text ∙ ap (λ b. if b then entered table whole here (t ++ rest) else if first (t ++ rest) == 47 then named table whole here (drop 1 (t ++ rest)) else Err (BadText (place whole (t ++ rest)))) is ∙ reads;
            node = sym stays;
            fits = after;
            on = λ path. ap (λ o. starts o path) (stays ∙ owner);
            some = subst (λ u. 0 < length (u ++ rest)) (sym text) (some-there (t ++ rest) bracket);
          }
        where
          some-there : (t : Text) → first t ≡ 91 → 0 < length t
          some-there [] e = absurd (omega (arith, e))
          some-there (c ∷ t) e = omega arith

      -- the place after a step is that of its node
      after-node : (o : Option ℕ) (wants : Bool) (one : Step)
          → after_step table (record { node = o; wants_entry = wants }) one ≡ record { node = behind o one; wants_entry = (after_step table (record { node = o; wants_entry = wants }) one).wants_entry }
      after-node o wants (Node n) = refl
      after-node o wants (Key values) = refl
      after-node o wants (Item value) = refl

      step-again : (here : Here) (one : Step) (path : List Step) (rest : Text) → step_fits table (record { node = here.node; wants_entry = here.wants_entry }) one ≡ true
          → starts here.node (one ∷ path) ≡ true → IsReadableStep table here.node one → GoesOn (after_step table (record { node = here.node; wants_entry = here.wants_entry }) one).wants_entry rest
          → IsRead here one rest
      step-again here (Node n) path rest fits begins reads goes =
          let free = not-true here.wants_entry (and_first (not here.wants_entry) (may_follow table here.node n) fits) in
          let child = is_child here.node n path (and_second (not here.wants_entry) (may_follow table here.node n) fits) begins in
          node-again here n rest free child goes.end
      step-again here (Key values) path rest fits begins reads goes =
          by here.node refl (and_second here.wants_entry (option_map_or (λ n. may_pick table n (Key values)) here.node false) fits) reads
        where
          wants : here.wants_entry ≡ true
          wants = and_first here.wants_entry (option_map_or (λ n. may_pick table n (Key values)) here.node false) fits

          by : (o : Option ℕ) → here.node ≡ o → option_map_or (λ n. may_pick table n (Key values)) o false ≡ true → IfSome o (λ n. AreReadable table (keys_of table n) values) → IsRead here (Key values) rest
          by None owner picks reads = cc
          by (Some n) owner picks reads =
              let listed = and_first (is_kind is_list table n) (are_of_nodes table (keys_of table n) values) picks in
              let same = as-many (keys_of table n) values (and_second (is_kind is_list table n) (are_of_nodes table (keys_of table n) values) picks) in
              let begin = keys-begin n (keys_of table n) values rest (list_has_keys table n good listed).some same in
              entered-again here n (Key values) (keys_text table n (keys_of table n) values) rest wants owner begin refl refl refl
              (keys_of-again here n values rest wants owner picks reads (goes.no_predicate refl))
      step-again here (Item value) path rest fits begins reads goes =
          by here.node refl (and_second here.wants_entry (option_map_or (λ n. may_pick table n (Item value)) here.node false) fits) reads
        where
          wants : here.wants_entry ≡ true
          wants = and_first here.wants_entry (option_map_or (λ n. may_pick table n (Item value)) here.node false) fits

          by : (o : Option ℕ) → here.node ≡ o → option_map_or (λ n. may_pick table n (Item value)) o false ≡ true → IfSome o (λ n. IsReadable table n value) → IsRead here (Item value) rest
          by None owner picks reads = cc
          by (Some n) owner picks reads =
              entered-again here n (Item value) (item_text table n value) rest wants owner refl refl refl refl
              (item_of-again here n value rest wants owner picks reads (goes.no_predicate refl))

      -- ---- steps

      pub steps-again : (room : ℕ) (here : Here) (path : List Step) → fits_from table (record { node = here.node; wants_entry = here.wants_entry }) path ≡ true
          → starts here.node path ≡ true → AreReadableSteps table here.node path → length path ≤ room → steps table whole room here (steps_text table here.node path) ≡ Ok path
      steps-again room here [] fits begins reads short = steps-end table whole room here [] refl
      steps-again zero here (one ∷ path) fits begins reads short = absurd (omega (arith, short))
      steps-again (suc room) here (one ∷ path) fits begins reads short =
          let wants = (after_step table (record { node = here.node; wants_entry = here.wants_entry }) one).wants_entry in
          let first_fits = and_first (step_fits table (record { node = here.node; wants_entry = here.wants_entry }) one) (fits_from table (after_step table (record { node = here.node; wants_entry = here.wants_entry }) one) path) fits in
          let others_fit = and_second (step_fits table (record { node = here.node; wants_entry = here.wants_entry }) one) (fits_from table (after_step table (record { node = here.node; wants_entry = here.wants_entry }) one) path) fits in
          let node = behind here.node one in
          let rest = steps_text table node path in
          let goes = goes-on node wants path (ap (λ p. fits_from table p path) (sym (after-node here.node here.wants_entry one)) ∙ others_fit) in
          let was = step-again here one path rest first_fits begins reads.0 goes in
          let later = steps-again room was.next path (ap (λ p. fits_from table p path) (sym was.fits) ∙ others_fit) (ap (λ o. starts o path) was.node ∙ was.on path)
          (subst (λ o. AreReadableSteps table o path) (sym was.node) reads.1) (omega (arith, short)) in
          let others : steps table whole room was.next rest ≡ Ok path = ap (λ o. steps table whole room was.next (steps_text table o path)) (sym was.node) ∙ later in
          let less : suc room - 1 ≡ room = omega arith in
          steps_at table whole (suc room) here (step_text table here.node one ++ rest) was.some (omega arith)
          ∙ ap (λ r. r >>= λ p. steps table whole (suc room - 1) p.1 p.2 >>= λ others. Ok (p.0 ∷ others)) was.read
          ∙ ap (λ k. steps table whole k was.next rest >>= λ others. Ok (one ∷ others)) less
          ∙ ap (λ r. r >>= λ others. Ok (one ∷ others)) others

-- ---- the whole text

more_than_slash : (m own rest : Text) → (length (47 ∷ ((m ++ (58 ∷ own)) ++ rest)) == 1) ≡ false
more_than_slash [] own rest = grind (arith, nat_tests)
more_than_slash (c ∷ m) own rest = grind (arith, nat_tests)

pub written-reads : WrittenReads
unfolding read_path
written-reads table good [] right reads = refl
written-reads table good (Node n ∷ path) right reads =
    let whole = written table (Node n ∷ path) in
    let more = more_than_slash (own_module table n) (name_of table n) (steps_text table (Some n) path) in
    ap (λ b. if b then Ok [] else steps table whole 32 top whole) more ∙ steps-again table good whole 32 top (Node n ∷ path) right.fits right.of_data reads right.short
written-reads table good (Key values ∷ path) right reads = absurd (true≢false (sym right.fits))
written-reads table good (Item value ∷ path) right reads = absurd (true≢false (sym right.fits))

pub written-apart : WrittenApart
written-apart table good path other right right2 reads reads2 same =
    same_ok path other (sym (written-reads table good path right reads) ∙ ap (read_path table) same ∙ written-reads table good other right2 reads2)
