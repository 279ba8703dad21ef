-- Enumerations and bits have distinct names, and as many distinct places; those of bits are below 64.
use Rattle.sal_grouping.proofs.Parts.{TreeNode}
use Rattle.std.proofs.Common.{◌≡◌, ℕ, Bool, true, false, ◌&&◌, ◌==◌, nat_eq, nat_lt, IsTrue, List, [], ◌∷◌, map, length, Some, None, refl, sym, ap, ◌∙◌, subst, inl, inr, arith}
use Rattle.std.specs.Prelude.{◌||◌, unwrap_or}
use Rattle.std.specs.List.{list_all, list_any, flat_map, enumerate_from, position_from, slice_index}
use Rattle.std.specs.Option.{option_to_list}
use Rattle.std.proofs.lemmas.Bool.{cases_Bool, or_right}
use Rattle.std.proofs.lemmas.Bool.Decides.{nat_tests}
use Rattle.std.proofs.lemmas.List.{length-map}
use Rattle.sal_stmt.specs.declared.stmt.Stmt.{Stmt}
use Rattle.sal_module.specs.declared.keyword.Keyword.TheVariants as word
use Rattle.sal_module.specs.Keywords.{same}
use Rattle.sal_module.specs.Statements.{is_named, subs_of, all_named}
use Rattle.sal_restrict.specs.declared.yang_type.YangType.{YangType, out-YangType}
use Rattle.sal_restrict.specs.declared.yang_type.YangType.TheOpen.{YangType-F}
use Rattle.sal_typedefs.specs.Builtins.{Name, names, bare}
use Rattle.sal_typedefs.specs.Entries.{entries_of, entry_faults}
use Rattle.sal_typedefs.specs.Restrictions.{Base, Layer, is_decimal, digits_of, with_digits, layer_of, numbering_of, faults_by}
use Rattle.sal_typedefs.specs.Types.{entries_in, restricted, names_in, places_of}
use Rattle.sal_schema.specs.declared.table.SchemaTable.{SchemaTable}
use Rattle.sal_schema.specs.Valid.{all_differ, text_eq, are_named}
use Rattle.sal_schema.proofs.Conjuncts.{and_first, and_second}
use Rattle.sal_module.proofs.Initials.{same-text}
use Rattle.sal_build.specs.Laws.{NamesArePlaced, is_placed, of_each}
use Rattle.sal_build.proofs.Entries.{TypeEntry, TypeNumbering, enums, bits}
use Rattle.sal_build.proofs.Built.{IsBuiltOn, built_on, forest_by, nodes_of}
use Rattle.sal_build.proofs.Differing.{differ-map, differ-more, found-passes, found-good, numbered-length, numbered-differ, same-place, some-position, same-names}
use Rattle.sal_build.proofs.Distinct.{same-itself}
use Rattle.sal_build.proofs.FilledTypes.{stated, is_stated}
use Rattle.sal_build.proofs.Grown.{position-below, AreGrown, built-grown}
use Rattle.sal_build.proofs.JudgedTypes.{below-pass, builtin-raw, Keeps, judged-closed}
use Rattle.sal_build.proofs.ListedNames.{same_names, size, same_sizes, is_small, names-apart, own-bits, is_of, of-found, chosen-all, chosen-bits}
use Rattle.sal_build.proofs.Quiet.{both, front-nil, all-map}
use Rattle.sal_build.proofs.Unfaulted.{restrictions-quiet}

-- a name that is one of these
abbrev is_among : List (List ℕ) → List ℕ → Bool
is_among all name = list_any (same name) all

abbrev are_among : List (List ℕ) → List TypeEntry → Bool
are_among all entries = list_all (λ (e : TypeEntry). is_among all e.name) entries

-- the names of a type are those that are listed, with their numbers
abbrev agrees : Layer → List TypeEntry → Bool
agrees (YangType-F.Enum names places) entries = are_among names entries
agrees (YangType-F.Bits names positions) entries = list_all is_small entries && all_differ same_sizes entries
agrees layer entries = true

abbrev is_raw : Layer → Bool
is_raw layer = of_each (stated is_placed) layer

builtins-raw : IsTrue (list_all (λ (n : Name). is_raw (bare n.1)) names)
unfolding names
builtins-raw = refl

-- ---- lists of names

one-more : (all : List (List ℕ)) (name : List ℕ) (entries : List TypeEntry) → IsTrue (are_among all entries) → IsTrue (are_among (name ∷ all) entries)
one-more all name [] h = refl
one-more all name (e ∷ entries) h =
    both (is_among (name ∷ all) e.name) (are_among (name ∷ all) entries) (or_right (same e.name name) (is_among all e.name) (and_first (is_among all e.name) (are_among all entries) h))
    (one-more all name entries (and_second (is_among all e.name) (are_among all entries) h))

among-own : (entries : List TypeEntry) → IsTrue (are_among (names_in entries) entries)
among-own [] = refl
among-own (e ∷ entries) =
    let here : IsTrue (is_among (names_in (e ∷ entries)) e.name) = ap (λ b. b || is_among (names_in entries) e.name) (same-itself e.name) in
    both (is_among (names_in (e ∷ entries)) e.name) (are_among (names_in (e ∷ entries)) entries) here (one-more (names_in entries) e.name entries (among-own entries))

names-differ : (entries : List TypeEntry) → IsTrue (all_differ same_names entries) → IsTrue (all_differ text_eq (names_in entries))
names-differ entries h = sym (differ-map text_eq (λ (e : TypeEntry). e.name) entries) ∙ h

same-length : (m n : ℕ) → m ≡ n → IsTrue (m == n)
same-length m n e = grind (arith, nat_tests)

placed-names : (names : List (List ℕ)) (places : List ℕ) → length names ≡ length places → IsTrue (all_differ text_eq names) → IsTrue (all_differ nat_eq places) → IsTrue (are_named names places)
placed-names names places count apart others =
    both (length names == length places && all_differ text_eq names) (all_differ nat_eq places) (both (length names == length places) (all_differ text_eq names) (same-length (length names) (length places) count) apart) others

-- ---- enumerations

own-enum : (entries : List TypeEntry) → IsTrue (all_differ same_names entries) → IsTrue (are_named (names_in entries) (map (λ (e : ℕ × TypeEntry). e.0) (enumerate_from 0 entries)) && are_among (names_in entries) entries)
own-enum entries h =
    let places = map (λ (e : ℕ × TypeEntry). e.0) (enumerate_from 0 entries) in
    let count : length (names_in entries) ≡ length places = length-map entries (λ (e : TypeEntry). e.name) ∙ sym (numbered-length 0 entries) in
    both (are_named (names_in entries) places) (are_among (names_in entries) entries) (placed-names (names_in entries) places count (names-differ entries h) (numbered-differ 0 entries)) (among-own entries)

module _ (names : List (List ℕ)) (places : List ℕ) (good : IsTrue (are_named names places)) where
  abbrev place : List ℕ → ℕ
  place name = slice_index places (unwrap_or (position_from (same name) 0 names) 0)

  count : length names ≡ length places
  count =
      let first = and_first (length names == length places && all_differ text_eq names) (all_differ nat_eq places) good in
      let equal = and_first (length names == length places) (all_differ text_eq names) first in grind (arith, nat_tests)

  -- two names at one place are the same
  one-place : (a b : List ℕ) → IsTrue (is_among names a) → IsTrue (is_among names b) → nat_eq (place a) (place b) ≡ true → text_eq a b ≡ true
  one-place a b h k e =
      let (i, at_a) = some-position (same a) 0 names h in
      let (j, at_b) = some-position (same b) 0 names k in
      let few_a = position-below (same a) 0 names i at_a in
      let few_b = position-below (same b) 0 names j at_b in
      let alike : nat_eq (slice_index places i) (slice_index places j) ≡ true = rw (at_a, at_b) at e in
      let is : i ≡ j = same-place places i j (and_second (length names == length places && all_differ text_eq names) (all_differ nat_eq places) good) (omega (arith, count)) (omega (arith, count)) alike in
      let one : a ≡ b = same-names a b 0 names j (at_a ∙ ap (λ n. Some n) is) at_b in
      ap (λ t. same t b) one ∙ same-itself b

  name-known : (entries : List TypeEntry) → IsTrue (are_among names entries) → (e : TypeEntry) → IsTrue (is_of entries e) → IsTrue (is_among names e.name)
  name-known entries all e h =
      let (f, at, alike) = of-found entries e h in
      let is = same-text f.name e.name (found-passes (λ (x : TypeEntry). same x.name e.name) entries f at) in
      subst (λ t. IsTrue (is_among names t)) is (found-good (λ (x : TypeEntry). same x.name e.name) (λ (x : TypeEntry). is_among names x.name) entries f all at)

  known-all : (entries : List TypeEntry) → IsTrue (are_among names entries) → (chosen : List TypeEntry) → IsTrue (list_all (is_of entries) chosen) → IsTrue (are_among names chosen)
  known-all entries all [] h = refl
  known-all entries all (e ∷ chosen) h =
      both (is_among names e.name) (are_among names chosen) (name-known entries all e (and_first (is_of entries e) (list_all (is_of entries) chosen) h)) (known-all entries all chosen (and_second (is_of entries e) (list_all (is_of entries) chosen) h))

  chosen-enum : (chosen : List TypeEntry) → IsTrue (all_differ same_names chosen) → IsTrue (are_among names chosen)
      → IsTrue (are_named (names_in chosen) (places_of names places (names_in chosen)) && are_among (names_in chosen) chosen)
  chosen-enum chosen h known =
      let all = names_in chosen in
      let found : IsTrue (list_all (is_among names) all) = all-map (λ (e : TypeEntry). e.name) (is_among names) chosen known in
      let apart : IsTrue (all_differ nat_eq (map place all)) = sym (differ-map nat_eq place all) ∙ differ-more (λ a b. nat_eq (place a) (place b)) text_eq (is_among names) one-place all found (names-differ chosen h) in
      both (are_named all (map place all)) (are_among all chosen) (placed-names all (map place all) (sym (length-map all place)) (names-differ chosen h) apart) (among-own chosen)

-- ---- bits

bits-placed : (entries : List TypeEntry) → IsTrue (all_differ same_names entries) → IsTrue (list_all is_small entries) × IsTrue (all_differ same_sizes entries)
    → IsTrue ((are_named (names_in entries) (map size entries) && list_all (λ p. nat_lt p 64) (map size entries)) && (list_all is_small entries && all_differ same_sizes entries))
bits-placed entries h (small, apart) =
    let count : length (names_in entries) ≡ length (map size entries) = length-map entries (λ (e : TypeEntry). e.name) ∙ sym (length-map entries size) in
    let others : IsTrue (all_differ nat_eq (map size entries)) = sym (differ-map nat_eq size entries) ∙ apart in
    both (are_named (names_in entries) (map size entries) && list_all (λ p. nat_lt p 64) (map size entries)) (list_all is_small entries && all_differ same_sizes entries)
    (both (are_named (names_in entries) (map size entries)) (list_all (λ p. nat_lt p 64) (map size entries)) (placed-names (names_in entries) (map size entries) count (names-differ entries h) others)
    (all-map size (λ p. nat_lt p 64) entries small)) (both (list_all is_small entries) (all_differ same_sizes entries) small apart)

-- ---- one statement

one-quiet : (base : Base) (m : ℕ) (stmt : Stmt) (n : TypeNumbering) → flat_map (faults_by base m stmt) (n ∷ []) ≡ [] → faults_by base m stmt n ≡ []
one-quiet base m stmt n e = (front-nil (faults_by base m stmt n) [] e).0

module _ (modules : List Stmt) (m : ℕ) (base : Base) (stmt : Stmt) (below : List YangType) (all : IsTrue (list_all (is_stated is_placed) below)) where
  -- the condition on a type with its names
  abbrev fit : Layer → List TypeEntry → Bool
  fit layer entries = of_each (stated is_placed) layer && agrees layer entries

  abbrev result : Layer → Layer
  result layer = restricted modules m base stmt below (entries_in base stmt layer) layer

  kept : (layer : Layer) → (base.itself ≡ false → IsTrue (fit layer base.entries)) → flat_map (faults_by base m stmt) (option_to_list (numbering_of layer)) ≡ [] → IsTrue (fit (result layer) (entries_in base stmt layer))
  kept (YangType-F.Enum names places) derived quiet =
      let faults : faults_by base m stmt enums ≡ [] = one-quiet base m stmt enums quiet in
      let items = all_named word.Enum stmt in
      elim (cases_Bool base.itself) [
        | inl t ↦ (let own : entry_faults enums None m [] items ≡ [] = rw t at faults in rw t (own-enum (entries_of enums None [] items) (names-apart enums None m [] items refl own)))
        | inr f ↦
            (let good = derived f in
            elim (cases_Bool (list_any (is_named word.Enum) (subs_of stmt))) [
              | inl some ↦
                  (let chosen : entry_faults enums (Some base.entries) m [] items ≡ [] = rw f at faults in
                  let entries = entries_of enums (Some base.entries) [] items in
                  let placed = and_first (are_named names places) (are_among names base.entries) good in
                  let known = known-all names places placed base.entries (and_second (are_named names places) (are_among names base.entries) good) entries (chosen-all enums base.entries m [] items refl chosen) in
                  rw (f, some) (chosen-enum names places placed entries (names-apart enums (Some base.entries) m [] items refl chosen) known))
              | inr none ↦ rw (f, none) good
            ])
      ]
  kept (YangType-F.Bits names positions) derived quiet =
      let faults : faults_by base m stmt bits ≡ [] = one-quiet base m stmt bits quiet in
      let items = all_named word.Bit stmt in
      elim (cases_Bool base.itself) [
        | inl t ↦ (let own : entry_faults bits None m [] items ≡ [] = rw t at faults in rw t (bits-placed (entries_of bits None [] items) (names-apart bits None m [] items refl own) (own-bits m items own)))
        | inr f ↦
            (let good = derived f in
            elim (cases_Bool (list_any (is_named word.Bit) (subs_of stmt))) [
              | inl some ↦
                  (let chosen : entry_faults bits (Some base.entries) m [] items ≡ [] = rw f at faults in
                  let entries = entries_of bits (Some base.entries) [] items in
                  let listed = and_second (are_named names positions && list_all (λ p. nat_lt p 64) positions) (list_all is_small base.entries && all_differ same_sizes base.entries) good in
                  let small = and_first (list_all is_small base.entries) (all_differ same_sizes base.entries) listed in
                  let apart = and_second (list_all is_small base.entries) (all_differ same_sizes base.entries) listed in
                  rw (f, some) (bits-placed entries (names-apart bits (Some base.entries) m [] items refl chosen) (chosen-bits m base.entries items small apart chosen)))
              | inr none ↦ rw (f, none) good
            ])
      ]
  kept (YangType-F.Union members) derived quiet = elim (cases_Bool base.itself) [
    | inl t ↦ rw t (both (list_all (λ t. stated is_placed (out-YangType t)) _) true (below-pass is_placed below all) refl)
    | inr f ↦ rw f (derived f)
  ]
  kept layer derived quiet = refl

  same_numbering : (digits : ℕ) (layer : Layer) → numbering_of (with_digits digits layer) ≡ numbering_of layer
  same_numbering digits (YangType-F.Dec old range) = refl
  same_numbering digits layer = refl

  of-layer : numbering_of (layer_of base stmt) ≡ numbering_of (out-YangType base.type)
  of-layer = elim (cases_Bool (is_decimal base)) [ inl t ↦ rw t (same_numbering (digits_of stmt) (out-YangType base.type)) | inr f ↦ rw f refl ]

keeps-placed : (modules : List Stmt) → Keeps is_placed agrees is_raw modules
keeps-placed modules m base stmt below raw derived all quiet =
    let (absent, listed, digits) = restrictions-quiet base m stmt quiet in
    kept modules m base stmt below all (layer_of base stmt) (λ f. rw f (derived f)) (ap (λ n. flat_map (faults_by base m stmt) (option_to_list n)) (of-layer modules m base stmt below all) ∙ listed)

pub names-are-placed-on : (stmts : List Stmt) (nodes : List TreeNode) (table : SchemaTable) → IsBuiltOn stmts nodes table → AreGrown stmts nodes
    → IsTrue (list_all (λ ty. of_each is_placed (out-YangType ty)) table.types)
names-are-placed-on stmts nodes table built grown =
    subst (λ (t : SchemaTable). IsTrue (list_all (λ ty. of_each is_placed (out-YangType ty)) t.types)) built.is
    (judged-closed is_placed agrees is_raw refl refl (builtin-raw is_raw refl builtins-raw) stmts (keeps-placed stmts) (forest_by stmts nodes))

pub names_are_placed : NamesArePlaced
names_are_placed stmts table e = names-are-placed-on stmts (nodes_of stmts) table (built_on stmts table e) (built-grown stmts)
