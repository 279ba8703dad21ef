-- No two identities of one module have one name.
use Rattle.sal_build.proofs.Grown.{AreGrown, built-grown}
use Rattle.std.proofs.Common.{◌≡◌, ℕ, zero, suc, ◌+◌, Bool, true, false, not, ◌&&◌, ◌==◌, nat_lt, IsTrue, List, [], ◌∷◌, ◌++◌, fold, take, length, Option, Some, None, refl, sym, ap, ◌∙◌, subst, inl, inr, arith, append_assoc, append-nil, length-append}
use Rattle.std.specs.Prelude.{◌||◌, is_none}
use Rattle.std.specs.List.{list_all, list_any, flat_map, enumerate_from, position_from}
use Rattle.std.proofs.lemmas.Bool.{cases_Bool}
use Rattle.std.proofs.lemmas.Bool.Decides.{nat_tests}
use Rattle.sal_stmt.specs.declared.stmt.Stmt.{Stmt}
use Rattle.sal_module.specs.declared.keyword.Keyword.{Keyword}
use Rattle.sal_module.specs.declared.keyword.Keyword.TheVariants as word
use Rattle.sal_module.specs.Keywords.{same, word_of, keyword_of}
use Rattle.sal_module.specs.Keywords as keywords
use Rattle.sal_module.specs.Profile.{module_faults}
use Rattle.sal_module.specs.Statements.{is_named, subs_of, argument_of}
use Rattle.sal_grouping.proofs.Parts.{TreeRow, TreeNode}
use Rattle.sal_grouping.specs.Names.{double_faults, row_faults, name_faults}
use Rattle.sal_grouping.specs.Rows.{part_of, part_among, row_of, with_row, with_rows, rows_of, is_block, is_number, defines, first_of}
use Rattle.sal_schema.specs.declared.names.Named.{Named}
use Rattle.sal_schema.specs.declared.table.SchemaTable.{SchemaTable}
use Rattle.sal_schema.specs.Names.{is_called, are_distinct, named, name_of_parts, identity_at, identity_names}
use Rattle.sal_schema.specs.Table.{each_from, all_from}
use Rattle.sal_schema.proofs.Conjuncts.{and_first, and_second}
use Rattle.sal_module_table.specs.Identities.{Identity, identity_here, identities_in, identities_of, edges_of, infos_from}
use Rattle.sal_build.specs.Laws.{IdentityNamesDiffer}
use Rattle.sal_build.proofs.Built.{IsBuiltOn, built_on, nodes_of}
use Rattle.sal_build.proofs.Distinct.{called-same, same-itself, false-is, true-is, pairs, are_apart, distinct-pairs}
use Rattle.sal_module.proofs.Initials.{same-text}
use Rattle.sal_build.proofs.NamedModules.{rule-named}
use Rattle.sal_build.proofs.Quiet.{both, front-nil, all-joined}
use Rattle.sal_build.proofs.Numbers.{take-front}

-- ---- lists

quiet-at : {X Y : Type 0} (f : ℕ → X → List Y) (i k : ℕ) (xs : List X) (x : X) (ys : List X) → k ≡ i + length xs → flat_map (λ (e : ℕ × X). f e.0 e.1) (enumerate_from i (xs ++ x ∷ ys)) ≡ [] → f k x ≡ []
quiet-at f i k [] x ys at e = let here : i ≡ k = omega arith in subst (λ n. f n x ≡ []) here (front-nil (f i x) (flat_map (λ e. f e.0 e.1) (enumerate_from (i + 1) ys)) e).0
quiet-at f i k (z ∷ xs) x ys at e = quiet-at f (i + 1) k xs x ys (omega arith) (front-nil (f i z) (flat_map (λ e. f e.0 e.1) (enumerate_from (i + 1) (xs ++ x ∷ ys))) e).1

-- the first one has none before it
first-alone : {X : Type 0} (p : X → Bool) (i k : ℕ) (xs ys : List X) → k ≡ i + length xs → is_block k (position_from p i (xs ++ ys)) ≡ true → list_any p xs ≡ false
first-alone p i k [] ys at e = refl
first-alone p i k (x ∷ xs) ys at e = elim (cases_Bool (p x)) [
  | inl t ↦ (let h : is_block k (Some i) ≡ true = rw t at e in absurd (grind (arith, nat_tests)))
  | inr f ↦ (let h = rw f at e in rw f (first-alone p (i + 1) k xs ys (omega arith) h))
]

any-kept : {X : Type 0} (p : X → Bool) (xs ys : List X) → list_any p xs ≡ true → list_any p (xs ++ ys) ≡ true
any-kept p [] ys h = cc
any-kept p (x ∷ xs) ys h = elim (cases_Bool (p x)) [ inl t ↦ rw t refl | inr f ↦ rw f (any-kept p xs ys (rw f at h)) ]

any-last : {X : Type 0} (p : X → Bool) (xs : List X) (x : X) → p x ≡ true → list_any p (xs ++ x ∷ []) ≡ true
any-last p [] x h = rw h refl
any-last p (y ∷ xs) x h = elim (cases_Bool (p y)) [ inl t ↦ rw t refl | inr f ↦ rw f (any-last p xs x h) ]

all-joined-from : {X : Type 0} (test : ℕ → X → Bool) (i : ℕ) (xs ys : List X) → IsTrue (all_from test i xs) → IsTrue (all_from test (i + length xs) ys) → IsTrue (all_from test i (xs ++ ys))
all-joined-from test i [] ys h k = let here : i + 0 ≡ i = omega arith in subst (λ n. IsTrue (all_from test n ys)) here k
all-joined-from test i (x ∷ xs) ys h k =
    let there : i + length (x ∷ xs) ≡ i + 1 + length xs = omega arith in
    both (test i x) (all_from test (i + 1) (xs ++ ys)) (and_first (test i x) (all_from test (i + 1) xs) h)
    (all-joined-from test (i + 1) xs ys (and_second (test i x) (all_from test (i + 1) xs) h) (subst (λ n. IsTrue (all_from test n ys)) there k))

-- ---- rows after those before

pub record Extends (front whole : List TreeRow) : Type 0 where
  pub more : List TreeRow
  pub is : whole ≡ front ++ more

itself : (rows : List TreeRow) → Extends rows rows
itself rows = record { more = []; is = sym (append-nil rows) }

chain : (a b c : List TreeRow) → Extends a b → Extends b c → Extends a c
chain a b c x y = record { more = x.more ++ y.more; is = y.is ∙ ap (λ front. front ++ y.more) x.is ∙ append_assoc a x.more y.more }

with-row : (m : ℕ) (around : Option ℕ) (rows : List TreeRow) (stmt : Stmt) (keyword : Option Keyword) → Extends rows (with_row m around rows stmt keyword)
with-row m around rows stmt None = itself rows
with-row m around rows stmt (Some keyword) = record { more = row_of m around stmt keyword ∷ []; is = refl }

fold-rows : (step : List TreeRow → Stmt → List TreeRow) → ((rows : List TreeRow) (sub : Stmt) → Extends rows (step rows sub)) → (rows : List TreeRow) (subs : List Stmt) → Extends rows (fold step rows subs)
fold-rows step each rows [] = itself rows
fold-rows step each rows (sub ∷ subs) = chain rows (step rows sub) (fold step (step rows sub) subs) (each rows sub) (fold-rows step each (step rows sub) subs)

more-rows : (levels m : ℕ) (around : Option ℕ) (rows : List TreeRow) (stmt : Stmt) → Extends rows (with_rows levels m around rows stmt)
unfolding with_rows
more-rows zero m around rows stmt = with-row m around rows stmt (part_of stmt)
more-rows (suc levels) m around rows stmt = elim (cases_Bool (is_none (part_of stmt))) [
  | inl t ↦ rw t (itself rows)
  | inr f ↦
      rw f (chain rows (with_row m around rows stmt (part_of stmt)) _ (with-row m around rows stmt (part_of stmt))
      (fold-rows (λ below sub. with_rows levels m (Some (length rows)) below sub) (λ below sub. more-rows levels m (Some (length rows)) below sub) (with_row m around rows stmt (part_of stmt)) (subs_of stmt)))
]

-- those of a statement that is a part begin with its own
own-row : (levels m : ℕ) (around : Option ℕ) (rows : List TreeRow) (stmt : Stmt) (keyword : Keyword) → part_of stmt ≡ Some keyword
    → with_rows (suc levels) m around rows stmt ≡ fold (λ below sub. with_rows levels m (Some (length rows)) below sub) (rows ++ row_of m around stmt keyword ∷ []) (subs_of stmt)
unfolding with_rows
own-row levels m around rows stmt keyword e = rw e refl

identity-part : part_among (keyword_of (word_of word.Identity)) ≡ Some word.Identity
unfolding keyword_of word_of keywords.words
identity-part = refl

module-part : part_among (keyword_of (word_of word.Module)) ≡ Some word.Module
unfolding keyword_of word_of keywords.words
module-part = refl

part-named : (keyword : Keyword) (stmt : Stmt) → is_named keyword stmt ≡ true → part_among (keyword_of (word_of keyword)) ≡ Some keyword → part_of stmt ≡ Some keyword
part-named keyword stmt t e = ap (λ w. part_among (keyword_of w)) (rule-named keyword stmt t) ∙ e

-- ---- an identity, and those before it

abbrev pub is_alike : Identity → Identity → Bool
is_alike y x = x.0 == y.0 && same (argument_of x.1) (argument_of y.1)

-- of a module before, or with a row in the block of this module
abbrev has_row : ℕ → ℕ → List TreeRow → Identity → Bool
has_row m t rows x = nat_lt x.0 m || list_any (defines word.Identity t (argument_of x.1)) rows

row-kept : (m t : ℕ) (rows whole : List TreeRow) → Extends rows whole → (seen : List Identity) → IsTrue (list_all (has_row m t rows) seen) → IsTrue (list_all (has_row m t whole) seen)
row-kept m t rows whole ext [] h = refl
row-kept m t rows whole ext (x ∷ seen) h =
    both (has_row m t whole x) (list_all (has_row m t whole) seen) (kept (nat_lt x.0 m) (and_first (has_row m t rows x) (list_all (has_row m t rows) seen) h))
    (row-kept m t rows whole ext seen (and_second (has_row m t rows x) (list_all (has_row m t rows) seen) h))
  where
    kept : (b : Bool) → IsTrue (b || list_any (defines word.Identity t (argument_of x.1)) rows) → IsTrue (b || list_any (defines word.Identity t (argument_of x.1)) whole)
    kept true h = refl
    kept false h = rw ext.is (any-kept (defines word.Identity t (argument_of x.1)) rows ext.more h)

none-alike : (m t : ℕ) (rows : List TreeRow) (y : Stmt) → list_any (defines word.Identity t (argument_of y)) rows ≡ false → (seen : List Identity) → IsTrue (list_all (has_row m t rows) seen) → list_any (is_alike (m, y)) seen ≡ false
none-alike m t rows y free [] h = refl
none-alike m t rows y free (x ∷ seen) h =
    let rest = none-alike m t rows y free seen (and_second (has_row m t rows x) (list_all (has_row m t rows) seen) h) in
    let own = and_first (has_row m t rows x) (list_all (has_row m t rows) seen) h in
    elim (cases_Bool (is_alike (m, y) x)) [
      | inl t2 ↦
          let here : x.0 ≡ m = let first = and_first (x.0 == m) (same (argument_of x.1) (argument_of y)) t2 in grind (arith, nat_tests) in
          let name : argument_of x.1 ≡ argument_of y = same-text (argument_of x.1) (argument_of y) (and_second (x.0 == m) (same (argument_of x.1) (argument_of y)) t2) in
          let later : nat_lt x.0 m ≡ false = grind (arith, nat_tests) in
          let row : list_any (defines word.Identity t (argument_of x.1)) rows ≡ true = rw later at own in
          let no : true ≡ false = sym row ∙ ap (λ n. list_any (defines word.Identity t n) rows) name ∙ free in
          absurd (wrong no)
      | inr f ↦ rw f rest
    ]
  where
    wrong : true ≡ false → ⊥
    wrong e = cc

-- a text of the profile is a module
is-module : (m : ℕ) (stmt : Stmt) → module_faults m stmt ≡ [] → is_named word.Module stmt ≡ true
unfolding module_faults
is-module m stmt e = elim (cases_Bool (is_named word.Module stmt)) [
  | inl t ↦ t
  | inr f ↦ let no = rw f at e in cc
]

module _ (stmts : List Stmt) (quiet : name_faults stmts (rows_of stmts) ≡ []) (whole : List Identity) where
  abbrev is_new : ℕ → Identity → Bool
  is_new j y = not (list_any (is_alike y) (take j whole))

  -- the row of an identity is the first of its name in its block
  alone : (m t : ℕ) (rows rest : List TreeRow) (y : Stmt) → rows_of stmts ≡ rows ++ (row_of m (Some t) y word.Identity ∷ rest) → list_any (defines word.Identity t (argument_of y)) rows ≡ false
  alone m t rows rest y is =
      let row = row_of m (Some t) y word.Identity in
      let all = subst (λ (xs : List TreeRow). flat_map (λ (e : ℕ × TreeRow). row_faults stmts (rows_of stmts) e.0 e.1 e.1.keyword) (enumerate_from 0 xs) ≡ []) is quiet in
      let here : double_faults (rows_of stmts) (length rows) row (Some t) ≡ [] = quiet-at (λ k (r : TreeRow). row_faults stmts (rows_of stmts) k r r.keyword) 0 (length rows) rows row rest (omega arith) all in
      elim (cases_Bool (is_block (length rows) (first_of (rows_of stmts) word.Identity t (argument_of y)))) [
        | inl t2 ↦
            elim (cases_Bool (is_number (rows_of stmts) t)) [
              | inl known ↦
                  let first : is_block (length rows) (position_from (defines word.Identity t (argument_of y)) 0 (rows_of stmts)) ≡ true = rw known at t2 in
                  first-alone (defines word.Identity t (argument_of y)) 0 (length rows) rows (row ∷ rest) (omega arith) (ap (λ xs. is_block (length rows) (position_from (defines word.Identity t (argument_of y)) 0 xs)) (sym is) ∙ first)
              | inr unknown ↦ (let no : false ≡ true = rw unknown at t2 in cc)
            ]
        | inr f ↦ let no = rw f at here in cc
      ]

  -- the identities of a module, one after another
  subs-new : (m t : ℕ) (subs : List Stmt) (seen after : List Identity) (rows : List TreeRow) → whole ≡ seen ++ (flat_map (identity_here m) subs ++ after)
      → Extends (fold (λ below sub. with_rows 63 m (Some t) below sub) rows subs) (rows_of stmts) → IsTrue (list_all (has_row m t rows) seen)
      → IsTrue (all_from is_new (length seen) (flat_map (identity_here m) subs))
  subs-new m t [] seen after rows is ext h = refl
  subs-new m t (y ∷ subs) seen after rows is ext h = elim (cases_Bool (is_named word.Identity y)) [
    | inl n ↦
        let part : part_of y ≡ Some word.Identity = part-named word.Identity y n identity-part in
        let own : with_rows 63 m (Some t) rows y ≡ fold (λ below sub. with_rows 62 m (Some (length rows)) below sub) (rows ++ row_of m (Some t) y word.Identity ∷ []) (subs_of y) = own-row 62 m (Some t) rows y word.Identity part in
        let inner = fold-rows (λ below sub. with_rows 62 m (Some (length rows)) below sub) (λ below sub. more-rows 62 m (Some (length rows)) below sub) (rows ++ row_of m (Some t) y word.Identity ∷ []) (subs_of y) in
        let deep : Extends (rows ++ row_of m (Some t) y word.Identity ∷ []) (with_rows 63 m (Some t) rows y) = record { more = inner.more; is = own ∙ inner.is } in
        let later = fold-rows (λ below sub. with_rows 63 m (Some t) below sub) (λ below sub. more-rows 63 m (Some t) below sub) (with_rows 63 m (Some t) rows y) subs in
        let all = chain (rows ++ row_of m (Some t) y word.Identity ∷ []) _ (rows_of stmts) (chain (rows ++ row_of m (Some t) y word.Identity ∷ []) (with_rows 63 m (Some t) rows y) _ deep later) ext in
        let free = alone m t rows all.more y (all.is ∙ append_assoc rows (row_of m (Some t) y word.Identity ∷ []) all.more) in
        let new : list_any (is_alike (m, y)) seen ≡ false = none-alike m t rows y free seen h in
        let front : take (length seen) whole ≡ seen = ap (take (length seen)) is ∙ take-front seen _ (length seen) refl in
        let test : IsTrue (is_new (length seen) (m, y)) = false-is (list_any (is_alike (m, y)) (take (length seen) whole)) (ap (list_any (is_alike (m, y))) front ∙ new) in
        let defined : defines word.Identity t (argument_of y) (row_of m (Some t) y word.Identity) ≡ true =
        let here : (t == t) ≡ true = grind (arith, nat_tests) in rw here (same-itself (argument_of y)) in
        let known : list_any (defines word.Identity t (argument_of y)) (with_rows 63 m (Some t) rows y) ≡ true =
        rw deep.is (any-kept (defines word.Identity t (argument_of y)) (rows ++ row_of m (Some t) y word.Identity ∷ []) deep.more (any-last (defines word.Identity t (argument_of y)) rows (row_of m (Some t) y word.Identity) defined)) in
        let kept = row-kept m t rows (with_rows 63 m (Some t) rows y) (more-rows 63 m (Some t) rows y) seen h in
        let more : IsTrue (list_all (has_row m t (with_rows 63 m (Some t) rows y)) (seen ++ (m, y) ∷ [])) =
        all-joined (has_row m t (with_rows 63 m (Some t) rows y)) seen ((m, y) ∷ []) kept (both (has_row m t (with_rows 63 m (Some t) rows y) (m, y)) true (second (nat_lt m m) known) refl) in
        let moved : whole ≡ (seen ++ (m, y) ∷ []) ++ (flat_map (identity_here m) subs ++ after) = let w = rw n at is in w ∙ sym (append_assoc seen ((m, y) ∷ []) (flat_map (identity_here m) subs ++ after)) in
        let count : length (seen ++ (m, y) ∷ []) ≡ length seen + 1 = omega (arith, length-append seen ((m, y) ∷ [])) in
        let rest = subs-new m t subs (seen ++ (m, y) ∷ []) after (with_rows 63 m (Some t) rows y) moved ext more in
        rw n (both (is_new (length seen) (m, y)) (all_from is_new (length seen + 1) (flat_map (identity_here m) subs)) test (subst (λ k. IsTrue (all_from is_new k (flat_map (identity_here m) subs))) count rest))
    | inr f ↦
        let plain : whole ≡ seen ++ (flat_map (identity_here m) subs ++ after) = rw f at is in
        rw f (subs-new m t subs seen after (with_rows 63 m (Some t) rows y) plain ext (row-kept m t rows (with_rows 63 m (Some t) rows y) (more-rows 63 m (Some t) rows y) seen h))
  ]
    where
      second : (a : Bool) {b : Bool} → b ≡ true → IsTrue (a || b)
      second true h = refl
      second false h = h

  -- identities of modules before
  abbrev is_before_module : ℕ → Identity → Bool
  is_before_module m x = nat_lt x.0 m

  here-before : (m : ℕ) (subs : List Stmt) → IsTrue (list_all (is_before_module (m + 1)) (flat_map (identity_here m) subs))
  here-before m [] = refl
  here-before m (y ∷ subs) = elim (cases_Bool (is_named word.Identity y)) [
    | inl n ↦ (let low : IsTrue (nat_lt m (m + 1)) = grind (arith, nat_tests) in rw n (both (nat_lt m (m + 1)) (list_all (is_before_module (m + 1)) (flat_map (identity_here m) subs)) low (here-before m subs)))
    | inr f ↦ rw f (here-before m subs)
  ]

  before-more : (m : ℕ) (seen : List Identity) → IsTrue (list_all (is_before_module m) seen) → IsTrue (list_all (is_before_module (m + 1)) seen)
  before-more m [] h = refl
  before-more m (x ∷ seen) h =
      let low = and_first (nat_lt x.0 m) (list_all (is_before_module m) seen) h in
      let more : IsTrue (nat_lt x.0 (m + 1)) = grind (arith, nat_tests) in
      both (nat_lt x.0 (m + 1)) (list_all (is_before_module (m + 1)) seen) more (before-more m seen (and_second (nat_lt x.0 m) (list_all (is_before_module m) seen) h))

  before-rows : (m t : ℕ) (rows : List TreeRow) (seen : List Identity) → IsTrue (list_all (is_before_module m) seen) → IsTrue (list_all (has_row m t rows) seen)
  before-rows m t rows [] h = refl
  before-rows m t rows (x ∷ seen) h =
      let low : nat_lt x.0 m ≡ true = and_first (nat_lt x.0 m) (list_all (is_before_module m) seen) h in
      both (has_row m t rows x) (list_all (has_row m t rows) seen) (rw low refl) (before-rows m t rows seen (and_second (nat_lt x.0 m) (list_all (is_before_module m) seen) h))

  modules-new : (m : ℕ) (some : List Stmt) (seen : List Identity) (rows : List TreeRow) → flat_map (λ (e : ℕ × Stmt). module_faults e.0 e.1) (enumerate_from m some) ≡ []
      → whole ≡ seen ++ flat_map (λ (e : ℕ × Stmt). identities_in e.0 e.1) (enumerate_from m some)
      → Extends (fold (λ rows (e : ℕ × Stmt). with_rows 64 e.0 None rows e.1) rows (enumerate_from m some)) (rows_of stmts) → IsTrue (list_all (is_before_module m) seen)
      → IsTrue (all_from is_new (length seen) (flat_map (λ (e : ℕ × Stmt). identities_in e.0 e.1) (enumerate_from m some)))
  modules-new m [] seen rows fine is ext h = refl
  modules-new m (stmt ∷ some) seen rows fine is ext h =
      let (good, later) = front-nil (module_faults m stmt) (flat_map (λ (e : ℕ × Stmt). module_faults e.0 e.1) (enumerate_from (m + 1) some)) fine in
      let top = is-module m stmt good in
      let rest = flat_map (λ (e : ℕ × Stmt). identities_in e.0 e.1) (enumerate_from (m + 1) some) in
      let here = flat_map (identity_here m) (subs_of stmt) in
      let own = own-row 63 m None rows stmt word.Module (part-named word.Module stmt top module-part) in
      let step = fold-modules (enumerate_from (m + 1) some) (with_rows 64 m None rows stmt) in
      let ext-here : Extends (fold (λ below sub. with_rows 63 m (Some (length rows)) below sub) (rows ++ row_of m None stmt word.Module ∷ []) (subs_of stmt)) (rows_of stmts) =
      subst (λ (xs : List TreeRow). Extends xs (rows_of stmts)) own (chain (with_rows 64 m None rows stmt) _ (rows_of stmts) step ext) in
      let first = subs-new m (length rows) (subs_of stmt) seen rest (rows ++ row_of m None stmt word.Module ∷ []) is ext-here (before-rows m (length rows) (rows ++ row_of m None stmt word.Module ∷ []) seen h) in
      let low = all-joined (is_before_module (m + 1)) seen here (before-more m seen h) (here-before m (subs_of stmt)) in
      let more = modules-new (m + 1) some (seen ++ here) (with_rows 64 m None rows stmt) later (is ∙ sym (append_assoc seen here rest)) ext low in
      all-joined-from is_new (length seen) here rest first (subst (λ k. IsTrue (all_from is_new k rest)) (length-append seen here) more)
    where
      fold-modules : (es : List (ℕ × Stmt)) (rows : List TreeRow) → Extends rows (fold (λ rows (e : ℕ × Stmt). with_rows 64 e.0 None rows e.1) rows es)
      fold-modules [] rows = itself rows
      fold-modules (e ∷ es) rows = chain rows (with_rows 64 e.0 None rows e.1) _ (more-rows 64 e.0 None rows e.1) (fold-modules es (with_rows 64 e.0 None rows e.1))

-- ---- their names

abbrev name_at : ℕ → Identity → List Named
name_at i one = named None one.0 (argument_of one.1) i ∷ []

infos-names : (edges : List (List ℕ)) (i : ℕ) (some : List Identity) → each_from name_at i some ≡ each_from identity_at i (infos_from edges i some)
infos-names edges i [] = refl
infos-names edges i (one ∷ some) = ap (λ rest. name_at i one ++ rest) (infos-names edges (i + 1) some)

apart : (i : ℕ) (x : Identity) (j : ℕ) (y : Identity) → IsTrue (not (is_alike y x)) → IsTrue (are_apart (name_at i x) (name_at j y))
apart i x j y h = elim (cases_Bool (is_called (name_of_parts None x.0 (argument_of x.1)) (named None y.0 (argument_of y.1) j))) [
  | inl t ↦
      (let rest = (called-same None None x.0 y.0 j (argument_of x.1) (argument_of y.1) t).1 in
      let here : (x.0 == y.0) ≡ true = let is = rest.0 in grind (arith, nat_tests) in
      let text : same (argument_of x.1) (argument_of y.1) ≡ true = ap (same (argument_of x.1)) rest.1 ∙ same-itself (argument_of x.1) in
      let yes : is_alike y x ≡ true = rw here text in
      let no = true-is (is_alike y x) h in absurd (wrong (sym yes ∙ no)))
  | inr f ↦ rw f refl
]
  where
    wrong : true ≡ false → ⊥
    wrong e = cc

pub identity-names-differ-on : (stmts : List Stmt) (nodes : List TreeNode) (table : SchemaTable) → IsBuiltOn stmts nodes table → AreGrown stmts nodes
    → IsTrue (are_distinct (identity_names table))
identity-names-differ-on stmts nodes table built grown =
    let all = identities_of stmts in
    let new = modules-new stmts built.tree all 0 stmts [] [] built.checked.profile refl (itself (rows_of stmts)) refl in
    let apart-all = pairs (λ (y x : Identity). is_alike y x) all [] all 0 refl refl new in
    let names = distinct-pairs name_at (λ i (x : Identity) j (y : Identity). not (is_alike y x)) (λ i x. refl) apart 0 all apart-all in
    subst (λ (t : SchemaTable). IsTrue (are_distinct (identity_names t))) built.is (subst (λ names. IsTrue (are_distinct names)) (infos-names (edges_of stmts) 0 all) names)

pub identity_names_differ : IdentityNamesDiffer
identity_names_differ stmts table e = identity-names-differ-on stmts (nodes_of stmts) table (built_on stmts table e) (built-grown stmts)
