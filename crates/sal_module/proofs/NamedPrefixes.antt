-- Prefixes in a map, from one import to the next.
use Rattle.std.proofs.Common.{◌≡◌, ℕ, Bool, true, false, List, [], ◌∷◌, ◌++◌, map, Option, Some, None, is_some, if◌then◌else◌, refl, sym, ap, ◌∙◌, inl, inr, ◌+◌, ◌<◌, length, take, get_or, filter, append_assoc, append-nil}
use Rattle.std.proofs.lemmas.List.{take_more, map-append}
use Rattle.std.proofs.lemmas.List.Elements.{filter-append}
use Rattle.std.proofs.lemmas.List.Sums.{fold-append}
use Rattle.std.specs.List.{list_any}
use Rattle.std.specs.Str.{bytes_eq}
use Rattle.std.specs.String.{string_bytes, string_cmp}
use Rattle.std.specs.Prelude.{String}
use Rattle.std.specs.declared.alloc.Global.{Global}
use Rattle.std.specs.BTreeMap.{BTreeMap, UpdatesBy, get_by_text}
use Rattle.std.specs.Cmp.Lexicographic.{slice_cmp}
use Rattle.std.specs.Ordering.{nat_cmp}
use Rattle.std.proofs.lemmas.Bool.{cases_Bool}
use Rattle.std.proofs.lemmas.Slice.Eq.{bytes_eq-Decides}
use Rattle.std.proofs.lemmas.Map.Text.{btree_map_updates_text}
use Rattle.sal_stmt.specs.declared.stmt.Stmt.{Stmt}
use Rattle.sal_module.specs.declared.fault.Cause.TheVariants.{BadArgument}
use Rattle.sal_module.specs.declared.fault.Found.{Found}
use Rattle.sal_module.specs.Faults.{least, better}
use Rattle.sal_module.specs.Keywords.{same}
use Rattle.sal_module.specs.Profile.{at_stmt}
use Rattle.sal_module.specs.Imports.{Named, named_import, named_prefixes, find_named, prefix_of, prefix_faults}

-- the result for the names, or for one more name after them
find_named-last : (names : List Named) (n : Named) (q : List ℕ)
    → find_named (names ++ n ∷ []) q ≡ (if is_some (find_named names q) then find_named names q else if same q n.0 then Some n.1 else None)
find_named-last [] n q = elim (cases_Bool (same q n.0)) [ inl e ↦ rw e refl | inr e ↦ rw e refl ]
find_named-last (one ∷ names) n q = elim (cases_Bool (same q one.0)) [ inl e ↦ rw e refl | inr e ↦ rw e (find_named-last names n q) ]

-- a prefix is known where one of the names is the same
pub find_named-any : (names : List Named) (q : List ℕ) → is_some (find_named names q) ≡ list_any (same q) (map (λ (n : Named). n.0) names)
find_named-any [] q = refl
find_named-any (one ∷ names) q = elim (cases_Bool (same q one.0)) [ inl e ↦ rw e refl | inr e ↦ rw e (find_named-any names q) ]

-- ---- one more prefix in the map

same-sym : (a b : List ℕ) → same a b ≡ false → same b a ≡ false
same-sym a b e = elim (cases_Bool (same b a)) [
  | inl h ↦ absurd (let no : true ≡ false = sym ((bytes_eq-Decides a b).1 (sym ((bytes_eq-Decides b a).0 h))) ∙ e in cc)
  | inr h ↦ h
]

module _ (old new : BTreeMap (String Global) (Option ℕ)) (key : String Global) (place : Option ℕ)
    (updates : UpdatesBy string_cmp (λ k. slice_cmp nat_cmp (string_bytes key) (string_bytes k)) old new (Some place)) where
  here : (q : List ℕ) → get_by_text new q ≡ (if bytes_eq (string_bytes key) q then Some place else get_by_text old q)
  here q = btree_map_updates_text (string_bytes key) old new (Some place) updates q

  pub find_named-put : (names : List Named) → ((q : List ℕ) → get_by_text old q ≡ find_named names q) → is_some (find_named names (string_bytes key)) ≡ false
      → (q : List ℕ) → get_by_text new q ≡ find_named (names ++ (string_bytes key, place) ∷ []) q
  find_named-put names so_far unknown q = elim (cases_Bool (bytes_eq (string_bytes key) q)) [
    | inl e ↦
        let is : string_bytes key ≡ q = (bytes_eq-Decides (string_bytes key) q).0 e in
        let none = rw is at unknown in
        let found : same q (string_bytes key) ≡ true = (bytes_eq-Decides q (string_bytes key)).1 (sym is) in
        here q ∙ rw (e, find_named-last names (string_bytes key, place) q, none, found) refl
    | inr e ↦
        let other = same-sym (string_bytes key) q e in
        here q ∙ rw (e, find_named-last names (string_bytes key, place) q, other, so_far q) (elim (find_named names q) as (λ r. r ≡ (if is_some r then r else None)) [ Some x ↦ refl | None ↦ refl ])
  ]

-- a prefix that is known already changes nothing
pub find_named-known : (names : List Named) (n : Named) → is_some (find_named names n.0) ≡ true → (q : List ℕ) → find_named names q ≡ find_named (names ++ n ∷ []) q
find_named-known names n known q = elim (cases_Bool (same q n.0)) [
  | inl e ↦
      let is : n.0 ≡ q = sym ((bytes_eq-Decides q n.0).0 e) in
      let known' = rw is at known in
      rw (find_named-last names n q, known') refl
  | inr e ↦ rw (find_named-last names n q, e) (elim (find_named names q) as (λ r. r ≡ (if is_some r then r else None)) [ Some x ↦ refl | None ↦ refl ])
]

-- one more import
pub named_prefixes-last : (stmts : List Stmt) (m : ℕ) (stmt : Stmt) (imports : List Stmt) (one : Stmt)
    → named_prefixes stmts m stmt (imports ++ one ∷ []) ≡ named_prefixes stmts m stmt imports ++ named_import stmts one ∷ []
named_prefixes-last stmts m stmt imports one = ap (λ rest. (prefix_of stmt, Some m) ∷ rest) (map-append (named_import stmts) imports (one ∷ []))

pub names-prefixes : (stmts : List Stmt) (imports : List Stmt) → map (λ (n : Named). n.0) (map (named_import stmts) imports) ≡ map prefix_of imports
names-prefixes stmts [] = refl
names-prefixes stmts (one ∷ imports) = ap (λ rest. prefix_of one ∷ rest) (names-prefixes stmts imports)

-- a prefix is known exactly if it is that of the module or of an import
pub named_prefixes-any : (stmts : List Stmt) (m : ℕ) (stmt : Stmt) (imports : List Stmt) (q : List ℕ)
    → is_some (find_named (named_prefixes stmts m stmt imports) q) ≡ list_any (same q) ((prefix_of stmt ∷ []) ++ map prefix_of imports)
named_prefixes-any stmts m stmt imports q =
    find_named-any (named_prefixes stmts m stmt imports) q ∙ ap (λ rest. list_any (same q) (prefix_of stmt ∷ rest)) (names-prefixes stmts imports)

pub filter-take : (p : Stmt → Bool) (xs : List Stmt) (i : ℕ) (x : Stmt) → i < length xs → x ≡ get_or xs i x → p x ≡ true → filter p (take (i + 1) xs) ≡ filter p (take i xs) ++ x ∷ []
filter-take p xs i x h is passes =
    ap (filter p) (take_more xs i x h) ∙ filter-append p (take i xs) (get_or xs i x ∷ []) ∙ rw (← is, passes) refl

-- ---- faults

pub prefix_faults-last : (m : ℕ) (before : List (List ℕ)) (imports : List Stmt) (one : Stmt)
    → prefix_faults m before (imports ++ one ∷ [])
    ≡ prefix_faults m before imports ++ (if list_any (same (prefix_of one)) (before ++ map prefix_of imports) then at_stmt BadArgument m one else [])
prefix_faults-last m before [] one = rw (append-nil before) (append-nil (if list_any (same (prefix_of one)) before then at_stmt BadArgument m one else []))
prefix_faults-last m before (first ∷ imports) one =
    let here = if list_any (same (prefix_of first)) before then at_stmt BadArgument m first else [] in
    let more = before ++ prefix_of first ∷ [] in
    let front : more ++ map prefix_of imports ≡ before ++ prefix_of first ∷ map prefix_of imports = append_assoc before (prefix_of first ∷ []) (map prefix_of imports) in
    let last = if list_any (same (prefix_of one)) (before ++ prefix_of first ∷ map prefix_of imports) then at_stmt BadArgument m one else [] in
    let rest : prefix_faults m more (imports ++ one ∷ []) ≡ prefix_faults m more imports ++ last = prefix_faults-last m more imports one ∙ ap (λ (b : List (List ℕ)). prefix_faults m more imports ++ (if list_any (same (prefix_of one)) b then at_stmt BadArgument m one else [])) front in
    ap (λ (r : List Found). here ++ r) rest ∙ sym (append_assoc here (prefix_faults m more imports) last)

-- the fault of one more import
pub prefix_faults-more : (m : ℕ) (own : List ℕ) (imports : List Stmt) (one : Stmt) (start best next : Option Found)
    → best ≡ least start (prefix_faults m (own ∷ []) imports)
    → next ≡ least best (if list_any (same (prefix_of one)) ((own ∷ []) ++ map prefix_of imports) then at_stmt BadArgument m one else [])
    → next ≡ least start (prefix_faults m (own ∷ []) (imports ++ one ∷ []))
prefix_faults-more m own imports one start best next so_far step =
    let last = if list_any (same (prefix_of one)) ((own ∷ []) ++ map prefix_of imports) then at_stmt BadArgument m one else [] in
    step ∙ ap (λ b. least b last) so_far ∙ sym (fold-append better start (prefix_faults m (own ∷ []) imports) last)
    ∙ ap (least start) (sym (prefix_faults-last m (own ∷ []) imports one))
