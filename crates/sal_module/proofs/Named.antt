-- Maps of prefixes, one map a module.
use Rattle.std.proofs.Common.{◌≡◌, ℕ, ◌-◌, ◌<◌, ◌≤◌, List, [], ◌∷◌, ◌++◌, length, get_or, Bool, true, false, Option, None, unwrap_or, refl, sym, ap, ◌∙◌, inl, inr, arith, length-append}
use Rattle.std.proofs.lemmas.Bool.{cases_lt, cases_Bool}
use Rattle.std.proofs.lemmas.List.Folds.{list_all_at}
use Rattle.std.proofs.lemmas.Option.{slice_get-get_or, slice_get_past}
use Rattle.std.specs.List.{list_all}
use Rattle.std.proofs.lemmas.List.{get_or_append_left, get_or-append_right, get_or_default}
use Rattle.std.specs.BTreeMap.{get_by_text}
use Rattle.sal_stmt.specs.declared.stmt.Stmt.{Stmt}
use Rattle.sal_module.specs.Imports.{find_named, named_prefixes, imports_of}
use Rattle.sal_module.specs.Modules.{Prefixes, AreNamed, imported, names_of}

-- the map of one more module
pub AreNamed-last : (stmts : List Stmt) (maps : List Prefixes) (i : ℕ) (map : Prefixes) (stmt : Stmt) → AreNamed stmts maps → length maps ≡ i → i < length stmts → stmt ≡ get_or stmts i stmt
    → ((q : List ℕ) → get_by_text map q ≡ find_named (named_prefixes stmts i stmt (imports_of stmt)) q) → AreNamed stmts (maps ++ map ∷ [])
AreNamed-last stmts maps i map stmt so_far count within is here m d e h q = elim (cases_lt m (length maps)) [
  | inl before ↦ ap (λ (x : Prefixes). get_by_text x q) (get_or_append_left maps (map ∷ []) d m before) ∙ so_far m d e before q
  | inr after ↦
      let last : m ≡ i = omega (arith, length-append maps (map ∷ [])) in
      let place : m - length maps ≡ 0 = omega (arith, length-append maps (map ∷ [])) in
      let got : get_or (maps ++ map ∷ []) m d ≡ map = get_or-append_right maps (map ∷ []) (length maps) m d refl after ∙ rw place refl in
      let that : stmt ≡ get_or stmts i e = is ∙ get_or_default stmts i stmt e within in
      ap (λ (x : Prefixes). get_by_text x q) got ∙ here q
      ∙ ap (λ (s : Stmt). find_named (named_prefixes stmts i s (imports_of s)) q) that
      ∙ ap (λ k. find_named (named_prefixes stmts k (get_or stmts k e) (imports_of (get_or stmts k e))) q) (sym last)
]

-- ---- look-ups

pub imported-at : (stmts : List Stmt) (maps : List Prefixes) (m : ℕ) (d : Prefixes) (q : List ℕ) → AreNamed stmts maps → length maps ≡ length stmts → m < length maps
    → unwrap_or (get_by_text (get_or maps m d) q) None ≡ imported stmts m q
imported-at [] maps m d q names count h = absurd (omega arith)
imported-at (stmt ∷ stmts) maps m d q names count h =
    let got = slice_get-get_or (stmt ∷ stmts) m stmt (omega arith) in
    ap (λ (r : Option (Option ℕ)). unwrap_or r None) (names m d stmt h q)
    ∙ ap (λ (s : Option Stmt). unwrap_or (find_named (names_of (stmt ∷ stmts) m s) q) None) (sym got)

pub imported-past : (stmts : List Stmt) (m : ℕ) (q : List ℕ) → length stmts ≤ m → imported stmts m q ≡ None
imported-past stmts m q h = ap (λ (s : Option Stmt). unwrap_or (find_named (names_of stmts m s) q) None) (slice_get_past stmts m h)

pub all-at : (p : Stmt → Bool) (stmts : List Stmt) (i : ℕ) (d : Stmt) → i < length stmts → list_all p stmts ≡ true → p (get_or stmts i d) ≡ true
all-at p stmts i d h all = elim (cases_Bool (p (get_or stmts i d))) [
  | inl e ↦ e
  | inr e ↦ absurd (let no : true ≡ false = sym all ∙ list_all_at p stmts i d h e in cc)
]
