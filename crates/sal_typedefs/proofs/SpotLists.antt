-- Blocks around a statement, from one to the next.
use Rattle.std.proofs.Common.{◌≡◌, ℕ, zero, suc, ◌+◌, ◌-◌, ◌<◌, List, [], ◌∷◌, ◌++◌, take, Bool, true, false, not, Some, None, is_some, option_map, if◌then◌else◌, refl, ◌∙◌, sym, ap, inl, inr, arith}
use Rattle.std.specs.Prelude.{find, reverse}
use Rattle.std.specs.List.{sum_by, list_any}
use Rattle.std.proofs.lemmas.Bool.{cases_Bool}
use Rattle.std.proofs.lemmas.List.{reverse-append}
use Rattle.sal_stmt.specs.declared.stmt.Stmt.{Stmt}
use Rattle.sal_module.specs.declared.keyword.Keyword.TheVariants as word
use Rattle.sal_module.specs.Statements.{is_named, subs_of}
use Rattle.sal_typedefs.specs.Scopes.{Site, is_typedef_of, closest}
use Rattle.sal_typedefs.specs.Names.{count}
use Rattle.sal_typedefs.specs.Spots.{site_in}

-- ---- the innermost block

pub found-here : (m : ℕ) (name : List ℕ) (block t : Stmt) (outer : List Stmt) → Some t ≡ find (is_typedef_of name) (subs_of block)
    → closest m name (block ∷ outer) ≡ Some (record { «module» = m; stmt = t; around = block ∷ outer })
found-here m name block t outer e = rw (← e) refl

pub found-later : (m : ℕ) (name : List ℕ) (block : Stmt) (outer : List Stmt) → None ≡ find (is_typedef_of name) (subs_of block) → closest m name (block ∷ outer) ≡ closest m name outer
found-later m name block outer e = rw (← e) refl

-- ---- blocks before others

abbrev pub longer : List Stmt → Site → Site
longer ys s = record { «module» = s.module; stmt = s.stmt; around = s.around ++ ys }

pub closest-some : (m : ℕ) (name : List ℕ) (xs ys : List Stmt) (s : Site) → closest m name xs ≡ Some s → closest m name (xs ++ ys) ≡ Some (longer ys s)
closest-some m name [] ys s e = cc
closest-some m name (x ∷ xs) ys s e =
    elim (find (is_typedef_of name) (subs_of x)) as
    (λ f. (if is_some f then option_map (λ t. record { «module» = m; stmt = t; around = x ∷ xs }) f else closest m name xs) ≡ Some s
    → (if is_some f then option_map (λ t. record { «module» = m; stmt = t; around = x ∷ (xs ++ ys) }) f else closest m name (xs ++ ys)) ≡ Some (longer ys s)) [
      | Some t ↦ λ h. ap (option_map (longer ys)) h
      | None ↦ λ h. closest-some m name xs ys s h
    ] e

pub closest-none : (m : ℕ) (name : List ℕ) (xs ys : List Stmt) → closest m name xs ≡ None → closest m name (xs ++ ys) ≡ closest m name ys
closest-none m name [] ys e = refl
closest-none m name (x ∷ xs) ys e =
    elim (find (is_typedef_of name) (subs_of x)) as
    (λ f. (if is_some f then option_map (λ t. record { «module» = m; stmt = t; around = x ∷ xs }) f else closest m name xs) ≡ None
    → (if is_some f then option_map (λ t. record { «module» = m; stmt = t; around = x ∷ (xs ++ ys) }) f else closest m name (xs ++ ys)) ≡ closest m name ys) [
      | Some t ↦ λ h. cc
      | None ↦ λ h. closest-none m name xs ys h
    ] e

-- the blocks inside come first
pub inner-some : (m : ℕ) (name : List ℕ) (outer inner : List Stmt) (n : ℕ) (t : Stmt) → closest m name (reverse inner) ≡ Some (site_in m (take n inner) t)
    → closest m name (reverse (outer ++ inner)) ≡ Some (site_in m (outer ++ take n inner) t)
inner-some m name outer inner n t e =
    ap (closest m name) (reverse-append outer inner) ∙ closest-some m name (reverse inner) (reverse outer) (site_in m (take n inner) t) e
    ∙ ap (λ around. Some (record { «module» = m; stmt = t; around = around })) (sym (reverse-append outer (take n inner)))

pub inner-none : (m : ℕ) (name : List ℕ) (outer inner : List Stmt) → closest m name (reverse inner) ≡ None → closest m name (reverse (outer ++ inner)) ≡ closest m name (reverse outer)
inner-none m name outer inner e = ap (closest m name) (reverse-append outer inner) ∙ closest-none m name (reverse inner) (reverse outer) e

-- ---- the innermost that passes

find-some : (p : Stmt → Bool) (xs ys : List Stmt) (x : Stmt) → Some x ≡ find p xs → Some x ≡ find p (xs ++ ys)
find-some p [] ys x e = cc
find-some p (y ∷ xs) ys x e = elim (p y) as (λ b. Some x ≡ (if b then Some y else find p xs) → Some x ≡ (if b then Some y else find p (xs ++ ys))) [ true ↦ λ h. h | false ↦ λ h. find-some p xs ys x h ] e

find-none : (p : Stmt → Bool) (xs ys : List Stmt) → None ≡ find p xs → find p ys ≡ find p (xs ++ ys)
find-none p [] ys e = refl
find-none p (y ∷ xs) ys e = elim (p y) as (λ b. None ≡ (if b then Some y else find p xs) → find p ys ≡ (if b then Some y else find p (xs ++ ys))) [ true ↦ λ h. cc | false ↦ λ h. find-none p xs ys h ] e

pub inner-passes : (p : Stmt → Bool) (outer inner : List Stmt) (x : Stmt) → Some x ≡ find p (reverse inner) → Some x ≡ find p (reverse (outer ++ inner))
inner-passes p outer inner x e = find-some p (reverse inner) (reverse outer) x e ∙ ap (find p) (sym (reverse-append outer inner))

pub inner-fails : (p : Stmt → Bool) (outer inner : List Stmt) → None ≡ find p (reverse inner) → find p (reverse outer) ≡ find p (reverse (outer ++ inner))
inner-fails p outer inner e = find-none p (reverse inner) (reverse outer) e ∙ ap (find p) (sym (reverse-append outer inner))

-- ---- counts

pub count-none : (levels : ℕ) (stmt : Stmt) → levels ≡ 0 → 1 ≡ count levels stmt
unfolding count
count-none levels stmt e = rw e refl

pub count-more : (levels : ℕ) (stmt : Stmt) → 0 < levels → 1 + sum_by (count (levels - 1)) (subs_of stmt) ≡ count levels stmt
unfolding count
count-more zero stmt h = absurd (omega arith)
count-more (suc levels) stmt h = let less : suc levels - 1 ≡ levels = omega arith in rw less refl

-- ---- blocks without typedefs

pub no-typedef : (name : List ℕ) (subs : List Stmt) → list_any (is_named word.Typedef) subs ≡ false → find (is_typedef_of name) subs ≡ None
no-typedef name [] e = refl
no-typedef name (x ∷ xs) e = elim (cases_Bool (is_named word.Typedef x)) [ inl t ↦ let h = rw t at e in cc | inr f ↦ let h = rw f at e in rw f (no-typedef name xs h) ]

pub not-so : (b : Bool) → not b ≡ true → b ≡ false
not-so true e = cc
not-so false e = refl
