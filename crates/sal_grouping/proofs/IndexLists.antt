-- Tables parallel to the list of statements, from one statement to the next.
use Rattle.std.proofs.Common.{◌≡◌, ◌≢◌, ℕ, zero, suc, ◌+◌, ◌<◌, ◌==◌, ◌&&◌, List, [], ◌∷◌, ◌++◌, length, take, get_or, Bool, true, false, not, Some, if◌then◌else◌, refl, ◌∙◌, sym, ap, inl, inr, arith, get_or-set_other, get_or-set_same, append-nil}
use Rattle.std.proofs.Math.ListN.{set}
use Rattle.std.specs.Prelude.{Vec}
use Rattle.std.specs.declared.alloc.Global.{Global}
use Rattle.std.specs.BTreeMap.{get_by_text}
use Rattle.std.proofs.lemmas.Bool.{cases_Bool}
use Rattle.std.proofs.lemmas.List.{get_or_default}
use Rattle.std.proofs.lemmas.Bool.Decides.{nat_tests}
use Rattle.sal_module.specs.declared.keyword.Keyword.{Keyword}
use Rattle.sal_module.specs.Keywords.{same, same_keyword}
use Rattle.sal_grouping.specs.declared.rows.Row.{Row}
use Rattle.sal_grouping.specs.Rows.{is_inside, all_inside, defines, first_defined}
use Rattle.sal_grouping.specs.Indexes.{Names, with_first, picked, lists}
pub use Rattle.sal_module.proofs.Firsts.{with_first-miss, first-put}
use Rattle.sal_grouping.proofs.Places.{numbered-take, position_from-take}

-- ---- lists

pub nil-last : (xs : List (List ℕ)) → ((b : ℕ) → get_or xs b [] ≡ []) → (b : ℕ) → get_or (xs ++ [] ∷ []) b [] ≡ []
nil-last [] h zero = refl
nil-last [] h (suc b) = refl
nil-last (x ∷ xs) h zero = h 0
nil-last (x ∷ xs) h (suc b) = nil-last xs (λ k. h (suc k)) b

lists-set : (all : List (Vec ℕ Global)) (b : ℕ) (v : Vec ℕ Global) → lists (set all b v) ≡ set (lists all) b v.items
lists-set [] b v = refl
lists-set (x ∷ all) zero v = refl
lists-set (x ∷ all) (suc b) v = ap (λ rest. x.items ∷ rest) (lists-set all b v)

pub lists-get : (all : List (Vec ℕ Global)) (b : ℕ) (d : Vec ℕ Global) → b < length all → get_or (lists all) b [] ≡ (get_or all b d).items
lists-get [] b d h = absurd (omega arith)
lists-get (x ∷ all) zero d h = refl
lists-get (x ∷ all) (suc b) d h = lists-get all b d (omega arith)

pub lists-length : (all : List (Vec ℕ Global)) → length (lists all) ≡ length all
lists-length [] = refl
lists-length (x ∷ all) = ap suc (lists-length all)

pub is-same : (a b : ℕ) → a ≡ b → (a == b) ≡ true
is-same a b e = grind (arith, nat_tests)

pub not-same : (a b : ℕ) → a ≢ b → (a == b) ≡ false
not-same a b e = grind (arith, nat_tests)

pub pick-at : (all : List (Vec ℕ Global)) (b k : ℕ) (old new : Vec ℕ Global) → b < length all → old ≡ get_or all b old → new.items ≡ old.items ++ k ∷ [] → (c : ℕ)
    → c < length (lists all) → get_or (lists (set all b new)) c [] ≡ get_or (lists all) c [] ++ picked c (Some b) (Some k)
pick-at all b k old new h is put c h2 = elim (cases_Bool (b == c)) [
  | inl e ↦
      let here : b ≡ c = grind (arith, nat_tests) in
      let lt : b < length (lists all) = omega (arith, lists-length all) in
      let got : get_or (lists all) b [] ≡ old.items = lists-get all b old h ∙ ap (λ (v : Vec ℕ Global). v.items) (sym is) in
      let new_at : get_or (lists (set all b new)) b [] ≡ get_or (lists all) b [] ++ k ∷ [] =
      ap (λ xs. get_or xs b []) (lists-set all b new) ∙ rw get_or-set_same (put ∙ ap (λ xs. xs ++ k ∷ []) (sym got)) in
      rw e (rw (← here) new_at)
  | inr e ↦
      let other : c ≢ b = grind (arith, nat_tests) in
      rw e (ap (λ xs. get_or xs c []) (lists-set all b new) ∙ rw get_or-set_other (sym (append-nil (get_or (lists all) c []))))
]

pub inside-take : (rows : List Row) (i : ℕ) (row : Row) → i < length rows → row ≡ get_or rows i row → (b : ℕ) → all_inside (take (i + 1) rows) b ≡ all_inside (take i rows) b ++ picked b row.around (Some i)
inside-take rows i row h is b =
    numbered-take (λ k (r : Row). if is_inside b r then k ∷ [] else []) rows i row h
    ∙ ap (λ (r : Row). all_inside (take i rows) b ++ picked b r.around (Some i)) (sym is)

-- ---- names

no-block : (a c : Bool) → ((a && false) && c) ≡ false
no-block true c = refl
no-block false c = refl

pub defines-other : (keyword : Keyword) (b : ℕ) (q : List ℕ) (row : Row) → same_keyword row.keyword keyword ≡ false → defines keyword b q row ≡ false
defines-other keyword b q row e = rw e (no-block (is_inside b row) (same row.name q))

pub define-at : (maps : List Names) (b k : ℕ) (old new : Names) (keyword : Keyword) (row : Row) → row.around ≡ Some b → same_keyword row.keyword keyword ≡ true → b < length maps
    → old ≡ get_or maps b old → ((q : List ℕ) → get_by_text new q ≡ with_first (get_by_text old q) (same row.name q) k) → (c : ℕ) (d : Names) → c < length maps → (q : List ℕ)
    → get_by_text (get_or (set maps b new) c d) q ≡ with_first (get_by_text (get_or maps c d) q) (defines keyword c q row) k
define-at maps b k old new keyword row around is_keyword h is put c d h2 q = elim (cases_Bool (b == c)) [
  | inl e ↦
      let here : b ≡ c = grind (arith, nat_tests) in
      let was : get_or maps b d ≡ old = get_or_default maps b d old h ∙ sym is in
      rw (around, e, is_keyword) (rw (← here) (rw get_or-set_same (put q ∙ ap (λ (m : Names). with_first (get_by_text m q) (same row.name q) k) (sym was))))
  | inr e ↦
      let other : c ≢ b = grind (arith, nat_tests) in
      rw (around, e) (rw get_or-set_other (sym (with_first-miss (get_by_text (get_or maps c d) q) k)))
]

pub first-take : (rows : List Row) (i : ℕ) (row : Row) → i < length rows → row ≡ get_or rows i row → (keyword : Keyword) (b : ℕ) (q : List ℕ)
    → first_defined (take (i + 1) rows) keyword b q ≡ with_first (first_defined (take i rows) keyword b q) (defines keyword b q row) i
first-take rows i row h is keyword b q =
    position_from-take (defines keyword b q) rows i row h
    ∙ ap (λ (r : Row). with_first (first_defined (take i rows) keyword b q) (defines keyword b q r) i) (sym is)

pub not-true : (b : Bool) → not b ≡ true → b ≡ false
not-true true h = absurd (let no : false ≡ true = h in cc)
not-true false h = refl

pub not-false : (b : Bool) → not b ≡ false → b ≡ true
not-false true h = refl
not-false false h = absurd (let no : true ≡ false = h in cc)
