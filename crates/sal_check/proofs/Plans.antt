-- The lists of nodes that are judged at each place.
use Rattle.std.proofs.Common.{◌≡◌, ℕ, zero, suc, ◌+◌, ◌<◌, ◌≤◌, Bool, true, false, ◌&&◌, ◌||◌, [], ◌∷◌, ◌++◌, length, get_or, Option, Some, None, append-nil, refl, sym, ap, subst, ◌∙◌, arith}
use Rattle.std.specs.Prelude.{IfSome, nat_eq, not, if◌then◌else◌}
use Rattle.std.specs.List.{filter, list_any, All}
use Rattle.std.proofs.lemmas.Bool.Decides.{nat_tests}
use Rattle.std.proofs.lemmas.List.Elements.{filter-append, All-append}
use Rattle.std.proofs.lemmas.List.Folds.{list_any-append}
use Rattle.sal_types.proofs.Handy.{or-false}
use Rattle.sal_schema.specs.declared.table.SchemaTable.{SchemaTable}
use Rattle.sal_schema.specs.Kinds.{is_choice_or_case}
use Rattle.sal_schema.specs.Table.{data_parent, parent_of}
use Rattle.sal_rules.specs.Breaches.{first}
use Rattle.sal_rules.specs.Contexts.{context, stand}
use Rattle.sal_check.specs.Nodes.{slot, states, is_judged_in, judged_in}
use Rattle.sal_check.proofs.Climbs.{closest-inside}

-- ---- numbers below another

first-suc : (n : ℕ) → first (suc n) ≡ first n ++ n ∷ []
unfolding first
first-suc n = refl

pub first-more : (n : ℕ) → first (n + 1) ≡ first n ++ n ∷ []
first-more n = ap first (let e : n + 1 ≡ suc n = omega arith in e) ∙ first-suc n

first-zero : first 0 ≡ []
unfolding first
first-zero = refl

pub kept-none : (test : ℕ → Bool) → [] ≡ filter test (first 0)
kept-none test = sym (ap (filter test) first-zero)

pub kept-one_more : (test : ℕ → Bool) (n : ℕ) → filter test (first n) ++ (if test n then n ∷ [] else []) ≡ filter test (first (n + 1))
kept-one_more test n = sym (filter-append test (first n) (n ∷ [])) ∙ ap (filter test) (sym (first-more n))

-- ---- whether one of them passes a test

pub some-none : (test : ℕ → Bool) → false ≡ list_any test (first 0)
some-none test = sym (ap (list_any test) first-zero)

some-one_more : (test : ℕ → Bool) (n : ℕ) → list_any test (first (n + 1)) ≡ (list_any test (first n) || (test n || false))
some-one_more test n = ap (list_any test) (first-more n) ∙ list_any-append test (first n) (n ∷ [])

or_true : (b : Bool) → (b || (true || false)) ≡ true
or_true true = refl
or_true false = refl

-- the last one passes it, or does not
pub some-last : (test : ℕ → Bool) (n : ℕ) → test n ≡ true → true ≡ list_any test (first (n + 1))
some-last test n e = sym (some-one_more test n ∙ ap (λ b. list_any test (first n) || (b || false)) e ∙ or_true (list_any test (first n)))

pub some-same : (test : ℕ → Bool) (n : ℕ) → test n ≡ false → list_any test (first n) ≡ list_any test (first (n + 1))
some-same test n e = sym (some-one_more test n ∙ ap (λ b. list_any test (first n) || (b || false)) e ∙ or-false (list_any test (first n)))

-- ---- those that pass it

pub kept-same : (test : ℕ → Bool) (n : ℕ) → test n ≡ false → filter test (first n) ≡ filter test (first (n + 1))
kept-same test n e = sym (append-nil (filter test (first n))) ∙ ap (λ b. filter test (first n) ++ (if b then n ∷ [] else [])) (sym e) ∙ kept-one_more test n

pub kept-inside : (test : ℕ → Bool) (n m : ℕ) → n ≤ m → All (λ x. x < m) (filter test (first n))
kept-inside test zero m h = subst (All (λ x. x < m)) (kept-none test) (λ k d low. absurd (omega arith))
kept-inside test (suc n) m h =
    let e : n + 1 ≡ suc n = omega arith in
    subst (λ k. All (λ x. x < m) (filter test (first k))) e
    (subst (All (λ x. x < m)) (kept-one_more test n) (All-append (λ x. x < m) (filter test (first n)) (if test n then n ∷ [] else []) (kept-inside test n m (omega arith)) (last (test n))))
  where
    last : (b : Bool) → All (λ x. x < m) (if b then n ∷ [] else [])
    last true = λ k d low. let z : k ≡ 0 = omega arith in subst (λ j. get_or (n ∷ []) j d < m) (sym z) (omega arith)
    last false = λ k d low. absurd (omega arith)

kept-no : (test : ℕ → Bool) → ((n : ℕ) → test n ≡ false) → (n : ℕ) → filter test (first n) ≡ []
kept-no test fails zero = sym (kept-none test)
kept-no test fails (suc n) =
    ap (λ k. filter test (first k)) (let e : suc n ≡ n + 1 = omega arith in e) ∙ sym (kept-one_more test n)
    ∙ (λ i. kept-no test fails n i ++ (if fails n i then n ∷ [] else []))

-- ---- the places at which nodes are judged

module _ (table : SchemaTable) where
  abbrev size : ℕ
  size = length table.nodes

  slot-inside : (o : Option ℕ) → IfSome o (λ k. k < size) → slot o < size + 1
  slot-inside None h = omega arith
  slot-inside (Some k) h = omega arith

  pub stand-inside : (n : ℕ) → slot (stand table n) < size + 1
  stand-inside n = slot-inside (stand table n) (closest-inside (λ kind. not (is_choice_or_case kind)) table size (context table n))

  pub parent-inside : (n : ℕ) → slot (data_parent table n) < size + 1
  parent-inside n = slot-inside (data_parent table n) (closest-inside (λ kind. not (is_choice_or_case kind)) table size (parent_of table n))

  differ : (a k : ℕ) → a < size + 1 → size + 1 ≤ k → nat_eq a k ≡ false
  differ a k low high = grind (arith, nat_tests)

  neither : (a : Bool) → (a && (false || false)) ≡ false
  neither true = refl
  neither false = refl

  pub judged-none : (k : ℕ) → size + 1 ≤ k → [] ≡ judged_in table k
  judged-none k high = sym (kept-no (is_judged_in table k) (λ n. (λ i. states table n && (differ (slot (stand table n)) k (stand-inside n) high i || differ (slot (data_parent table n)) k (parent-inside n) high i)) ∙ neither (states table n)) size)
