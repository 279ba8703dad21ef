-- The prefixes of a path, by their lengths.
use Rattle.std.proofs.Common.{cond, ◌≡◌, ℕ, zero, suc, ◌+◌, ◌<◌, ◌≤◌, Bool, true, false, List, [], ◌∷◌, length, get_or, take, refl, ap, sym, ◌∙◌, arith}
use Rattle.std.specs.List.{list_all, common_prefix_len}
use Rattle.std.specs.Cmp.{first_so, second_so, Equal-is}
use Rattle.std.proofs.lemmas.Bool.{and_from}
use Rattle.std.proofs.lemmas.List.{length-map, get_or-map, take_all}
use Rattle.std.proofs.lemmas.List.Folds.{list_all_more, list_all_at}
use Rattle.sal_types.specs.declared.value.Step.{Step}
use Rattle.sal_types.specs.Order.{step_cmp-IsAntisymmetric}
use Rattle.sal_schema.specs.Fitting.{prefixes}
use Rattle.sal_data.specs.Read.{same_step}

length_prefixes : (path : List Step) → length (prefixes path) ≡ length path + 1
length_prefixes [] = refl
length_prefixes (step ∷ path) = omega (arith, length_prefixes path, length-map (prefixes path) (λ (q : List Step). step ∷ q))

prefix_at : (path : List Step) (n : ℕ) (d : List Step) → n ≤ length path → get_or (prefixes path) n d ≡ take n path
prefix_at [] zero d inside = refl
prefix_at [] (suc n) d inside = absurd (omega arith)
prefix_at (step ∷ path) zero d inside = refl
prefix_at (step ∷ path) (suc n) d inside =
    let within : n < length (prefixes path) = omega (arith, length_prefixes path) in
    get_or-map (λ (q : List Step). step ∷ q) (prefixes path) n d d within ∙ ap (λ (q : List Step). step ∷ q) (prefix_at path n d (omega arith))

module _ (test : List Step → Bool) (path : List Step) (n : ℕ) where
  pub all_more : n < length path + 1 → list_all test (take n (prefixes path)) ≡ true → test (take n path) ≡ true → list_all test (take (n + 1) (prefixes path)) ≡ true
  all_more inside before here =
      let at = prefix_at path n [] (omega arith) in
      list_all_more test (prefixes path) n [] (omega (arith, length_prefixes path)) ∙ and_from _ _ before (ap test at ∙ here)

  pub all_fails : n < length path + 1 → test (take n path) ≡ false → list_all test (prefixes path) ≡ false
  all_fails inside here =
      let at = prefix_at path n [] (omega arith) in
      list_all_at test (prefixes path) n [] (omega (arith, length_prefixes path)) (ap test at ∙ here)

  pub all_done : length path + 1 ≤ n → list_all test (take n (prefixes path)) ≡ true → list_all test (prefixes path) ≡ true
  all_done past before = ap (list_all test) (sym (take_all n (prefixes path) (omega (arith, length_prefixes path)))) ∙ before

-- ---- two paths, which begin alike

shared_within : (b p : List Step) → common_prefix_len same_step b p ≤ length b
shared_within [] p = omega arith
shared_within (s ∷ b) [] = omega arith
shared_within (s ∷ b) (t ∷ p) = let rest = shared_within b p in elim (same_step s t) as (λ x. cond x (1 + common_prefix_len same_step b p) 0 ≤ length (s ∷ b)) [ true ↦ omega arith | false ↦ omega arith ]

shared_inside : (b p : List Step) → common_prefix_len same_step b p ≤ length p
shared_inside [] p = omega arith
shared_inside (s ∷ b) [] = omega arith
shared_inside (s ∷ b) (t ∷ p) = let rest = shared_inside b p in elim (same_step s t) as (λ x. cond x (1 + common_prefix_len same_step b p) 0 ≤ length (t ∷ p)) [ true ↦ omega arith | false ↦ omega arith ]

alike : (b p : List Step) (n : ℕ) → n ≤ common_prefix_len same_step b p → take n p ≡ take n b
alike b p zero inside = refl
alike [] p (suc n) inside = absurd (omega arith)
alike (s ∷ b) [] (suc n) inside = absurd (omega arith)
alike (s ∷ b) (t ∷ p) (suc n) inside =
    elim (same_step s t) as (λ x. same_step s t ≡ x → suc n ≤ cond x (1 + common_prefix_len same_step b p) 0 → t ∷ take n p ≡ s ∷ take n b) [
      | true ↦ λ e l.
          let same : s ≡ t = step_cmp-IsAntisymmetric s t ((Equal-is _).0 e) in
          let rest = alike b p n (omega arith) in
          λ i. sym same i ∷ rest i
      | false ↦ λ e l. absurd (omega arith)
    ] refl inside

each_of : {X : Type 0} (test : X → Bool) (xs : List X) (k : ℕ) (d : X) → list_all test xs ≡ true → k < length xs → test (get_or xs k d) ≡ true
each_of test [] k d all inside = absurd (omega arith)
each_of test (x ∷ xs) zero d all inside = first_so (test x) (list_all test xs) all
each_of test (x ∷ xs) (suc k) d all inside = each_of test xs k d (second_so (test x) (list_all test xs) all) (omega arith)

-- what holds of each prefix of a path holds of those that another one shares with it
pub shared_all : (test : List Step → Bool) (b p : List Step) (m : ℕ) → m ≤ common_prefix_len same_step b p + 1 → list_all test (prefixes b) ≡ true → list_all test (take m (prefixes p)) ≡ true
shared_all test b p zero inside all = refl
shared_all test b p (suc m) inside all =
    let one : m + 1 ≡ suc m = omega arith in
    let low : m ≤ length b = omega (arith, shared_within b p) in
    let here : test (take m p) ≡ true =
    ap test (alike b p m (omega arith) ∙ sym (prefix_at b m [] low)) ∙ each_of test (prefixes b) m [] all (omega (arith, length_prefixes b)) in
    ap (λ k. list_all test (take k (prefixes p))) (sym one) ∙ all_more test p m (omega (arith, shared_inside b p)) (shared_all test b p m (omega arith) all) here
