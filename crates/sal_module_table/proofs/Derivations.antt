-- The bases of identities, in an order in which a base is before the identities derived from it.
use Rattle.std.proofs.Common.{◌≡◌, ◌≢◌, ℕ, zero, suc, ◌+◌, ◌-◌, ◌<◌, ◌==◌, ◌&&◌, nat_lt, List, [], ◌∷◌, ◌++◌, length, get_or, Bool, true, false, refl, sym, ap, ◌∙◌, inl, inr, arith, get_or-set_other, get_or-set_same}
use Rattle.std.specs.Prelude.{if◌then◌else◌, Vec}
use Rattle.std.specs.declared.alloc.Global.{Global}
use Rattle.std.proofs.Math.ListN.{set}
use Rattle.std.specs.List.{list_all, flat_map}
use Rattle.std.proofs.lemmas.Bool.{cases_Bool, cases_lt, and_parts}
use Rattle.std.proofs.lemmas.Bool.Decides.{nat_tests}
use Rattle.sal_module_table.specs.Orders.{rows, rank_of, is_lower, IsOrdered}
use Rattle.sal_module_table.specs.Identities.{once, joined, derived, derived_from}

flat-same : (test : ℕ → Bool) (f g : ℕ → List ℕ) (bases : List ℕ) → list_all test bases ≡ true → ((b : ℕ) → test b ≡ true → f b ≡ g b)
    → flat_map (λ b. b ∷ f b) bases ≡ flat_map (λ b. b ∷ g b) bases
flat-same test f g [] all agree = refl
flat-same test f g (b ∷ bases) all agree =
    let here : f b ≡ g b = agree b (and_parts (test b) (list_all test bases) all).0 in
    let rest = flat-same test f g bases (and_parts (test b) (list_all test bases) all).1 agree in
    ap (λ row. (b ∷ row) ++ flat_map (λ c. c ∷ f c) bases) here ∙ ap (λ more. (b ∷ g b) ++ more) rest

pub joined-same : (test : ℕ → Bool) (f g : ℕ → List ℕ) (bases : List ℕ) → list_all test bases ≡ true → ((b : ℕ) → test b ≡ true → f b ≡ g b) → joined f bases ≡ joined g bases
joined-same test f g bases all agree = ap once (flat-same test f g bases all agree)

pub less : (a b : ℕ) → nat_lt a b ≡ true → a < b
less a b e = grind (arith, nat_tests)

pub equal : (a b : ℕ) → (a == b) ≡ true → a ≡ b
equal a b e = grind (arith, nat_tests)

pub unequal : (a b : ℕ) → (a == b) ≡ false → a ≡ b → ⊥
unequal a b e same = grind (arith, nat_tests)

pub derived-zero : (edges : List (List ℕ)) (i : ℕ) → derived 0 edges i ≡ []
unfolding derived
derived-zero edges i = refl

derived-suc : (edges : List (List ℕ)) (n i : ℕ) → derived (suc n) edges i ≡ joined (derived n edges) (get_or edges i [])
unfolding derived
derived-suc edges n i = refl

pub derived-some : (edges : List (List ℕ)) (n i : ℕ) → 0 < n → derived n edges i ≡ joined (derived (n - 1) edges) (get_or edges i [])
derived-some edges zero i h = absurd (omega arith)
derived-some edges (suc n) i h = let under : suc n - 1 ≡ n = omega arith in rw under (derived-suc edges n i)

module _ (edges : List (List ℕ)) (ranks order : List ℕ) (good : IsOrdered edges ranks order) where
  placed : (i : ℕ) → i < length edges → (nat_lt (rank_of ranks i) (length edges) && (get_or order (rank_of ranks i) (length edges) == i)) ≡ true
  placed i h = (and_parts _ (list_all (is_lower ranks (length edges) i) (get_or edges i [])) (good.each i h)).0

  pub low : (i : ℕ) → i < length edges → rank_of ranks i < length edges
  low i h = less (rank_of ranks i) (length edges) (and_parts (nat_lt (rank_of ranks i) (length edges)) _ (placed i h)).0

  pub stands : (i : ℕ) → i < length edges → get_or order (rank_of ranks i) (length edges) ≡ i
  stands i h = equal (get_or order (rank_of ranks i) (length edges)) i (and_parts (nat_lt (rank_of ranks i) (length edges)) _ (placed i h)).1

  pub named : (i : ℕ) → i < length edges → list_all (is_lower ranks (length edges) i) (get_or edges i []) ≡ true
  named i h = (and_parts (nat_lt (rank_of ranks i) (length edges) && (get_or order (rank_of ranks i) (length edges) == i)) _ (good.each i h)).1

  pub lower-inside : (i k : ℕ) → is_lower ranks (length edges) i k ≡ true → k < length edges
  lower-inside i k e = less k (length edges) (and_parts (nat_lt k (length edges)) _ e).0

  pub lower-rank : (i k : ℕ) → is_lower ranks (length edges) i k ≡ true → rank_of ranks k < rank_of ranks i
  lower-rank i k e = less (rank_of ranks k) (rank_of ranks i) (and_parts (nat_lt k (length edges)) _ e).1

  -- as many steps as its rank and one more are enough
  enough : (n m i : ℕ) → i < length edges → rank_of ranks i < n → rank_of ranks i < m → derived n edges i ≡ derived m edges i
  enough zero m i h a b = absurd (omega arith)
  enough (suc n) zero i h a b = absurd (omega arith)
  enough (suc n) (suc m) i h a b =
      derived-suc edges n i
      ∙ joined-same (is_lower ranks (length edges) i) (derived n edges) (derived m edges) (get_or edges i []) (named i h)
      (λ k e. let under = lower-rank i k e in enough n m k (lower-inside i k e) (omega arith) (omega arith))
      ∙ sym (derived-suc edges m i)

  -- by what its bases are derived from
  from-bases : (i : ℕ) → i < length edges → joined (derived_from edges) (get_or edges i []) ≡ derived_from edges i
  from-bases i h =
      let under = low i h in
      sym (enough (length edges) (suc (length edges)) i h under (omega arith) ∙ derived-suc edges (length edges) i)

  -- one rank more
  pub ranked-more : (rows next : List (List ℕ)) (r i : ℕ) → i ≡ get_or order r (length edges)
      → ((j : ℕ) → j < length edges → rank_of ranks j < r → get_or rows j [] ≡ derived_from edges j)
      → ((k : ℕ) → k < length edges → get_or next k [] ≡ (if i == k then joined (λ b. get_or rows b []) (get_or edges k []) else get_or rows k []))
      → (j : ℕ) → j < length edges → rank_of ranks j < r + 1 → get_or next j [] ≡ derived_from edges j
  ranked-more rows next r i is known put j h at = elim (cases_Bool (i == j)) [
    | inl e ↦
        let here : get_or next j [] ≡ joined (λ b. get_or rows b []) (get_or edges j []) = put j h ∙ rw e refl in
        here
        ∙ joined-same (is_lower ranks (length edges) j) (λ b. get_or rows b []) (derived_from edges) (get_or edges j []) (named j h)
        (λ k low_k. let under = lower-rank j k low_k in known k (lower-inside j k low_k) (omega arith))
        ∙ from-bases j h
    | inr e ↦
        let here : get_or next j [] ≡ get_or rows j [] = put j h ∙ rw e refl in
        elim (cases_lt (rank_of ranks j) r) [
          | inl before ↦ here ∙ known j h before
          | inr after ↦
              let same : rank_of ranks j ≡ r = omega arith in
              absurd (unequal i j e (is ∙ ap (λ n. get_or order n (length edges)) (sym same) ∙ stands j h))
        ]
  ]

-- ---- lists of numbers

rows-set : (all : List (Vec ℕ Global)) (i : ℕ) (v : Vec ℕ Global) → rows (set all i v) ≡ set (rows all) i v.items
rows-set [] i v = refl
rows-set (x ∷ all) zero v = refl
rows-set (x ∷ all) (suc i) v = ap (λ rest. x.items ∷ rest) (rows-set all i v)

pub put-row : (all : List (Vec ℕ Global)) (edges : List (List ℕ)) (i : ℕ) (row : Vec ℕ Global) → i < length (rows all)
    → row.items ≡ joined (λ b. get_or (rows all) b []) (get_or edges i [])
    → (k : ℕ) → get_or (rows (set all i row)) k [] ≡ (if i == k then joined (λ b. get_or (rows all) b []) (get_or edges k []) else get_or (rows all) k [])
put-row all edges i row h is k = elim (cases_Bool (i == k)) [
  | inl e ↦
      let here : i ≡ k = equal i k e in
      rw e (rw (← here) (ap (λ xs. get_or xs i []) (rows-set all i row) ∙ rw get_or-set_same is))
  | inr e ↦
      let other : k ≢ i = λ same. unequal i k e (sym same) in
      rw e (ap (λ xs. get_or xs k []) (rows-set all i row) ∙ rw get_or-set_other refl)
]
