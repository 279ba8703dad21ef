-- The numbers of the newest commits.
use Rattle.std.proofs.Common.{◌≡◌, ◌&&◌, ℕ, zero, suc, ◌+◌, ◌-◌, ◌≤◌, ◌<◌, Bool, true, false, List, [], drop, length, get_or, replicate, refl, ap, sym, ◌∙◌, subst, arith}
use Rattle.std.specs.Prelude.{nat_eq, nat_lt}
use Rattle.std.proofs.lemmas.Bool.Decides.{nat_tests}
use Rattle.std.proofs.lemmas.List.{at_drop_all, at_drop_more, get_or-replicate, get_or_past, length-replicate}
use Rattle.sal_hub.specs.HubHistory.{HubHistory}
use Rattle.sal_cluster.specs.declared.bases.Bases.{Bases}
use Rattle.sal_cluster.specs.Numbers.{are_newest, base_of, is_domain, number_of}

-- ---- domains

pub domain_zero : (n count : ℕ) → n ≡ 0 → true ≡ is_domain n count
domain_zero n count is = ap (λ (m : ℕ). is_domain m count) (sym is)

pub domain_past : (n count : ℕ) → 1 ≤ n → nat_lt n count ≡ is_domain n count
domain_past zero count some = absurd (omega (arith, some))
domain_past (suc n) count some = refl

pub domain_inside : (n count : ℕ) → 1 ≤ count → is_domain n count ≡ true → n < count
domain_inside zero count some is = some
domain_inside (suc n) count some is = grind (arith, nat_tests)

domain_none : (n count : ℕ) → 1 ≤ n → count ≤ n → is_domain n count ≡ false
domain_none zero count some past = absurd (omega (arith, some))
domain_none (suc n) count some past = grind (arith, nat_tests)

-- a number past 64 is that of no domain
pub none_past : (n count : ℕ) (same : Bool) → count ≤ 64 → 64 ≤ n → false ≡ (is_domain n count && same)
none_past n count same few past = ap (λ b. b && same) (sym (domain_none n count (omega (arith, past)) (omega (arith, few, past))))

-- ---- numbers

-- a number, counted from the base on
pub counted : (n base k : ℕ) → base ≤ n → nat_eq (n - base) k ≡ nat_eq n (base + k)
counted n base k low = grind (arith, nat_tests)

pub below : (n base k : ℕ) → n < base → nat_eq n (base + k) ≡ false
below n base k low = grind (arith, nat_tests)

no_domain : (there same : Bool) → there ≡ false → false ≡ (there && same)
no_domain true same is = cc
no_domain false same is = refl

pub absent : (there test same : Bool) → test ≡ there → test ≡ false → false ≡ (there && same)
absent there test same is not_there = no_domain there same (sym is ∙ not_there)

pub present_as : (there test same same' : Bool) → test ≡ there → test ≡ true → same ≡ same' → same ≡ (there && same')
present_as true test same same' is there_is e = e
present_as false test same same' is there_is e = cc

module _ (known : HubHistory) (bases : Bases) (newest : List ℕ) (i d : ℕ) where
  abbrev here : ℕ → Bool
  here number = is_domain i (length known.world) && nat_eq number (number_of known bases i)

  next : i < length newest → are_newest known bases i (drop i newest) ≡ (here (get_or newest i d) && are_newest known bases (i + 1) (drop (i + 1) newest))
  next inside = at_drop_more (are_newest known bases i) newest i d inside

  pub differs : (total found : Bool) → i < length newest → are_newest known bases i (drop i newest) ≡ total → found ≡ here (get_or newest i d) → found ≡ false → false ≡ total
  differs total found inside so_far is not_it =
      ap (λ b. b && are_newest known bases (i + 1) (drop (i + 1) newest)) (sym (sym is ∙ not_it)) ∙ sym (next inside) ∙ so_far

  pub agrees : (total found : Bool) → i < length newest → are_newest known bases i (drop i newest) ≡ total → found ≡ here (get_or newest i d) → found ≡ true
      → are_newest known bases (i + 1) (drop (i + 1) newest) ≡ total
  agrees total found inside so_far is it =
      ap (λ b. b && are_newest known bases (i + 1) (drop (i + 1) newest)) (sym (sym is ∙ it)) ∙ sym (next inside) ∙ so_far

pub all_agree : (known : HubHistory) (bases : Bases) (newest : List ℕ) (i : ℕ) (total : Bool) → length newest ≤ i → are_newest known bases i (drop i newest) ≡ total → true ≡ total
all_agree known bases newest i total past so_far = sym (at_drop_all (are_newest known bases i) newest i past) ∙ so_far

-- ---- a base is set

pub set_next : (old new : Bases) (d number : ℕ) (target : ℕ → ℕ) → base_of new d ≡ number → ((n : ℕ) → (n ≡ d → ⊥) → base_of new n ≡ base_of old n) → number ≡ target d
    → ((n : ℕ) → n < d → base_of old n ≡ target n) → (n : ℕ) → n < d + 1 → base_of new n ≡ target n
set_next old new d number target here others is before n inside = by (nat_lt n d) refl
  where
    by : (b : Bool) → nat_lt n d ≡ b → base_of new n ≡ target n
    by true test =
        let low : n < d = grind (arith, nat_tests, test) in
        others n (λ e. omega (arith, e, low)) ∙ before n low
    by false test =
        let same : d ≡ n = grind (arith, nat_tests, test, inside) in
        subst (λ m. base_of new m ≡ target m) same (here ∙ is)

pub all_zeros : (count n : ℕ) → ◌≡◌ {A = ℕ} (get_or (replicate count 0) n 0) 0
all_zeros count n = by (nat_lt n count) refl
  where
    by : (b : Bool) → nat_lt n count ≡ b → ◌≡◌ {A = ℕ} (get_or (replicate count 0) n 0) 0
    by true test = let inside : n < count = grind (arith, nat_tests, test) in get_or-replicate count n 0 0 inside
    by false test =
        let zeros : List ℕ = replicate count 0 in
        let long : length zeros ≡ count = length-replicate count 0 in
        let past : length zeros ≤ n = grind (arith, nat_tests, test, long) in
        get_or_past zeros n 0 past
