-- Marks that are cleared one by one.
use Rattle.std.proofs.Common.{◌≡◌, ℕ, zero, suc, ◌+◌, ◌<◌, ◌≤◌, ◌==◌, ◌||◌, List, [], ◌∷◌, length, get_or, drop, Bool, true, false, refl, sym, ap, ◌∙◌, inl, inr, subst, get_or-set_other}
use Rattle.std.proofs.Math.ListN.{set}
use Rattle.std.specs.List.{list_any}
use Rattle.std.proofs.lemmas.Bool.{cases_Bool, cases_lt, both_ways}
use Rattle.std.proofs.lemmas.List.{get_or_past, drop_more, drop_all}
use Rattle.sal_module_table.specs.Marks.{IsMarked}
use Rattle.sal_module_table.proofs.Derivations.{equal, unequal}

-- whether a number is in the list
abbrev pub has : List ℕ → ℕ → Bool
has numbers k = list_any (λ j. j == k) numbers

-- the marks that are left are of numbers that are left
abbrev pub AreLeft : List Bool → List ℕ → Type 0
AreLeft marks numbers = (j : ℕ) → get_or marks j false ≡ true → has numbers j ≡ true

pub all-left : (marks : List Bool) (numbers : List ℕ) → IsMarked marks numbers → AreLeft marks numbers
all-left marks numbers is j e = elim (cases_lt j (length marks)) [
  | inl h ↦ sym (is j h) ∙ e
  | inr h ↦ absurd (both_ways (get_or marks j false) (get_or_past marks j false h) e)
]

cleared : (marks : List Bool) (k : ℕ) → get_or (set marks k false) k false ≡ false
cleared [] k = refl
cleared (m ∷ marks) zero = refl
cleared (m ∷ marks) (suc k) = cleared marks k

pub one-less : (marks : List Bool) (numbers : List ℕ) (i : ℕ) → i < length numbers → AreLeft marks (drop i numbers)
    → AreLeft (set marks (get_or numbers i 0) false) (drop (i + 1) numbers)
one-less marks numbers i h left j e =
    let k = get_or numbers i 0 in
    elim (cases_Bool (k == j)) [
      | inl same ↦
          let clear : get_or (set marks k false) j false ≡ false = subst (λ n. get_or (set marks k false) n false ≡ false) (equal k j same) (cleared marks k) in
          absurd (both_ways (get_or (set marks k false) j false) clear e)
      | inr other ↦
          let was : has (drop i numbers) j ≡ true = left j (sym (get_or-set_other marks k j false false (λ same. unequal k j other (sym same))) ∙ e) in
          let parts : has (drop i numbers) j ≡ ((k == j) || has (drop (i + 1) numbers) j) = ap (λ (xs : List ℕ). has xs j) (drop_more numbers i 0 h) in
          sym (parts ∙ ap (λ b. b || has (drop (i + 1) numbers) j) other) ∙ was
    ]

pub none-left : (marks : List Bool) (numbers : List ℕ) (i : ℕ) → length numbers ≤ i → AreLeft marks (drop i numbers) → IsMarked marks []
none-left marks numbers i h left k inside = elim (cases_Bool (get_or marks k false)) [
  | inl e ↦ e ∙ sym (left k e) ∙ ap (λ (xs : List ℕ). has xs k) (drop_all i numbers h)
  | inr e ↦ e
]
