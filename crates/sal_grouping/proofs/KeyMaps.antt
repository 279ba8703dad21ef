-- The first nodes with their keys, from one node to the next.
use Rattle.std.proofs.Common.{◌≡◌, ℕ, zero, suc, ◌+◌, ◌<◌, List, [], ◌∷◌, ◌++◌, length, take, drop, get_or, Bool, true, false, not, ◌&&◌, ◌||◌, Option, Some, None, is_some, is_none, if◌then◌else◌, refl, sym, ap, ◌∙◌, inl, inr, arith}
use Rattle.std.specs.List.{position_from, slice_get}
use Rattle.std.specs.BTreeMap.{BTreeMap, UpdatesBy, get}
use Rattle.std.specs.Cmp.{IsEquivalence, eq_by_cmp_equiv}
use Rattle.std.proofs.lemmas.Bool.{cases_Bool}
use Rattle.std.proofs.lemmas.Bool.Decides.{nat_tests}
use Rattle.std.proofs.lemmas.List.{take-append-drop, drop_more, length-take}
use Rattle.sal_grouping.specs.declared.rows.Row.{Row}
use Rattle.sal_grouping.specs.declared.node.Node.{Node}
use Rattle.sal_grouping.specs.declared.children.Key.{Key}
use Rattle.sal_grouping.specs.contracts.children.KeyOrd.TheImpl.Laws as key_ord_laws
use Rattle.sal_grouping.specs.Rows.{is_block}
use Rattle.sal_grouping.specs.Indexes.{with_first}
use Rattle.sal_grouping.specs.Children.{is_choice, key_of, key_cmp, same_key, has_key, first_with, is_first}
use Rattle.sal_grouping.proofs.IndexLists.{with_first-miss}
use Rattle.sal_grouping.proofs.Places.{position_from-take}
use Rattle.sal_types.proofs.Handy.{got-at}

same_key-IsEquivalence : IsEquivalence same_key
same_key-IsEquivalence = eq_by_cmp_equiv key_ord_laws.total-law

-- ---- first places

position-front : {X : Type 0} (p : X → Bool) (n : ℕ) (xs ys : List X)
    → position_from p n (xs ++ ys) ≡ (if is_some (position_from p n xs) then position_from p n xs else position_from p (n + length xs) ys)
position-front p n [] ys = let here : n + 0 ≡ n = omega arith in rw here refl
position-front p n (x ∷ xs) ys =
    let there : n + 1 + length xs ≡ n + length (x ∷ xs) = omega arith in
    elim (cases_Bool (p x)) [ inl e ↦ rw e refl | inr e ↦ rw e (position-front p (n + 1) xs ys ∙ rw there refl) ]

position-below : {X : Type 0} (p : X → Bool) (n : ℕ) (xs : List X) (j : ℕ) → position_from p n xs ≡ Some j → j < n + length xs
position-below p n [] j e = cc
position-below p n (x ∷ xs) j e = elim (cases_Bool (p x)) [
  | inl t ↦ let h = rw t at e in let is : n ≡ j = cc in omega arith
  | inr f ↦ let h = rw f at e in omega (arith, position-below p (n + 1) xs j h)
]

block-other : (k : ℕ) (found : Option ℕ) → ((j : ℕ) → found ≡ Some j → j < k) → is_some found ≡ true → is_block k found ≡ false
block-other k None below h = absurd (let no : false ≡ true = h in cc)
block-other k (Some j) below h = let lt : j < k = below j refl in grind (arith, nat_tests)

pub first-known : {X : Type 0} (p : X → Bool) (xs : List X) (k : ℕ) → k < length xs → is_some (position_from p 0 (take k xs)) ≡ true → is_block k (position_from p 0 xs) ≡ false
first-known p xs k h known =
    let count : 0 + length (take k xs) ≡ k = omega (arith, length-take k xs) in
    let whole : position_from p 0 xs ≡ position_from p 0 (take k xs) = ap (position_from p 0) (sym (take-append-drop k xs)) ∙ position-front p 0 (take k xs) (drop k xs) ∙ rw known refl in
    ap (is_block k) whole ∙ block-other k (position_from p 0 (take k xs)) (λ j e. omega (arith, count, position-below p 0 (take k xs) j e)) known

pub first-new : {X : Type 0} (p : X → Bool) (xs : List X) (k : ℕ) (x : X) → k < length xs → x ≡ get_or xs k x → is_some (position_from p 0 (take k xs)) ≡ false → p x ≡ true → is_block k (position_from p 0 xs) ≡ true
first-new p xs k x h is unknown passes =
    let count : 0 + length (take k xs) ≡ k = omega (arith, length-take k xs) in
    let here : p (get_or xs k x) ≡ true = ap p (sym is) ∙ passes in
    let rest : position_from p k (drop k xs) ≡ Some k = ap (position_from p k) (drop_more xs k x h) ∙ rw here refl in
    let whole : position_from p 0 xs ≡ Some k =
    ap (position_from p 0) (sym (take-append-drop k xs)) ∙ position-front p 0 (take k xs) (drop k xs) ∙ rw unknown (ap (λ n. position_from p n (drop k xs)) count ∙ rest) in
    ap (is_block k) whole ∙ grind (arith, nat_tests)

-- ---- the map

or-true : (b : Bool) → (b || true) ≡ true
or-true true = refl
or-true false = refl

or-false : (b : Bool) → (b || false) ≡ b
or-false true = refl
or-false false = refl

with_first-some : (found : Option ℕ) (b : Bool) (k : ℕ) → is_some (with_first found b k) ≡ (is_some found || b)
with_first-some None true k = refl
with_first-some None false k = refl
with_first-some (Some j) true k = refl
with_first-some (Some j) false k = refl

-- a key that has a number now
pub put-any : (old new : BTreeMap Key ℕ) (k : ℕ) (key : Key) → UpdatesBy key_cmp (key_cmp key) old new (Some k)
    → (q : Key) → is_some (get key_cmp new q) ≡ (is_some (get key_cmp old q) || same_key key q)
put-any old new k key updates q = elim (cases_Bool (same_key key q)) [
  | inl e ↦ ap is_some (updates.0 q) ∙ rw e (sym (or-true (is_some (get key_cmp old q))))
  | inr e ↦ ap is_some (updates.0 q) ∙ rw e (sym (or-false (is_some (get key_cmp old q))))
]

-- ---- one node

pub got-within : {X : Type 0} (xs : List X) (k : ℕ) (x : X) → slice_get xs k ≡ Some x → k < length xs
got-within [] k x e = cc
got-within (y ∷ xs) zero x e = omega arith
got-within (y ∷ xs) (suc k) x e = omega (arith, got-within xs k x e)

module _ (rows : List Row) (forest : List Node) (k : ℕ) (node : Node) (at : slice_get forest k ≡ Some node) where
  one-more : (q : Key) → first_with rows forest q (take (k + 1) forest) ≡ with_first (first_with rows forest q (take k forest)) (has_key rows forest q node) k
  one-more q =
      position_from-take (has_key rows forest q) forest k node (got-within forest k node at)
      ∙ ap (λ (n : Node). with_first (first_with rows forest q (take k forest)) (has_key rows forest q n) k) (sym (got-at forest k node at))

  pub known-choice : is_choice rows node ≡ true → (q : Key) → first_with rows forest q (take k forest) ≡ first_with rows forest q (take (k + 1) forest)
  known-choice choice q =
      let none : has_key rows forest q node ≡ false = rw choice refl in
      sym (one-more q ∙ rw none (with_first-miss (first_with rows forest q (take k forest)) k))

  pub known-key : is_choice rows node ≡ false → (q : Key) → with_first (first_with rows forest q (take k forest)) (same_key (key_of rows forest node) q) k ≡ first_with rows forest q (take (k + 1) forest)
  known-key choice q =
      let key : same_key (key_of rows forest node) q ≡ has_key rows forest q node = rw choice (same_key-IsEquivalence.symm (key_of rows forest node) q) in
      ap (λ b. with_first (first_with rows forest q (take k forest)) b k) key ∙ sym (one-more q)

  pub first-is : is_choice rows node ≡ false → is_none (first_with rows forest (key_of rows forest node) (take k forest)) ≡ is_first rows forest k node
  first-is choice =
      let p = has_key rows forest (key_of rows forest node) in
      let own : has_key rows forest (key_of rows forest node) node ≡ true = rw choice (same_key-IsEquivalence.refl (key_of rows forest node)) in
      rw choice (elim (cases_Bool (is_some (position_from p 0 (take k forest)))) [
        | inl e ↦ ap not e ∙ sym (first-known p forest k (got-within forest k node at) e)
        | inr e ↦ ap not e ∙ sym (first-new p forest k node (got-within forest k node at) (got-at forest k node at) e own)
      ])

  pub known-keys : is_choice rows node ≡ false → (q : Key) → (is_some (first_with rows forest q (take k forest)) || same_key (key_of rows forest node) q) ≡ is_some (first_with rows forest q (take (k + 1) forest))
  known-keys choice q = sym (with_first-some (first_with rows forest q (take k forest)) (same_key (key_of rows forest node) q) k) ∙ ap is_some (known-key choice q)
