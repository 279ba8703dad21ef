-- Lists read by place, beginnings of lists, and the entries of one client.
use Rattle.std.proofs.Common.{◌≡◌, ◌≢◌, ◌⊎◌, ℕ, zero, suc, ◌+◌, ◌%◌, ◌^◌, ◌<◌, ◌≤◌, ◌==◌, eqb, leb, Bool, true, false, true≢false, ◌||◌, cond, List, [], ◌∷◌, ◌++◌, length, get_or, set, refl, sym, ap, ◌∙◌, subst, inl, inr, ⊎_elim, arith, append_assoc, append-nil, length-append, ne_eqb}
use Rattle.std.specs.List.{list_any}
use Rattle.std.proofs.lemmas.List.Elements.{filter-append}
use Rattle.std.proofs.Math.Nat.{add-mod-mod}
use mathlib.Core.Logic.{dite}
use mathlib.Core.Option.{some, some-injective, some-ne-none}
use mathlib.Core.List.{IsPrefix}
use native.Mathlib.Decide.{ℕ_discrete}
use prog.Atomic.{either}
use lib.ListN.{get_elem?}
use Rattle.std.proofs.lemmas.Bool.Decides.{nat_tests}
use Rattle.sal_turn.specs.Entries.{AddsAtMostOne, Leaves, entries_by}
use Rattle.sal_turn.specs.Lists.{In, longer, shorter}

module _ {A : Type 0} where
  pub set_at : (l : List A) (i : ℕ) (a b : A) → get_elem? l i ≡ some b → get_elem? (set l i a) i ≡ some a
  set_at [] i a b e = absurd (some-ne-none b (sym e))
  set_at (x ∷ xs) zero a b e = refl
  set_at (x ∷ xs) (suc i) a b e = set_at xs i a b e

  pub one_there : (l : List A) (i : ℕ) (a b : A) → get_elem? l i ≡ some a → get_elem? l i ≡ some b → a ≡ b
  one_there l i a b p q = some-injective a b (sym p ∙ q)

  pub below : (l : List A) (i : ℕ) (a : A) → get_elem? l i ≡ some a → i < length l
  below [] i a e = absurd (some-ne-none a (sym e))
  below (x ∷ xs) zero a e = omega arith
  below (x ∷ xs) (suc i) a e = let h = below xs i a e in omega arith

  -- the last element of a longer list has the length of the list before as its index
  pub at_end : (l : List A) (a b : A) (i : ℕ) → get_elem? (l ++ a ∷ []) i ≡ some b → (get_elem? l i ≡ some b) ⊎ ((i ≡ length l) × (a ≡ b))
  at_end [] a b zero e = inr (refl, some-injective a b e)
  at_end [] a b (suc i) e = absurd (some-ne-none b (sym e))
  at_end (x ∷ xs) a b zero e = inl e
  at_end (x ∷ xs) a b (suc i) e = ⊎_elim (λ (h : get_elem? xs i ≡ some b). inl h) (λ (h : (i ≡ length xs) × (a ≡ b)). inr (ap suc h.0, h.1)) (at_end xs a b i e)

  abbrev pub tail : List A → List A
  tail [] = []
  tail (x ∷ xs) = xs

  pub tail_at : (l : List A) (i : ℕ) → get_elem? (tail l) i ≡ get_elem? l (suc i)
  tail_at [] i = refl
  tail_at (x ∷ xs) i = refl

  pub tail_length : (l : List A) (a : A) → get_elem? l 0 ≡ some a → length l ≡ suc (length (tail l))
  tail_length [] a e = absurd (some-ne-none a (sym e))
  tail_length (x ∷ xs) a e = refl

  pub prefix_self : (xs : List A) → IsPrefix xs xs
  prefix_self xs = ([], append-nil xs)

  pub prefix_trans : (xs ys zs : List A) → IsPrefix xs ys → IsPrefix ys zs → IsPrefix xs zs
  prefix_trans xs ys zs p q = (p.0 ++ q.0, sym (append_assoc xs p.0 q.0) ∙ (ap (λ w. w ++ q.0) p.1 ∙ q.1))

  -- of two beginnings of one list the shorter begins the longer
  pub prefix_shorter : (xs ys zs : List A) → IsPrefix xs zs → IsPrefix ys zs → length xs ≤ length ys → IsPrefix xs ys
  prefix_shorter [] ys zs p q le = (ys, refl)
  prefix_shorter (x ∷ xs) [] zs p q le = absurd (omega arith)
  prefix_shorter (x ∷ xs) (y ∷ ys) [] p q le = absurd (cc (p.1))
  prefix_shorter (x ∷ xs) (y ∷ ys) (z ∷ zs) p q le =
      let heads : x ≡ y = cc (p.1, q.1) in
      let rest = prefix_shorter xs ys zs (p.0, cc (p.1)) (q.0, cc (q.1)) (omega arith) in
      (rest.0, cc (heads, rest.1))

  pub in_front : (x : A) (xs ys : List A) → In x xs → In x (xs ++ ys)
  in_front x [] ys h = absurd h
  in_front x (y ∷ xs) ys h = ⊎_elim (λ (e : y ≡ x). inl e) (λ (i : In x xs). inr (in_front x xs ys i)) h

  pub in_behind : (x : A) (xs ys : List A) → In x ys → In x (xs ++ ys)
  in_behind x [] ys h = h
  in_behind x (y ∷ xs) ys h = inr (in_behind x xs ys h)

  pub in_either : (x : A) (xs ys : List A) → In x (xs ++ ys) → In x xs ⊎ In x ys
  in_either x [] ys h = inr h
  in_either x (y ∷ xs) ys h = ⊎_elim (λ (e : y ≡ x). inl (inl e)) (λ (i : In x (xs ++ ys)). ⊎_elim (λ (j : In x xs). inl (inr j)) (λ (j : In x ys). inr j) (in_either x xs ys i)) h

  pub get_there : (l : List A) (i : ℕ) (d : A) → i < length l → get_elem? l i ≡ some (get_or l i d)
  get_there [] i d h = absurd (omega arith)
  get_there (x ∷ xs) zero d h = refl
  get_there (x ∷ xs) (suc i) d h = get_there xs i d (omega arith)

pub any_at : (q : ℕ) (xs : List ℕ) → list_any (eqb q) xs ≡ true → (i : ℕ) × (get_elem? xs i ≡ some q)
any_at q [] e = absurd (true≢false (sym e))
any_at q (x ∷ xs) e = dite (ℕ_discrete q x) (λ is. (0, ap some (sym is))) (λ ne. let r = any_at q xs (sym (ap (λ b. b || list_any (eqb q) xs) (ne_eqb q x ne)) ∙ e) in (suc r.0, r.1))

module _ {E : Type 0} (client : E → ℕ) where
  pub by_none : (k : ℕ) (e : E) → client e ≢ k → entries_by client k (e ∷ []) ≡ []
  by_none k e ne = ap (λ (b : Bool). cond b (e ∷ []) []) (ne_eqb (client e) k ne)

  -- an entry that a turn of one number adds is not of another number
  pub by_other : (k me : ℕ) (found now : List E) → k ≢ me → AddsAtMostOne client me found now → entries_by client k now ≡ entries_by client k found
  by_other k me found now ne adds = ⊎_elim (λ (e : now ≡ found). ap (entries_by client k) e)
      (λ (h : (e : E) × (client e ≡ me) × (now ≡ found ++ e ∷ [])).
      ap (entries_by client k) h.2 ∙ (filter-append (λ e. client e == k) found (h.0 ∷ []) ∙ (ap (λ es. entries_by client k found ++ es) (by_none k h.0 (λ is. ne (sym is ∙ h.1))) ∙ append-nil (entries_by client k found))))
      adds

  by_same : (k : ℕ) (e : E) → client e ≡ k → entries_by client k (e ∷ []) ≡ e ∷ []
  by_same k e is = ap (λ (b : Bool). cond b (e ∷ []) []) (Rattle.std.proofs.Common.eq-eqb (client e) k is)

  -- the entries of its own number
  pub by_own : (k : ℕ) (found own now : List E) → entries_by client k found ≡ own → AddsAtMostOne client k found now → Leaves client k found own now (entries_by client k now)
  by_own k found own now mine adds = ⊎_elim (λ (e : now ≡ found). inl (e, ap (entries_by client k) e ∙ mine))
      (λ (h : (e : E) × (client e ≡ k) × (now ≡ found ++ e ∷ [])).
      inr (h.0, h.1, h.2, ap (entries_by client k) h.2 ∙ (filter-append (λ e. client e == k) found (h.0 ∷ []) ∙ (ap (λ es. entries_by client k found ++ es) (by_same k h.0 h.1) ∙ ap (λ es. es ++ h.0 ∷ []) mine))))
      adds

  pub adds_behind : (me : ℕ) (found now : List E) → AddsAtMostOne client me found now → IsPrefix found now
  adds_behind me found now adds = ⊎_elim (λ (e : now ≡ found). ([], append-nil found ∙ sym e)) (λ (h : (e : E) × (client e ≡ me) × (now ≡ found ++ e ∷ [])). (h.0 ∷ [], sym h.2)) adds

pub one_more : (n : ℕ) → (n % 2 ^ 64 + 1) % 2 ^ 64 ≡ (n + 1) % 2 ^ 64
one_more n = let a : n % 2 ^ 64 + 1 ≡ 1 + n % 2 ^ 64 = omega arith in let b : 1 + n ≡ n + 1 = omega arith in
    ap (λ x. x % 2 ^ 64) a ∙ (add-mod-mod 1 n (2 ^ 64) ∙ ap (λ x. x % 2 ^ 64) b)

-- a compare-exchange of a number for itself
pub same_word : (n k : ℕ) → either (n == k) k n ≡ n
same_word n k = dite (ℕ_discrete n k) (λ e. ap (λ (b : Bool). either b k n) (ne_or n k e) ∙ sym e) (λ ne. ap (λ (b : Bool). either b k n) (ne_eqb n k ne))
  where
    ne_or : (n k : ℕ) → n ≡ k → eqb n k ≡ true
    ne_or n k e = Rattle.std.proofs.Common.eq-eqb n k e

module _ {A : Type 0} where
  no_longer : (xs ys : List A) (b : Bool) → leb (length xs) (length ys) ≡ b → length (cond b xs ys) ≤ length (cond b ys xs)
  no_longer xs ys true e = grind (arith, nat_tests)
  no_longer xs ys false e = grind (arith, nat_tests)

  pub shorter_le : (xs ys : List A) → length (shorter xs ys) ≤ length (longer xs ys)
  shorter_le xs ys = no_longer xs ys (leb (length xs) (length ys)) refl
