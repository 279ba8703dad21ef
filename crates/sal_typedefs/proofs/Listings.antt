-- Look-ups among the names of a type, from one name to the next.
use Rattle.std.proofs.Common.{◌≡◌, ℕ, ℤ, ◌+◌, ◌<◌, List, [], ◌∷◌, ◌++◌, length, take, get_or, map, Bool, true, cond, is_some, unwrap_or, refl, ◌∙◌, sym, ap, inl, inr, arith}
use Rattle.std.specs.Prelude.{find, pos, slice_index}
use Rattle.std.specs.BTreeSet.{BTreeSet, contains}
use Rattle.std.specs.List.{position_from, list_any}
use Rattle.std.specs.Ordering.{int_cmp, int_eq, is_eq}
use Rattle.std.proofs.lemmas.Bool.{cases_Bool}
use Rattle.std.proofs.lemmas.Slice.Eq.{bytes_eq-Decides}
use Rattle.sal_types.proofs.Lists.{position_from-last}
use Rattle.sal_module.specs.Keywords.{same}
use Rattle.sal_typedefs.specs.declared.entry.Entry.{Entry}
use Rattle.sal_typedefs.specs.Blocks.{Numbers, get_by_name, with_first}
use Rattle.sal_typedefs.specs.Listings.{AreNames, AreValues}
use Rattle.sal_typedefs.specs.Types.{names_in, places_of}
use Rattle.sal_typedefs.proofs.BlockLists.{position_from-take}

pub some-any : {X : Type 0} (p : X → Bool) (n : ℕ) (xs : List X) → is_some (position_from p n xs) ≡ list_any p xs
some-any p n [] = refl
some-any p n (x ∷ xs) = elim (cases_Bool (p x)) [ inl e ↦ rw e refl | inr e ↦ rw e (some-any p (n + 1) xs) ]

abbrev pub named : List ℕ → Entry → Bool
named q e = same e.name q

pub names-more : (es : List Entry) (k : ℕ) (e : Entry) → k < length es → e ≡ get_or es k e → (old new : Numbers) → AreNames (take k es) old
    → ((q : List ℕ) → get_by_name new q ≡ with_first (get_by_name old q) (same e.name q) k) → AreNames (take (k + 1) es) new
names-more es k e lt is old new so_far put q =
    put q ∙ ap (λ found. with_first found (named q e) k) (so_far q) ∙ ap (λ s. with_first (position_from (named q) 0 (take k es)) (named q s) k) is ∙ sym (position_from-take (named q) es k e lt)

pub names-put : (es : List Entry) (e : Entry) (old new : Numbers) → AreNames es old
    → ((q : List ℕ) → get_by_name new q ≡ with_first (get_by_name old q) (same e.name q) (length es)) → AreNames (es ++ e ∷ []) new
names-put es e old new so_far put q =
    let here : 0 + length es ≡ length es = omega arith in
    put q ∙ ap (λ found. with_first found (named q e) (length es)) (so_far q) ∙ sym (position_from-last (named q) 0 es e ∙ rw here refl)

pub name-found : (name : List ℕ) (es : List Entry) → (unwrap_or (find (named name) es) (record { name = name; number = pos 0 })).name ≡ name
name-found name [] = refl
name-found name (e ∷ es) = elim (cases_Bool (same e.name name)) [ inl t ↦ rw t ((bytes_eq-Decides e.name name).0 t) | inr f ↦ rw f (name-found name es) ]

any-last : {X : Type 0} (p : X → Bool) (xs : List X) (x : X) → list_any p (xs ++ x ∷ []) ≡ cond (p x) true (list_any p xs)
any-last p [] x = elim (cases_Bool (p x)) [ inl f ↦ rw f refl | inr f ↦ rw f refl ]
any-last p (y ∷ ys) x = elim (cases_Bool (p y)) [
  | inl e ↦ elim (cases_Bool (p x)) [ inl f ↦ rw (e, f) refl | inr f ↦ rw (e, f) refl ]
  | inr e ↦ rw e (any-last p ys x)
]

pub values-put : (es : List Entry) (e : Entry) (old new : BTreeSet ℤ) → AreValues es old
    → ((q : ℤ) → contains int_cmp new q ≡ cond (is_eq (int_cmp e.number q)) true (contains int_cmp old q)) → AreValues (es ++ e ∷ []) new
values-put es e old new so_far put q =
    put q ∙ ap (λ b. cond (int_eq e.number q) true b) (so_far q) ∙ sym (any-last (λ (x : Entry). int_eq x.number q) es e)

-- ---- names of a type

pub same-swap : (a b : List ℕ) → same a b ≡ same b a
same-swap a b = elim (cases_Bool (same b a)) [
  | inl t ↦ (bytes_eq-Decides a b).1 (sym ((bytes_eq-Decides b a).0 t)) ∙ sym t
  | inr f ↦ elim (cases_Bool (same a b)) [ inl t ↦ let h : same b a ≡ true = (bytes_eq-Decides b a).1 (sym ((bytes_eq-Decides a b).0 t)) in cc | inr g ↦ g ∙ sym f ]
]

pub places-more : (names : List (List ℕ)) (i : ℕ) (name : List ℕ) → i < length names → name ≡ get_or names i name → (old new : Numbers)
    → ((q : List ℕ) → get_by_name old q ≡ position_from (same q) 0 (take i names)) → ((q : List ℕ) → get_by_name new q ≡ with_first (get_by_name old q) (same name q) i)
    → (q : List ℕ) → get_by_name new q ≡ position_from (same q) 0 (take (i + 1) names)
places-more names i name lt is old new so_far put q =
    put q ∙ ap (λ found. with_first found (same name q) i) (so_far q) ∙ ap (λ b. with_first (position_from (same q) 0 (take i names)) b i) (same-swap name q)
    ∙ ap (λ s. with_first (position_from (same q) 0 (take i names)) (same q s) i) is ∙ sym (position_from-take (same q) names i name lt)

pub places-same : (names : List (List ℕ)) (places : List ℕ) (firsts : Numbers) → ((q : List ℕ) → get_by_name firsts q ≡ position_from (same q) 0 names) → (entries : List Entry)
    → map (λ (e : Entry). slice_index places (unwrap_or (get_by_name firsts e.name) 0)) entries ≡ places_of names places (names_in entries)
places-same names places firsts are [] = refl
places-same names places firsts are (e ∷ es) = λ i. slice_index places (unwrap_or (are e.name i) 0) ∷ places-same names places firsts are es i
