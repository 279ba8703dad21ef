-- Types that name things, from one name to the next.
use Rattle.std.proofs.Common.{◌≡◌, ℕ, ◌+◌, ◌<◌, List, [], ◌∷◌, ◌++◌, take, map, filter, length, get_or, Bool, refl, ◌∙◌, sym, ap, arith}
use Rattle.std.specs.List.{flat_map, enumerate_from}
use Rattle.std.proofs.lemmas.List.{take_more, length-take}
use Rattle.sal_stmt.specs.declared.stmt.Stmt.{Stmt}
use Rattle.sal_typedefs.specs.declared.entry.Entry.{Entry}
use Rattle.sal_typedefs.proofs.IdentityLists.{filter-last}
use Rattle.sal_typedefs.proofs.WalkLists.{flat_map-two}

firsts-last : (n : ℕ) (entries : List Entry) (e : Entry) → map (λ (e : ℕ × Entry). e.0) (enumerate_from n (entries ++ e ∷ []))
    ≡ map (λ (e : ℕ × Entry). e.0) (enumerate_from n entries) ++ (n + length entries) ∷ []
firsts-last n [] e = let here : n + 0 ≡ n = omega arith in rw here refl
firsts-last n (x ∷ entries) e =
    let there : n + 1 + length entries ≡ n + length (x ∷ entries) = omega arith in
    ap (λ l. n ∷ l) (firsts-last (n + 1) entries e ∙ ap (λ k. map (λ (e : ℕ × Entry). e.0) (enumerate_from (n + 1) entries) ++ k ∷ []) there)

pub firsts-more : (entries : List Entry) (i : ℕ) (e : Entry) → i < length entries → map (λ (e : ℕ × Entry). e.0) (enumerate_from 0 (take (i + 1) entries))
    ≡ map (λ (e : ℕ × Entry). e.0) (enumerate_from 0 (take i entries)) ++ i ∷ []
firsts-more entries i e h =
    let count : 0 + length (take i entries) ≡ i = omega (arith, length-take i entries) in
    ap (λ es. map (λ (e : ℕ × Entry). e.0) (enumerate_from 0 es)) (take_more entries i e h) ∙ firsts-last 0 (take i entries) (get_or entries i e)
    ∙ ap (λ k. map (λ (e : ℕ × Entry). e.0) (enumerate_from 0 (take i entries)) ++ k ∷ []) count

pub filtered-more : {X : Type 0} (f : Stmt → List X) (p : Stmt → Bool) (subs : List Stmt) (i : ℕ) (x : Stmt) → i < length subs → x ≡ get_or subs i x
    → flat_map f (filter p (take (i + 1) subs)) ≡ flat_map f (filter p (take i subs)) ++ flat_map f (filter p (x ∷ []))
filtered-more f p subs i x h is =
    ap (λ some. flat_map f (filter p some)) (take_more subs i x h ∙ ap (λ y. take i subs ++ y ∷ []) (sym is)) ∙ ap (flat_map f) (filter-last p (take i subs) x)
    ∙ flat_map-two f (filter p (take i subs)) (filter p (x ∷ []))
