-- Identities by number, from one statement to the next.
use Rattle.std.proofs.Common.{◌≡◌, ℕ, zero, suc, ◌+◌, ◌-◌, ◌<◌, ◌≤◌, List, [], ◌∷◌, ◌++◌, length, take, drop, get_or, Bool, true, false, Option, Some, None, is_some, option_map, filter, if◌then◌else◌, refl, ◌∙◌, sym, ap, inl, inr, arith, append-nil}
use Rattle.std.specs.Prelude.{option_and_then}
use Rattle.std.specs.List.{position_from, slice_get, sum_by}
use Rattle.std.proofs.lemmas.Bool.{cases_Bool}
use Rattle.std.proofs.lemmas.List.{take_more, drop_more, get_or_read}
use Rattle.sal_stmt.specs.declared.stmt.Stmt.{Stmt}
use Rattle.sal_module.specs.declared.keyword.Keyword.TheVariants as word
use Rattle.sal_module.specs.Keywords.{same}
use Rattle.sal_module.specs.Statements.{is_named, argument_of, subs_of}
use Rattle.sal_typedefs.specs.Scopes.{identity_in, identities_of}
use Rattle.sal_typedefs.specs.Blocks.{Numbers, get_by_name, with_first}
use Rattle.sal_typedefs.specs.Ready.{identities_among, is_identity_of, AreNumbered, AreIdentities}
use Rattle.sal_types.proofs.Lists.{position_from-last}
use Rattle.sal_module.proofs.Firsts.{with_first-miss}
pub use Rattle.sal_types.proofs.Handy.{got-at}

-- ---- those among statements

pub filter-last : {X : Type 0} (p : X → Bool) (xs : List X) (x : X) → filter p (xs ++ x ∷ []) ≡ filter p xs ++ filter p (x ∷ [])
filter-last p [] x = refl
filter-last p (y ∷ ys) x = elim (cases_Bool (p y)) [ inl e ↦ rw e (ap (λ zs. y ∷ zs) (filter-last p ys x)) | inr e ↦ rw e (filter-last p ys x) ]

first-moved : (start n : ℕ) (found : Option ℕ) (hit : Bool)
    → option_map (λ i. start + i) (if is_some found then found else if hit then Some (0 + n) else None) ≡ with_first (option_map (λ i. start + i) found) hit (start + n)
first-moved start n (Some k) hit = refl
first-moved start n None true = let here : 0 + n ≡ n = omega arith in rw here refl
first-moved start n None false = refl

pub number-last : (start : ℕ) (q : List ℕ) (xs : List Stmt) (x : Stmt)
    → option_map (λ i. start + i) (position_from (λ one. same (argument_of one) q) 0 (identities_among (xs ++ x ∷ [])))
    ≡ with_first (option_map (λ i. start + i) (position_from (λ one. same (argument_of one) q) 0 (identities_among xs))) (is_identity_of q x) (start + length (identities_among xs))
number-last start q xs x =
    let p : Stmt → Bool = λ one. same (argument_of one) q in
    let all = ap (λ ids. option_map (λ i. start + i) (position_from p 0 ids)) (filter-last (is_named word.Identity) xs x) in
    elim (cases_Bool (is_named word.Identity x)) [
      | inl e ↦
          all ∙ rw e (ap (option_map (λ i. start + i)) (position_from-last p 0 (identities_among xs) x) ∙ first-moved start (length (identities_among xs)) (position_from p 0 (identities_among xs)) (p x))
      | inr e ↦
          all ∙ rw e (ap (λ ids. option_map (λ i. start + i) (position_from p 0 ids)) (append-nil (identities_among xs)) ∙ sym (with_first-miss _ (start + length (identities_among xs))))
    ]

pub numbered-more : (start : ℕ) (subs : List Stmt) (i : ℕ) (x : Stmt) (old new : Numbers) (next : ℕ) → i < length subs → x ≡ get_or subs i x
    → AreNumbered start (take i subs) old → next ≡ start + length (identities_among (take i subs))
    → ((q : List ℕ) → get_by_name new q ≡ with_first (get_by_name old q) (is_identity_of q x) next) → AreNumbered start (take (i + 1) subs) new
numbered-more start subs i x old new next h is so_far count put q =
    let more : take (i + 1) subs ≡ take i subs ++ x ∷ [] = take_more subs i x h ∙ ap (λ y. take i subs ++ y ∷ []) (sym is) in
    put q ∙ ap (λ found. with_first found (is_identity_of q x) next) (so_far q)
    ∙ ap (λ n. with_first (option_map (λ i. start + i) (position_from (λ one. same (argument_of one) q) 0 (identities_among (take i subs)))) (is_identity_of q x) n) count
    ∙ sym (number-last start q (take i subs) x)
    ∙ ap (λ some. option_map (λ i. start + i) (position_from (λ one. same (argument_of one) q) 0 (identities_among some))) (sym more)

length-two : (xs ys : List Stmt) → length (xs ++ ys) ≡ length xs + length ys
length-two [] ys = omega arith
length-two (x ∷ xs) ys = omega (arith, length-two xs ys)

pub next-more : (start : ℕ) (subs : List Stmt) (i : ℕ) (x : Stmt) (old new : ℕ) → i < length subs → x ≡ get_or subs i x → old ≡ start + length (identities_among (take i subs))
    → new ≡ old + length (identities_among (x ∷ [])) → new ≡ start + length (identities_among (take (i + 1) subs))
next-more start subs i x old new h is so_far put =
    let more : take (i + 1) subs ≡ take i subs ++ x ∷ [] = take_more subs i x h ∙ ap (λ y. take i subs ++ y ∷ []) (sym is) in
    let count : length (identities_among (take (i + 1) subs)) ≡ length (identities_among (take i subs)) + length (identities_among (x ∷ [])) =
    ap (λ some. length (identities_among some)) more ∙ ap length (filter-last (is_named word.Identity) (take i subs) x) ∙ length-two (identities_among (take i subs)) (identities_among (x ∷ [])) in
    omega (arith, so_far, put, count)

-- ---- those of modules

pub numbered-in : (stmts : List Stmt) (i : ℕ) (stmt : Stmt) (next : ℕ) (map : Numbers) → i < length stmts → stmt ≡ get_or stmts i stmt
    → next ≡ sum_by (λ one. length (identities_of one)) (take i stmts) → AreNumbered next (subs_of stmt) map → (e : Stmt) (q : List ℕ) → get_by_name map q ≡ identity_in stmts q i (get_or stmts i e)
numbered-in stmts i stmt next map h is count are e q =
    let got : stmt ≡ get_or stmts i e = get_or_read stmts i stmt h is e in
    are q ∙ ap (λ n. option_map (λ i. n + i) (position_from (λ one. same (argument_of one) q) 0 (identities_of stmt))) count ∙ ap (identity_in stmts q i) got

-- ---- look-ups

pub none-past : {X : Type 0} (xs : List X) (k : ℕ) → slice_get xs k ≡ None → length xs ≤ k
none-past [] k e = omega arith
none-past (x ∷ xs) zero e = cc
none-past (x ∷ xs) (suc k) e = omega (arith, none-past xs k e)

pub number-at : (stmts : List Stmt) (maps : List Numbers) (name : List ℕ) (k : ℕ) (d : Numbers) → AreIdentities stmts maps → k < length maps
    → get_by_name (get_or maps k d) name ≡ option_and_then (identity_in stmts name k) (slice_get stmts k)
number-at stmts maps name k d are h =
    elim (slice_get stmts k) as (λ f. slice_get stmts k ≡ f → get_by_name (get_or maps k d) name ≡ option_and_then (identity_in stmts name k) f) [
      | None ↦ λ e. absurd (omega (arith, none-past stmts k e, are.count))
      | Some s ↦ λ e. are.each k d s (omega (arith, are.count)) name ∙ ap (identity_in stmts name k) (sym (got-at stmts k s e))
    ] refl

-- one of a list, as a part of it
pub part-one : (xs stmts : List Stmt) (k : ℕ) → xs ≡ stmts → k < length xs → Some (take (k + 1 - k) (drop k xs)) ≡ option_map (λ stmt. stmt ∷ []) (slice_get stmts k)
part-one xs stmts k e h =
    let one : k + 1 - k ≡ 1 = omega arith in
    elim (slice_get stmts k) as (λ f. slice_get stmts k ≡ f → Some (take (k + 1 - k) (drop k xs)) ≡ option_map (λ stmt. stmt ∷ []) f) [
      | None ↦ λ n. absurd (omega (arith, none-past stmts k n, ap length e))
      | Some s ↦ λ g.
          let got : s ≡ get_or xs k s = got-at stmts k s g ∙ ap (λ l. get_or l k s) (sym e) in
          let rest : take 1 (drop k xs) ≡ s ∷ [] = ap (take 1) (drop_more xs k s h) ∙ ap (λ x. x ∷ []) (sym got) in
          rw one (ap Some rest)
    ] refl
