-- Typedefs of lower ranks, and names that lead to them.
use Rattle.std.proofs.Common.{◌≡◌, ℕ, ◌≤◌, List, [], ◌∷◌, ◌++◌, take, filter, Bool, true, false, ◌&&◌, ◌||◌, ◌==◌, nat_lt, Option, Some, None, is_some, refl, ◌∙◌, sym, ap, subst, inl, inr, arith, append-nil, if◌then◌else◌}
use Rattle.std.specs.Prelude.{codes}
use Rattle.std.specs.List.{flat_map, list_all, list_any}
use Rattle.std.specs.Option.{option_to_list}
use Rattle.std.proofs.lemmas.Bool.{cases_Bool}
use Rattle.std.proofs.lemmas.Bool.Decides.{nat_tests}
use Rattle.sal_stmt.specs.declared.stmt.Stmt.{Stmt, out-Stmt}
use Rattle.sal_module.specs.Keywords.{same}
use Rattle.sal_typedefs.specs.declared.kept.Settled.{Settled}
use Rattle.sal_typedefs.specs.Builtins.{builtin_of}
use Rattle.sal_typedefs.specs.Scopes.{Site, is_same, place_of, typedef_of}
use Rattle.sal_typedefs.specs.Names.{name_of, types_in, rests_on, target, under, is_leafref, is_of, typedef_around, goes_in_circle}
use Rattle.sal_typedefs.specs.Settled.{World, IsTypeSettled, IsTargetSettled, is_low, is_plain, rank_of, rank_in}
use Rattle.sal_typedefs.proofs.SettledLists.{all-under, low-more, target-low}

-- ---- what a name leads to

pub target-is : (modules : List Stmt) (site : Site) → builtin_of (name_of site) ≡ None → target modules site ≡ typedef_of modules site (name_of site)
target-is modules site none = rw none refl

pub rests-named : (modules : List Stmt) (site : Site) → builtin_of (name_of site) ≡ None
    → rests_on modules site ≡ flat_map (λ typedef. take 1 (types_in typedef)) (option_to_list (typedef_of modules site (name_of site)))
rests-named modules site none = rw none refl

pub rests-none : (modules : List Stmt) (site : Site) → is_some (builtin_of (name_of site)) ≡ true → same (name_of site) (codes "union") ≡ false → rests_on modules site ≡ []
rests-none modules site some nay = rw (some, nay) refl

pub rests-union : (modules : List Stmt) (site : Site) → is_some (builtin_of (name_of site)) ≡ true → same (name_of site) (codes "union") ≡ true → rests_on modules site ≡ types_in site
rests-union modules site some so = rw (some, so) refl

pub low-builtin : (w : World) (rank : ℕ) (site : Site) → is_some (builtin_of (name_of site)) ≡ true → is_low w rank site ≡ true
low-builtin w rank site some = rw some refl

pub low-named : (w : World) (rank : ℕ) (site : Site) (s : Settled) → builtin_of (name_of site) ≡ None → IsTargetSettled w (typedef_of w.modules site (name_of site)) s → s.above ≤ rank → is_low w rank site ≡ true
low-named w rank site s none is h =
    ap (λ o. list_all (λ typedef. nat_lt (rank_of w.ranks typedef) rank) (option_to_list o)) (target-is w.modules site none) ∙ target-low w (typedef_of w.modules site (name_of site)) s rank is h

-- ---- no leafref

pub none-plain : (xs : List Site) → list_all is_plain xs ≡ true → filter is_leafref xs ≡ []
none-plain [] a = refl
none-plain (x ∷ xs) a = elim (cases_Bool (is_leafref x)) [
  | inl t ↦ let h = rw t at a in cc
  | inr f ↦ let h = rw f at a in rw f (none-plain xs h)
]

-- ---- no circle

types-low : (w : World) (sites : List Site) (s : Settled) → IsTypeSettled w (take 1 sites) s → (n : ℕ) → list_all (is_low w s.rank) (flat_map (under n w.modules) (take 1 sites ++ [])) ≡ true
types-low w [] s is n = absurd is
types-low w (site ∷ sites) s is n = ap (list_all (is_low w s.rank)) (append-nil (under n w.modules site)) ∙ is.low n

named-low : (w : World) (o : Option Site) (s : Settled) → IsTargetSettled w o s → (n : ℕ)
    → list_all (is_low w s.rank) (flat_map (under n w.modules) (flat_map (λ typedef. take 1 (types_in typedef)) (option_to_list o))) ≡ true
named-low w None s is n = absurd is
named-low w (Some typedef) s is n = types-low w (types_in typedef) s is.type n

differs : (w : World) (typedef : Site) (o : Option Site) → list_all (λ t. nat_lt (rank_of w.ranks t) (rank_of w.ranks typedef)) (option_to_list o) ≡ true → list_any (is_same typedef) (option_to_list o) ≡ false
differs w typedef None a = refl
differs w typedef (Some t) a = elim (cases_Bool (is_same typedef t)) [
  | inl so ↦
      let m : typedef.module ≡ t.module = grind (arith, nat_tests) in
      let at : place_of typedef ≡ place_of t = grind (arith, nat_tests) in
      let same-rank : rank_of w.ranks t ≡ rank_of w.ranks typedef = ap (λ k. rank_in w.ranks k (place_of t)) (sym m) ∙ ap (rank_in w.ranks typedef.module) (sym at) in
      let less : nat_lt (rank_of w.ranks typedef) (rank_of w.ranks typedef) ≡ false = grind (arith, nat_tests) in
      let h = rw (same-rank, less) at a in cc
  | inr nay ↦ rw nay refl
]

none-of : (w : World) (typedef : Site) (xs : List Site) → list_all (is_low w (rank_of w.ranks typedef)) xs ≡ true → list_any (is_of w.modules typedef) xs ≡ false
none-of w typedef [] a = refl
none-of w typedef (x ∷ xs) a = elim (cases_Bool (is_low w (rank_of w.ranks typedef) x)) [
  | inl t ↦
      let rest : list_all (is_low w (rank_of w.ranks typedef)) xs ≡ true = rw t at a in
      let here : is_of w.modules typedef x ≡ false = differs w typedef (target w.modules x) t in
      rw here (none-of w typedef xs rest)
  | inr f ↦ let h = rw f at a in cc
]

pub no-circle : (w : World) (steps : ℕ) (site : Site) (t : Stmt) (s : Settled) → builtin_of (name_of site) ≡ None → IsTargetSettled w (typedef_of w.modules site (name_of site)) s
    → typedef_around site ≡ Some t → s.rank ≤ rank_in w.ranks site.module (out-Stmt t).at → s.above ≤ rank_in w.ranks site.module (out-Stmt t).at → goes_in_circle steps w.modules site ≡ false
no-circle w steps site t s none is around high above =
    let typedef : Site = record { «module» = site.module; stmt = t; around = [] } in
    let rank = rank_of w.ranks typedef in
    let o = typedef_of w.modules site (name_of site) in
    let P : List Site → Type 0 = λ sites. (n : ℕ) → list_all (is_low w rank) (flat_map (under n w.modules) sites) ≡ true in
    let below : P (rests_on w.modules site) = subst P (sym (rests-named w.modules site none))
    (λ n. low-more w s.rank rank high (flat_map (under n w.modules) (flat_map (λ typedef. take 1 (types_in typedef)) (option_to_list o))) (named-low w o s is n)) in
    let all = all-under (is_low w rank) w.modules site (low-named w rank site s none is above) below steps in
    let nay : list_any (is_of w.modules typedef) (under steps w.modules site) ≡ false = none-of w typedef (under steps w.modules site) all in
    rw (around, nay) (never (is_some (target w.modules site)))
  where
    never : (b : Bool) → (b && (false || false)) ≡ false
    never true = refl
    never false = refl
