-- Settled type statements and typedefs, one step on.
use Rattle.std.proofs.Common.{◌≡◌, ℕ, zero, suc, ◌+◌, ◌-◌, ◌<◌, ◌≤◌, List, [], ◌∷◌, ◌++◌, length, map, take, drop, filter, get_or, slice_set, Bool, true, false, ◌&&◌, Option, Some, None, option_map, if◌then◌else◌, refl, ◌∙◌, sym, ap, subst, inl, inr, arith, append-nil}
use Rattle.std.specs.Bool.{⊤}
use Rattle.std.specs.Prelude.{find, reverse, nat_eq, nat_lt, IfSome}
use Rattle.std.specs.BTreeMap.{get}
use Rattle.std.specs.List.{flat_map, list_all, position_from, slice_get, slice_index_or}
use Rattle.std.specs.Option.{option_to_list}
use Rattle.std.specs.Ordering.{nat_cmp}
use Rattle.std.proofs.lemmas.Bool.{cases_Bool}
use Rattle.std.proofs.lemmas.Bool.Decides.{nat_tests}
use Rattle.std.proofs.lemmas.List.{map-append, reverse-append, take_all, take_more}
use Rattle.sal_stmt.specs.declared.stmt.Stmt.{Stmt}
use Rattle.sal_module.specs.Statements.{subs_of}
use Rattle.sal_typedefs.specs.declared.judgement.Judgement.{Judgement}
use Rattle.sal_typedefs.specs.declared.kept.Settled.{Settled}
use Rattle.sal_typedefs.specs.declared.kept.Parts.{Parts}
use Rattle.sal_typedefs.specs.Scopes.{Site, is_typedef_of, closest}
use Rattle.sal_typedefs.specs.Names.{types_in, rests_on, steps_of, target, under}
use Rattle.sal_typedefs.specs.Types.{Judged, judge, judged, base_of}
use Rattle.sal_typedefs.specs.Judgements.{IsJudged, AreJudged}
use Rattle.sal_typedefs.specs.Settled.{World, IsSettled, AreParts, IsTypeSettled, IsTypedefSettled, IsTargetSettled, Slots, inside, AreIn, AreKept, AreTops, IsAt, is_low, is_plain, rank_of}
use Rattle.sal_typedefs.proofs.BlockLists.{find-some}
use Rattle.sal_typedefs.proofs.SpotLists.{found-here}
use Rattle.sal_typedefs.proofs.WalkLists.{flat_map-two}

-- ---- the judgements below

judged-append : (ds : List Judgement) (js : List Judged) (d : Judgement) (j : Judged) → AreJudged ds js → IsJudged d j → AreJudged (ds ++ d ∷ []) (js ++ j ∷ [])
judged-append [] [] d j are is = (is, tt)
judged-append (x ∷ ds) (y ∷ js) d j are is = (are.0, judged-append ds js d j are.1 is)
judged-append [] (y ∷ js) d j are is = absurd are
judged-append (x ∷ ds) [] d j are is = absurd are

judged-more : (modules : List Stmt) (sites : List Site) (site : Site) (below new : List Judgement) (deepest depth most : ℕ) (d : Judgement)
    → ((n : ℕ) → deepest ≤ n → AreJudged below (map (judge n modules) sites)) → ((n : ℕ) → depth ≤ n → IsJudged d (judge n modules site))
    → new ≡ below ++ d ∷ [] → deepest ≤ most → depth ≤ most → (n : ℕ) → most ≤ n → AreJudged new (map (judge n modules) (sites ++ site ∷ []))
judged-more modules sites site below new deepest depth most d are is put a b n h =
    let P : List Judged → Type 0 = λ js. AreJudged (below ++ d ∷ []) js in
    let Q : List Judgement → Type 0 = λ ds. AreJudged ds (map (judge n modules) (sites ++ site ∷ [])) in
    subst Q (sym put) (subst P (sym (map-append (judge n modules) sites (site ∷ []))) (judged-append below (map (judge n modules) sites) d (judge n modules site) (are n (omega arith)) (is n (omega arith))))

-- ---- tests of all statements below

all-two : (p : Site → Bool) (xs ys : List Site) → list_all p xs ≡ true → list_all p ys ≡ true → list_all p (xs ++ ys) ≡ true
all-two p [] ys a b = b
all-two p (x ∷ xs) ys a b = elim (cases_Bool (p x)) [
  | inl t ↦ let h = rw t at a in rw t (all-two p xs ys h b)
  | inr f ↦ let h = rw f at a in cc
]

all-more : (p : Site → Bool) (f : Site → List Site) (sites : List Site) (site : Site) → list_all p (flat_map f sites) ≡ true → list_all p (f site) ≡ true → list_all p (flat_map f (sites ++ site ∷ [])) ≡ true
all-more p f sites site a b =
    let split : flat_map f (sites ++ site ∷ []) ≡ flat_map f sites ++ f site = flat_map-two f sites (site ∷ []) ∙ ap (λ l. flat_map f sites ++ l) (append-nil (f site)) in
    ap (list_all p) split ∙ all-two p (flat_map f sites) (f site) a b

all-weaker : (p q : Site → Bool) → ((x : Site) → p x ≡ true → q x ≡ true) → (xs : List Site) → list_all p xs ≡ true → list_all q xs ≡ true
all-weaker p q h [] a = refl
all-weaker p q h (x ∷ xs) a = elim (cases_Bool (p x)) [
  | inl t ↦ let rest = rw t at a in let here = h x t in rw here (all-weaker p q h xs rest)
  | inr f ↦ let none = rw f at a in cc
]

-- the statement itself, then those below
pub all-under : (p : Site → Bool) (modules : List Stmt) (site : Site) → p site ≡ true → ((n : ℕ) → list_all p (flat_map (under n modules) (rests_on modules site)) ≡ true)
    → (n : ℕ) → list_all p (under n modules site) ≡ true
unfolding under
all-under p modules site here below zero = rw here refl
all-under p modules site here below (suc n) = rw here (below n)

-- ---- ranks

lower : (w : World) (rank most : ℕ) → rank ≤ most → (o : Option Site) → list_all (λ typedef. nat_lt (rank_of w.ranks typedef) rank) (option_to_list o) ≡ true
    → list_all (λ typedef. nat_lt (rank_of w.ranks typedef) most) (option_to_list o) ≡ true
lower w rank most h None a = refl
lower w rank most h (Some typedef) a = elim (cases_Bool (nat_lt (rank_of w.ranks typedef) rank)) [
  | inl low ↦ let high : nat_lt (rank_of w.ranks typedef) most ≡ true = grind (arith, nat_tests) in rw high refl
  | inr f ↦ let none = rw f at a in cc
]

pub is_low-more : (w : World) (rank most : ℕ) → rank ≤ most → (site : Site) → is_low w rank site ≡ true → is_low w most site ≡ true
is_low-more w rank most h site a = lower w rank most h (target w.modules site) a

pub low-more : (w : World) (rank most : ℕ) → rank ≤ most → (xs : List Site) → list_all (is_low w rank) xs ≡ true → list_all (is_low w most) xs ≡ true
low-more w rank most h xs a = all-weaker (is_low w rank) (is_low w most) (is_low-more w rank most h) xs a

pub both-true : (a b : Bool) → (a && b) ≡ true → (a ≡ true) × (b ≡ true)
both-true true true e = (refl, refl)
both-true true false e = cc
both-true false b e = cc

-- ---- what is settled

pub parts-none : (w : World) (p : Parts) → p.below.items ≡ [] → AreParts w [] p
parts-none w p none = record {
  judged = λ n h. rw none tt;
  low = λ n. refl;
  plain = λ is n. refl;
}

pub parts-more : (w : World) (sites : List Site) (site : Site) (old new : Parts) (one : Settled) → AreParts w sites old → IsSettled w site one → new.below.items ≡ old.below.items ++ one.judgement ∷ []
    → old.depth ≤ new.depth → one.depth ≤ new.depth → old.rank ≤ new.rank → one.rank ≤ new.rank → (new.plain ≡ true → (old.plain ≡ true) × (one.plain ≡ true)) → AreParts w (sites ++ site ∷ []) new
parts-more w sites site old new one are is put d1 d2 r1 r2 both = record {
  judged = judged-more w.modules sites site old.below.items new.below.items old.depth one.depth new.depth one.judgement are.judged is.judged put d1 d2;
  low = λ n. all-more (is_low w new.rank) (under n w.modules) sites site (low-more w old.rank new.rank r1 (flat_map (under n w.modules) sites) (are.low n)) (low-more w one.rank new.rank r2 (under n w.modules site) (is.low n));
  plain = λ plain n. all-more is_plain (under n w.modules) sites site (are.plain (both plain).0 n) (is.plain (both plain).1 n);
}

pub parts-raised : (w : World) (sites : List Site) (old new : Parts) → AreParts w sites old → new.below.items ≡ old.below.items → new.depth ≡ old.depth → old.rank ≤ new.rank → new.plain ≡ old.plain → AreParts w sites new
parts-raised w sites old new are below depth rank plain = record {
  judged = λ n h. subst (λ (ds : List Judgement). AreJudged ds (map (judge n w.modules) sites)) (sym below) (are.judged n (omega (arith, depth)));
  low = λ n. low-more w old.rank new.rank rank (flat_map (under n w.modules) sites) (are.low n);
  plain = λ is n. are.plain (sym plain ∙ is) n;
}

-- the statement itself takes one more step
judged-over : (modules : List Stmt) (site : Site) (below : List Judgement) (depth : ℕ) (d : Judgement)
    → ((n : ℕ) → depth ≤ n → AreJudged below (map (judge n modules) (rests_on modules site)))
    → ((js : List Judged) → AreJudged below js → IsJudged d (judged modules site (base_of site js) js)) → (n : ℕ) → depth + 1 ≤ n → IsJudged d (judge n modules site)
unfolding judge
judged-over modules site below depth d are one zero h = absurd (omega arith)
judged-over modules site below depth d are one (suc n) h = one (map (judge n modules) (rests_on modules site)) (are n (omega arith))

pub settled-over : (w : World) (site : Site) (p : Parts) (s : Settled) → AreParts w (rests_on w.modules site) p → is_low w p.rank site ≡ true → p.depth < steps_of w.modules
    → s.depth ≡ p.depth + 1 → s.rank ≡ p.rank → (s.plain ≡ true → (p.plain ≡ true) × (is_plain site ≡ true))
    → ((js : List Judged) → AreJudged p.below.items js → IsJudged s.judgement (judged w.modules site (base_of site js) js)) → IsSettled w site s
settled-over w site p s are low few depth rank plain one = record {
  few = omega (arith, depth, few);
  judged = λ n h. judged-over w.modules site p.below.items p.depth s.judgement are.judged one n (omega (arith, depth, h));
  low = λ n. subst (λ r. list_all (is_low w r) (under n w.modules site) ≡ true) (sym rank) (all-under (is_low w p.rank) w.modules site low are.low n);
  plain = λ is n. all-under is_plain w.modules site (plain is).1 (are.plain (plain is).0) n;
}

-- ---- the type of a typedef

pub typedef-parts : (w : World) (sites : List Site) (s : Settled) (p : Parts) → IsTypeSettled w (take 1 sites) s → ((site : Site) → IsSettled w site s → AreParts w (site ∷ []) p) → AreParts w (take 1 sites) p
typedef-parts w [] s p is each = absurd is
typedef-parts w (site ∷ sites) s p is each = each site is

-- what the statement that names it depends on
pub target-parts : (w : World) (o : Option Site) (s : Settled) (p : Parts) → IsTargetSettled w o s → ((typedef : Site) → IsTypedefSettled w typedef s → AreParts w (take 1 (types_in typedef)) p)
    → AreParts w (flat_map (λ typedef. take 1 (types_in typedef)) (option_to_list o)) p
target-parts w None s p is each = absurd is
target-parts w (Some typedef) s p is each =
    let P : List Site → Type 0 = λ sites. AreParts w sites p in
    subst P (sym (append-nil (take 1 (types_in typedef)))) (each typedef is)

pub target-low : (w : World) (o : Option Site) (s : Settled) (rank : ℕ) → IsTargetSettled w o s → s.above ≤ rank → list_all (λ typedef. nat_lt (rank_of w.ranks typedef) rank) (option_to_list o) ≡ true
target-low w None s rank is h = absurd is
target-low w (Some typedef) s rank is h =
    let low : nat_lt (rank_of w.ranks typedef) s.above ≡ true = is.own in
    let high : nat_lt (rank_of w.ranks typedef) rank ≡ true = grind (arith, nat_tests) in
    rw high refl

-- ---- the typedef of a name

position-found : {X : Type 0} (p : X → Bool) (n k : ℕ) (xs : List X) → position_from p n xs ≡ Some k → find p xs ≡ None → ⊥
position-found p n k [] at none = cc
position-found p n k (x ∷ xs) at none = elim (cases_Bool (p x)) [
  | inl t ↦ let h = rw t at none in cc
  | inr f ↦ let h = rw f at none in let g = rw f at at in position-found p (n + 1) k xs g h
]

pub slot-target : (w : World) (m : ℕ) (name : List ℕ) (block : Stmt) (outer : List Stmt) (slots : Slots) (k : ℕ) → Some k ≡ position_from (is_typedef_of name) 0 (subs_of block)
    → AreIn w m block outer slots → IfSome (get nat_cmp slots k) (IsTargetSettled w (closest m name (block ∷ outer)))
slot-target w m name block outer slots k at are =
    let same : slice_get (subs_of block) k ≡ find (is_typedef_of name) (subs_of block) = find-some (is_typedef_of name) (subs_of block) k at in
    elim (find (is_typedef_of name) (subs_of block)) as
    (λ f. find (is_typedef_of name) (subs_of block) ≡ f → IfSome (get nat_cmp slots k) (IsTargetSettled w (closest m name (block ∷ outer)))) [
      | Some t ↦ λ e.
          let P : Option Site → Type 0 = λ o. IfSome (get nat_cmp slots k) (IsTargetSettled w o) in
          subst P (sym (found-here m name block t outer (sym e))) (are k t (same ∙ e))
      | None ↦ λ e. absurd (position-found (is_typedef_of name) 0 k (subs_of block) (sym at) e)
    ] refl

-- ---- blocks by number, from the last one

pub front-last : {X : Type 0} (xs : List X) (n : ℕ) (x : X) → 0 < n → n ≤ length xs → x ≡ get_or xs (n - 1) x → reverse (take n xs) ≡ x ∷ reverse (take (n - 1) xs)
front-last xs n x some few is =
    let count : n - 1 + 1 ≡ n = omega arith in
    let more : take n xs ≡ take (n - 1) xs ++ x ∷ [] = ap (λ j. take j xs) (sym count) ∙ take_more xs (n - 1) x (omega arith) ∙ ap (λ y. take (n - 1) xs ++ y ∷ []) (sym is) in
    ap reverse more ∙ reverse-append (take (n - 1) xs) (x ∷ [])

get-again : {X : Type 0} (xs : List X) (i : ℕ) (d : X) → i < length xs → get_or xs i d ≡ get_or xs i (get_or xs i d)
get-again [] i d h = absurd (omega arith)
get-again (x ∷ xs) zero d h = refl
get-again (x ∷ xs) (suc i) d h = get-again xs i d (omega arith)

-- the innermost of the first n blocks has the typedef
pub outer-target : (w : World) (m : ℕ) (name : List ℕ) (blocks : List Stmt) (kept : List Slots) (n k : ℕ) (block : Stmt) (found : Option Settled)
    → AreKept w m (reverse (take n blocks)) (reverse (take n kept)) → 0 < n → n ≤ length blocks → n ≤ length kept → block ≡ get_or blocks (n - 1) block
    → closest m name (reverse blocks) ≡ closest m name (reverse (take n blocks)) → Some k ≡ position_from (is_typedef_of name) 0 (subs_of block)
    → ((e : Slots) → n - 1 < length kept → found ≡ get nat_cmp (slice_index_or kept (n - 1) e) k) → IfSome found (IsTargetSettled w (closest m name (reverse blocks)))
outer-target w m name blocks [] n k block found are some few short is so_far at put = absurd (omega arith)
outer-target w m name blocks (s ∷ more) n k block found are some few short is so_far at put =
    let kept : List Slots = s ∷ more in
    let slots : Slots = get_or kept (n - 1) s in
    let outer = reverse (take (n - 1) blocks) in
    let own : slots ≡ get_or kept (n - 1) slots = get-again kept (n - 1) s (omega arith) in
    let blocks-are : reverse (take n blocks) ≡ block ∷ outer = front-last blocks n block some few is in
    let kept-are : reverse (take n kept) ≡ slots ∷ reverse (take (n - 1) kept) = front-last kept n slots some short own in
    let A : List Stmt → Type 0 = λ bs. AreKept w m bs (reverse (take n kept)) in
    let B : List Slots → Type 0 = λ ks. AreKept w m (block ∷ outer) ks in
    let here = subst B kept-are (subst A blocks-are are) in
    let same : closest m name (reverse blocks) ≡ closest m name (block ∷ outer) = so_far ∙ ap (closest m name) blocks-are in
    let C : Option Site → Type 0 = λ o. IfSome found (IsTargetSettled w o) in
    let D : Option Settled → Type 0 = λ f. IfSome f (IsTargetSettled w (closest m name (block ∷ outer))) in
    subst C (sym same) (subst D (sym (put s (omega arith))) (slot-target w m name block outer slots k at here.0))

-- and it has not
pub outer-less : (w : World) (m : ℕ) (blocks : List Stmt) (kept : List Slots) (n : ℕ) → 0 < n → n ≤ length blocks → n ≤ length kept
    → AreKept w m (reverse (take n blocks)) (reverse (take n kept)) → AreKept w m (reverse (take (n - 1) blocks)) (reverse (take (n - 1) kept))
outer-less w m [] kept n some few short are = absurd (omega arith)
outer-less w m (b ∷ blocks) [] n some few short are = absurd (omega arith)
outer-less w m (b ∷ blocks) (s ∷ kept) n some few short are =
    let bs : List Stmt = b ∷ blocks in
    let ks : List Slots = s ∷ kept in
    let block : Stmt = get_or bs (n - 1) b in
    let slots : Slots = get_or ks (n - 1) s in
    let A : List Stmt → Type 0 = λ it. AreKept w m it (reverse (take n ks)) in
    let B : List Slots → Type 0 = λ it. AreKept w m (block ∷ reverse (take (n - 1) bs)) it in
    let blocks-are : reverse (take n bs) ≡ block ∷ reverse (take (n - 1) bs) = front-last bs n block some few (get-again bs (n - 1) b (omega arith)) in
    let kept-are : reverse (take n ks) ≡ slots ∷ reverse (take (n - 1) ks) = front-last ks n slots some short (get-again ks (n - 1) s (omega arith)) in
    (subst B kept-are (subst A blocks-are are)).1

-- ---- one more block, and one fewer

pub kept-more : (w : World) (m : ℕ) (blocks bs : List Stmt) (block : Stmt) (kept ks : List Slots) (slots : Slots) → bs ≡ blocks ++ block ∷ [] → ks ≡ kept ++ slots ∷ []
    → AreIn w m block (reverse blocks) slots → AreKept w m (reverse blocks) (reverse kept) → AreKept w m (reverse bs) (reverse ks)
kept-more w m blocks bs block kept ks slots b k is are =
    let blocks-are : reverse bs ≡ block ∷ reverse blocks = ap reverse b ∙ reverse-append blocks (block ∷ []) in
    let kept-are : reverse ks ≡ slots ∷ reverse kept = ap reverse k ∙ reverse-append kept (slots ∷ []) in
    let A : List Stmt → Type 0 = λ it. AreKept w m it (reverse ks) in
    let B : List Slots → Type 0 = λ it. AreKept w m (block ∷ reverse blocks) it in
    subst A (sym blocks-are) (subst B (sym kept-are) (is, are))

pub kept-pop : (w : World) (m : ℕ) (bs : List Stmt) (b : Stmt) (kept new : List Slots) → new ≡ take (length kept - 1) kept → AreKept w m (reverse (bs ++ b ∷ [])) (reverse kept)
    → AreKept w m (reverse bs) (reverse new)
kept-pop w m bs b [] new is are = absurd (subst (λ (l : List Stmt). AreKept w m l []) (reverse-append bs (b ∷ [])) are)
kept-pop w m bs b (s ∷ more) new is are =
    let kept : List Slots = s ∷ more in
    let slots : Slots = get_or kept (length kept - 1) s in
    let all : take (length kept) kept ≡ kept = take_all (length kept) kept (omega arith) in
    let kept-are : reverse kept ≡ slots ∷ reverse (take (length kept - 1) kept) =
    ap reverse (sym all) ∙ front-last kept (length kept) slots (omega arith) (omega arith) (get-again kept (length kept - 1) s (omega arith)) in
    let A : List Stmt → Type 0 = λ it. AreKept w m it (reverse kept) in
    let B : List Slots → Type 0 = λ it. AreKept w m (b ∷ reverse bs) it in
    let C : List Slots → Type 0 = λ it. AreKept w m (reverse bs) (reverse it) in
    subst C (sym is) (subst B kept-are (subst A (reverse-append bs (b ∷ [])) are)).1

pub in-more : (w : World) (m : ℕ) (block : Stmt) (outer : List Stmt) (old new : Slots) (k : ℕ) (one : Settled)
    → ((q : ℕ) → get nat_cmp new q ≡ (if nat_eq k q then Some one else get nat_cmp old q))
    → ((stmt : Stmt) → slice_get (subs_of block) k ≡ Some stmt → IsTypedefSettled w (inside m block outer stmt) one)
    → AreIn w m block outer old → AreIn w m block outer new
in-more w m block outer old new k one put is are q stmt at =
    let P : Option Settled → Type 0 = λ o. IfSome o (IsTypedefSettled w (inside m block outer stmt)) in
    subst P (sym (put q)) (elim (cases_Bool (nat_eq k q)) [
      | inl t ↦ let same : q ≡ k = grind (arith, nat_tests) in rw t (is stmt (ap (slice_get (subs_of block)) (sym same) ∙ at))
      | inr f ↦ rw f (are q stmt at)
    ])

pub in-none : (w : World) (m : ℕ) (block : Stmt) (outer : List Stmt) (slots : Slots) → ((q : ℕ) → get nat_cmp slots q ≡ None) → AreIn w m block outer slots
in-none w m block outer slots none q stmt at =
    let P : Option Settled → Type 0 = λ o. IfSome o (IsTypedefSettled w (inside m block outer stmt)) in
    subst P (sym (none q)) tt

-- the slots of the innermost block change
pub kept-put : (w : World) (m : ℕ) (blocks : List Stmt) (rest old new : List Slots) (slots put : Slots) (k : ℕ) (one : Settled) → old ≡ rest ++ slots ∷ [] → new ≡ rest ++ put ∷ []
    → ((q : ℕ) → get nat_cmp put q ≡ (if nat_eq k q then Some one else get nat_cmp slots q))
    → IsAt w m (reverse blocks) k one → AreKept w m (reverse blocks) (reverse old) → AreKept w m (reverse blocks) (reverse new)
kept-put w m blocks rest old new slots put k one o n is each are =
    let old-are : reverse old ≡ slots ∷ reverse rest = ap reverse o ∙ reverse-append rest (slots ∷ []) in
    let new-are : reverse new ≡ put ∷ reverse rest = ap reverse n ∙ reverse-append rest (put ∷ []) in
    let A : List Slots → Type 0 = λ it. AreKept w m (reverse blocks) it in
    subst A (sym new-are) (changed (reverse blocks) each (subst A old-are are))
  where
    changed : (bs : List Stmt) → IsAt w m bs k one → AreKept w m bs (slots ∷ reverse rest) → AreKept w m bs (put ∷ reverse rest)
    changed [] each are = absurd are
    changed (b ∷ bs) each are = (in-more w m b bs slots put k one is (λ stmt at. each b bs stmt refl at) are.0, are.1)

-- ---- typedefs of a module's own block

pub top-list : {X : Type 0} (o : Option X) → reverse (option_to_list o) ≡ option_to_list o
top-list None = refl
top-list (Some x) = refl

pub top-is : (xs : List Stmt) (o : Option Stmt) → Some xs ≡ option_map (λ stmt. stmt ∷ []) o → xs ≡ option_to_list o
top-is xs None e = cc
top-is xs (Some stmt) e = cc

-- ---- one of a list

one-part : {X : Type 0} (xs : List X) (k : ℕ) → k < length xs → take 1 (drop k xs) ≡ option_to_list (slice_get xs k)
one-part [] k h = absurd (omega arith)
one-part (x ∷ xs) zero h = refl
one-part (x ∷ xs) (suc k) h = one-part xs k (omega arith)

pub part-list : {X : Type 0} (xs : List X) (k : ℕ) → k < length xs → take (k + 1 - k) (drop k xs) ≡ option_to_list (slice_get xs k)
part-list xs k h = let one : k + 1 - k ≡ 1 = omega arith in rw one (one-part xs k h)

-- ---- members of a union

pub members-more : (p : Stmt → Bool) (f : Stmt → Site) (xs : List Stmt) (i : ℕ) (d : Stmt) → i < length xs → d ≡ get_or xs i d → p d ≡ true
    → map f (filter p (take (i + 1) xs)) ≡ map f (filter p (take i xs)) ++ f d ∷ []
members-more p f xs i d h is so =
    ap (λ l. map f (filter p l)) (take_more xs i d h) ∙ ap (λ x. map f (filter p (take i xs ++ x ∷ []))) (sym is) ∙ passes (take i xs)
  where
    passes : (ys : List Stmt) → map f (filter p (ys ++ d ∷ [])) ≡ map f (filter p ys) ++ f d ∷ []
    passes [] = rw so refl
    passes (y ∷ ys) = elim (cases_Bool (p y)) [ inl t ↦ rw t (ap (λ l. f y ∷ l) (passes ys)) | inr n ↦ rw n (passes ys) ]

pub members-same : (p : Stmt → Bool) (f : Stmt → Site) (xs : List Stmt) (i : ℕ) (d : Stmt) → i < length xs → d ≡ get_or xs i d → p d ≡ false
    → map f (filter p (take (i + 1) xs)) ≡ map f (filter p (take i xs))
members-same p f xs i d h is nay =
    ap (λ l. map f (filter p l)) (take_more xs i d h) ∙ ap (λ x. map f (filter p (take i xs ++ x ∷ []))) (sym is) ∙ fails (take i xs)
  where
    fails : (ys : List Stmt) → map f (filter p (ys ++ d ∷ [])) ≡ map f (filter p ys)
    fails [] = rw nay refl
    fails (y ∷ ys) = elim (cases_Bool (p y)) [ inl t ↦ rw t (ap (λ l. f y ∷ l) (fails ys)) | inr n ↦ rw n (fails ys) ]

-- ---- slots without typedefs

abbrev pub IsEmpty : Slots → Type 0
IsEmpty slots = (q : ℕ) → get nat_cmp slots q ≡ None

abbrev pub AreEmpty : List Slots → Type 0
AreEmpty [] = ⊤
AreEmpty (slots ∷ more) = IsEmpty slots × AreEmpty more

pub empty-more : (kept : List Slots) (slots : Slots) → AreEmpty kept → IsEmpty slots → AreEmpty (kept ++ slots ∷ [])
empty-more [] slots are is = (is, tt)
empty-more (s ∷ more) slots are is = (are.0, empty-more more slots are.1 is)

empty-at : (w : World) (m i : ℕ) (stmts : List Stmt) (kept : List Slots) → length kept ≡ length stmts → AreEmpty kept → AreKept w m (option_to_list (slice_get stmts i)) (option_to_list (slice_get kept i))
empty-at w m i [] [] count are = tt
empty-at w m i [] (s ∷ more) count are = absurd (omega (arith, count))
empty-at w m i (x ∷ stmts) [] count are = absurd (omega (arith, count))
empty-at w m zero (x ∷ stmts) (s ∷ more) count are = (in-none w m x [] s are.0, tt)
empty-at w m (suc i) (x ∷ stmts) (s ∷ more) count are = empty-at w m i stmts more (omega (arith, count)) are.1

empty-each : (kept : List Slots) → ((i : ℕ) (d : Slots) → i < length kept → IsEmpty (get_or kept i d)) → AreEmpty kept
empty-each [] each = tt
empty-each (s ∷ more) each = (each 0 s (omega arith), empty-each more (λ i d h. each (suc i) d (omega (arith, h))))

pub empty-tops : (w : World) (stmts : List Stmt) (kept : List Slots) → w.modules ≡ stmts → length kept ≡ length stmts → ((i : ℕ) (d : Slots) → i < length kept → IsEmpty (get_or kept i d)) → AreTops w kept
empty-tops w stmts kept is count each m =
    let P : List Stmt → Type 0 = λ it. AreKept w m (option_to_list (slice_get it m)) (option_to_list (slice_get kept m)) in
    subst P (sym is) (empty-at w m m stmts kept count (empty-each kept each))

-- the slots of one module change
pub put-tops : (w : World) (old new : List Slots) (m : ℕ) (slots : Slots) → new ≡ slice_set old m slots → m < length old → ((stmt : Stmt) → slice_get w.modules m ≡ Some stmt → AreIn w m stmt [] slots) → AreTops w old → AreTops w new
put-tops w old new m slots is lt here are i =
    let P : List Slots → Type 0 = λ it. AreKept w i (option_to_list (slice_get w.modules i)) (option_to_list (slice_get it i)) in
    subst P (sym is) (elim (cases_Bool (nat_eq i m)) [
      | inl t ↦
          let same : m ≡ i = grind (arith, nat_tests) in
          subst (λ (k : ℕ). AreKept w k (option_to_list (slice_get w.modules k)) (option_to_list (slice_get (slice_set old m slots) k))) same (there (slice_get w.modules m) refl)
      | inr f ↦
          let apart : nat_eq i m ≡ false = f in
          let Q : Option Slots → Type 0 = λ o. AreKept w i (option_to_list (slice_get w.modules i)) (option_to_list o) in
          subst Q (sym (set-other old m i slots apart)) (are i)
    ])
  where
    set-here : (xs : List Slots) (k : ℕ) (s : Slots) → k < length xs → slice_get (slice_set xs k s) k ≡ Some s
    set-here [] k s h = absurd (omega arith)
    set-here (x ∷ xs) zero s h = refl
    set-here (x ∷ xs) (suc k) s h = set-here xs k s (omega arith)

    set-other : (xs : List Slots) (k i : ℕ) (s : Slots) → nat_eq i k ≡ false → slice_get (slice_set xs k s) i ≡ slice_get xs i
    set-other [] k i s e = refl
    set-other (x ∷ xs) zero zero s e = cc
    set-other (x ∷ xs) zero (suc i) s e = refl
    set-other (x ∷ xs) (suc k) zero s e = refl
    set-other (x ∷ xs) (suc k) (suc i) s e = let less : nat_eq i k ≡ false = grind (arith, nat_tests) in set-other xs k i s less

    some-at : (xs : List Slots) (k : ℕ) → k < length xs → slice_get xs k ≡ None → ⊥
    some-at [] k h e = absurd (omega arith)
    some-at (x ∷ xs) zero h e = cc
    some-at (x ∷ xs) (suc k) h e = some-at xs k (omega arith) e

    no-more : (o : Option Slots) → (o ≡ None → ⊥) → AreKept w m [] (option_to_list o) → ⊥
    no-more None some is = some refl
    no-more (Some s) some is = is

    there : (o : Option Stmt) → slice_get w.modules m ≡ o → AreKept w m (option_to_list (slice_get w.modules m)) (option_to_list (slice_get (slice_set old m slots) m))
    there None e =
        let A : Option Stmt → Type 0 = λ it. AreKept w m (option_to_list it) (option_to_list (slice_get old m)) in
        let was : AreKept w m [] (option_to_list (slice_get old m)) = subst A e (are m) in
        absurd (no-more (slice_get old m) (some-at old m lt) was)
    there (Some stmt) e =
        let A : Option Stmt → Type 0 = λ it. AreKept w m (option_to_list it) (option_to_list (slice_get (slice_set old m slots) m)) in
        let B : Option Slots → Type 0 = λ it. AreKept w m (stmt ∷ []) (option_to_list it) in
        subst A (sym e) (subst B (sym (set-here old m slots lt)) (here stmt e, tt))
