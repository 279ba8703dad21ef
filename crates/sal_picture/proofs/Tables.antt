-- Tables of commits by their receipts: one commit more, one domain more, and all domains of a hub.
use Rattle.std.proofs.Common.{◌≡◌, ℕ, suc, ◌+◌, ◌-◌, ◌<◌, List, [], ◌∷◌, ◌++◌, length, get_or, take, ◌≤◌, Option, None, Some, refl, ap, sym, ◌∙◌, arith}
use Rattle.std.specs.Prelude.{map}
use Rattle.std.specs.List.{range_with_len}
use Rattle.std.proofs.lemmas.List.{length-map, length-take-le, map_more, take_all}
use Rattle.std.specs.Option.{option_or}
use Rattle.sal_commit.specs.declared.domain.Domain.{Domain}
use Rattle.sal_tree.specs.declared.commit.Commit.{Commit}
use Rattle.sal_shapes.specs.declared.scene.Made.{Made}
use Rattle.sal_picture.specs.Made.{here, made_among, made_from, receipts_in, receipts_since}

pub or_assoc : {X : Type 0} (a b c : Option X) → option_or (option_or a b) c ≡ option_or a (option_or b c)
or_assoc None b c = refl
or_assoc (Some x) b c = refl

pub or_none : {X : Type 0} (a : Option X) → option_or a None ≡ a
or_none None = refl
or_none (Some x) = refl

plus_zero : (n : ℕ) → n ≡ n + 0
plus_zero n = omega arith

pub zero_plus : (n : ℕ) → n ≡ 0 + n
zero_plus n = omega arith

plus_suc : (n m : ℕ) → (n + 1) + m ≡ n + suc m
plus_suc n m = omega arith

-- a commit more of a domain
pub from_push : (d n : ℕ) (rs : List ℕ) (r i : ℕ) → made_from d n (rs ++ r ∷ []) i ≡ option_or (made_from d n rs i) (here d (n + length rs) r i)
from_push d n [] r i = or_none (here d n r i) ∙ ap (λ (m : ℕ). here d m r i) (plus_zero n)
from_push d n (x ∷ rs) r i =
    ap (option_or (here d n x i)) (from_push d (n + 1) rs r i ∙ ap (λ (m : ℕ). option_or (made_from d (n + 1) rs i) (here d m r i)) (plus_suc n (length rs)))
    ∙ sym (or_assoc (here d n x i) (made_from d (n + 1) rs i) (here d (n + suc (length rs)) r i))

-- a domain more
pub among_push : (n : ℕ) (xs : List (List ℕ)) (x : List ℕ) (i : ℕ) → made_among n (xs ++ x ∷ []) i ≡ option_or (made_among n xs i) (made_from (n + length xs) 0 x i)
among_push n [] x i = or_none (made_from n 0 x i) ∙ ap (λ (m : ℕ). made_from m 0 x i) (plus_zero n)
among_push n (y ∷ xs) x i =
    ap (option_or (made_from n 0 y i)) (among_push (n + 1) xs x i ∙ ap (λ (m : ℕ). option_or (made_among (n + 1) xs i) (made_from m 0 x i)) (plus_suc n (length xs)))
    ∙ sym (or_assoc (made_from n 0 y i) (made_among (n + 1) xs i) (made_from (n + suc (length xs)) 0 x i))

-- the receipts of all domains, by number
pub all_receipts : (f : ℕ → List ℕ) (ds : List Domain) (n : ℕ) → ((k : ℕ) (d : Domain) → k < length ds → d ≡ get_or ds k d → receipts_in d ≡ f (n + k)) → map receipts_in ds ≡ map f (range_with_len n (length ds))
all_receipts f [] n each = refl
all_receipts f (d ∷ ds) n each =
    let first : receipts_in d ≡ f n = each 0 d (omega arith) refl ∙ ap f (sym (plus_zero n)) in
    let rest : map receipts_in ds ≡ map f (range_with_len (n + 1) (length ds)) = all_receipts f ds (n + 1) (λ k e lt is. each (suc k) e (omega arith) is ∙ ap f (sym (plus_suc n k))) in
    ap (λ (rs : List ℕ). rs ∷ map receipts_in ds) first ∙ ap (λ (rest : List (List ℕ)). f n ∷ rest) rest

-- a commit more of those of a domain
pub commit_more : (since d : ℕ) (cs : List Commit) (n : ℕ) (c : Commit) (i : ℕ) (first : Option Made) → n < length cs → c ≡ get_or cs n c
    → option_or (option_or first (made_from d 0 (receipts_since since (take n cs)) i)) (here d n (c.receipt - since) i) ≡ option_or first (made_from d 0 (receipts_since since (take (n + 1) cs)) i)
commit_more since d cs n c i first h e =
    let rs = receipts_since since (take n cs) in
    let own : ℕ = c.receipt - since in
    let count : 0 + length rs ≡ n = omega (arith, length-map (take n cs) (λ (x : Commit). x.receipt - since), length-take-le n cs (omega arith)) in
    let more : receipts_since since (take (n + 1) cs) ≡ rs ++ own ∷ [] = map_more (λ (x : Commit). x.receipt - since) cs n c h ∙ ap (λ (x : Commit). rs ++ (x.receipt - since) ∷ []) (sym e) in
    or_assoc first (made_from d 0 rs i) (here d n own i)
    ∙ ap (option_or first) (ap (λ (m : ℕ). option_or (made_from d 0 rs i) (here d m own i)) (sym count) ∙ sym (from_push d 0 rs own i) ∙ ap (λ (list : List ℕ). made_from d 0 list i) (sym more))

pub commits_all : (since d : ℕ) (cs : List Commit) (n : ℕ) (i : ℕ) (first : Option Made) → length cs ≤ n → option_or first (made_from d 0 (receipts_since since (take n cs)) i) ≡ option_or first (made_from d 0 (receipts_since since cs) i)
commits_all since d cs n i first h = ap (λ (list : List Commit). option_or first (made_from d 0 (receipts_since since list) i)) (take_all n cs h)

-- a domain more, which has its place as its number
pub domain_more : (ds : List Domain) (n : ℕ) (d : Domain) (i : ℕ) → n < length ds → d ≡ get_or ds n d → d.number ≡ n → option_or (made_among 0 (map receipts_in (take n ds)) i) (made_from d.number 0 (receipts_in d) i) ≡ made_among 0 (map receipts_in (take (n + 1) ds)) i
domain_more ds n d i h e is =
    let xs = map receipts_in (take n ds) in
    let count : 0 + length xs ≡ d.number = omega (arith, is, length-map (take n ds) receipts_in, length-take-le n ds (omega arith)) in
    let more : map receipts_in (take (n + 1) ds) ≡ xs ++ receipts_in d ∷ [] = map_more receipts_in ds n d h ∙ ap (λ (x : Domain). xs ++ receipts_in x ∷ []) (sym e) in
    ap (λ (m : ℕ). option_or (made_among 0 xs i) (made_from m 0 (receipts_in d) i)) (sym count) ∙ sym (among_push 0 xs (receipts_in d) i) ∙ ap (λ (list : List (List ℕ)). made_among 0 list i) (sym more)

pub domains_all : (ds : List Domain) (n : ℕ) (i : ℕ) → length ds ≤ n → made_among 0 (map receipts_in (take n ds)) i ≡ made_among 0 (map receipts_in ds) i
domains_all ds n i h = ap (λ (list : List Domain). made_among 0 (map receipts_in list) i) (take_all n ds h)
