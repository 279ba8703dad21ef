-- The stamps of entries, and entries by their stamps.
use Rattle.std.proofs.Common.{◌≡◌, ℕ, ◌+◌, ◌<◌, ◌≤◌, Bool, true, false, List, [], ◌∷◌, ◌++◌, length, take, drop, get_or, Option, Some, None, refl, ap, sym, ◌∙◌, subst, cond, append_assoc, arith}
use Rattle.std.specs.Prelude.{nat_eq, ◌||◌, IfSome}
use Rattle.std.specs.List.{list_any}
use Rattle.std.proofs.lemmas.List.{take_more, take-append-drop}
use Rattle.std.proofs.lemmas.List.Elements.{filter-append}
use Rattle.std.proofs.lemmas.Bool.Decides.{nat_tests}
use Rattle.std.specs.declared.sync.Arc.{Arc}
use Rattle.std.specs.declared.alloc.Global.{Global}
use Rattle.std.specs.Borrow.{Bor}
use Rattle.sal_types.specs.declared.value.Step.{Step}
use Rattle.std.specs.declared.cmp.Ordering.TheVariants.{Less, Equal, Greater}
use Rattle.std.specs.FinMap.{put}
use Rattle.std.specs.FinMap.Entries.{by_order}
use Rattle.sal_types.specs.Order.{step_cmp}
use Rattle.sal_node.specs.Tree.{Tree, change, cut}
use Rattle.sal_node.specs.Shape.{row_of, listed, sheeted, seen, ArePages, AreSheets, UpTo, AreFrom, made_by}
use Rattle.sal_node.specs.declared.node.Page.{Page}
use Rattle.sal_node.specs.declared.node.Sheet.{Sheet}
use Rattle.sal_node.specs.declared.node.Child.{Child}
use Rattle.sal_node.proofs.Rows.{row_of-append, listed-append, seen-append, ArePages-at}
use Rattle.sal_node.proofs.SheetRows.{sheeted-append, AreSheets-at}
use Rattle.sal_node.proofs.Entries.{Entries}

append_none : {X : Type 0} (xs : List X) → xs ++ [] ≡ xs
append_none [] = refl
append_none (x ∷ xs) = ap (λ r. x ∷ r) (append_none xs)

pub UpTo-append : (n : ℕ) (xs ys : Entries) → UpTo n xs → UpTo n ys → UpTo n (xs ++ ys)
UpTo-append n [] ys g h = h
UpTo-append n (x ∷ xs) ys g h = (g.0, UpTo-append n xs ys g.1 h)

pub UpTo-more : (n m : ℕ) (es : Entries) → n ≤ m → UpTo n es → UpTo m es
UpTo-more n m [] l h = tt
UpTo-more n m (e ∷ es) l h = (omega (arith, h.0), UpTo-more n m es l h.1)

pub AreFrom-less : (n m : ℕ) (ss : List ℕ) → m ≤ n → AreFrom n ss → AreFrom m ss
AreFrom-less n m [] l h = tt
AreFrom-less n m (s ∷ ss) l h = (omega (arith, h.0), AreFrom-less n m ss l h.1)

pub AreFrom-append : (n : ℕ) (xs ys : List ℕ) → AreFrom n xs → AreFrom n ys → AreFrom n (xs ++ ys)
AreFrom-append n [] ys g h = h
AreFrom-append n (x ∷ xs) ys g h = (g.0, AreFrom-append n xs ys g.1 h)

pub UpTo-front : (n : ℕ) (xs ys : Entries) → UpTo n (xs ++ ys) → UpTo n xs
UpTo-front n [] ys h = tt
UpTo-front n (x ∷ xs) ys h = (h.0, UpTo-front n xs ys h.1)

pub UpTo-back : (n : ℕ) (xs ys : Entries) → UpTo n (xs ++ ys) → UpTo n ys
UpTo-back n [] ys h = h
UpTo-back n (x ∷ xs) ys h = UpTo-back n xs ys h.1

-- parts of children, and parts of pages
pub row-parts : (n k : ℕ) (cs : List (Arc Child Global)) → UpTo n (row_of cs) → UpTo n (row_of (take k cs)) × UpTo n (row_of (drop k cs))
row-parts n k cs h =
    let all = subst (λ (r : Entries). UpTo n r) (ap row_of (sym (take-append-drop k cs)) ∙ row_of-append (take k cs) (drop k cs)) h in
    (UpTo-front n (row_of (take k cs)) (row_of (drop k cs)) all, UpTo-back n (row_of (take k cs)) (row_of (drop k cs)) all)

pub page-parts : (n k : ℕ) (ps : List (Arc Page Global)) → UpTo n (listed ps) → UpTo n (listed (take k ps)) × UpTo n (listed (drop k ps))
page-parts n k ps h =
    let all = subst (λ (r : Entries). UpTo n r) (ap listed (sym (take-append-drop k ps)) ∙ listed-append (take k ps) (drop k ps)) h in
    (UpTo-front n (listed (take k ps)) (listed (drop k ps)) all, UpTo-back n (listed (take k ps)) (listed (drop k ps)) all)

-- a bound for what was there and what comes in
pub UpTo-change : (n m : ℕ) (x : Step) (o : Option Tree) (es : Entries) → n ≤ m → IfSome o (λ t. t.stamp ≤ m) → UpTo n es → UpTo m (change x o es)
UpTo-change n m x None [] l new h = tt
UpTo-change n m x (Some t) [] l new h = (new, tt)
UpTo-change n m x None (e ∷ es) l new h =
    let more : UpTo m es = UpTo-more n m es l h.1 in
    let here : e.1.stamp ≤ m = omega (arith, h.0) in
    let rest = UpTo-change n m x None es l new h.1 in
    elim (step_cmp x e.0) as (λ r. UpTo m (by_order r (e ∷ es) es (e ∷ cut x es))) [ Less ↦ (here, more) | Equal ↦ more | Greater ↦ (here, rest) ]
UpTo-change n m x (Some t) (e ∷ es) l new h =
    let more : UpTo m es = UpTo-more n m es l h.1 in
    let here : e.1.stamp ≤ m = omega (arith, h.0) in
    let rest = UpTo-change n m x (Some t) es l new h.1 in
    elim (step_cmp x e.0) as (λ r. UpTo m (by_order r ((x, t) ∷ e ∷ es) ((e.0, t) ∷ es) (e ∷ put step_cmp x t es))) [ Less ↦ (new, (here, more)) | Equal ↦ (new, more) | Greater ↦ (here, rest) ]

differs : (a b : ℕ) → a < b → nat_eq a b ≡ false
differs a b l = grind (arith, nat_tests)

not_among : (n a : ℕ) (ss : List ℕ) → a < n → AreFrom n ss → list_any (nat_eq a) ss ≡ false
not_among n a [] l h = refl
not_among n a (s ∷ ss) l h = ap (λ b. b || list_any (nat_eq a) ss) (differs a s (omega (arith, h.0))) ∙ not_among n a ss l h.1

-- where all stamps are below those wanted, none is wanted
pub made_by-none : (n m : ℕ) (ss : List ℕ) (es : Entries) → UpTo n es → n < m → AreFrom m ss → made_by ss es ≡ []
made_by-none n m ss [] u l h = refl
made_by-none n m ss (e ∷ es) u l h = ap (λ b. cond b (e ∷ made_by ss es) (made_by ss es)) (not_among m e.1.stamp ss (omega (arith, u.0)) h) ∙ made_by-none n m ss es u.1 l h

-- one more child, page or sheet: what it adds
pub row-step : (cs : List (Arc Child Global)) (i : ℕ) (c : Arc Child Global) → i < length cs → c ≡ get_or cs i c → row_of (take (i + 1) cs) ≡ row_of (take i cs) ++ (c.value.step, c.value.node.value) ∷ []
row-step cs i c l at = ap row_of (take_more cs i c l) ∙ row_of-append (take i cs) _ ∙ ap (λ (d : Arc Child Global). row_of (take i cs) ++ row_of (d ∷ [])) (sym at)

pub page-step : (ps : List (Arc Page Global)) (i : ℕ) (p : Arc Page Global) → i < length ps → p ≡ get_or ps i p → listed (take (i + 1) ps) ≡ listed (take i ps) ++ row_of p.value.children.items
page-step ps i p l at = ap listed (take_more ps i p l) ∙ listed-append (take i ps) _ ∙ ap (λ (d : Arc Page Global). listed (take i ps) ++ listed (d ∷ [])) (sym at) ∙ ap (λ (r : Entries). listed (take i ps) ++ r) (append_none (row_of p.value.children.items))

pub sheet-step : (ps : List (Arc Sheet Global)) (i : ℕ) (p : Arc Sheet Global) → i < length ps → p ≡ get_or ps i p → sheeted (take (i + 1) ps) ≡ sheeted (take i ps) ++ listed p.value.pages.items
sheet-step ps i p l at = ap sheeted (take_more ps i p l) ∙ sheeted-append (take i ps) _ ∙ ap (λ (d : Arc Sheet Global). sheeted (take i ps) ++ sheeted (d ∷ [])) (sym at) ∙ ap (λ (r : Entries). sheeted (take i ps) ++ r) (append_none (listed p.value.pages.items))

-- entries added to those seen
pub made-next : (ss : List ℕ) (start into after : Entries) (done more next : Entries) → next ≡ done ++ more → into ≡ start ++ made_by ss done → after ≡ into ++ made_by ss more → after ≡ start ++ made_by ss next
made-next ss start into after done more next is was e =
    e ∙ (λ k. was k ++ made_by ss more) ∙ append_assoc start _ _ ∙ ap (λ (r : Entries). start ++ r) (sym (ap (made_by ss) is ∙ filter-append (λ (e : Step × Tree). list_any (nat_eq e.1.stamp) ss) done more))

pub made-skip : (ss : List ℕ) (start into : Entries) (done more next : Entries) → next ≡ done ++ more → into ≡ start ++ made_by ss done → made_by ss more ≡ [] → into ≡ start ++ made_by ss next
made-skip ss start into done more next is was none = made-next ss start into into done more next is was (sym (append_none into) ∙ ap (λ (r : Entries). into ++ r) (sym none))

made-one : (ss : List ℕ) (e : Step × Tree) (n : ℕ) (b t : Bool) → b ≡ list_any (nat_eq n) ss → n ≡ e.1.stamp → b ≡ t → made_by ss (e ∷ []) ≡ cond t (e ∷ []) []
made-one ss e n b t is same test = ap (λ u. cond u (e ∷ []) []) (sym (ap (λ m. list_any (nat_eq m) ss) same) ∙ sym is ∙ test)

pub made-passed : (ss : List ℕ) (start into : List (Bor Child)) (cs : List (Arc Child Global)) (i : ℕ) (d : Arc Child Global) (b : Bool) (n : ℕ) → i < length cs → d ≡ get_or cs i d → b ≡ list_any (nat_eq n) ss → n ≡ d.value.node.value.stamp → b ≡ false
    → seen into ≡ seen start ++ made_by ss (row_of (take i cs)) → seen into ≡ seen start ++ made_by ss (row_of (take (i + 1) cs))
made-passed ss start into cs i d b n l at is same test was = made-skip ss (seen start) (seen into) (row_of (take i cs)) ((d.value.step, d.value.node.value) ∷ []) _ (row-step cs i d l at) was (made-one ss (d.value.step, d.value.node.value) n b false is same test)

pub made-pushed : (ss : List ℕ) (start into after : List (Bor Child)) (cs : List (Arc Child Global)) (i : ℕ) (c : Bor Child) (d : Arc Child Global) (b : Bool) (n : ℕ) → i < length cs → d ≡ get_or cs i d → c.now ≡ d.value → b ≡ list_any (nat_eq n) ss → n ≡ d.value.node.value.stamp → b ≡ true → after ≡ into ++ c ∷ []
    → seen into ≡ seen start ++ made_by ss (row_of (take i cs)) → seen after ≡ seen start ++ made_by ss (row_of (take (i + 1) cs))
made-pushed ss start into after cs i c d b n l at now is same test new was =
    made-next ss (seen start) (seen into) (seen after) (row_of (take i cs)) ((d.value.step, d.value.node.value) ∷ []) _ (row-step cs i d l at) was
    (ap seen new ∙ seen-append into (c ∷ []) ∙ ap (λ (e : Child). seen into ++ (e.step, e.node.value) ∷ []) now ∙ ap (λ (r : Entries). seen into ++ r) (sym (made-one ss (d.value.step, d.value.node.value) n b true is same test)))

pub page-upto : (ps : List (Arc Page Global)) (i : ℕ) (p : Arc Page Global) → ArePages ps → i < length ps → p ≡ get_or ps i p → UpTo p.value.newest (row_of p.value.children.items)
page-upto ps i p h l at = subst (λ (q : Arc Page Global). UpTo q.value.newest (row_of q.value.children.items)) (sym at) (ArePages-at ps i p h l).2

pub sheet-upto : (ss : List (Arc Sheet Global)) (i : ℕ) (s : Arc Sheet Global) → AreSheets ss → i < length ss → s ≡ get_or ss i s → ArePages s.value.pages.items × UpTo s.value.newest (listed s.value.pages.items)
sheet-upto ss i s h l at = subst (λ (q : Arc Sheet Global). ArePages q.value.pages.items × UpTo q.value.newest (listed q.value.pages.items)) (sym at) (let f = AreSheets-at ss i s h l in (f.2, f.3))

pub UpTo-child : (cs : List (Arc Child Global)) (i : ℕ) (c : Arc Child Global) (old s new : ℕ) → i < length cs → c ≡ get_or cs i c → s ≡ c.value.node.value.stamp → old ≤ new → s ≤ new → UpTo old (row_of (take i cs)) → UpTo new (row_of (take (i + 1) cs))
UpTo-child cs i c old s new l at is grows holds h = subst (λ (r : Entries). UpTo new r) (sym (row-step cs i c l at)) (UpTo-append new (row_of (take i cs)) _ (UpTo-more old new (row_of (take i cs)) grows h) (omega (arith, is, holds), tt))

pub UpTo-page : (ps : List (Arc Page Global)) (i : ℕ) (p : Arc Page Global) (old s new : ℕ) → ArePages ps → i < length ps → p ≡ get_or ps i p → s ≡ p.value.newest → old ≤ new → s ≤ new → UpTo old (listed (take i ps)) → UpTo new (listed (take (i + 1) ps))
UpTo-page ps i p old s new pages l at is grows holds h = subst (λ (r : Entries). UpTo new r) (sym (page-step ps i p l at)) (UpTo-append new (listed (take i ps)) _ (UpTo-more old new (listed (take i ps)) grows h) (UpTo-more p.value.newest new (row_of p.value.children.items) (omega (arith, is, holds)) (page-upto ps i p pages l at)))

pub AreFrom-kept : (ss : List ℕ) (i n : ℕ) → i < length ss → n ≤ get_or ss i 0 → AreFrom n (take i ss) → AreFrom n (take (i + 1) ss)
AreFrom-kept ss i n l le h = subst (λ (r : List ℕ). AreFrom n r) (sym (take_more ss i 0 l)) (AreFrom-append n (take i ss) _ h (le, tt))

pub AreFrom-next : (ss : List ℕ) (i n : ℕ) → i < length ss → get_or ss i 0 < n → AreFrom n (take i ss) → AreFrom (get_or ss i 0) (take (i + 1) ss)
AreFrom-next ss i n l lt h = AreFrom-kept ss i (get_or ss i 0) l (omega arith) (AreFrom-less n (get_or ss i 0) (take i ss) (omega (arith, lt)) h)
