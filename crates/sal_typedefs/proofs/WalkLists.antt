-- Ways from statement to statement, one step on.
use Rattle.std.proofs.Common.{◌≡◌, ℕ, zero, suc, ◌-◌, ◌<◌, List, [], ◌∷◌, ◌++◌, length, map, take, filter, Bool, Some, None, refl, ◌∙◌, sym, ap, inl, inr, arith, append_assoc, append-nil}
use Rattle.std.specs.Prelude.{find}
use Rattle.std.specs.List.{flat_map}
use Rattle.std.proofs.lemmas.Bool.{cases_Bool}
use Rattle.std.proofs.lemmas.List.{map-append}
use Rattle.sal_stmt.specs.declared.stmt.Stmt.{Stmt}
use Rattle.sal_typedefs.specs.declared.spot.Spot.{Spot}
use Rattle.sal_typedefs.specs.declared.walk.Way.{Way}
use Rattle.sal_typedefs.specs.Scopes.{Site}
use Rattle.sal_typedefs.specs.Names.{rests_on, under}
use Rattle.sal_typedefs.specs.Spots.{site_of}
use Rattle.sal_typedefs.specs.Walks.{Node, nodes, left}

-- ---- the first that passes

pub first-none : {X Y : Type 0} (f : X → Y) (p : X → Bool) (xs : List X) → None ≡ find p xs → [] ≡ take 1 (map f (filter p xs))
first-none f p [] e = refl
first-none f p (x ∷ xs) e = elim (cases_Bool (p x)) [
  | inl t ↦ let h = rw t at e in cc
  | inr n ↦ let h = rw n at e in rw n (first-none f p xs h)
]

pub first-some : {X Y : Type 0} (f : X → Y) (p : X → Bool) (xs : List X) (x : X) → Some x ≡ find p xs → f x ∷ [] ≡ take 1 (map f (filter p xs))
first-some f p [] x e = cc
first-some f p (y ∷ xs) x e = elim (cases_Bool (p y)) [
  | inl t ↦ let h : Some x ≡ Some y = rw t at e in let same : x ≡ y = cc in rw t (ap (λ z. f z ∷ []) same)
  | inr n ↦ let h = rw n at e in rw n (first-some f p xs x h)
]

-- ---- ways

pub flat_map-two : {X Y : Type 0} (f : X → List Y) (xs ys : List X) → flat_map f (xs ++ ys) ≡ flat_map f xs ++ flat_map f ys
flat_map-two f [] ys = refl
flat_map-two f (x ∷ xs) ys = ap (λ rest. f x ++ rest) (flat_map-two f xs ys) ∙ sym (append_assoc (f x) (flat_map f xs) (flat_map f ys))

pub left-last : (modules : List Stmt) (ways : List Way) (way : Way) → left modules (ways ++ way ∷ []) ≡ nodes way.steps modules (site_of way.spot) ++ left modules ways
left-last modules [] way = sym (append-nil (nodes way.steps modules (site_of way.spot)))
left-last modules (w ∷ ways) way =
    ap (λ l. l ++ nodes w.steps modules (site_of w.spot)) (left-last modules ways way)
    ∙ append_assoc (nodes way.steps modules (site_of way.spot)) (left modules ways) (nodes w.steps modules (site_of w.spot))

pub push-one : (modules : List Stmt) (steps : ℕ) (spots rest : List Spot) (spot : Spot) (ways pushed : List Way) → spots ≡ rest ++ spot ∷ []
    → pushed ≡ ways ++ record { spot = spot; steps = steps } ∷ []
    → flat_map (nodes steps modules) (map site_of spots) ++ left modules ways ≡ flat_map (nodes steps modules) (map site_of rest) ++ left modules pushed
push-one modules steps spots rest spot ways pushed pop push =
    let f = nodes steps modules in
    let one : flat_map f (map site_of (spot ∷ [])) ≡ f (site_of spot) = append-nil (f (site_of spot)) in
    let split : flat_map f (map site_of spots) ≡ flat_map f (map site_of rest) ++ f (site_of spot) =
    ap (λ l. flat_map f (map site_of l)) pop ∙ ap (flat_map f) (map-append site_of rest (spot ∷ [])) ∙ flat_map-two f (map site_of rest) (map site_of (spot ∷ []))
    ∙ ap (λ l. flat_map f (map site_of rest) ++ l) one in
    let last : left modules pushed ≡ f (site_of spot) ++ left modules ways = ap (left modules) push ∙ left-last modules ways (record { spot = spot; steps = steps }) in
    ap (λ l. l ++ left modules ways) split ∙ append_assoc (flat_map f (map site_of rest)) (f (site_of spot)) (left modules ways)
    ∙ ap (λ l. flat_map f (map site_of rest) ++ l) (sym last)

pub nodes-none : (steps : ℕ) (modules : List Stmt) (site : Site) → steps ≡ 0 → nodes steps modules site ≡ (let node : Node = record { site = site; below = 0 } in node) ∷ []
unfolding nodes
nodes-none steps modules site e = rw e refl

pub nodes-more : (steps : ℕ) (modules : List Stmt) (site : Site) → 0 < steps
    → nodes steps modules site ≡ (let node : Node = record { site = site; below = length (rests_on modules site) } in node) ∷ flat_map (nodes (steps - 1) modules) (rests_on modules site)
unfolding nodes
nodes-more zero modules site h = absurd (omega arith)
nodes-more (suc steps) modules site h = let less : suc steps - 1 ≡ steps = omega arith in rw less refl

-- ---- the sites of a way

sites-each : (f : Site → List Node) (g : Site → List Site) → ((site : Site) → map (λ (n : Node). n.site) (f site) ≡ g site) → (sites : List Site)
    → map (λ (n : Node). n.site) (flat_map f sites) ≡ flat_map g sites
sites-each f g same [] = refl
sites-each f g same (site ∷ sites) =
    map-append (λ (n : Node). n.site) (f site) (flat_map f sites) ∙ ap (λ l. l ++ map (λ (n : Node). n.site) (flat_map f sites)) (same site) ∙ ap (λ l. g site ++ l) (sites-each f g same sites)

pub sites-under : (steps : ℕ) (modules : List Stmt) (site : Site) → map (λ (n : Node). n.site) (nodes steps modules site) ≡ under steps modules site
unfolding nodes under
sites-under zero modules site = refl
sites-under (suc steps) modules site = ap (λ rest. site ∷ rest) (sites-each (nodes steps modules) (under steps modules) (sites-under steps modules) (rests_on modules site))

-- ---- one after another

filter-first : {X : Type 0} (p : X → Bool) (x : X) (xs : List X) → filter p (x ∷ xs) ≡ filter p (x ∷ []) ++ filter p xs
filter-first p x xs = elim (cases_Bool (p x)) [ inl e ↦ rw e refl | inr e ↦ rw e refl ]

-- the first one that passes goes after those before
pub passing-more : {X Y : Type 0} (f : X → Y) (p : X → Bool) (done next : List Y) (x : X) (xs : List X) → next ≡ done ++ map f (filter p (x ∷ []))
    → done ++ map f (filter p (x ∷ xs)) ≡ next ++ map f (filter p xs)
passing-more f p done next x xs put =
    ap (λ l. done ++ map f l) (filter-first p x xs) ∙ ap (λ l. done ++ l) (map-append f (filter p (x ∷ [])) (filter p xs))
    ∙ sym (append_assoc done (map f (filter p (x ∷ []))) (map f (filter p xs))) ∙ ap (λ l. l ++ map f (filter p xs)) (sym put)
