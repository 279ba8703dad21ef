-- The kept places of required statements, from one level to the next, and what a node finds there.
use Rattle.std.proofs.Common.{◌≡◌, ℕ, zero, suc, ◌+◌, ◌-◌, ◌<◌, List, [], ◌∷◌, ◌++◌, length, map, take, get_or, Bool, true, false, ◌&&◌, ◌==◌, Option, Some, None, is_some, option_map, if◌then◌else◌, refl, ◌∙◌, sym, ap, inl, inr, arith, append-nil, append_assoc}
use Rattle.std.specs.Prelude.{find, option_and_then}
use Rattle.std.specs.List.{flat_map, enumerate_from, position_from, slice_get}
use Rattle.std.specs.BTreeMap.{get}
use Rattle.std.specs.Cmp.{tied_then, unsigned_tied}
use Rattle.std.specs.Ordering.{nat_cmp}
use Rattle.std.proofs.lemmas.Bool.{cases_Bool}
use Rattle.std.proofs.lemmas.Option.{slice_get-map}
use Rattle.std.proofs.lemmas.List.{get_or-map, length-map, map-append}
use Rattle.sal_stmt.specs.declared.stmt.Stmt.{Stmt, out-Stmt}
use Rattle.sal_module.specs.declared.keyword.Keyword.TheVariants as word
use Rattle.sal_module.specs.Statements.{is_named, subs_of}
use Rattle.sal_grouping.specs.declared.forest.Branch.{Branch}
use Rattle.sal_grouping.proofs.Places.{numbered}
use Rattle.sal_typedefs.specs.Scopes.{Site, within, top}
use Rattle.sal_typedefs.specs.Spots.{site_in}
use Rattle.sal_typedefs.proofs.BlockLists.{find-none, find-some}
use Rattle.sal_module_table.specs.declared.typed.Place.{Place}
use Rattle.sal_module_table.specs.declared.typed.Typing.{Typing}
use Rattle.sal_module_table.specs.Filled.{empty}
use Rattle.sal_restrict.specs.declared.yang_type.YangType.{YangType}
use Rattle.sal_module.specs.declared.fault.Found.{Found}
use Rattle.sal_module.specs.Faults.{least}
use Rattle.sal_typedefs.specs.Leafrefs.{stmt_in}
use Rattle.sal_typedefs.specs.Types.{is_faulty, judgement}
use Rattle.sal_typedefs.proofs.LeastLists.{some-faulty}
use Rattle.sal_module_table.specs.Leafrefs.{type_in, stated_type, stated_leafrefs}
use Rattle.sal_module_table.specs.Typed.{place, place_cmp, same_place, place_at, place_of_node, Places, first_of, AreFirst, is_wanted, sites, Own, own_with, own_at, own_here, owns_in, owns_of, own_of, owns, places_of, stands_at, found_for, own_of_node}
use Rattle.sal_module_table.proofs.Walked.{inner, flat-take, flat_map-flat_map}
use Rattle.sal_module_table.proofs.Preorder.{is_at, first-at}
use Rattle.sal_module_table.proofs.PlaceMaps.{same_place-IsEquivalence, alike-known, there}

-- ---- levels

pub type-inside : (m : ℕ) (blocks : List Stmt) (stmt : Stmt) → option_map (site_in m (blocks ++ stmt ∷ [])) (find (is_named word.Type) (subs_of stmt)) ≡ type_in (site_in m blocks stmt)
type-inside m blocks stmt = ap (λ (f : Stmt → Site). option_map f (find (is_named word.Type) (subs_of stmt))) (λ i sub. sym (inner m blocks stmt sub) i)

module _ (wanted : Places) (stmts : List Stmt) where
  pub last-level : (levels : ℕ) (site : Site) → levels ≡ 0 → own_here wanted stmts site ≡ owns_in wanted levels stmts site
  unfolding sites
  last-level zero site h = sym (append-nil (own_here wanted stmts site))
  last-level (suc levels) site h = absurd (omega (arith, h))

  pub owns-last : (levels : ℕ) (site : Site) (start own : List Own) → levels ≡ 0 → own ≡ start ++ own_here wanted stmts site → own ≡ start ++ owns_in wanted levels stmts site
  owns-last levels site start own h is = is ∙ ap (λ rest. start ++ rest) (last-level levels site h)

  pub level : (levels m : ℕ) (blocks : List Stmt) (stmt : Stmt) → 0 < levels
      → own_here wanted stmts (site_in m blocks stmt) ++ flat_map (λ sub. owns_in wanted (levels - 1) stmts (site_in m (blocks ++ stmt ∷ []) sub)) (subs_of stmt)
      ≡ owns_in wanted levels stmts (site_in m blocks stmt)
  unfolding sites
  level zero m blocks stmt h = absurd (omega arith)
  level (suc n) m blocks stmt h =
      let less : suc n - 1 ≡ n = omega arith in
      let site = site_in m blocks stmt in
      let here = own_here wanted stmts site in
      rw less (sym (
      ap (λ rest. here ++ rest) (flat_map-flat_map (own_here wanted stmts) (λ sub. sites n (within site sub)) (subs_of stmt))
      ∙ ap (λ (f : Stmt → Site). here ++ flat_map (λ sub. owns_in wanted n stmts (f sub)) (subs_of stmt)) (λ i sub. inner m blocks stmt sub i)
      ))

  -- the statements of an open block, from one to the next
  pub owns-more : (levels m : ℕ) (subs blocks old : List Stmt) (i : ℕ) (sub : Stmt) (start own next : List Own) → i < length subs → sub ≡ get_or subs i sub → old ≡ blocks
      → own ≡ start ++ flat_map (λ s. owns_in wanted levels stmts (site_in m blocks s)) (take i subs) → next ≡ own ++ owns_in wanted levels stmts (site_in m old sub)
      → next ≡ start ++ flat_map (λ s. owns_in wanted levels stmts (site_in m blocks s)) (take (i + 1) subs)
  owns-more levels m subs blocks old i sub start own next h is opened so_far step =
      let f : Stmt → List Own = λ s. owns_in wanted levels stmts (site_in m blocks s) in
      step ∙ ap (λ bs. own ++ owns_in wanted levels stmts (site_in m bs sub)) opened ∙ ap (λ front. front ++ f sub) so_far
      ∙ append_assoc start (flat_map f (take i subs)) (f sub) ∙ ap (λ rest. start ++ rest) (sym (flat-take f subs i sub h is))

  -- and all of them
  pub owns-all : (levels m : ℕ) (old opened : List Stmt) (stmt : Stmt) (start own : List Own) → 0 < levels → opened ≡ old ++ stmt ∷ []
      → own ≡ start ++ own_here wanted stmts (site_in m old stmt)
      → own ++ flat_map (λ sub. owns_in wanted (levels - 1) stmts (site_in m opened sub)) (subs_of stmt) ≡ start ++ owns_in wanted levels stmts (site_in m old stmt)
  owns-all levels m old opened stmt start own h is here =
      let f : List Stmt → List Own = λ bs. flat_map (λ sub. owns_in wanted (levels - 1) stmts (site_in m bs sub)) (subs_of stmt) in
      ap (λ front. front ++ f opened) here ∙ ap (λ bs. (start ++ own_here wanted stmts (site_in m old stmt)) ++ f bs) is
      ∙ append_assoc start (own_here wanted stmts (site_in m old stmt)) (f (old ++ stmt ∷ [])) ∙ ap (λ rest. start ++ rest) (level levels m old stmt h)

  -- what is kept of one statement
  pub kept-none : (at : Place) (site : Site) (all : List Own) → at ≡ place_at site → is_wanted wanted at ≡ false → all ≡ all ++ own_here wanted stmts site
  kept-none at site all is e =
      let no : is_wanted wanted (place_at site) ≡ false = ap (is_wanted wanted) (sym is) ∙ e in
      rw no (sym (append-nil all))

  pub kept-one : (at : Place) (m : ℕ) (blocks opened : List Stmt) (stmt : Stmt) (all : List Typing) (own : Typing) → at ≡ place m (out-Stmt stmt).at → is_wanted wanted at ≡ true
      → opened ≡ blocks ++ stmt ∷ [] → own_of own ≡ own_with stmts (place m (out-Stmt stmt).at) (option_map (site_in m opened) (find (is_named word.Type) (subs_of stmt)))
      → owns (all ++ own ∷ []) ≡ owns all ++ own_here wanted stmts (site_in m blocks stmt)
  kept-one at m blocks opened stmt all own is e here is_own =
      let site = site_in m blocks stmt in
      let yes : is_wanted wanted (place_at site) ≡ true = ap (is_wanted wanted) (sym is) ∙ e in
      let type = ap (λ bs. option_map (site_in m bs) (find (is_named word.Type) (subs_of stmt))) here ∙ type-inside m blocks stmt in
      map-append own_of all (own ∷ []) ∙ rw yes (ap (λ o. owns all ++ o ∷ []) (is_own ∙ ap (own_with stmts (place_at site)) type))

  pub modules-owns : numbered (λ m stmt. owns_in wanted 64 stmts (site_in m [] stmt)) 0 stmts ≡ owns_of wanted stmts
  modules-owns = sym (flat_map-flat_map (own_here wanted stmts) (λ (entry : ℕ × Stmt). sites 64 (top entry.0 entry.1)) (enumerate_from 0 stmts))

-- ---- of a node

place-is : (a b : Place) → same_place a b ≡ (a.source == b.source && a.at == b.at)
place-is a b = sym (tied_then (nat_cmp a.source b.source) (nat_cmp a.at b.at)) ∙ rw (unsigned_tied a.source b.source, unsigned_tied a.at b.at) refl

same-at : (b : Branch) (site : Site) → same_place (place_of_node b) (place_at site) ≡ is_at b.source b.at site
same-at b site = same_place-IsEquivalence.symm (place_of_node b) (place_at site) ∙ place-is (place_at site) (place_of_node b)

own-found : (stmts : List Stmt) (wanted : Places) (b : Branch) → is_wanted wanted (place_of_node b) ≡ true
    → ((p q : Place) → same_place p q ≡ true → get place_cmp wanted p ≡ get place_cmp wanted q) → (all : List Site)
    → found_for (flat_map (own_here wanted stmts) all) b ≡ option_map (own_at stmts) (find (is_at b.source b.at) all)
own-found stmts wanted b known alike [] = refl
own-found stmts wanted b known alike (s ∷ all) = elim (cases_Bool (same_place (place_of_node b) (place_at s))) [
  | inl e ↦
      let w : is_wanted wanted (place_at s) ≡ true = ap is_some (sym (alike (place_of_node b) (place_at s) e)) ∙ known in
      let here : is_at b.source b.at s ≡ true = sym (same-at b s) ∙ e in
      rw (w, here) (rw e refl)
  | inr e ↦
      let other : is_at b.source b.at s ≡ false = sym (same-at b s) ∙ e in
      elim (cases_Bool (is_wanted wanted (place_at s))) [
        | inl w ↦ rw (w, other) (rw e (own-found stmts wanted b known alike all))
        | inr w ↦ rw (w, other) (own-found stmts wanted b known alike all)
      ]
]

pub each-found : (stmts : List Stmt) (forest : List Branch) (wanted : Places) → AreFirst (map place_of_node forest) wanted → (i : ℕ) (d : Branch) → i < length forest
    → found_for (owns_of wanted stmts) (get_or forest i d) ≡ own_of_node stmts (get_or forest i d)
each-found stmts forest wanted are i d h =
    let b = get_or forest i d in
    let places = map place_of_node forest in
    let inside : i < length places = omega (arith, h, length-map forest place_of_node) in
    let at : get_or places i (place_of_node d) ≡ place_of_node b = get_or-map place_of_node forest i d (place_of_node d) h in
    let hit : same_place (place_of_node b) (get_or places i (place_of_node d)) ≡ true = ap (same_place (place_of_node b)) at ∙ same_place-IsEquivalence.refl (place_of_node b) in
    let known : is_wanted wanted (place_of_node b) ≡ true = ap is_some (are (place_of_node b)) ∙ there (same_place (place_of_node b)) 0 places i (place_of_node d) inside hit in
    own-found stmts wanted b known (alike-known places wanted are) _ ∙ ap (option_map (own_at stmts)) (first-at stmts b.source b.at)

position-map : {X Y : Type 0} (p : Y → Bool) (f : X → Y) (n : ℕ) (xs : List X) → position_from p n (map f xs) ≡ position_from (λ x. p (f x)) n xs
position-map p f n [] = refl
position-map p f n (x ∷ xs) = ap (λ rest. if p (f x) then Some n else rest) (position-map p f (n + 1) xs)

-- nothing is kept with the place of the node
pub found-none : (all : List Own) (b : Branch) → None ≡ first_of (places_of all) (place_of_node b) → None ≡ found_for all b
found-none all b e = find-none (stands_at b) all (e ∙ position-map (same_place (place_of_node b)) (λ (own : Own). own.place) 0 all)

-- and the first with it
pub found-some : (all : List Typing) (b : Branch) (k : ℕ) → Some k ≡ first_of (places_of (owns all)) (place_of_node b) → option_map own_of (slice_get all k) ≡ found_for (owns all) b
found-some all b k e =
    sym (slice_get-map own_of all k) ∙ find-some (stands_at b) (owns all) k (e ∙ position-map (same_place (place_of_node b)) (λ (own : Own). own.place) 0 (owns all))

-- ---- the type of a type statement

pub type-good : (stmts : List Stmt) (site : Site) (fault : Option Found) (ty : YangType) → fault ≡ least None (judgement stmts site).faults → fault ≡ None → ty ≡ (judgement stmts site).type
    → ty ≡ stated_type stmts (Some site)
type-good stmts site fault ty is none same =
    let good : is_faulty (judgement stmts site) ≡ false = sym (some-faulty (judgement stmts site).faults) ∙ ap is_some (sym is ∙ none) in
    rw good same

pub type-bad : (stmts : List Stmt) (site : Site) (fault : Option Found) (found : Found) → fault ≡ least None (judgement stmts site).faults → fault ≡ Some found → empty ≡ stated_type stmts (Some site)
type-bad stmts site fault found is some =
    let bad : is_faulty (judgement stmts site) ≡ true = sym (some-faulty (judgement stmts site).faults) ∙ ap is_some (sym is ∙ some) in
    rw bad refl

-- ---- the element that a node finds

-- no statement at the place of the node
pub type-none : (stmts : List Stmt) (s : Option Site) → None ≡ option_map (own_at stmts) s → empty ≡ stated_type stmts (option_and_then type_in s)
type-none stmts None e = refl
type-none stmts (Some s) e = cc

pub leafrefs-none : (stmts : List Stmt) (s : Option Site) → None ≡ option_map (own_at stmts) s → [] ≡ map stmt_in (stated_leafrefs stmts (option_and_then type_in s))
leafrefs-none stmts None e = refl
leafrefs-none stmts (Some s) e = cc

-- and the one there
pub own-some : (stmts : List Stmt) (own : Own) (s : Option Site) → Some own ≡ option_map (own_at stmts) s
    → (own.type ≡ stated_type stmts (option_and_then type_in s)) × (own.leafrefs ≡ map stmt_in (stated_leafrefs stmts (option_and_then type_in s)))
own-some stmts own None e = cc
own-some stmts own (Some s) e = let same : own ≡ own_at stmts s = cc in (ap (λ (o : Own). o.type) same, ap (λ (o : Own). o.leafrefs) same)
