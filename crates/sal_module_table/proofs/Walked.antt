-- Type statements among statements, from one level to the next.
use Rattle.std.proofs.Common.{◌≡◌, ℕ, zero, suc, ◌+◌, ◌-◌, ◌<◌, List, [], ◌∷◌, ◌++◌, length, take, get_or, true, false, Option, refl, ◌∙◌, sym, ap, arith, length-append, append-nil}
use Rattle.std.specs.List.{flat_map, enumerate_from}
use Rattle.std.proofs.Math.Seq.{take-append_seam}
use Rattle.std.proofs.lemmas.Grind.{flat_map-append}
use Rattle.std.proofs.lemmas.List.{reverse-append, take_more, flat_map_more}
use Rattle.sal_stmt.specs.declared.stmt.Stmt.{Stmt}
use Rattle.sal_module.specs.declared.fault.Found.{Found}
use Rattle.sal_module.specs.declared.keyword.Keyword.TheVariants as word
use Rattle.sal_module.specs.Faults.{least}
use Rattle.sal_module.specs.Statements.{is_named, subs_of}
use Rattle.sal_grouping.proofs.Places.{numbered, least-two}
use Rattle.sal_typedefs.specs.Scopes.{Site, within, top}
use Rattle.sal_typedefs.specs.Spots.{site_in}
use Rattle.sal_module_table.specs.declared.types.Asked.{Asked}
use Rattle.sal_module_table.specs.Types.{is_read, type_here, types_in, faults_at, faults_here, faults_in, faults_of}

pub flat_map-flat_map : {X Y Z : Type 0} (f : Y → List Z) (g : X → List Y) (xs : List X) → flat_map f (flat_map g xs) ≡ flat_map (λ x. flat_map f (g x)) xs
flat_map-flat_map f g [] = refl
flat_map-flat_map f g (x ∷ xs) = flat_map-append f (g x) (flat_map g xs) ∙ ap (λ rest. flat_map f (g x) ++ rest) (flat_map-flat_map f g xs)

-- ---- lists

pub flat-take : {X A : Type 0} (f : X → List A) (xs : List X) (i : ℕ) (x : X) → i < length xs → x ≡ get_or xs i x → flat_map f (take (i + 1) xs) ≡ flat_map f (take i xs) ++ f x
flat-take f xs i x h is = ap (flat_map f) (take_more xs i x h) ∙ sym (flat_map_more f [] (take i xs) (get_or xs i x)) ∙ ap (λ y. flat_map f (take i xs) ++ f y) (sym is)

-- the last one is taken off
pub popped : {X : Type 0} (all old new : List X) (x : X) (n : ℕ) → n ≡ length all → new ≡ take (n - 1) all → all ≡ old ++ x ∷ [] → new ≡ old
popped all old new x n count rest is =
    let len : n - 1 ≡ length old = omega (arith, count, ap length is, length-append old (x ∷ [])) in
    rest ∙ rw (len, is) (take-append_seam old (x ∷ []))

-- ---- levels

-- a statement in the block of another
abbrev site_with : ℕ → Stmt → List Stmt → Site
site_with m stmt around = record { «module» = m; stmt = stmt; around = around }

pub inner : (m : ℕ) (blocks : List Stmt) (stmt sub : Stmt) → within (site_in m blocks stmt) sub ≡ site_in m (blocks ++ stmt ∷ []) sub
inner m blocks stmt sub = ap (site_with m sub) (sym (reverse-append blocks (stmt ∷ [])))

module _ (which : Asked) (stmts : List Stmt) where
  pub here-type : (site : Site) → is_named word.Type site.stmt ≡ true → faults_at which stmts site ≡ faults_here which stmts site
  here-type site e = rw e (sym (append-nil (faults_at which stmts site)))

  pub unread : (levels : ℕ) (site : Site) → is_read site.stmt ≡ false → [] ≡ faults_in which levels stmts site
  unfolding types_in
  unread zero site e = rw e refl
  unread (suc levels) site e = rw e refl

  pub last-level : (levels : ℕ) (site : Site) → is_read site.stmt ≡ true → levels ≡ 0 → faults_here which stmts site ≡ faults_in which levels stmts site
  unfolding types_in
  last-level zero site e h = rw e refl
  last-level (suc levels) site e h = absurd (omega (arith, h))

  pub faults-last : (levels : ℕ) (site : Site) (start best : Option Found) → is_read site.stmt ≡ true → levels ≡ 0 → best ≡ least start (faults_here which stmts site)
      → best ≡ least start (faults_in which levels stmts site)
  faults-last levels site start best e h is = is ∙ ap (least start) (last-level levels site e h)

  pub level : (levels m : ℕ) (blocks : List Stmt) (stmt : Stmt) → is_read stmt ≡ true → 0 < levels
      → faults_here which stmts (site_in m blocks stmt) ++ flat_map (λ sub. faults_in which (levels - 1) stmts (site_in m (blocks ++ stmt ∷ []) sub)) (subs_of stmt)
      ≡ faults_in which levels stmts (site_in m blocks stmt)
  unfolding types_in
  level zero m blocks stmt e h = absurd (omega arith)
  level (suc n) m blocks stmt e h =
      let less : suc n - 1 ≡ n = omega arith in
      let site = site_in m blocks stmt in
      let here = faults_here which stmts site in
      rw (e, less) (sym (
      flat_map-append (faults_at which stmts) (type_here site) (flat_map (λ sub. types_in n (within site sub)) (subs_of stmt))
      ∙ ap (λ rest. here ++ rest) (flat_map-flat_map (faults_at which stmts) (λ sub. types_in n (within site sub)) (subs_of stmt))
      ∙ ap (λ (f : Stmt → Site). here ++ flat_map (λ sub. faults_in which n stmts (f sub)) (subs_of stmt)) (λ i sub. inner m blocks stmt sub i)
      ))

  -- the statements of an open block, from one to the next
  pub faults-more : (levels m : ℕ) (subs blocks old : List Stmt) (i : ℕ) (sub : Stmt) (start best next : Option Found) → i < length subs → sub ≡ get_or subs i sub → old ≡ blocks
      → best ≡ least start (flat_map (λ s. faults_in which levels stmts (site_in m blocks s)) (take i subs)) → next ≡ least best (faults_in which levels stmts (site_in m old sub))
      → next ≡ least start (flat_map (λ s. faults_in which levels stmts (site_in m blocks s)) (take (i + 1) subs))
  faults-more levels m subs blocks old i sub start best next h is opened so_far step =
      let f : Stmt → List Found = λ s. faults_in which levels stmts (site_in m blocks s) in
      step ∙ ap (λ bs. least best (faults_in which levels stmts (site_in m bs sub))) opened ∙ ap (λ b. least b (f sub)) so_far
      ∙ least-two start (flat_map f (take i subs)) (f sub) ∙ ap (least start) (sym (flat-take f subs i sub h is))

  -- and all of them
  pub faults-all : (levels m : ℕ) (old opened : List Stmt) (stmt : Stmt) (start best : Option Found) → is_read stmt ≡ true → 0 < levels → opened ≡ old ++ stmt ∷ []
      → best ≡ least start (faults_here which stmts (site_in m old stmt))
      → least best (flat_map (λ sub. faults_in which (levels - 1) stmts (site_in m opened sub)) (subs_of stmt)) ≡ least start (faults_in which levels stmts (site_in m old stmt))
  faults-all levels m old opened stmt start best e h is here =
      let f : List Stmt → List Found = λ bs. flat_map (λ sub. faults_in which (levels - 1) stmts (site_in m bs sub)) (subs_of stmt) in
      ap (λ b. least b (f opened)) here ∙ ap (λ bs. least (least start (faults_here which stmts (site_in m old stmt))) (f bs)) is
      ∙ least-two start (faults_here which stmts (site_in m old stmt)) (f (old ++ stmt ∷ [])) ∙ ap (least start) (level levels m old stmt e h)

  pub modules-faults : numbered (λ m stmt. faults_in which 64 stmts (site_in m [] stmt)) 0 stmts ≡ faults_of which stmts
  modules-faults = sym (flat_map-flat_map (faults_at which stmts) (λ (entry : ℕ × Stmt). types_in 64 (top entry.0 entry.1)) (enumerate_from 0 stmts))
