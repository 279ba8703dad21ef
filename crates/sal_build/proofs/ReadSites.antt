-- Statements in blocks that mean something: type statements among them were judged, and what they rest on is of the same kind.
use Rattle.std.proofs.Common.{◌≡◌, ℕ, zero, suc, ◌+◌, ◌≤◌, Bool, true, false, not, ◌&&◌, ◌==◌, IsTrue, List, [], ◌∷◌, length, Some, None, refl, sym, ap, subst, ◌∙◌, inl, inr, arith, length-append}
use Rattle.std.specs.Prelude.{⊤, is_some, find, option_map, option_and_then, if◌then◌else◌}
use Rattle.std.specs.List.{list_all, flat_map, enumerate_from, slice_get, sum_by}
use Rattle.std.specs.Option.{option_to_list}
use Rattle.std.proofs.lemmas.Bool.{cases_Bool}
use Rattle.std.proofs.lemmas.Bool.Decides.{nat_tests}
use Rattle.std.proofs.lemmas.List.Sums.{sum_by-cons}
use Rattle.sal_stmt.specs.declared.stmt.Stmt.{Stmt}
use Rattle.sal_module.specs.declared.keyword.Keyword.TheVariants as word
use Rattle.sal_module.specs.Keywords.{same, word_of, keyword_of, words}
use Rattle.sal_module.specs.Profile.{profile_faults, module_faults}
use Rattle.sal_module.specs.Statements.{is_named, subs_of, argument_of}
use Rattle.sal_schema.specs.Valid.{is_empty}
use Rattle.sal_schema.proofs.Conjuncts.{and_first}
use Rattle.sal_typedefs.specs.Names.{name_of, is_builtin, target, count, steps_of}
use Rattle.sal_typedefs.specs.Scopes.{Site, within, top, local, module_of, is_typedef_of, closest, blocks_of, typedef_of}
use Rattle.sal_module_table.specs.Types.{is_read, type_here, types_in, types_of}
use Rattle.sal_build.specs.Readable.{is_shallow}
use Rattle.sal_build.proofs.Members.{In, In-back, In-flat, In-counted, all-in, all-got, found-in}
use Rattle.sal_build.proofs.NamedModules.{rule-named}
use Rattle.sal_build.proofs.Quiet.{numbered-quiet}

-- ---- keywords

abbrev is_read_text : List ℕ → Bool
is_read_text text = is_some (keyword_of text) && not (same text (word_of word.Extension))

type-text : is_read_text (word_of word.Type) ≡ true
unfolding keyword_of word_of words
type-text = refl

typedef-text : is_read_text (word_of word.Typedef) ≡ true
unfolding keyword_of word_of words
typedef-text = refl

module-text : is_read_text (word_of word.Module) ≡ true
unfolding keyword_of word_of words
module-text = refl

type-no-typedef : same (word_of word.Type) (word_of word.Typedef) ≡ false
unfolding word_of
type-no-typedef = refl

pub type-read : (stmt : Stmt) → is_named word.Type stmt ≡ true → IsTrue (is_read stmt)
type-read stmt e = ap is_read_text (rule-named word.Type stmt e) ∙ type-text

pub typedef-read : (stmt : Stmt) → is_named word.Typedef stmt ≡ true → IsTrue (is_read stmt)
typedef-read stmt e = ap is_read_text (rule-named word.Typedef stmt e) ∙ typedef-text

module-read : (stmt : Stmt) → is_named word.Module stmt ≡ true → IsTrue (is_read stmt)
module-read stmt e = ap is_read_text (rule-named word.Module stmt e) ∙ module-text

pub no-typedef : (stmt : Stmt) → is_named word.Type stmt ≡ true → is_named word.Typedef stmt ≡ false
no-typedef stmt e = ap (λ text. same text (word_of word.Typedef)) (rule-named word.Type stmt e) ∙ type-no-typedef

-- ---- the site of a statement

-- in these blocks, each of which is read, down from a module; `levels` are left for its substatements
abbrev pub IsAt : List Stmt → ℕ → ℕ → Stmt → List Stmt → Type 0
IsAt stmts levels m stmt [] = (levels ≡ 64) × (slice_get stmts m ≡ Some stmt)
IsAt stmts levels m stmt (block ∷ outer) = In stmt (subs_of block) × IsTrue (is_read block) × IsAt stmts (suc levels) m block outer

pub record IsReadSite (stmts : List Stmt) (site : Site) : Type 0 where
  pub levels : ℕ
  pub at : IsAt stmts levels site.module site.stmt site.around

none-left : {X : Type 0} (xs : List X) → IsTrue (is_empty xs) → xs ≡ []
none-left [] e = refl
none-left (x ∷ xs) e = let more : (length (x ∷ xs) == 0) ≡ false = grind (arith, nat_tests) in absurd (let no : true ≡ false = sym e ∙ more in cc)

shallow-none : (stmt : Stmt) → IsTrue (is_shallow 0 stmt) → subs_of stmt ≡ []
unfolding is_shallow
shallow-none stmt h = none-left (subs_of stmt) h

shallow-more : (levels : ℕ) (stmt : Stmt) → IsTrue (is_shallow (suc levels) stmt) → IsTrue (list_all (is_shallow levels) (subs_of stmt))
unfolding is_shallow
shallow-more levels stmt h = h

-- ---- the blocks around a statement

abbrev AreBlocks : List Stmt → ℕ → List Stmt → Type 0
AreBlocks stmts m [] = ⊤
AreBlocks stmts m (block ∷ outer) = IsTrue (is_read block) × IsReadSite stmts (record { «module» = m; stmt = block; around = outer }) × AreBlocks stmts m outer

blocks-around : (stmts : List Stmt) (levels m : ℕ) (stmt : Stmt) (around : List Stmt) → IsAt stmts levels m stmt around → AreBlocks stmts m around
blocks-around stmts levels m stmt [] at = tt
blocks-around stmts levels m stmt (block ∷ outer) at = (at.1, record { levels = suc levels; at = at.2 }, blocks-around stmts (suc levels) m block outer at.2)

-- a typedef among them
pub record IsTypedef (stmts : List Stmt) (typedef : Site) : Type 0 where
  pub read : IsReadSite stmts typedef
  pub named : is_named word.Typedef typedef.stmt ≡ true

-- ---- type statements

pub record IsTyped (stmts : List Stmt) (site : Site) : Type 0 where
  pub read : IsReadSite stmts site
  pub named : is_named word.Type site.stmt ≡ true

module _ (stmts : List Stmt) (shallow : IsTrue (list_all (is_shallow 64) stmts)) where
  shallow-at : (levels m : ℕ) (stmt : Stmt) (around : List Stmt) → IsAt stmts levels m stmt around → IsTrue (is_shallow levels stmt)
  shallow-at levels m stmt [] at = subst (λ n. IsTrue (is_shallow n stmt)) (sym at.0) (all-got (is_shallow 64) stmts m stmt shallow at.1)
  shallow-at levels m stmt (block ∷ outer) at = all-in (is_shallow levels) (subs_of block) stmt (shallow-more levels block (shallow-at (suc levels) m block outer at.2)) at.0

  inner-at : (levels : ℕ) (site : Site) (sub : Stmt) → IsAt stmts levels site.module site.stmt site.around → IsTrue (is_read site.stmt) → In sub (subs_of site.stmt) → IsReadSite stmts (within site sub)
  inner-at zero site sub at opened inside =
      let none = shallow-none site.stmt (shallow-at 0 site.module site.stmt site.around at) in
      let no : In sub [] = subst (λ (xs : List Stmt). In sub xs) none inside in
      absurd no
  inner-at (suc levels) site sub at opened inside = record { levels = levels; at = (inside, opened, at) }

  -- a substatement of a statement that is read
  pub inner-read : (site : Site) (sub : Stmt) → IsReadSite stmts site → IsTrue (is_read site.stmt) → In sub (subs_of site.stmt) → IsReadSite stmts (within site sub)
  inner-read site sub read opened inside = inner-at read.levels site sub read.at opened inside

  found-typedef : (m : ℕ) (name : List ℕ) (blocks : List Stmt) (typedef : Site) → AreBlocks stmts m blocks → closest m name blocks ≡ Some typedef → IsTypedef stmts typedef
  found-typedef m name [] typedef are e = cc
  found-typedef m name (block ∷ outer) typedef are e =
      let first = find (is_typedef_of name) (subs_of block) in
      elim first as (λ f. first ≡ f → (if is_some f then option_map (λ stmt. record { «module» = m; stmt = stmt; around = block ∷ outer }) f else closest m name outer) ≡ Some typedef → IsTypedef stmts typedef) [
        | None ↦ λ at e. found-typedef m name outer typedef are.2 e
        | Some stmt ↦ λ at made_so.
            let here = found-in (is_typedef_of name) (subs_of block) stmt at in
            let made : Site = record { «module» = m; stmt = stmt; around = block ∷ outer } in
            let same_site : Some made ≡ Some typedef = made_so in
            let is : made ≡ typedef = cc in
            subst (IsTypedef stmts) is (record {
              read = inner-read (record { «module» = m; stmt = block; around = outer }) stmt are.1 are.0 here.0;
              named = and_first (is_named word.Typedef stmt) (same (argument_of stmt) name) here.1;
            })
      ] refl e

  module _ (profile : profile_faults stmts ≡ []) where
    module-named : (m : ℕ) (stmt : Stmt) → module_faults m stmt ≡ [] → IsTrue (is_named word.Module stmt)
    unfolding module_faults
    module-named m stmt e = elim (cases_Bool (is_named word.Module stmt)) [ inl t ↦ t | inr f ↦ (let no = rw f at e in cc) ]

    modules-named : IsTrue (list_all (is_named word.Module) stmts)
    modules-named = numbered-quiet module_faults (is_named word.Module) module-named 0 stmts profile

    top-blocks : (m : ℕ) → AreBlocks stmts m (option_to_list (slice_get stmts m))
    top-blocks m = elim (slice_get stmts m) as (λ f. slice_get stmts m ≡ f → AreBlocks stmts m (option_to_list f)) [
      | None ↦ λ e. tt
      | Some stmt ↦ λ e. (module-read stmt (all-got (is_named word.Module) stmts m stmt modules-named e), record { levels = 64; at = (refl, e) }, tt)
    ] refl

    blocks-read : (site : Site) (m : ℕ) → IsReadSite stmts site → AreBlocks stmts m (blocks_of stmts site m)
    blocks-read site m read = elim (cases_Bool (m == site.module)) [
      | inl t ↦
          (let same : m ≡ site.module = grind (arith, nat_tests) in
          rw t (subst (λ n. AreBlocks stmts n site.around) (sym same) (blocks-around stmts read.levels site.module site.stmt site.around read.at)))
      | inr f ↦ rw f (top-blocks m)
    ]

    -- the definition of a name
    pub target-read : (site typedef : Site) → IsReadSite stmts site → target stmts site ≡ Some typedef → IsTypedef stmts typedef
    target-read site typedef read e = elim (cases_Bool (is_builtin site)) [
      | inl t ↦ (let no = rw t at e in cc)
      | inr f ↦
          (let named : typedef_of stmts site (name_of site) ≡ Some typedef = rw f at e in
          elim (module_of stmts site.module (name_of site)) as (λ o. option_and_then (λ m. closest m (local (name_of site)) (blocks_of stmts site m)) o ≡ Some typedef → IsTypedef stmts typedef) [
            | None ↦ λ no. cc
            | Some m ↦ λ at. found-typedef m (local (name_of site)) (blocks_of stmts site m) typedef (blocks-read site m read) at
          ] named)
    ]

-- ---- all type statements

types-here : (levels : ℕ) (site : Site) → IsTrue (is_read site.stmt) → is_named word.Type site.stmt ≡ true → In site (types_in levels site)
unfolding types_in
types-here zero site opened named = let read : is_read site.stmt ≡ true = opened in rw (read, named) (inl refl)
types-here (suc levels) site opened named = let read : is_read site.stmt ≡ true = opened in rw (read, named) (inl refl)

types-inside : (levels : ℕ) (site : Site) (sub : Stmt) (x : Site) → IsTrue (is_read site.stmt) → In sub (subs_of site.stmt) → In x (types_in levels (within site sub)) → In x (types_in (suc levels) site)
unfolding types_in
types-inside levels site sub x opened inside i =
    let all = λ (sub : Stmt). types_in levels (within site sub) in
    let read : is_read site.stmt ≡ true = opened in
    rw read (In-back x (type_here site) (flat_map all (subs_of site.stmt)) (In-flat all (subs_of site.stmt) sub x inside i))

types-at : (stmts : List Stmt) (levels m : ℕ) (stmt : Stmt) (around : List Stmt) → IsAt stmts levels m stmt around → (x : Site) → In x (types_in levels (record { «module» = m; stmt = stmt; around = around })) → In x (types_of stmts)
types-at stmts levels m stmt [] at x i =
    let zeroth : m ≡ 0 + m = omega arith in
    let there : In x (types_in 64 (top m stmt)) = subst (λ n. In x (types_in n (top m stmt))) at.0 i in
    In-flat (λ (entry : ℕ × Stmt). types_in 64 (top entry.0 entry.1)) (enumerate_from 0 stmts) (m, stmt) x (In-counted 0 m m stmts stmt zeroth at.1) there
types-at stmts levels m stmt (block ∷ outer) at x i =
    types-at stmts (suc levels) m block outer at.2 x (types-inside levels (record { «module» = m; stmt = block; around = outer }) stmt x at.1 at.0 i)

-- each was judged
pub typed-in : (stmts : List Stmt) (site : Site) → IsTyped stmts site → In site (types_of stmts)
typed-in stmts site typed =
    types-at stmts typed.read.levels site.module site.stmt site.around typed.read.at site (types-here typed.read.levels site (type-read site.stmt typed.named) typed.named)

-- ---- they are no more than all statements

flat-few : {X Y : Type 0} (f : X → List Y) (g : X → ℕ) → ((x : X) → length (f x) ≤ g x) → (xs : List X) → length (flat_map f xs) ≤ sum_by g xs
flat-few f g each [] = omega arith
flat-few f g each (x ∷ xs) = omega (arith, length-append (f x) (flat_map f xs), each x, flat-few f g each xs, sum_by-cons g x xs)

here-few : (site : Site) → length (type_here site) ≤ 1
here-few site = elim (cases_Bool (is_named word.Type site.stmt)) [ inl t ↦ rw t (omega arith) | inr f ↦ rw f (omega arith) ]

types-few : (levels : ℕ) (site : Site) → length (types_in levels site) ≤ count levels site.stmt
unfolding types_in count
types-few zero site = elim (cases_Bool (is_read site.stmt)) [ inl t ↦ rw t (here-few site) | inr f ↦ rw f (omega arith) ]
types-few (suc levels) site =
    let inside = λ (sub : Stmt). types_in levels (within site sub) in
    elim (cases_Bool (is_read site.stmt)) [
      | inl t ↦ rw t (omega (arith, length-append (type_here site) (flat_map inside (subs_of site.stmt)), here-few site, flat-few inside (count levels) (λ sub. types-few levels (within site sub)) (subs_of site.stmt)))
      | inr f ↦ rw f (omega arith)
    ]

modules-few : (k : ℕ) (stmts : List Stmt) → length (flat_map (λ (entry : ℕ × Stmt). types_in 64 (top entry.0 entry.1)) (enumerate_from k stmts)) ≤ sum_by (count 64) stmts
modules-few k [] = omega arith
modules-few k (stmt ∷ stmts) =
    let rest = flat_map (λ (entry : ℕ × Stmt). types_in 64 (top entry.0 entry.1)) (enumerate_from (k + 1) stmts) in
    omega (arith, length-append (types_in 64 (top k stmt)) rest, types-few 64 (top k stmt), modules-few (k + 1) stmts, sum_by-cons (count 64) stmt stmts)

pub few-types : (stmts : List Stmt) → length (types_of stmts) ≤ steps_of stmts
few-types stmts = modules-few 0 stmts
