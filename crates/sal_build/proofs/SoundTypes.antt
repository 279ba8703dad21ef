-- Type statements, and those that they rest on: no extension is around them, and the profile found nothing in them, nor around them.
use Rattle.std.proofs.Common.{◌≡◌, ℕ, zero, suc, ◌+◌, ◌-◌, Bool, true, false, ◌==◌, IsTrue, List, [], ◌∷◌, ◌++◌, map, Option, Some, None, refl, sym, ap, ◌∙◌, subst, inl, inr, arith}
use Rattle.std.specs.Prelude.{⊤, ◌⊎◌, find, filter, take, length, is_some, option_map, option_and_then, if◌then◌else◌, codes}
use Rattle.std.specs.List.{list_all, flat_map, enumerate_from, slice_get}
use Rattle.std.specs.Option.{option_to_list}
use Rattle.std.proofs.lemmas.Bool.{cases_Bool}
use Rattle.std.proofs.lemmas.Bool.Decides.{nat_tests}
use Rattle.sal_stmt.specs.declared.stmt.Stmt.{Stmt, out-Stmt}
use Rattle.sal_module.specs.declared.keyword.Keyword.{Keyword}
use Rattle.sal_module.specs.declared.keyword.Keyword.TheVariants as word
use Rattle.sal_module.specs.Keywords.{same, word_of}
use Rattle.sal_module.specs.Keywords as keywords
use Rattle.sal_module.specs.Profile.{is_prefixed, allows, is_judged, sub_faults, level_faults, tree_faults, module_faults}
use Rattle.sal_module.specs.Statements.{is_named, subs_of, all_named, argument_of}
use Rattle.sal_module.specs.Table.{rule_of}
use Rattle.sal_module.proofs.Levels.{tree_faults-last, below}
use Rattle.sal_schema.proofs.Conjuncts.{and_first, and_second}
use Rattle.sal_typedefs.specs.Names.{name_of, is_builtin, types_in, rests_on}
use Rattle.sal_typedefs.specs.Scopes.{Site, within, local, module_of, is_typedef_of, closest, blocks_of, typedef_of}
use Rattle.sal_build.specs.Readable.{is_shallow}
use Rattle.sal_build.proofs.Differing.{found-passes}
use Rattle.sal_build.proofs.NamedModules.{rule-named}
use Rattle.sal_build.proofs.OwnStatements.{IsSound, AreSound, GoesDown, split-quiet, subs-quiet}
use Rattle.sal_build.proofs.Quiet.{front-nil}

-- ---- lists

abbrev pub Each : {X : Type 0} → (X → Type 0) → List X → Type 0
Each P [] = ⊤
Each P (x ∷ xs) = P x × Each P xs

abbrev pub Among : {X : Type 0} → X → List X → Type 0
Among x [] = ⊥
Among x (y ∷ ys) = (y ≡ x) ⊎ Among x ys

each-map : {X Y : Type 0} (P : Y → Type 0) (f : X → Y) (xs : List X) → Each (λ x. P (f x)) xs → Each P (map f xs)
each-map P f [] h = tt
each-map P f (x ∷ xs) h = (h.0, each-map P f xs h.1)

each-joined : {X : Type 0} (P : X → Type 0) (xs ys : List X) → Each P xs → Each P ys → Each P (xs ++ ys)
each-joined P [] ys h k = k
each-joined P (x ∷ xs) ys h k = (h.0, each-joined P xs ys h.1 k)

each-first : {X : Type 0} (P : X → Type 0) (xs : List X) → Each P xs → Each P (take 1 xs)
each-first P [] h = tt
each-first P (x ∷ xs) h = (h.0, tt)

-- of those that pass a test
pub each-kept : {X : Type 0} (P : X → Type 0) (p : X → Bool) (xs : List X) → ((x : X) → Among x xs → p x ≡ true → P x) → Each P (filter p xs)
each-kept P p [] each = tt
each-kept P p (x ∷ xs) each =
    let rest = each-kept P p xs (λ y among e. each y (inr among) e) in
    elim (cases_Bool (p x)) [ inl t ↦ rw t (each x (inl refl) t, rest) | inr f ↦ rw f rest ]

pub among-found : {X : Type 0} (p : X → Bool) (xs : List X) (x : X) → find p xs ≡ Some x → Among x xs
among-found p [] x e = let no : ◌≡◌ {A = Option _} None (Some x) = e in cc
among-found p (y ∷ ys) x e = elim (cases_Bool (p y)) [
  | inl t ↦ (let here : Some y ≡ Some x = rw t at e in let is : y ≡ x = cc in inl is)
  | inr f ↦ inr (among-found p ys x (rw f at e))
]

quiet-among : {X Y : Type 0} (f : X → List Y) (xs : List X) (x : X) → flat_map f xs ≡ [] → Among x xs → f x ≡ []
quiet-among f [] x e among = absurd among
quiet-among f (y ∷ ys) x e (inl is) = ap f (sym is) ∙ (front-nil (f y) (flat_map f ys) e).0
quiet-among f (y ∷ ys) x e (inr among) = quiet-among f ys x (front-nil (f y) (flat_map f ys) e).1 among

all-among : {X : Type 0} (p : X → Bool) (xs : List X) (x : X) → IsTrue (list_all p xs) → Among x xs → p x ≡ true
all-among p [] x h among = absurd among
all-among p (y ∷ ys) x h (inl is) = ap p (sym is) ∙ and_first (p y) (list_all p ys) h
all-among p (y ∷ ys) x h (inr among) = all-among p ys x (and_second (p y) (list_all p ys) h) among

-- ---- words

pub type-bare : is_prefixed (word_of word.Type) ≡ false
unfolding word_of keywords.words
type-bare = refl

pub type-plain : same (word_of word.Type) (word_of word.Extension) ≡ false
unfolding word_of keywords.words
type-plain = refl

typedef-bare : is_prefixed (word_of word.Typedef) ≡ false
unfolding word_of keywords.words
typedef-bare = refl

typedef-plain : same (word_of word.Typedef) (word_of word.Extension) ≡ false
unfolding word_of keywords.words
typedef-plain = refl

module-plain : same (word_of word.Module) (word_of word.Extension) ≡ false
unfolding word_of keywords.words
module-plain = refl

-- ---- the depth of statements

shallow-last : (stmt : Stmt) → is_shallow 0 stmt ≡ true → (length (subs_of stmt) == 0) ≡ true
unfolding is_shallow
shallow-last stmt e = e

pub shallow-down : GoesDown is_shallow
unfolding is_shallow
shallow-down levels stmt e = e

nothing-in : (xs : List Stmt) (x : Stmt) → (length xs == 0) ≡ true → Among x xs → ⊥
nothing-in [] x e among = among
nothing-in (y ∷ ys) x e among = let more : (length (y ∷ ys) == 0) ≡ false = grind (arith, nat_tests) in let no : true ≡ false = sym e ∙ more in cc

-- ---- the statements of a block that is judged

pub level-quiet : (m levels : ℕ) (stmt : Stmt) → tree_faults m levels stmt ≡ [] → level_faults m stmt ≡ []
level-quiet m zero stmt e = sym (tree_faults-last m stmt) ∙ e
level-quiet m (suc levels) stmt e = (split-quiet m levels stmt e).0

allowed-judged : (m : ℕ) (parent sub : Stmt) → is_named word.Extension parent ≡ false → is_prefixed (out-Stmt sub).keyword ≡ false → sub_faults m parent (rule_of (out-Stmt parent).keyword) sub ≡ [] → is_judged parent sub ≡ true
allowed-judged m parent sub plain bare e = elim (cases_Bool (allows (rule_of (out-Stmt parent).keyword) (out-Stmt sub).keyword)) [
  | inl t ↦ rw (bare, t, plain) refl
  | inr f ↦ (let no = rw (bare, f) at e in cc)
]

-- at a level below
record IsJudged (m : ℕ) (stmt : Stmt) : Type 0 where
  levels : ℕ
  quiet : tree_faults m levels stmt ≡ []
  depth : is_shallow levels stmt ≡ true

sub-judged : (m levels : ℕ) (parent sub : Stmt) → tree_faults m levels parent ≡ [] → is_shallow levels parent ≡ true → is_named word.Extension parent ≡ false → Among sub (subs_of parent)
    → is_prefixed (out-Stmt sub).keyword ≡ false → IsJudged m sub
sub-judged m zero parent sub quiet depth plain among bare = absurd (nothing-in (subs_of parent) sub (shallow-last parent depth) among)
sub-judged m (suc levels) parent sub quiet depth plain among bare =
    let (level, rest) = split-quiet m levels parent quiet in
    let allowed = quiet-among (sub_faults m parent (rule_of (out-Stmt parent).keyword)) (subs_of parent) sub (subs-quiet m parent plain level) among in
    let judged = allowed-judged m parent sub plain bare allowed in
    let here = quiet-among (below m levels parent) (subs_of parent) sub rest among in
    record { levels = levels; quiet = rw judged at here; depth = all-among (is_shallow levels) (subs_of parent) sub (shallow-down levels parent depth) among }

pub sub-sound : (m : ℕ) (parent sub : Stmt) (keyword : Keyword) → is_prefixed (word_of keyword) ≡ false → same (word_of keyword) (word_of word.Extension) ≡ false → IsSound is_shallow m parent
    → Among sub (subs_of parent) → is_named keyword sub ≡ true → IsSound is_shallow m sub
sub-sound m parent sub keyword bare plain sound among named =
    let is : (out-Stmt sub).keyword ≡ word_of keyword = rule-named keyword sub named in
    let judged = sub-judged m sound.levels parent sub sound.quiet sound.depth sound.plain among (ap is_prefixed is ∙ bare) in
    record { levels = judged.levels; quiet = judged.quiet; depth = judged.depth; plain = ap (λ w. same w (word_of word.Extension)) is ∙ plain }

-- ---- modules

module-sound : (m : ℕ) (stmt : Stmt) → module_faults m stmt ≡ [] → is_shallow 64 stmt ≡ true → IsSound is_shallow m stmt
unfolding module_faults
module-sound m stmt e depth = elim (cases_Bool (is_named word.Module stmt)) [
  | inl t ↦ record { levels = 64; quiet = rw t at e; depth = depth; plain = ap (λ w. same w (word_of word.Extension)) (rule-named word.Module stmt t) ∙ module-plain }
  | inr f ↦ (let no = rw f at e in cc)
]

abbrev pub AreModules : List Stmt → Type 0
AreModules stmts = (k : ℕ) (stmt : Stmt) → slice_get stmts k ≡ Some stmt → IsSound is_shallow k stmt

modules-from : (n k : ℕ) (stmts : List Stmt) (stmt : Stmt) → flat_map (λ (e : ℕ × Stmt). module_faults e.0 e.1) (enumerate_from n stmts) ≡ [] → IsTrue (list_all (is_shallow 64) stmts)
    → slice_get stmts k ≡ Some stmt → IsSound is_shallow (n + k) stmt
modules-from n k [] stmt quiet depth e = let no : ◌≡◌ {A = Option Stmt} None (Some stmt) = e in cc
modules-from n zero (one ∷ stmts) stmt quiet depth e =
    let is : one ≡ stmt = cc in
    let here = (front-nil (module_faults n one) (flat_map (λ (e : ℕ × Stmt). module_faults e.0 e.1) (enumerate_from (n + 1) stmts)) quiet).0 in
    let same_number : n ≡ n + 0 = omega arith in
    subst (λ j. IsSound is_shallow j stmt) same_number (subst (IsSound is_shallow n) is (module-sound n one here (and_first (is_shallow 64 one) (list_all (is_shallow 64) stmts) depth)))
modules-from n (suc k) (one ∷ stmts) stmt quiet depth e =
    let rest = (front-nil (module_faults n one) (flat_map (λ (e : ℕ × Stmt). module_faults e.0 e.1) (enumerate_from (n + 1) stmts)) quiet).1 in
    let same_number : n + 1 + k ≡ n + suc k = omega arith in
    subst (λ j. IsSound is_shallow j stmt) same_number (modules-from (n + 1) k stmts stmt rest (and_second (is_shallow 64 one) (list_all (is_shallow 64) stmts) depth) e)

pub modules-sound : (stmts : List Stmt) → flat_map (λ (e : ℕ × Stmt). module_faults e.0 e.1) (enumerate_from 0 stmts) ≡ [] → IsTrue (list_all (is_shallow 64) stmts) → AreModules stmts
modules-sound stmts quiet depth k stmt e = let same_number : 0 + k ≡ k = omega arith in subst (λ j. IsSound is_shallow j stmt) same_number (modules-from 0 k stmts stmt quiet depth e)

-- ---- typedefs

-- a statement, and those around it
abbrev pub SoundSite : Site → Type 0
SoundSite site = AreSound is_shallow site.module (site.stmt ∷ site.around)

closest-sound : (m : ℕ) (name : List ℕ) (blocks : List Stmt) (t : Site) → AreSound is_shallow m blocks → closest m name blocks ≡ Some t → SoundSite t
closest-sound m name [] t sound e = let no : ◌≡◌ {A = Option Site} None (Some t) = e in cc
closest-sound m name (block ∷ outer) t sound e =
    elim (find (is_typedef_of name) (subs_of block)) as (λ o. find (is_typedef_of name) (subs_of block) ≡ o
    → (if is_some o then option_map (λ (stmt : Stmt). record { «module» = m; stmt = stmt; around = block ∷ outer }) o else closest m name outer) ≡ Some t → SoundSite t) [
      | None ↦ λ at e. closest-sound m name outer t sound.1 e
      | Some stmt ↦ λ at e.
          let is : ◌≡◌ {A = Site} (record { «module» = m; stmt = stmt; around = block ∷ outer }) t = cc in
          let named = and_first (is_named word.Typedef stmt) (same (argument_of stmt) name) (found-passes (is_typedef_of name) (subs_of block) stmt at) in
          subst SoundSite is (sub-sound m block stmt word.Typedef typedef-bare typedef-plain sound.0 (among-found (is_typedef_of name) (subs_of block) stmt at) named, sound)
    ] refl e

module _ (modules : List Stmt) (are : AreModules modules) where
  one-block : (m : ℕ) (o : Option Stmt) → slice_get modules m ≡ o → AreSound is_shallow m (option_to_list o)
  one-block m None e = tt
  one-block m (Some stmt) e = (are m stmt e, tt)

  blocks-sound : (site : Site) (m : ℕ) → AreSound is_shallow site.module site.around → AreSound is_shallow m (blocks_of modules site m)
  blocks-sound site m sound = elim (cases_Bool (m == site.module)) [
    | inl t ↦ (let is : site.module ≡ m = grind (arith, nat_tests) in rw t (subst (λ k. AreSound is_shallow k site.around) is sound))
    | inr f ↦ rw f (one-block m (slice_get modules m) refl)
  ]

  typedef-sound : (site : Site) (name : List ℕ) (t : Site) → AreSound is_shallow site.module site.around → typedef_of modules site name ≡ Some t → SoundSite t
  typedef-sound site name t sound e =
      elim (module_of modules site.module name) as (λ o. option_and_then (λ m. closest m (local name) (blocks_of modules site m)) o ≡ Some t → SoundSite t) [
        | None ↦ λ e. let no : ◌≡◌ {A = Option Site} None (Some t) = e in cc
        | Some m ↦ λ e. closest-sound m (local name) (blocks_of modules site m) t (blocks-sound site m sound) e
      ] e

  -- ---- the types that a type uses

  pub types-sound : (site : Site) → SoundSite site → Each SoundSite (types_in site)
  types-sound site sound =
      each-map SoundSite (within site) (all_named word.Type site.stmt) (each-kept (λ sub. SoundSite (within site sub)) (is_named word.Type) (subs_of site.stmt) (λ sub among named.
      (sub-sound site.module site.stmt sub word.Type type-bare type-plain sound.0 among named, sound)))

  target-sound : (site : Site) (o : Option Site) → typedef_of modules site (name_of site) ≡ o → SoundSite site → Each SoundSite (flat_map (λ typedef. take 1 (types_in typedef)) (option_to_list o))
  target-sound site None e sound = tt
  target-sound site (Some t) e sound =
      each-joined SoundSite (take 1 (types_in t)) [] (each-first SoundSite (types_in t) (types-sound t (typedef-sound site (name_of site) t sound.1 e))) tt

  pub rests-sound : (site : Site) → SoundSite site → Each SoundSite (rests_on modules site)
  rests-sound site sound = elim (cases_Bool (is_builtin site)) [
    | inl t ↦ elim (cases_Bool (same (name_of site) (codes "union"))) [ inl u ↦ rw (t, u) (types-sound site sound) | inr n ↦ rw (t, n) tt ]
    | inr f ↦ rw f (target-sound site (typedef_of modules site (name_of site)) refl sound)
  ]
