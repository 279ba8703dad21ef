-- The identities of a table that modules have.
use Rattle.sal_grouping.proofs.Parts.{TreeNode}
use Rattle.std.proofs.Common.{◌≡◌, ℕ, zero, suc, ◌+◌, ◌-◌, ◌<◌, Bool, true, not, ◌&&◌, ◌==◌, nat_lt, IsTrue, List, [], ◌∷◌, ◌++◌, filter, map, take, length, get_or, Option, Some, None, refl, sym, ap, ◌∙◌, subst, inl, inr, arith, append_assoc, length-append}
use Rattle.std.specs.Prelude.{◌||◌, option_map, option_and_then}
use Rattle.std.specs.List.{list_all, flat_map, enumerate_from, slice_get, sum_by, position_from}
use Rattle.std.specs.Option.{option_to_list}
use Rattle.std.proofs.lemmas.Bool.{cases_Bool}
use Rattle.std.proofs.lemmas.Bool.Decides.{nat_tests}
use Rattle.std.proofs.lemmas.List.{length-map}
use Rattle.std.proofs.lemmas.List.Sums.{sum_by_more_le, sum_by-cons}
use Rattle.sal_stmt.specs.declared.stmt.Stmt.{Stmt}
use Rattle.sal_module.specs.declared.keyword.Keyword.{Keyword}
use Rattle.sal_module.specs.declared.keyword.Keyword.TheVariants as word
use Rattle.sal_module.specs.declared.argument.Form.TheVariants.{Identifier}
use Rattle.sal_module.specs.Imports.{reaches}
use Rattle.sal_module.specs.Keywords.{same, word_of, keyword_of}
use Rattle.sal_module.specs.Keywords as keywords
use Rattle.sal_module.specs.Profile.{is_prefixed, allows, is_judged, level_faults, tree_faults, module_faults}
use Rattle.sal_module.specs.Statements.{is_named, subs_of, argument_of}
use Rattle.sal_module.specs.Table.{rule_of, rule_at}
use Rattle.sal_module.specs.Table as table
use Rattle.sal_module.proofs.Levels.{tree_faults-more, below}
use Rattle.sal_schema.specs.declared.table.SchemaTable.{SchemaTable}
use Rattle.sal_schema.specs.Table.{all_from, is_among}
use Rattle.sal_schema.specs.Valid as valid
use Rattle.sal_schema.specs.Valid.{is_good_identity}
use Rattle.sal_schema.proofs.Conjuncts.{and_first, and_second}
use Rattle.sal_schema.proofs.Facts.{slice_get_some}
use Rattle.sal_typedefs.specs.Scopes.{identity_of, identity_in, local, module_of}
use Rattle.sal_typedefs.specs.Scopes as scopes
use Rattle.sal_module_table.specs.Build.{table_of}
use Rattle.sal_module_table.specs.Identities.{Identity, identity_here, identities_in, identities_of, bases_in, bases_of, edges_of, derived, derived_from, info_of, infos_from, target_faults, base_faults, faults_of, all_faults}
use Rattle.sal_build.specs.Laws.{IdentitiesAreGood}
use Rattle.sal_grouping.specs.declared.forest.Branch.{Branch}
use Rattle.sal_module_table.specs.Types as types
use Rattle.sal_build.proofs.Built.{IsBuiltOn, built_on, forest_by, nodes_of}
use Rattle.sal_build.proofs.Grown.{position-below, AreGrown, built-grown}
use Rattle.sal_build.proofs.NamedModules.{rule-named, good-argument, identifier-given}
use Rattle.sal_build.proofs.Quiet.{both, front-nil, all-joined, flat-quiet, numbered-flat, from-quiet}
use Rattle.sal_build.proofs.Underived.{derived-inside, is_free, is_other, not-itself, none-among}

-- ---- statements that the profile judges

-- by the keywords of a statement and of its parent
abbrev pub words_fit : List ℕ → List ℕ → Bool
words_fit parent sub = (not (is_prefixed sub) && allows (rule_of parent) sub) && not (same parent (word_of word.Extension))

pub judged-named : (p s : Keyword) (parent sub : Stmt) → is_named p parent ≡ true → is_named s sub ≡ true → words_fit (word_of p) (word_of s) ≡ true → is_judged parent sub ≡ true
judged-named p s parent sub at_parent at_sub fit = (λ i. words_fit (rule-named p parent at_parent i) (rule-named s sub at_sub i)) ∙ fit

identity-fits : words_fit (word_of word.Module) (word_of word.Identity) ≡ true
unfolding rule_of rule_at table.rows word_of keyword_of keywords.words
identity-fits = refl

identity-form : (rule_of (word_of word.Identity)).argument ≡ Identifier
unfolding rule_of rule_at table.rows word_of keyword_of keywords.words
identity-form = refl

-- ---- their names

abbrev is_named_well : ℕ → Identity → Bool
is_named_well count one = valid.is_identifier (argument_of one.1) && nat_lt one.0 count

named-here : (count m : ℕ) (stmt sub : Stmt) → m < count → is_named word.Module stmt ≡ true → below m 63 stmt sub ≡ [] → IsTrue (list_all (is_named_well count) (identity_here m sub))
named-here count m stmt sub h top e = elim (cases_Bool (is_named word.Identity sub)) [
  | inl t ↦
      let judged = judged-named word.Module word.Identity stmt sub top t identity-fits in
      let whole : tree_faults m 63 sub ≡ [] = rw judged at e in
      let (level, rest) = front-nil (level_faults m sub) _ (sym (tree_faults-more m 63 sub refl) ∙ whole) in
      let name = identifier-given _ _ sub (ap (λ w. (rule_of w).argument) (rule-named word.Identity sub t) ∙ identity-form) refl (good-argument m sub level) in
      let inside : IsTrue (nat_lt m count) = grind (arith, nat_tests) in
      rw t (both (is_named_well count (m, sub)) true (both (valid.is_identifier (argument_of sub)) (nat_lt m count) name inside) refl)
  | inr f ↦ rw f refl
]

named-in : (count m : ℕ) (stmt : Stmt) → m < count → module_faults m stmt ≡ [] → IsTrue (list_all (is_named_well count) (identities_in m stmt))
unfolding module_faults
named-in count m stmt h e = elim (cases_Bool (is_named word.Module stmt)) [
  | inl t ↦
      let whole : tree_faults m 64 stmt ≡ [] = rw t at e in
      let (level, rest) = front-nil (level_faults m stmt) _ (sym (tree_faults-more m 64 stmt refl) ∙ whole) in
      flat-quiet (below m 63 stmt) (identity_here m) (is_named_well count) (λ sub quiet. named-here count m stmt sub h t quiet) (subs_of stmt) rest
  | inr f ↦ let no = rw f at e in cc
]

-- ---- their bases

module _ (stmts : List Stmt) where
  abbrev many : Stmt → ℕ
  many stmt = length (scopes.identities_of stmt)

  count-in : (m : ℕ) (subs : List Stmt) → length (flat_map (identity_here m) subs) ≡ length (filter (is_named word.Identity) subs)
  count-in m [] = refl
  count-in m (sub ∷ subs) = elim (cases_Bool (is_named word.Identity sub)) [
    | inl t ↦ rw t (ap (λ n. suc n) (count-in m subs))
    | inr f ↦ rw f (count-in m subs)
  ]

  count-from : (m : ℕ) (some : List Stmt) → length (flat_map (λ (entry : ℕ × Stmt). identities_in entry.0 entry.1) (enumerate_from m some)) ≡ sum_by many some
  count-from m [] = refl
  count-from m (stmt ∷ some) =
      let rest = flat_map (λ (entry : ℕ × Stmt). identities_in entry.0 entry.1) (enumerate_from (m + 1) some) in
      length-append (identities_in m stmt) rest ∙ (λ i. count-in m (subs_of stmt) i + count-from (m + 1) some i) ∙ sym (sum_by-cons many stmt some)

  abbrev is_there : ℕ → Bool
  is_there n = nat_lt n (length (identities_of stmts))

  number-there : (k : ℕ) (stmt : Stmt) (name : List ℕ) → slice_get stmts k ≡ Some stmt → IsTrue (list_all is_there (option_to_list (identity_in stmts name k stmt)))
  number-there k stmt name at =
      let p : Stmt → Bool = λ one. same (argument_of one) name in
      elim (position_from p 0 (scopes.identities_of stmt)) as (λ f. position_from p 0 (scopes.identities_of stmt) ≡ f
      → IsTrue (list_all is_there (option_to_list (option_map (λ i. sum_by (λ one. length (scopes.identities_of one)) (take k stmts) + i) f)))) [
        | None ↦ λ e. refl
        | Some j ↦ λ e.
            let low = position-below p 0 (scopes.identities_of stmt) j e in
            let (inside, here) = slice_get_some stmts k stmt at in
            let room = sum_by_more_le many stmts k stmt inside in
            let same_count = ap many here in
            let all = count-from 0 stmts in
            let less : sum_by many (take k stmts) + j < length (identities_of stmts) = omega arith in
            let test : IsTrue (is_there (sum_by many (take k stmts) + j)) = grind (arith, nat_tests) in
            both (is_there (sum_by many (take k stmts) + j)) true test refl
      ] refl

  pub base-there : (m : ℕ) (name : List ℕ) → IsTrue (list_all is_there (option_to_list (identity_of stmts m name)))
  base-there m name = elim (module_of stmts m name) as (λ f. IsTrue (list_all is_there (option_to_list (option_and_then (λ k. option_and_then (identity_in stmts (local name) k) (slice_get stmts k)) f)))) [
    | None ↦ refl
    | Some k ↦
        (elim (slice_get stmts k) as (λ f. slice_get stmts k ≡ f → IsTrue (list_all is_there (option_to_list (option_and_then (identity_in stmts (local name) k) f)))) [
          | None ↦ λ e. refl
          | Some stmt ↦ λ e. number-there k stmt (local name) e
        ] refl)
  ]

  bases-there : (m : ℕ) (subs : List Stmt) → IsTrue (list_all is_there (flat_map (bases_in stmts m) subs))
  bases-there m [] = refl
  bases-there m (sub ∷ subs) = elim (cases_Bool (is_named word.Base sub)) [
    | inl t ↦ rw t (all-joined is_there (option_to_list (identity_of stmts m (argument_of sub))) (flat_map (bases_in stmts m) subs) (base-there m (argument_of sub)) (bases-there m subs))
    | inr f ↦ rw f (bases-there m subs)
  ]

  rows-there : (some : List Identity) (i : ℕ) → IsTrue (list_all is_there (get_or (map (bases_of stmts) some) i []))
  rows-there [] i = refl
  rows-there (one ∷ some) zero = bases-there one.0 (subs_of one.1)
  rows-there (one ∷ some) (suc i) = rows-there some i

  -- ---- no circles

  abbrev edges : List (List ℕ)
  edges = edges_of stmts

  free-target : (i m : ℕ) (sub : Stmt) (target : Option ℕ) → target_faults edges i m sub target ≡ [] → IsTrue (list_all (is_free edges i (length edges)) (option_to_list target))
  free-target i m sub None e = refl
  free-target i m sub (Some b) e = elim (cases_Bool (b == i || reaches edges (length edges) i (get_or edges b []))) [
    | inl t ↦ let no = rw t at e in cc
    | inr f ↦ rw f refl
  ]

  free-base : (i m : ℕ) (sub : Stmt) → base_faults stmts edges i m sub ≡ [] → IsTrue (list_all (is_free edges i (length edges)) (bases_in stmts m sub))
  free-base i m sub e = elim (cases_Bool (is_named word.Base sub)) [
    | inl t ↦ (let quiet : target_faults edges i m sub (identity_of stmts m (argument_of sub)) ≡ [] = rw t at e in rw t (free-target i m sub (identity_of stmts m (argument_of sub)) quiet))
    | inr f ↦ rw f refl
  ]

  free-bases : (i : ℕ) (one : Identity) → faults_of stmts edges i one ≡ [] → IsTrue (list_all (is_free edges i (length edges)) (bases_of stmts one))
  free-bases i one e = flat-quiet (base_faults stmts edges i one.0) (bases_in stmts one.0) (is_free edges i (length edges)) (λ sub quiet. free-base i one.0 sub quiet) (subs_of one.1) e

-- ---- the table

get-middle : {X Y : Type 0} (f : X → Y) (done rest : List X) (x : X) (i : ℕ) (d : Y) → i ≡ length done → get_or (map f (done ++ x ∷ rest)) i d ≡ f x
get-middle f [] rest x i d e = let none : i ≡ 0 = omega arith in rw none refl
get-middle f (y ∷ done) rest x zero d e = absurd (omega arith)
get-middle f (y ∷ done) rest x (suc i) d e = get-middle f done rest x i d (omega arith)

from-middle : {X : Type 0} (test : ℕ → X → Bool) (i k : ℕ) (done rest : List X) (x : X) → k ≡ i + length done → IsTrue (all_from test i (done ++ x ∷ rest)) → IsTrue (test k x)
from-middle test i k [] rest x e h = let here : i ≡ k = omega arith in subst (λ n. IsTrue (test n x)) here (and_first (test i x) (all_from test (i + 1) rest) h)
from-middle test i k (y ∷ done) rest x e h = from-middle test (i + 1) k done rest x (omega arith) (and_second (test i y) (all_from test (i + 1) (done ++ x ∷ rest)) h)

all-middle : {X : Type 0} (test : X → Bool) (done rest : List X) (x : X) → IsTrue (list_all test (done ++ x ∷ rest)) → IsTrue (test x)
all-middle test [] rest x h = and_first (test x) (list_all test rest) h
all-middle test (y ∷ done) rest x h = all-middle test done rest x (and_second (test y) (list_all test (done ++ x ∷ rest)) h)

infos-count : (edges : List (List ℕ)) (i : ℕ) (some : List Identity) → length (infos_from edges i some) ≡ length some
infos-count edges i [] = refl
infos-count edges i (one ∷ some) = ap (λ n. suc n) (infos-count edges (i + 1) some)

module _ (stmts : List Stmt) (forest : List Branch) (names : IsTrue (list_all (is_named_well (length stmts)) (identities_of stmts)))
    (free : IsTrue (all_from (λ i one. list_all (is_free (edges_of stmts) i (length (edges_of stmts))) (bases_of stmts one)) 0 (identities_of stmts))) where
  good-one : (done rest : List Identity) (i : ℕ) (one : Identity) → i ≡ length done → identities_of stmts ≡ done ++ one ∷ rest → IsTrue (is_good_identity (table_of stmts forest) i (info_of (edges_of stmts) i one))
  good-one done rest i one count is =
      let edges = edges_of stmts in
      let table = table_of stmts forest in
      let named : IsTrue (is_named_well (length stmts) one) = all-middle (is_named_well (length stmts)) done rest one (subst (λ (all : List Identity). IsTrue (list_all (is_named_well (length stmts)) all)) is names) in
      let name = and_first (valid.is_identifier (argument_of one.1)) (nat_lt one.0 (length stmts)) named in
      let low = and_second (valid.is_identifier (argument_of one.1)) (nat_lt one.0 (length stmts)) named in
      let modules = length-map stmts argument_of in
      let there : IsTrue (nat_lt one.0 (length table.modules)) = grind (arith, nat_tests) in
      let long = infos-count edges 0 (identities_of stmts) in
      let inside : IsTrue (list_all (λ base. nat_lt base (length (identities_of stmts))) (derived_from edges i)) =
      derived-inside edges (λ base. nat_lt base (length (identities_of stmts))) (rows-there stmts (identities_of stmts)) (length edges) i in
      let known : IsTrue (list_all (λ base. nat_lt base (length table.identities)) (derived_from edges i)) =
      subst (λ n. IsTrue (list_all (λ base. nat_lt base n) (derived_from edges i))) (sym long) inside in
      let row : get_or edges i [] ≡ bases_of stmts one = ap (λ all. get_or (map (bases_of stmts) all) i []) is ∙ get-middle (bases_of stmts) done rest one i [] count in
      let away : IsTrue (list_all (is_free edges i (length edges)) (bases_of stmts one)) =
      from-middle (λ i one. list_all (is_free edges i (length edges)) (bases_of stmts one)) 0 i done rest one (omega arith)
      (subst (λ (all : List Identity). IsTrue (all_from (λ i one. list_all (is_free edges i (length edges)) (bases_of stmts one)) 0 all)) is free) in
      let total = length-map (identities_of stmts) (bases_of stmts) in
      let split = ap length is in
      let joined = length-append done (one ∷ rest) in
      let steps : length edges ≡ suc (length edges - 1) = omega arith in
      let back : IsTrue (list_all (is_free edges i (suc (length edges - 1))) (get_or edges i [])) =
      subst (λ n. IsTrue (list_all (is_free edges i n) (get_or edges i []))) steps (subst (λ row. IsTrue (list_all (is_free edges i (length edges)) row)) (sym row) away) in
      let apart : IsTrue (list_all (is_other edges i) (derived_from edges i)) = subst (λ n. IsTrue (list_all (is_other edges i) (derived n edges i))) (sym steps) (not-itself edges i (length edges - 1) back) in
      both ((valid.is_identifier (argument_of one.1) && nat_lt one.0 (length table.modules)) && list_all (λ base. nat_lt base (length table.identities)) (derived_from edges i)) (not (is_among i (derived_from edges i)))
      (both (valid.is_identifier (argument_of one.1) && nat_lt one.0 (length table.modules)) (list_all (λ base. nat_lt base (length table.identities)) (derived_from edges i))
      (both (valid.is_identifier (argument_of one.1)) (nat_lt one.0 (length table.modules)) name there) known) (none-among edges i (derived_from edges i) apart)

  good-from : (done rest : List Identity) (i : ℕ) → i ≡ length done → identities_of stmts ≡ done ++ rest → IsTrue (all_from (is_good_identity (table_of stmts forest)) i (infos_from (edges_of stmts) i rest))
  good-from done [] i count is = refl
  good-from done (one ∷ rest) i count is =
      both (is_good_identity (table_of stmts forest) i (info_of (edges_of stmts) i one)) (all_from (is_good_identity (table_of stmts forest)) (i + 1) (infos_from (edges_of stmts) (i + 1) rest)) (good-one done rest i one count is)
      (good-from (done ++ one ∷ []) rest (i + 1) (omega (arith, length-append done (one ∷ []))) (is ∙ sym (append_assoc done (one ∷ []) rest)))

pub identities-are-good-on : (stmts : List Stmt) (nodes : List TreeNode) (table : SchemaTable) → IsBuiltOn stmts nodes table → AreGrown stmts nodes
    → IsTrue (all_from (is_good_identity table) 0 table.identities)
identities-are-good-on stmts nodes table built grown =
    let forest = forest_by stmts nodes in
    let names = numbered-flat module_faults identities_in (is_named_well (length stmts)) (length stmts) (λ m stmt h quiet. named-in (length stmts) m stmt h quiet) 0 stmts (omega arith) built.checked.profile in
    let (named, leads) = front-nil (types.name_faults stmts ++ all_faults stmts) _ built.names in
    let (typed, quiet) = front-nil (types.name_faults stmts) (all_faults stmts) named in
    let free = from-quiet (faults_of stmts (edges_of stmts)) (λ i one. list_all (is_free (edges_of stmts) i (length (edges_of stmts))) (bases_of stmts one)) (free-bases stmts) 0 (identities_of stmts) quiet in
    subst (λ (t : SchemaTable). IsTrue (all_from (is_good_identity t) 0 t.identities)) built.is (good-from stmts forest names free [] (identities_of stmts) 0 refl refl)

pub identities_are_good : IdentitiesAreGood
identities_are_good stmts table e = identities-are-good-on stmts (nodes_of stmts) table (built_on stmts table e) (built-grown stmts)
