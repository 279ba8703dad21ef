-- Modules are named by identifiers: the profile says so.
use Rattle.sal_grouping.proofs.Parts.{TreeNode}
use Rattle.sal_build.proofs.Grown.{AreGrown, built-grown}
use Rattle.std.proofs.Common.{◌≡◌, ℕ, true, false, not, IsTrue, List, [], ◌∷◌, ◌++◌, Option, Some, None, refl, sym, ap, ◌∙◌, inl, inr, subst}
use Rattle.std.proofs.lemmas.Bool.{cases_Bool}
use Rattle.std.specs.List.{list_all}
use Rattle.sal_stmt.specs.declared.stmt.Stmt.{Stmt, out-Stmt}
use Rattle.sal_stmt.specs.Words as words
use Rattle.sal_module.specs.declared.keyword.Keyword.{Keyword}
use Rattle.sal_module.specs.declared.keyword.Keyword.TheVariants as word
use Rattle.sal_module.specs.declared.argument.Form.{Form}
use Rattle.sal_module.specs.declared.argument.Form.TheVariants.{Identifier}
use Rattle.sal_module.specs.Arguments.{is_bad_argument}
use Rattle.sal_module.specs.Keywords.{word_of, keyword_of}
use Rattle.sal_module.specs.Keywords as keywords
use Rattle.sal_module.specs.Table.{rule_of, rule_at}
use Rattle.sal_module.specs.Table as table
use Rattle.sal_module.specs.Profile.{level_faults, tree_faults, module_faults, argument_faults, left_out_faults}
use Rattle.sal_module.specs.Statements.{is_named, argument_of}
use Rattle.sal_module.proofs.Levels.{tree_faults-more}
use Rattle.sal_schema.specs.declared.table.SchemaTable.{SchemaTable}
use Rattle.sal_schema.specs.Valid as valid
use Rattle.sal_schema.proofs.Conjuncts.{and_first, and_second}
use Rattle.sal_grouping.proofs.IndexLists.{not-false}
use Rattle.sal_build.specs.Laws.{ModulesAreNamed}
use Rattle.sal_module.proofs.Initials.{same-text}
use Rattle.sal_build.proofs.Built.{IsBuiltOn, built_on, nodes_of}
use Rattle.sal_build.proofs.Quiet.{both, front-nil, numbered-quiet, all-map}

-- ---- identifiers

-- both ways to say it
pub identifier-is : (t : List ℕ) → words.is_identifier t ≡ true → IsTrue (valid.is_identifier t)
identifier-is [] e = absurd (let no : false ≡ true = e in cc)
identifier-is (c ∷ t) e =
    let rest = and_second (words.starts_identifier c) (list_all words.continues_identifier (c ∷ t)) e in
    both (valid.starts_identifier c) (list_all valid.goes_on t) (and_first (words.starts_identifier c) (list_all words.continues_identifier (c ∷ t)) e)
    (and_second (words.continues_identifier c) (list_all words.continues_identifier t) rest)

-- ---- arguments

-- the rule of a keyword is that of its word
pub rule-named : (keyword : Keyword) (stmt : Stmt) → is_named keyword stmt ≡ true → (out-Stmt stmt).keyword ≡ word_of keyword
rule-named keyword stmt e = same-text (out-Stmt stmt).keyword (word_of keyword) e

pub good-argument : (m : ℕ) (stmt : Stmt) → level_faults m stmt ≡ [] → is_bad_argument (rule_of (out-Stmt stmt).keyword).argument (out-Stmt stmt).arg ≡ false
unfolding level_faults
good-argument m stmt e =
    let rule = rule_of (out-Stmt stmt).keyword in
    let (fronts, block) = front-nil (argument_faults m stmt rule ++ left_out_faults m stmt) _ e in
    let (argument, left) = front-nil (argument_faults m stmt rule) (left_out_faults m stmt) fronts in
    elim (cases_Bool (is_bad_argument rule.argument (out-Stmt stmt).arg)) [
      | inl t ↦ let no = rw t at argument in cc
      | inr f ↦ f
    ]

pub identifier-given : (form : Form) (arg : Option (List ℕ)) (stmt : Stmt) → form ≡ Identifier → (out-Stmt stmt).arg ≡ arg → is_bad_argument form arg ≡ false → IsTrue (valid.is_identifier (argument_of stmt))
identifier-given form None stmt is given good = let bad : is_bad_argument Identifier None ≡ false = ap (λ f. is_bad_argument f None) (sym is) ∙ good in absurd (let no : true ≡ false = bad in cc)
identifier-given form (Some t) stmt is given good =
    let fits : not (words.is_identifier t) ≡ false = ap (λ f. is_bad_argument f (Some t)) (sym is) ∙ good in
    rw given (identifier-is t (not-false (words.is_identifier t) fits))

module-form : (rule_of (word_of word.Module)).argument ≡ Identifier
unfolding rule_of rule_at table.rows word_of keyword_of keywords.words
module-form = refl

module-named : (m : ℕ) (stmt : Stmt) → module_faults m stmt ≡ [] → IsTrue (valid.is_identifier (argument_of stmt))
unfolding module_faults
module-named m stmt e = elim (cases_Bool (is_named word.Module stmt)) [
  | inl t ↦
      let whole : tree_faults m 64 stmt ≡ [] = rw t at e in
      let (level, rest) = front-nil (level_faults m stmt) _ (sym (tree_faults-more m 64 stmt refl) ∙ whole) in
      identifier-given _ _ stmt (ap (λ w. (rule_of w).argument) (rule-named word.Module stmt t) ∙ module-form) refl (good-argument m stmt level)
  | inr f ↦ let no = rw f at e in cc
]

pub modules-are-named-on : (stmts : List Stmt) (nodes : List TreeNode) (table : SchemaTable) → IsBuiltOn stmts nodes table → AreGrown stmts nodes
    → IsTrue (list_all valid.is_identifier table.modules)
modules-are-named-on stmts nodes table built grown =
    let named = numbered-quiet module_faults (λ stmt. valid.is_identifier (argument_of stmt)) module-named 0 stmts built.checked.profile in
    subst (λ (t : SchemaTable). IsTrue (list_all valid.is_identifier t.modules)) built.is (all-map argument_of valid.is_identifier stmts named)

pub modules_are_named : ModulesAreNamed
modules_are_named stmts table e = modules-are-named-on stmts (nodes_of stmts) table (built_on stmts table e) (built-grown stmts)
