-- There are no more identities than statements: each is one of those in the block of a module.
use Rattle.sal_grouping.proofs.Parts.{TreeNode}
use Rattle.sal_build.proofs.Grown.{AreGrown, built-grown}
use Rattle.std.proofs.Common.{◌≡◌, ℕ, suc, ◌+◌, ◌≤◌, List, [], ◌∷◌, length, refl, subst, inl, inr, arith, length-append}
use Rattle.std.specs.List.{flat_map, enumerate_from, sum_by}
use Rattle.std.proofs.lemmas.Bool.{cases_Bool}
use Rattle.std.proofs.lemmas.List.Sums.{sum_by-cons}
use Rattle.sal_stmt.specs.declared.stmt.Stmt.{Stmt}
use Rattle.sal_module.specs.declared.keyword.Keyword.TheVariants as word
use Rattle.sal_module.specs.Statements.{is_named, subs_of}
use Rattle.sal_schema.specs.declared.table.SchemaTable.{SchemaTable}
use Rattle.sal_typedefs.specs.Names.{count, steps_of}
use Rattle.sal_module_table.specs.Identities.{Identity, identity_here, identities_in, identities_of, edges_of}
use Rattle.sal_build.specs.Laws.{IdentitiesAreStatements}
use Rattle.sal_build.proofs.BoundedTypes.{infos-length}
use Rattle.sal_build.proofs.Built.{IsBuiltOn, built_on, nodes_of}
use Rattle.sal_typedefs.proofs.IdentityNumbers.{count-some}

count-subs : (levels : ℕ) (stmt : Stmt) → count (suc levels) stmt ≡ 1 + sum_by (count levels) (subs_of stmt)
unfolding count
count-subs levels stmt = refl

here-few : (m : ℕ) (sub : Stmt) → length (identity_here m sub) ≤ 1
here-few m sub = elim (cases_Bool (is_named word.Identity sub)) [ inl t ↦ rw t (omega arith) | inr f ↦ rw f (omega arith) ]

subs-few : (levels m : ℕ) (subs : List Stmt) → length (flat_map (identity_here m) subs) ≤ sum_by (count levels) subs
subs-few levels m [] = omega arith
subs-few levels m (sub ∷ subs) =
    omega (arith, length-append (identity_here m sub) (flat_map (identity_here m) subs), here-few m sub, subs-few levels m subs, count-some levels sub, sum_by-cons (count levels) sub subs)

modules-few : (n : ℕ) (stmts : List Stmt) → length (flat_map (λ (entry : ℕ × Stmt). identities_in entry.0 entry.1) (enumerate_from n stmts)) ≤ steps_of stmts
modules-few n [] = omega arith
modules-few n (stmt ∷ stmts) =
    omega (
      arith,
      length-append (identities_in n stmt) (flat_map (λ (entry : ℕ × Stmt). identities_in entry.0 entry.1) (enumerate_from (n + 1) stmts)),
      subs-few 63 n (subs_of stmt),
      modules-few (n + 1) stmts,
      count-subs 63 stmt,
      sum_by-cons (count 64) stmt stmts,
    )

pub identities-are-statements-on : (stmts : List Stmt) (nodes : List TreeNode) (table : SchemaTable) → IsBuiltOn stmts nodes table → AreGrown stmts nodes
    → length table.identities ≤ steps_of stmts
identities-are-statements-on stmts nodes table built grown =
    let same = infos-length (edges_of stmts) 0 (identities_of stmts) in
    subst (λ (t : SchemaTable). length t.identities ≤ steps_of stmts) built.is (omega (arith, same, modules-few 0 stmts))

pub identities_are_statements : IdentitiesAreStatements
identities_are_statements stmts table e = identities-are-statements-on stmts (nodes_of stmts) table (built_on stmts table e) (built-grown stmts)
