-- The types of the load's module: each is the built-in one, without a fault.
use Rattle.std.proofs.Common.{◌≡◌, ℕ, zero, suc, List, [], ◌∷◌, refl}
use Rattle.sal_stmt.specs.declared.stmt.Stmt.{Stmt}
use Rattle.sal_stmt.specs.declared.stmt.Stmt.TheViews.{out-roll-Stmt}
use Rattle.sal_restrict.specs.declared.yang_type.YangType.TheViews.{out-roll-YangType}
use Rattle.sal_module.specs.Keywords.{words, word_of}
use Rattle.sal_module.specs.Statements.{all_named, subs_of, is_named, argument_of}
use Rattle.sal_schema.specs.Examples.{whole}
use Rattle.sal_typedefs.specs.Scopes.{Site}
use Rattle.sal_typedefs.specs.Builtins.{names, builtin_of}
use Rattle.sal_typedefs.specs.Names.{name_of, name_faults, rests_on, under}
use Rattle.sal_typedefs.specs.Restrictions.{is_needed, is_misplaced, layer_of}
use Rattle.sal_typedefs.specs.Types.{Judged, judge, judge_last, restricted, judged, base_of}
use Rattle.sal_versions.proofs.LoadText.{stmt}

abbrev pub type_stmt : ℕ → Stmt
type_stmt at = stmt "type" "uint32" at []

-- a type statement in any blocks
abbrev pub site : ℕ → List Stmt → Site
site at around = record { «module» = 0; stmt = type_stmt at; around = around }

pub no_name_faults : (steps : ℕ) (stmts : List Stmt) (at : ℕ) (around : List Stmt) → name_faults steps stmts (site at around) ≡ []
unfolding words word_of names builtin_of
no_name_faults steps stmts at around = simp (name_of, argument_of, subs_of, out-roll-Stmt)

pub no_rest : (stmts : List Stmt) (at : ℕ) (around : List Stmt) → rests_on stmts (site at around) ≡ []
unfolding names builtin_of
no_rest stmts at around = simp (name_of, argument_of, out-roll-Stmt)

abbrev pub sound : Judged
sound = record { faults = []; type = whole 32 0 4294967295; entries = [] }

last : (stmts : List Stmt) (at : ℕ) (around : List Stmt) → judge_last stmts (site at around) ≡ sound
unfolding words word_of names builtin_of judge_last
last stmts at around = simp (restricted, judged, base_of, subs_of, argument_of, is_named, all_named, name_of, is_needed, is_misplaced, layer_of, out-roll-Stmt, out-roll-YangType)

pub judges : (steps : ℕ) (stmts : List Stmt) (at : ℕ) (around : List Stmt) → judge steps stmts (site at around) ≡ sound
unfolding judge judge_last
judges zero stmts at around = last stmts at around
judges (suc n) stmts at around = rw (no_rest stmts at around) (last stmts at around)

pub just : (steps : ℕ) (stmts : List Stmt) (at : ℕ) (around : List Stmt) → under steps stmts (site at around) ≡ site at around ∷ []
unfolding under
just zero stmts at around = refl
just (suc n) stmts at around = rw (no_rest stmts at around) refl
