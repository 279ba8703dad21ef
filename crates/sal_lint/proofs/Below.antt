-- What is noted of a statement, by its levels.
use Rattle.std.proofs.Common.{◌≡◌, ◌∙◌, ◌-◌, ◌==◌, ℕ, zero, suc, true, false, List, [], ◌++◌, if◌then◌else◌, append-nil, ap, arith, refl}
use Rattle.std.specs.List.{flat_map}
use Rattle.sal_stmt.specs.declared.stmt.Stmt.{Stmt}
use Rattle.sal_module.specs.Statements.{subs_of}
use Rattle.sal_lint.specs.Notes.{is_closed, notes_in, own_notes}

pub notes_in-last : (levels : ℕ) (stmt : Stmt) → levels ≡ 0 → notes_in levels stmt ≡ own_notes stmt
unfolding notes_in
notes_in-last zero stmt e = refl
notes_in-last (suc levels) stmt e = absurd (omega (arith, e))

more : (levels : ℕ) (stmt : Stmt) → notes_in (suc levels) stmt ≡ own_notes stmt ++ (if is_closed stmt then [] else flat_map (notes_in levels) (subs_of stmt))
unfolding notes_in
more levels stmt = refl

pub notes_in-closed : (levels : ℕ) (stmt : Stmt) → (levels ≡ 0 → ⊥) → is_closed stmt ≡ true → notes_in levels stmt ≡ own_notes stmt
notes_in-closed zero stmt h e = absurd (h refl)
notes_in-closed (suc levels) stmt h e = more levels stmt ∙ rw e (append-nil (own_notes stmt))

pub notes_in-open : (levels : ℕ) (stmt : Stmt) → (levels ≡ 0 → ⊥) → is_closed stmt ≡ false → notes_in levels stmt ≡ own_notes stmt ++ flat_map (notes_in (levels - 1)) (subs_of stmt)
notes_in-open zero stmt h e = absurd (h refl)
notes_in-open (suc levels) stmt h e = let less : suc levels - 1 ≡ levels = omega arith in rw less (more levels stmt ∙ rw e refl)
