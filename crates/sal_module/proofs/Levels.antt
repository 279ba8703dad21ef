-- The positions of the statements of one keyword, and the keywords of a rule, from one to the next.
use Rattle.std.proofs.Common.{◌≡◌, ℕ, zero, suc, ◌-◌, ◌==◌, Bool, true, false, ◌||◌, List, [], ◌∷◌, ◌++◌, if◌then◌else◌, refl, ◌∙◌, inl, inr, arith}
use Rattle.std.proofs.lemmas.Bool.{cases_Bool}
use Rattle.std.specs.List.{list_any, flat_map}
use Rattle.sal_stmt.specs.declared.stmt.Stmt.{Stmt, out-Stmt}
use Rattle.sal_module.specs.declared.profile.Standing.{Standing}
use Rattle.sal_module.specs.declared.profile.Standing.TheVariants.{Once, Again}
use Rattle.sal_module.specs.declared.fault.Found.{Found}
use Rattle.sal_module.specs.Statements.{subs_of}
use Rattle.sal_module.specs.Profile.{standing_of, is_judged, level_faults, tree_faults}

-- where one was seen already, or none
abbrev pub after : Bool → List Stmt → Standing
after false found = standing_of found
after true [] = Once
after true (two ∷ more) = Again (out-Stmt two).at

any-append : {X : Type 0} (p : X → Bool) (xs ys : List X) → list_any p (xs ++ ys) ≡ (list_any p xs || list_any p ys)
any-append p [] ys = refl
any-append p (x ∷ xs) ys = elim (cases_Bool (p x)) [ inl e ↦ rw e refl | inr e ↦ rw e (any-append p xs ys) ]

pub any-parts : {P X : Type 0} (p : X → Bool) (now : P → List X) (parts : List P) → list_any p (flat_map now parts) ≡ list_any (λ part. list_any p (now part)) parts
any-parts p now [] = refl
any-parts p now (part ∷ parts) = any-append p (now part) (flat_map now parts) ∙ rw (any-parts p now parts) refl

-- ---- one level after another

-- the faults in this many levels from a substatement on
abbrev pub below : ℕ → ℕ → Stmt → Stmt → List Found
below m levels parent sub = if is_judged parent sub then tree_faults m levels sub else []

pub tree_faults-last : (m : ℕ) (stmt : Stmt) → tree_faults m 0 stmt ≡ level_faults m stmt
unfolding tree_faults
tree_faults-last m stmt = refl

tree_faults-suc : (m levels : ℕ) (stmt : Stmt) → tree_faults m (suc levels) stmt ≡ level_faults m stmt ++ flat_map (below m levels stmt) (subs_of stmt)
unfolding tree_faults
tree_faults-suc m levels stmt = refl

pub tree_faults-more : (m levels : ℕ) (stmt : Stmt) → (levels == 0) ≡ false → tree_faults m levels stmt ≡ level_faults m stmt ++ flat_map (below m (levels - 1) stmt) (subs_of stmt)
tree_faults-more m zero stmt h = absurd (let no : true ≡ false = h in cc)
tree_faults-more m (suc levels) stmt h = let less : suc levels - 1 ≡ levels = omega arith in rw less (tree_faults-suc m levels stmt)
