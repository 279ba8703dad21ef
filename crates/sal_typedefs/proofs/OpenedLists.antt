-- Open blocks from one moment to the next.
use Rattle.std.proofs.Common.{◌≡◌, ◌∙◌, ℕ, List, [], ◌∷◌, ◌++◌, refl, sym, ap, subst, append-nil}
use Rattle.std.specs.Prelude.{reverse}
use Rattle.sal_stmt.specs.declared.stmt.Stmt.{Stmt}
use Rattle.sal_typedefs.specs.declared.scope.Scope.{Scope}
use Rattle.sal_typedefs.specs.Settled.{Ranks, Slots, AreKept}
use Rattle.sal_typedefs.specs.Opened.{IsOpen, IsGrown, IsStill, IsIn}

pub own-in : (modules : List Stmt) (m : ℕ) (around : List Stmt) (s : Scope) → IsIn modules m around s → IsIn modules m s.around.items s
own-in modules m around s is = record { ready = is.ready; modules_are = is.modules_are; number = is.number; around_are = refl }

pub grown-in : (old new : Scope) (more : List Stmt) (modules : List Stmt) (m : ℕ) (around : List Stmt) → IsGrown old new more → IsIn modules m around old → IsIn modules m (around ++ more) new
grown-in old new more modules m around g is = record {
  ready = g.ready;
  modules_are = g.typedefs ∙ is.modules_are;
  number = g.number ∙ is.number;
  around_are = g.around ∙ ap (λ (l : List Stmt). l ++ more) is.around_are;
}

pub still-self : (s : Scope) → IsOpen s → IsStill s s
still-self s ready = record { ready = ready; typedefs = refl; ranks = refl; number = refl; around = sym (append-nil s.around.items) }

pub grown-still : (a b c : Scope) (more : List Stmt) → IsGrown a b more → IsStill b c → IsGrown a c more
grown-still a b c more p q = record {
  ready = q.ready;
  typedefs = q.typedefs ∙ p.typedefs;
  ranks = q.ranks ∙ p.ranks;
  number = q.number ∙ p.number;
  around = q.around ∙ append-nil b.around.items ∙ p.around;
}

-- the slots of a module's own block
pub top-kept : (old new : Scope) (modules : List Stmt) (ranks : Ranks) (m : ℕ) (stmt : Stmt) (kept : List Slots) → IsGrown old new (stmt ∷ []) → old.typedefs.now ≡ modules → old.ranks.now ≡ ranks → old.number ≡ m
    → old.around.items ≡ [] → kept ≡ new.kept.items → AreKept (record { modules = modules; ranks = ranks }) m (stmt ∷ []) (reverse kept)
top-kept old new modules ranks m stmt kept g ms rs number none is =
    let A : List Stmt → Type 0 = λ it. AreKept (record { modules = it; ranks = new.ranks.now }) new.number (reverse new.around.items) (reverse new.kept.items) in
    let B : Ranks → Type 0 = λ it. AreKept (record { modules = modules; ranks = it }) new.number (reverse new.around.items) (reverse new.kept.items) in
    let C : ℕ → Type 0 = λ it. AreKept (record { modules = modules; ranks = ranks }) it (reverse new.around.items) (reverse new.kept.items) in
    let D : List Stmt → Type 0 = λ it. AreKept (record { modules = modules; ranks = ranks }) m (reverse it) (reverse new.kept.items) in
    let E : List Slots → Type 0 = λ it. AreKept (record { modules = modules; ranks = ranks }) m (stmt ∷ []) (reverse it) in
    let around : new.around.items ≡ stmt ∷ [] = g.around ∙ ap (λ (l : List Stmt). l ++ stmt ∷ []) none in
    subst E (sym is) (subst D around (subst C (g.number ∙ number) (subst B (g.ranks ∙ rs) (subst A (g.typedefs ∙ ms) g.ready.own))))
