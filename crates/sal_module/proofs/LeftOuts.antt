-- Paths and bits, from one to the next.
use Rattle.std.proofs.Common.{◌≡◌, ℕ, ◌+◌, ◌<◌, false, not, ◌&&◌, ◌||◌, List, [], ◌∷◌, ◌++◌, length, drop, get_or, min, Option, Some, None, option_map, nat_lt, if◌then◌else◌, refl, ap, arith}
use Rattle.std.proofs.lemmas.Bool.Decides.{nat_tests}
use Rattle.std.proofs.lemmas.List.{drop_more}
use Rattle.std.specs.List.{list_any}
use Rattle.sal_stmt.specs.declared.stmt.Stmt.{Stmt, out-Stmt}
use Rattle.sal_module.specs.declared.fault.Cause.TheVariants.{LeftOut}
use Rattle.sal_stmt.specs.Words.{continues_identifier}
use Rattle.sal_module.specs.declared.keyword.Keyword.TheVariants as word
use Rattle.sal_module.specs.Statements.{is_named, subs_of}
use Rattle.sal_module.specs.LeftOut.{starts_call, calls_deref_after, stated, next_position, implied_faults, bit_faults}

pub calls_deref-at : (before : ℕ) (t : List ℕ) (i : ℕ) → i < length t
    → calls_deref_after before (drop i t) ≡ ((not (continues_identifier before) && starts_call (drop i t)) || calls_deref_after (get_or t i 0) (drop (i + 1) t))
unfolding calls_deref_after
calls_deref-at before t i h = rw (drop_more t i 0 h) refl

pub calls_deref-none : (before : ℕ) → calls_deref_after before [] ≡ false
unfolding calls_deref_after
calls_deref-none before = refl

pub bit_faults-at : (m n : ℕ) (subs : List Stmt) (i : ℕ) (d : Stmt) → i < length subs
    → bit_faults m n (drop i subs) ≡ (
    if is_named word.Bit (get_or subs i d)
    then implied_faults m n (get_or subs i d) ++ bit_faults m (next_position n (stated (get_or subs i d))) (drop (i + 1) subs)
    else bit_faults m n (drop (i + 1) subs)
    )
unfolding bit_faults
bit_faults-at m n subs i d h = rw (drop_more subs i d h) refl

pub bit_faults-none : (m n : ℕ) → bit_faults m n [] ≡ []
unfolding bit_faults
bit_faults-none m n = refl

-- the position is kept up to 64, where all that counts is whether it is past 63
pub implied_faults-capped : (m n : ℕ) (bit : Stmt) → implied_faults m (min 64 n) bit ≡ implied_faults m n bit
implied_faults-capped m n bit =
    let late : nat_lt 63 (min 64 n) ≡ nat_lt 63 n = grind (arith, nat_tests) in
    ap (λ b. if not (list_any (is_named word.Position) (subs_of bit)) && b then record { cause = LeftOut; «module» = m; at = (out-Stmt bit).at } ∷ [] else []) late

pub next_position-capped : (n : ℕ) (position : Option ℕ) → min 64 (next_position (min 64 n) (option_map (min 4294967296) position)) ≡ min 64 (next_position n position)
next_position-capped n None = omega arith
next_position-capped n (Some p) = omega arith
