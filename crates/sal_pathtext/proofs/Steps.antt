-- Steps, one after another.
use Rattle.std.proofs.Common.{◌≡◌, ℕ, zero, suc, ◌-◌, ◌<◌, false, List, [], ◌∷◌, ◌++◌, length, Result, Ok, Err, refl, sym, ap, arith, append_assoc}
use Rattle.std.proofs.lemmas.Bool.Decides.{nat_tests}
use Rattle.sal_types.specs.declared.value.Step.{Step}
use Rattle.sal_types.specs.Reading.{◌>>=◌}
use Rattle.sal_schema.specs.declared.table.SchemaTable.{SchemaTable}
use Rattle.sal_pathtext.specs.declared.fault.PathTextFault.{PathTextFault}
use Rattle.sal_pathtext.specs.declared.here.Here.{Here}
use Rattle.sal_pathtext.specs.Words.{Text, is_empty}
use Rattle.sal_pathtext.specs.Read.{step, one_more, steps}

-- these steps before those that are read
abbrev pub behind : List Step → Result (List Step) PathTextFault → Result (List Step) PathTextFault
behind front read = read >>= λ others. Ok (front ++ others)

pub behind-nil : (read : Result (List Step) PathTextFault) → behind [] read ≡ read
behind-nil (Ok path) = refl
behind-nil (Err fault) = refl

pub behind-one : (front : List Step) (one : Step) (read : Result (List Step) PathTextFault) → behind front (read >>= λ others. Ok (one ∷ others)) ≡ behind (front ++ one ∷ []) read
behind-one front one (Ok path) = ap Ok (sym (append_assoc front (one ∷ []) path))
behind-one front one (Err fault) = refl

pub steps-end : (table : SchemaTable) (whole : Text) (room : ℕ) (here : Here) (t : Text) → length t ≡ 0 → steps table whole room here t ≡ Ok []
unfolding steps
steps-end table whole zero here [] e = refl
steps-end table whole (suc room) here [] e = refl
steps-end table whole room here (c ∷ t) e = absurd (omega (arith, e))

pub steps-full : (table : SchemaTable) (whole : Text) (here : Here) (t : Text) → 0 < length t → steps table whole 0 here t ≡ one_more table whole here t
unfolding steps
steps-full table whole here [] low = absurd (omega arith)
steps-full table whole here (c ∷ t) low = let some : is_empty (c ∷ t) ≡ false = grind (arith, nat_tests) in rw some refl

pub steps_at : (table : SchemaTable) (whole : Text) (room : ℕ) (here : Here) (t : Text) → 0 < length t → 0 < room
    → steps table whole room here t ≡ (step table whole here t >>= λ p. steps table whole (room - 1) p.1 p.2 >>= λ others. Ok (p.0 ∷ others))
unfolding steps
steps_at table whole zero here t low some = absurd (omega arith)
steps_at table whole (suc room) here [] low some = absurd (omega arith)
steps_at table whole (suc room) here (c ∷ t) low some =
    let there : is_empty (c ∷ t) ≡ false = grind (arith, nat_tests) in
    let less : suc room - 1 ≡ room = omega arith in
    rw (there, less) refl
