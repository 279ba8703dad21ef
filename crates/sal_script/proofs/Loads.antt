-- The programs of a load are short, and their values are JSON.
use Rattle.std.proofs.Common.{◌≡◌, ◌≤◌, ◌+◌, ◌*◌, ℕ, zero, suc, true, List, [], ◌∷◌, ◌++◌, length, IsTrue, nat_le, arith, refl, ◌∙◌}
use Rattle.std.proofs.lemmas.List.{length-append}
use Rattle.std.proofs.lemmas.Bool.Decides.{nat_tests}
use Rattle.std.proofs.lemmas.List.Folds.{list_all-append}
use Rattle.std.specs.List.{list_all}
use Rattle.sal_script.specs.declared.script.ScriptStep.{ScriptStep}
use Rattle.sal_script.specs.JsonMoves.{have_json_moves, is_json_move}
use Rattle.sal_script.specs.Limits.{within_limits}
use Rattle.sal_script.specs.Load.{key_of, value_in, round_of, program_of, clients_of}
use Rattle.sal_script.specs.Moves.{Move, clients_of as moves_of_clients}
use Rattle.sal_script.proofs.Limits.{same_limits}

-- the programs of the clients below a number
abbrev pub programs_below : ℕ → ℕ → ℕ → List (List Move)
programs_below rounds start zero = []
programs_below rounds start (suc client) = programs_below rounds start client ++ program_of start client rounds ∷ []

-- ---- four steps a round

pub length-program : (start client rounds : ℕ) → length (program_of start client rounds) ≡ rounds * 4
length-program start client zero = refl
length-program start client (suc n) =
    let more = length-program start client n in
    let both : length (program_of start client n ++ round_of (key_of client n) (value_in start client n)) ≡ length (program_of start client n) + 4 =
    length-append (program_of start client n) (round_of (key_of client n) (value_in start client n)) in
    omega arith

short_program : (start client rounds : ℕ) → rounds ≤ 10000 → nat_le (length (program_of start client rounds)) 60000 ≡ true
short_program start client rounds few =
    let long = length-program start client rounds in
    let le : length (program_of start client rounds) ≤ 60000 = omega arith in
    grind (arith, nat_tests, le)

short_programs : (rounds start : ℕ) → rounds ≤ 10000 → within_limits (clients_of rounds start) ≡ true
short_programs rounds start few =
    rw (short_program start 0 rounds few, short_program start 1 rounds few, short_program start 2 rounds few, short_program start 3 rounds few) refl

-- so are the steps that say these
pub within : (rounds start : ℕ) (clients : List (List ScriptStep)) → rounds ≤ 10000 → moves_of_clients clients ≡ clients_of rounds start → IsTrue (within_limits clients)
within rounds start clients few same =
    let own = same_limits clients in
    rw (← own.0, ← own.1, same) (short_programs rounds start few)

-- ---- values of two members

json_program : (start client rounds : ℕ) → list_all is_json_move (program_of start client rounds) ≡ true
json_program start client zero = refl
json_program start client (suc n) =
    list_all-append is_json_move (program_of start client n) (round_of (key_of client n) (value_in start client n))
    ∙ rw (json_program start client n) refl

pub json : (rounds start : ℕ) → have_json_moves (clients_of rounds start) ≡ true
json rounds start = rw (json_program start 0 rounds, json_program start 1 rounds, json_program start 2 rounds, json_program start 3 rounds) refl
