-- The steps that clients made, as a script: client n of the host is client n of the script. One that made no step has an empty program.
use Rattle.std.specs.Prelude.{ℕ, List, [], ◌∷◌, ◌++◌, map, nat_eq, if◌then◌else◌}
use Rattle.std.specs.List.{range_with_len}
use Rattle.sal_script.specs.Moves.{Move}
use Rattle.sal_script.specs.declared.reply.StepReply.{StepReply}

-- a list for each client's number
abbrev pub Each : Type 0 → Type 0
Each A = ℕ → List A

-- the empty list for each
abbrev pub none : {A : Type 0} → Each A
none c = []

-- one more for this client
abbrev pub with : {A : Type 0} → ℕ → A → Each A → Each A
with c x lists = λ k. if nat_eq k c then lists k ++ x ∷ [] else lists k

-- those of the clients below n, as a script has them
abbrev pub listed : {A : Type 0} → ℕ → Each A → List (List A)
listed n lists = map lists (range_with_len 0 n)

-- the steps of each client so far, and the replies to them
abbrev pub Programs : Type 0
Programs = Each Move

abbrev pub Replies : Type 0
Replies = Each StepReply
