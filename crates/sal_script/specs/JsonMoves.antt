-- Steps whose values are JSON as texts have it.
use Rattle.std.specs.Prelude.{Bool, true, List, [], ◌∷◌, ⊤}
use Rattle.std.specs.List.{list_all}
use Rattle.sal_json_laws.specs.Json.{IsJson, is_json}
use Rattle.sal_script.specs.Moves.{Move, Begin, Put, Merge, Delete, Read, Exists, Submit, Cancel, Settle, OpenChain, ChainBegin, CloseChain, Pump, Listen, Take, Unlisten, Mirror, Provide, Withdraw, Invoke, NextCall, Answer, Collect, Subscribe, Offer, TakeNotes, Mount, Unmount, MountAt, Mark, After, Upgrade}

-- the value of a step
abbrev pub IsJsonMove : Move → Type 0
IsJsonMove (Begin slot domain mode) = ⊤
IsJsonMove (Put slot store path value) = IsJson value
IsJsonMove (Merge slot store path value) = IsJson value
IsJsonMove (Delete slot store path) = ⊤
IsJsonMove (Read slot store path) = ⊤
IsJsonMove (Exists slot store path) = ⊤
IsJsonMove (Submit slot) = ⊤
IsJsonMove (Cancel slot) = ⊤
IsJsonMove (Settle slot) = ⊤
IsJsonMove (OpenChain chain domain) = ⊤
IsJsonMove (ChainBegin chain slot mode) = ⊤
IsJsonMove (CloseChain chain) = ⊤
IsJsonMove Pump = ⊤
IsJsonMove (Listen listener domain store path) = ⊤
IsJsonMove (Take listener) = ⊤
IsJsonMove (Unlisten listener) = ⊤
IsJsonMove (Mirror listener) = ⊤
IsJsonMove (Provide rpc context) = ⊤
IsJsonMove (Withdraw rpc context) = ⊤
IsJsonMove (Invoke slot rpc context value) = IsJson value
IsJsonMove (NextCall slot) = ⊤
IsJsonMove (Answer slot value) = IsJson value
IsJsonMove (Collect slot) = ⊤
IsJsonMove (Subscribe note) = ⊤
IsJsonMove (Offer note value) = IsJson value
IsJsonMove TakeNotes = ⊤
IsJsonMove (Mount device path) = ⊤
IsJsonMove (Unmount domain) = ⊤
IsJsonMove (MountAt path) = ⊤
IsJsonMove (Mark mark) = ⊤
IsJsonMove (After mark) = ⊤
IsJsonMove (Upgrade version) = ⊤

-- those of a client's steps
abbrev pub AreJsonMoves : List Move → Type 0
AreJsonMoves [] = ⊤
AreJsonMoves (step ∷ steps) = IsJsonMove step × AreJsonMoves steps

-- those of all clients
abbrev pub HaveJsonMoves : List (List Move) → Type 0
HaveJsonMoves [] = ⊤
HaveJsonMoves (steps ∷ clients) = AreJsonMoves steps × HaveJsonMoves clients

-- ---- the same, as a test

abbrev pub is_json_move : Move → Bool
is_json_move (Begin slot domain mode) = true
is_json_move (Put slot store path value) = is_json value
is_json_move (Merge slot store path value) = is_json value
is_json_move (Delete slot store path) = true
is_json_move (Read slot store path) = true
is_json_move (Exists slot store path) = true
is_json_move (Submit slot) = true
is_json_move (Cancel slot) = true
is_json_move (Settle slot) = true
is_json_move (OpenChain chain domain) = true
is_json_move (ChainBegin chain slot mode) = true
is_json_move (CloseChain chain) = true
is_json_move Pump = true
is_json_move (Listen listener domain store path) = true
is_json_move (Take listener) = true
is_json_move (Unlisten listener) = true
is_json_move (Mirror listener) = true
is_json_move (Provide rpc context) = true
is_json_move (Withdraw rpc context) = true
is_json_move (Invoke slot rpc context value) = is_json value
is_json_move (NextCall slot) = true
is_json_move (Answer slot value) = is_json value
is_json_move (Collect slot) = true
is_json_move (Subscribe note) = true
is_json_move (Offer note value) = is_json value
is_json_move TakeNotes = true
is_json_move (Mount device path) = true
is_json_move (Unmount domain) = true
is_json_move (MountAt path) = true
is_json_move (Mark mark) = true
is_json_move (After mark) = true
is_json_move (Upgrade version) = true

abbrev pub have_json_moves : List (List Move) → Bool
have_json_moves clients = list_all (λ steps. list_all is_json_move steps) clients
