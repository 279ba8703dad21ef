-- The lines of all clients are those of the report.
use Rattle.std.proofs.Common.{◌≡◌, ℕ, zero, suc, ◌+◌, ◌<◌, ◌≤◌, List, [], ◌∷◌, ◌++◌, length, map, Some, refl, ap, sym, ◌∙◌, subst, arith, append_assoc, append-nil}
use Rattle.std.specs.Prelude.{slice_get, string_bytes}
use Rattle.std.specs.List.{flat_map, range_with_len}
use Rattle.sal_schema.specs.declared.table.SchemaTable.{SchemaTable}
use Rattle.sal_script.specs.declared.reply.StepReply.{StepReply}
use Rattle.sal_script.specs.Report.{client_lines, order_line, reply_line, reply_lines, report, told_domains, tree_line, trees_in}
use Rattle.sal_script.specs.Moves.{Move}
use Rattle.sal_script.specs.Tables.{tables_of}
use Rattle.sal_hub.specs.HubHistory.{HubHistory}
use Rattle.sal_embed.specs.declared.caller.Caller.{Caller}
use Rattle.sal_embed.specs.Broker.{AreThrough, AreTold, StandsAt, lines_in, report_with, untold}
use Rattle.sal_embed.specs.Scripts.{Programs, Replies, listed}

-- one line more of a client
pub lines-push : (tables : List SchemaTable) (c s : ℕ) (rs : List StepReply) (r : StepReply) → client_lines tables c s (rs ++ r ∷ []) ≡ client_lines tables c s rs ++ reply_line tables c (s + length rs) r
lines-push tables c s [] r = let e : s ≡ s + 0 = omega arith in append-nil (reply_line tables c s r) ∙ ap (λ (n : ℕ). reply_line tables c n r) e
lines-push tables c s (x ∷ rs) r =
    let e : (s + 1) + length rs ≡ s + suc (length rs) = omega arith in
    ap (λ (rest : List ℕ). reply_line tables c s x ++ rest) (lines-push tables c (s + 1) rs r ∙ ap (λ (n : ℕ). client_lines tables c (s + 1) rs ++ reply_line tables c n r) e)
    ∙ sym (append_assoc (reply_line tables c s x) (client_lines tables c (s + 1) rs) (reply_line tables c (s + suc (length rs)) r))

-- a client whose replies are all written has its lines
pub told_lines : (known : HubHistory) (c : ℕ) (steps : List Move) (rs : List StepReply) (caller : Caller) → StandsAt known c steps rs caller → untold caller ≡ [] → lines_in caller ≡ client_lines (tables_of known.world) c 0 rs
told_lines known c steps rs caller at none =
    let told : at.keeps.told ≡ rs = sym (at.keeps.all ∙ ap (λ (us : List StepReply). at.keeps.told ++ us) none ∙ append-nil at.keeps.told) ∙ at.through.replies in
    at.keeps.lines ∙ ap (client_lines (tables_of known.world) c 0) told

all_lines : (tables : List SchemaTable) (replies : Replies) (start : ℕ) (callers : List Caller) → ((i : ℕ) (caller : Caller) → slice_get callers i ≡ Some caller → lines_in caller ≡ client_lines tables (start + i) 0 (replies (start + i)))
    → flat_map (λ (line : List ℕ). line) (map lines_in callers) ≡ reply_lines tables start (map replies (range_with_len start (length callers)))
all_lines tables replies start [] each = refl
all_lines tables replies start (caller ∷ callers) each =
    let e : start + 0 ≡ start = omega arith in
    let first : lines_in caller ≡ client_lines tables start 0 (replies start) = each 0 caller refl ∙ ap (λ (n : ℕ). client_lines tables n 0 (replies n)) e in
    let rest = all_lines tables replies (start + 1) callers (λ i x at. let f : start + suc i ≡ (start + 1) + i = omega arith in each (suc i) x at ∙ ap (λ (n : ℕ). client_lines tables n 0 (replies n)) f) in
    λ k. first k ++ rest k

-- the report of the steps of all clients
pub reported : (known : HubHistory) (callers : List Caller) (programs : Programs) (replies : Replies) → AreThrough known callers programs replies → AreTold callers
    → report_with known (map lines_in callers) ≡ report known.world (record { log = known.log; replies = listed (length callers) replies })
reported known callers programs replies come told =
    let tables : List SchemaTable = tables_of known.world in
    ap (λ (lines : List ℕ). order_line known.log ++ (lines ++ flat_map (tree_line tables) (map (trees_in known.world known.log) (told_domains known.world known.log))))
    (all_lines tables replies 0 callers (λ i caller at.
    let e : i ≡ 0 + i = omega arith in
    told_lines known i (programs i) (replies i) caller (come.stands i caller at) (told i caller at) ∙ ap (λ (n : ℕ). client_lines tables n 0 (replies n)) e))
