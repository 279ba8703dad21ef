-- The effect of a piece of an export.
use Rattle.std.proofs.Common.{◌≡◌, inl, inr, ℕ, List, ◌++◌, Option, None, Result, Ok, Err, ap, sym, subst, ◌∙◌}
use Rattle.std.specs.Option.{option_map_or}
use Rattle.std.proofs.lemmas.List.Sums.{fold-append}
use Rattle.sal_schema.specs.declared.table.SchemaTable.{SchemaTable}
use Rattle.sal_follow.specs.declared.fault.FollowFault.{FollowFault}
use Rattle.sal_follow.specs.Laws.{HoldsOneOf}
use Rattle.sal_follow.specs.Leader.{KeepsUp}
use Rattle.sal_follow.specs.States.{Following, Feeds}
use Rattle.sal_follow.specs.Stream.{Held, fresh_at, after_byte, followed, answer}
use Rattle.sal_follow.proofs.Followed.{streams_followed}

-- one piece after another
pub joined : (table : SchemaTable) (h : Held) (before piece : List ℕ) → followed table h (before ++ piece) ≡ followed table (followed table h before) piece
unfolding followed
joined table h before piece = fold-append (after_byte table) h before piece

no_fault : (h : Held) → h.fault ≡ None → answer h ≡ Ok h.version
no_fault h none = ap (λ (o : Option FollowFault). option_map_or (λ fault. Err fault) o (Ok h.version)) none

pub keeps_up : (piece : List ℕ) (old new : Following) (result : Result (Option ℕ) FollowFault) → Feeds piece old new result → KeepsUp piece old new result
keeps_up piece old new result (inr (wanting, same, going)) first trees before more all texts short came prefix = inl wanting
keeps_up piece old new result (inl (is, answers)) first trees before more all texts short came prefix =
    let now : new.held ≡ followed old.schema (fresh_at first) (before ++ piece) =
    ap (λ (f : Following). f.held) is ∙ ap (λ h. followed old.schema h piece) came ∙ sym (joined old.schema (fresh_at first) before piece) in
    let holds : HoldsOneOf first trees new.held = subst (HoldsOneOf first trees) (sym now) (streams_followed old.schema first trees all texts short (before ++ piece) more prefix) in
    inr (holds, answers ∙ no_fault new.held holds.0)
