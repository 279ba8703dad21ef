-- What the profile does not support because of an argument, or of a missing statement.
use Rattle.std.specs.Prelude.{ℕ, ◌+◌, Bool, false, not, ◌&&◌, ◌||◌, ◌==◌, nat_eq, nat_lt, max, List, [], ◌∷◌, ◌++◌, drop, find, Option, Some, None, option_map, if◌then◌else◌, codes}
use Rattle.std.specs.List.{list_any, prefix_len, starts_with}
use Rattle.sal_stmt.specs.declared.stmt.Stmt.{Stmt, out-Stmt}
use Rattle.sal_stmt.specs.Words.{first, is_blank, continues_identifier}
use Rattle.sal_module.specs.declared.keyword.Keyword.TheVariants as word
use Rattle.sal_module.specs.declared.fault.Cause.TheVariants.{LeftOut}
use Rattle.sal_module.specs.declared.fault.Found.{Found}
use Rattle.sal_module.specs.Keywords.{same}
use Rattle.sal_module.specs.Arguments.{is_whole, decimal}
use Rattle.sal_module.specs.Statements.{is_named, subs_of, argument_of}

-- `deref`, and an opening parenthesis after it
abbrev pub starts_call : List ℕ → Bool
starts_call t = starts_with nat_eq t (codes "deref") && first (drop (prefix_len is_blank (drop 5 t)) (drop 5 t)) == 40

-- The path calls the function `deref`; `before` is the byte before this text. The name is not part of a longer one.
unfoldable pub calls_deref_after : ℕ → List ℕ → Bool
calls_deref_after before [] = false
calls_deref_after before (c ∷ t) = (not (continues_identifier before) && starts_call (c ∷ t)) || calls_deref_after c t

abbrev pub calls_deref : List ℕ → Bool
calls_deref path = calls_deref_after 0 path

-- a list without keys
abbrev pub lacks_keys : Stmt → Bool
lacks_keys stmt = is_named word.List stmt && not (list_any (is_named word.Key) (subs_of stmt))

-- a list whose entries its user orders
abbrev pub is_ordered_by_user : Stmt → Bool
is_ordered_by_user stmt = is_named word.OrderedBy stmt && same (argument_of stmt) (codes "user")

abbrev pub is_instance_identifier : Stmt → Bool
is_instance_identifier stmt = is_named word.Type stmt && same (argument_of stmt) (codes "instance-identifier")

abbrev pub is_calling_path : Stmt → Bool
is_calling_path stmt = is_named word.Path stmt && calls_deref (argument_of stmt)

-- a stated position above 63
abbrev pub is_past_the_last_bit : Stmt → Bool
is_past_the_last_bit stmt = is_named word.Position stmt && (is_whole (argument_of stmt) && nat_lt 63 (decimal (argument_of stmt)))

abbrev pub is_left_out : Stmt → Bool
is_left_out stmt = (((lacks_keys stmt || is_ordered_by_user stmt) || is_instance_identifier stmt) || is_calling_path stmt) || is_past_the_last_bit stmt

-- ---- the positions of the bits of a `type bits`

-- the position that a bit states
abbrev pub stated : Stmt → Option ℕ
stated bit = option_map (λ (s : Stmt). decimal (argument_of s)) (find (is_named word.Position) (subs_of bit))

-- One more than the highest position so far, after one more bit. A bit that states none gets just this position.
abbrev pub next_position : ℕ → Option ℕ → ℕ
next_position next None = next + 1
next_position next (Some position) = max next (position + 1)

abbrev pub implied_faults : ℕ → ℕ → Stmt → List Found
implied_faults m next bit = if not (list_any (is_named word.Position) (subs_of bit)) && nat_lt 63 next then record { cause = LeftOut; «module» = m; at = (out-Stmt bit).at } ∷ [] else []

-- bits whose implied position is above 63
unfoldable pub bit_faults : ℕ → ℕ → List Stmt → List Found
bit_faults m next [] = []
bit_faults m next (sub ∷ subs) =
    if is_named word.Bit sub then implied_faults m next sub ++ bit_faults m (next_position next (stated sub)) subs
    else bit_faults m next subs
