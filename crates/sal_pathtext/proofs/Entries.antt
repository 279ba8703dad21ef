-- The values of an entry, and its predicates one after another.
use Rattle.std.proofs.Common.{◌≡◌, ℕ, zero, suc, ◌+◌, ◌-◌, ◌<◌, ◌≤◌, ◌==◌, List, [], ◌∷◌, ◌++◌, length, drop, get_or, Ok, Some, None, if◌then◌else◌, refl, sym, ap, arith, append_assoc}
use Rattle.std.specs.Prelude.{Option, option_and_then}
use Rattle.std.proofs.lemmas.List.{drop_more, drop_all}
use Rattle.sal_types.specs.declared.value.Value.{Value}
use Rattle.sal_types.specs.Reading.{◌>>=◌}
use Rattle.sal_schema.specs.declared.table.SchemaTable.{SchemaTable}
use Rattle.sal_pathtext.specs.declared.given.Given.{Given}
use Rattle.sal_pathtext.specs.Words.{Text, first}
use Rattle.sal_pathtext.specs.Nodes.{value_given, with_value, values_given}
use Rattle.sal_pathtext.specs.Read.{predicate, predicates}

-- these values in front of those that are there
abbrev pub in_front : List Value → Option (List Value) → Option (List Value)
in_front front None = None
in_front front (Some values) = Some (front ++ values)

pub in_front-nil : (found : Option (List Value)) → in_front [] found ≡ found
in_front-nil None = refl
in_front-nil (Some values) = refl

pub in_front-with : (front : List Value) (value : Value) (found : Option (List Value)) → in_front front (with_value value found) ≡ in_front (front ++ value ∷ []) found
in_front-with front value None = refl
in_front-with front value (Some values) = ap Some (sym (append_assoc front (value ∷ []) values))

pub values_at : (given : List Given) (keys : List ℕ) (i : ℕ) → i < length keys
    → values_given given (drop i keys) ≡ option_and_then (λ value. with_value value (values_given given (drop (i + 1) keys))) (value_given given (get_or keys i 0))
values_at given keys i low = ap (values_given given) (drop_more keys i 0 low)

pub values_past : (given : List Given) (keys : List ℕ) (i : ℕ) → length keys ≤ i → values_given given (drop i keys) ≡ Some []
values_past given keys i past = ap (values_given given) (drop_all i keys past)

pub predicates_at : (table : SchemaTable) (whole : Text) (most n : ℕ) (given : List Given) (t : Text) → length t ≤ most
    → predicates table whole most n given t ≡ (
    if first t == 91 then (predicate table whole n given t >>= λ p. predicates table whole (most - 1) n (given ++ p.0 ∷ []) p.1)
    else Ok (given, t)
    )
unfolding predicates
predicates_at table whole zero n given [] room = refl
predicates_at table whole zero n given (c ∷ t) room = absurd (omega arith)
predicates_at table whole (suc most) n given t room = let less : suc most - 1 ≡ most = omega arith in rw less refl
