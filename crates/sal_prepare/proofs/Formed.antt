-- The patterns of all versions are well formed, or the first malformed one counts.
use Rattle.std.proofs.Common.{◌≡◌, ℕ, ◌+◌, zero, suc, Bool, true, false, List, [], ◌∷◌, take, Option, None, Some, if◌then◌else◌, Result, Ok, Err, refl, ap, ◌∙◌, arith}
use Rattle.std.proofs.lemmas.Bool.{or_parts}
use Rattle.std.specs.Prelude.{slice_get}
use Rattle.std.specs.List.{list_any}
use Rattle.std.specs.Option.{option_map_or}
use Rattle.sal_types.specs.Reading.{◌>>=◌}
use Rattle.sal_schema.specs.declared.table.SchemaTable.{SchemaTable}
use Rattle.sal_script.specs.Tables.{versions_in}
use Rattle.sal_client.specs.Malformed.{are_malformed, is_malformed, IsFirstAt}
use Rattle.sal_prepare.specs.declared.status.Status.{Status}
use Rattle.sal_prepare.specs.declared.status.Status.TheVariants.{BadSchema}
use Rattle.sal_prepare.specs.Each.{each_from}
use Rattle.sal_prepare.specs.Scripted.{if_formed, malformed_from, or_unformed, pattern_text}

-- ---- the versions of one schema

pub none_from : (versions : List SchemaTable) (v : ℕ) → list_any is_malformed versions ≡ false → malformed_from v versions ≡ None
none_from [] v none = refl
none_from (t ∷ ts) v none =
    let both = or_parts (is_malformed t) (list_any is_malformed ts) none in
    ap (λ (b : Bool). if b then Some v else malformed_from (v + 1) ts) both.0 ∙ none_from ts (v + 1) both.1

pub found_from : (versions : List SchemaTable) (k v : ℕ) → option_map_or is_malformed (slice_get versions v) false ≡ true → list_any is_malformed (take v versions) ≡ false
    → malformed_from k versions ≡ Some (k + v)
found_from [] k v is none = cc
found_from (t ∷ ts) k zero is none =
    let there : k ≡ k + 0 = omega (arith) in
    ap (λ (b : Bool). if b then Some k else malformed_from (k + 1) ts) is ∙ ap (λ (n : ℕ). Some n) there
found_from (t ∷ ts) k (suc v) is none =
    let both = or_parts (is_malformed t) (list_any is_malformed (take v ts)) none in
    let there : k + 1 + v ≡ k + suc v = omega (arith) in
    ap (λ (b : Bool). if b then Some k else malformed_from (k + 1) ts) both.0 ∙ found_from ts (k + 1) v is both.1 ∙ ap (λ (n : ℕ). Some n) there

-- ---- those of all domains

-- those of the first domains, and then of the others
abbrev next : Option ℕ → ℕ → List SchemaTable → Result (List (List SchemaTable)) Status → Result (List (List SchemaTable)) Status
next o n versions rest = or_unformed n versions o >>= (λ first. rest >>= (λ more. Ok (first ∷ more)))

-- if no pattern is malformed, all versions are kept
pub all_formed : (tables : List (List SchemaTable)) (n : ℕ) → list_any are_malformed tables ≡ false → each_from if_formed n tables ≡ Ok tables
all_formed [] n none = refl
all_formed (versions ∷ ts) n none =
    let both = or_parts (are_malformed versions) (list_any are_malformed ts) none in
    ap (λ (o : Option ℕ). next o n versions (each_from if_formed (n + 1) ts)) (none_from versions 0 both.0)
    ∙ ap (λ (rest : Result (List (List SchemaTable)) Status). rest >>= (λ more. Ok (versions ∷ more))) (all_formed ts (n + 1) both.1)

-- the first malformed one counts
pub first_malformed : (tables : List (List SchemaTable)) (n d v : ℕ) → IsFirstAt (versions_in tables d) v → list_any are_malformed (take d tables) ≡ false
    → each_from if_formed n tables ≡ Err (BadSchema (n + d) (pattern_text v))
first_malformed [] n d v is none = absurd (no_version v is.0)
  where
    no_version : (v : ℕ) → option_map_or is_malformed (slice_get [] v) false ≡ true → ⊥
    no_version v e = cc
first_malformed (versions ∷ ts) n zero v is none =
    let there : n ≡ n + 0 = omega (arith) in
    let own : 0 + v ≡ v = omega (arith) in
    ap (λ (o : Option ℕ). next o n versions (each_from if_formed (n + 1) ts)) (found_from versions 0 v is.0 is.1 ∙ ap (λ (k : ℕ). Some k) own)
    ∙ ap (λ (k : ℕ). Err (BadSchema k (pattern_text v))) there
first_malformed (versions ∷ ts) n (suc d) v is none =
    let both = or_parts (are_malformed versions) (list_any are_malformed (take d ts)) none in
    let there : n + 1 + d ≡ n + suc d = omega (arith) in
    ap (λ (o : Option ℕ). next o n versions (each_from if_formed (n + 1) ts)) (none_from versions 0 both.0)
    ∙ ap (λ (rest : Result (List (List SchemaTable)) Status). rest >>= (λ more. Ok (versions ∷ more))) (first_malformed ts (n + 1) d v is both.1)
    ∙ ap (λ (k : ℕ). Err (BadSchema k (pattern_text v))) there
