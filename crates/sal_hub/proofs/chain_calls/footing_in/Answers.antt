-- A submission that is pending can be seen, and is the transaction's base.
use Rattle.std.proofs.Common.{◌≡◌, ℕ, ◌-◌, ◌<◌, Bool, true, length, Option, None, Some, Result, Ok, Err, if◌then◌else◌, nat_lt, ap, sym, subst, ◌∙◌, arith}
use Rattle.std.proofs.lemmas.Bool.Decides.{nat_tests}
use Rattle.std.specs.Prelude.{IfOk, slice_get}
use Rattle.sal_hub.specs.Chains.{IsFooting, pending_of}
use Rattle.sal_hub.specs.Starts.{IsOn}
use Rattle.sal_hub.proofs.Listed.{slice_get_at}
use Rattle.sal_hub.proofs.chain_calls.footing_in.Goals as goal

is_pending : (count n : ℕ) → count < n → pending_of count (Some n) ≡ Some n
is_pending count n late =
    let yes : nat_lt count n ≡ true = grind (arith, nat_tests, late) in
    ap (λ (b : Bool). let o : Option ℕ = (if b then Some n else None) in o) yes

if_ok : {T E : Type 0} (r : Result T E) (P Q : T → Type 0) → ((x : T) → P x → Q x) → IfOk r P → IfOk r Q
if_ok (Ok x) P Q f p = f x p
if_ok (Err e) P Q f p = tt

pub on_pending-requires : goal.on_pending-requires
on_pending-requires c =
    let p = c.args.pipeline.now in
    let n = c.in-Some.receipt in
    let given = c.requires.given n c.in-Some.is in
    let short : n - 1 - p.gone < length p.waiting.items = omega (arith, given.0, given.1, c.requires.behind, c.if-len-receipt.true, c.len.ensures) in
    c.requires.seen (n - 1 - p.gone) c.index.result.now (slice_get_at p.waiting.items (n - 1 - p.gone) c.index.result.now short c.index.ensures)

pub returns-then-len-receipt : goal.returns-then-len-receipt
returns-then-len-receipt c =
    let p = c.args.pipeline.now in
    let d = c.args.domain.now in
    let n = c.in-Some.receipt in
    let sub = c.index.result.now in
    let given = c.requires.given n c.in-Some.is in
    let late : length p.outcomes.items < n = omega (arith, c.if-len-receipt.true, c.len.ensures) in
    let short : n - 1 - p.gone < length p.waiting.items = omega (arith, given.0, given.1, c.requires.behind, late) in
    let at : slice_get p.waiting.items (n - 1 - p.gone) ≡ Some sub = slice_get_at p.waiting.items (n - 1 - p.gone) sub short c.index.ensures in
    let same : pending_of (length p.outcomes.items) c.args.sent ≡ Some n = ap (pending_of (length p.outcomes.items)) c.in-Some.is ∙ is_pending (length p.outcomes.items) n late in
    subst (λ (o : Option ℕ). IfOk c.on_pending.result (IsFooting o p d)) (sym same)
    (if_ok c.on_pending.result (IsOn sub n) (IsFooting (Some n) p d) (λ footing on. (sub, at, on)) c.on_pending.ensures)
