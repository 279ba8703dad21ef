-- The frames of the next hub continue where those of one end.
use Rattle.std.proofs.Common.{◌≡◌, ℕ, suc, ◌+◌, List, [], ◌∷◌, ◌++◌, length, map, ap, sym, ◌∙◌, arith}
use Rattle.std.specs.List.{range_with_len}
use Rattle.sal_types.specs.declared.value.Store.TheVariants.{Config, Oper}
use Rattle.sal_history.specs.History.{commits, history}
use Rattle.sal_hub.specs.HubHistory.{HubHistory}
use Rattle.sal_hub.proofs.NextEpoch.{opens-at-the-newest}
use Rattle.sal_follow.specs.Framed.{Trees, bytes_of, streamed, frames_on}
use Rattle.sal_follow.proofs.Exporting.{goes-on-after}
use Rattle.sal_resume.specs.Committed.{committed, trees_by}
use Rattle.sal_resume.specs.Newest.{newest}
use Rattle.sal_resume.specs.OverEpochs.{StreamsGoOnOverEpochs, StreamsGoOnOverHubs, next_after}

-- the opening and the commits of a domain
pub split : (known : HubHistory) (n : ℕ) → committed known n ≡ trees_by known n 0 ∷ map (trees_by known n) (range_with_len 1 (length (commits (history known.world known.log) n)))
split known n =
    let long : length (commits (history known.world known.log) n) + 1 ≡ suc (length (commits (history known.world known.log) n)) = omega arith in
    ap (λ m. map (trees_by known n) (range_with_len 0 m)) long

pub go-on-over-epochs : StreamsGoOnOverEpochs
go-on-over-epochs table rules known log n first trees inside =
    let next : HubHistory = next_after rules known log in
    let later : List Trees = map (trees_by next n) (range_with_len 1 (length (commits (history next.world next.log) n))) in
    let opening : trees_by next n 0 ≡ newest known n =
    λ i. record { config = opens-at-the-newest rules known n Config log inside i; oper = opens-at-the-newest rules known n Oper log inside i } in
    let all : committed next n ≡ newest known n ∷ later = split next n ∙ ap (λ (t : Trees). t ∷ later) opening in
    ap (λ (ts : List Trees). streamed table first (trees ++ newest known n ∷ []) ++ bytes_of table (frames_on ts 1 (first + length trees + 1))) all
    ∙ goes-on-after table first trees (newest known n) later
    ∙ ap (λ (ts : List Trees). streamed table first (trees ++ ts)) (sym all)

pub go-on-over-hubs : StreamsGoOnOverHubs
go-on-over-hubs table known n first trees =
    let later : List Trees = map (trees_by known n) (range_with_len 1 (length (commits (history known.world known.log) n))) in
    ap (λ (ts : List Trees). streamed table first (trees ++ trees_by known n 0 ∷ []) ++ bytes_of table (frames_on ts 1 (first + length trees + 1))) (split known n)
    ∙ goes-on-after table first trees (trees_by known n 0) later
    ∙ ap (λ (ts : List Trees). streamed table first (trees ++ ts)) (sym (split known n))
