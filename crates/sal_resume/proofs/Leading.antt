-- The frames of a domain lead to its newest trees.
use Rattle.std.proofs.Common.{◌≡◌, ℕ, ◌+◌, List, [], ◌∷◌, ◌++◌, length, map, Some, None, Ok, ap, subst, ◌∙◌, arith}
use Rattle.std.specs.List.{All, range_with_len}
use Rattle.std.proofs.Math.Seq.{take-length}
use Rattle.std.proofs.lemmas.List.FromFn.{map-range_with_len_more, length-map-range_with_len}
use Rattle.sal_types.specs.declared.value.Store.{Store}
use Rattle.sal_types.specs.declared.value.Store.TheVariants.{Config, Oper}
use Rattle.sal_rows.specs.declared.op.Op.{Op}
use Rattle.sal_rows.specs.Commits.{tree_after}
use Rattle.sal_history.specs.History.{commits, history, newest_tree, trees_at}
use Rattle.sal_history.specs.World.{opening_of}
use Rattle.sal_hub.specs.HubHistory.{HubHistory}
use Rattle.sal_follow.specs.Framed.{Trees, Exports, streamed}
use Rattle.sal_follow.specs.Laws.{AreFollowed, trees_held}
use Rattle.sal_follow.specs.Stream.{Held, followed, fresh}
use Rattle.sal_follow.proofs.Followed.{holds_the_last}
use Rattle.sal_resume.specs.Committed.{trees_by, committed}
use Rattle.sal_resume.specs.Newest.{newest, FramesLeadToTheNewest}

-- the last of a domain's trees are its newest
last-newest : (known : HubHistory) (n : ℕ) → trees_by known n (length (commits (history known.world known.log) n)) ≡ newest known n
last-newest known n =
    let done : List (List Op) = commits (history known.world known.log) n in
    let same : (s : Store) → trees_at known.world (history known.world known.log) n s (length done) ≡ newest_tree known.world known.log n s = λ s. ap (λ (ops : List (List Op)). tree_after s (opening_of known.world n s) ops) (take-length done) in
    λ i. record { config = same Config i; oper = same Oper i }

pub lead-to-the-newest : FramesLeadToTheNewest
lead-to-the-newest known n table bytes all out =
    let m : ℕ = length (commits (history known.world known.log) n) in
    let trees : List Trees = map (trees_by known n) (range_with_len 0 m) in
    let last : Trees = trees_by known n m in
    let split : committed known n ≡ trees ++ last ∷ [] = map-range_with_len_more (trees_by known n) 0 m m (omega arith) in
    let long : length trees ≡ m = length-map-range_with_len (trees_by known n) 0 m in
    let parts : Exports table (trees ++ last ∷ []) (Ok bytes) = subst (λ (ts : List Trees). Exports table ts (Ok bytes)) split out in
    let held : followed table fresh bytes ≡ record { first = 0; version = Some (0 + length trees); config = last.config; oper = last.oper; at = length (streamed table 0 (trees ++ last ∷ [])); rest = []; fault = None } =
    ap (followed table fresh) parts.0 ∙ holds_the_last table 0 trees last (subst (λ (ts : List Trees). All (AreFollowed table) ts) split all) parts.2 parts.1 in
    record {
      version = ap (λ (h : Held). h.version) held ∙ ap Some (let e : 0 + length trees ≡ length trees = omega arith in e ∙ long);
      trees = ap trees_held held ∙ last-newest known n;
      fault = ap (λ (h : Held). h.fault) held;
    }
