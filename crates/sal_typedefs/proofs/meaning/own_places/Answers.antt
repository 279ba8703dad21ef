use Rattle.std.proofs.Common.{ℕ, List, ◌∙◌, ◌∷◌, ◌++◌, [], map, take, sym, ap}
use Rattle.std.specs.List.{enumerate_from}
use Rattle.sal_typedefs.specs.declared.entry.Entry.{Entry}
use Rattle.sal_typedefs.proofs.MeaningLists.{firsts-more}
use Rattle.sal_typedefs.proofs.meaning.own_places.Goals as goal

pub loop-i-preserved : goal.loop-i-preserved
loop-i-preserved c =
    let done : List ℕ = map (λ (e : ℕ × Entry). e.0) (enumerate_from 0 (take c.loop-i.i c.args.entries.now)) in
    c.in_ok-append.ensures ∙ ap (λ l. l ++ c.place.result ∷ []) c.loop-i.invariant
    ∙ ap (λ k. done ++ k ∷ []) c.place.ensures ∙ sym (firsts-more c.args.entries.now c.loop-i.i c.index-entries-i.result c.loop-i-test.true)
