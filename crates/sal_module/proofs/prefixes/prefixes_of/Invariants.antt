-- The prefixes so far, and their faults.
use Rattle.std.proofs.Common.{◌≡◌, ℕ, List, [], ◌∷◌, take, filter}
use Rattle.std.specs.BTreeMap.{get_by_text}
use Rattle.sal_module.specs.declared.keyword.Keyword.TheVariants as word
use Rattle.sal_module.specs.Faults.{least}
use Rattle.sal_module.specs.Statements.{is_named, subs_of}
use Rattle.sal_module.specs.Imports.{find_named, named_prefixes, prefix_faults, prefix_of}
use Rattle.sal_module.proofs.prefixes.prefixes_of.Given as goal

abbrev pub invariant-loop-sub : goal.invariant-loop-sub
invariant-loop-sub l =
    let imports = filter (is_named word.Import) (take l.sub-index (subs_of l.stmt)) in
    record {
      names : (q : List ℕ) → get_by_text l.map q ≡ find_named (named_prefixes l.stmts l.number l.stmt imports) q;
      fault : l.best ≡ least l.initial.best (prefix_faults l.number (prefix_of l.stmt ∷ []) imports);
    }
