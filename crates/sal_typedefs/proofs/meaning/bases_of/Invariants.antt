-- The first bases.
use Rattle.std.proofs.Common.{◌≡◌, take, filter}
use Rattle.std.specs.List.{flat_map}
use Rattle.std.specs.Option.{option_to_list}
use Rattle.sal_module.specs.declared.keyword.Keyword.TheVariants as word
use Rattle.sal_module.specs.Statements.{is_named, subs_of, argument_of}
use Rattle.sal_typedefs.specs.Scopes.{identity_of}
use Rattle.sal_typedefs.proofs.meaning.bases_of.Given as goal

abbrev pub invariant-loop-sub : goal.invariant-loop-sub
invariant-loop-sub l = l.bases.items ≡ flat_map (λ sub. option_to_list (identity_of l.typedefs l.number (argument_of sub))) (filter (is_named word.Base) (take l.sub-index (subs_of l.stmt)))
