-- The bases of chains, that they have no conflicts with their own commits, and the order of commits.
use Rattle.sal_history.proofs.Numbers.{apart_in_chains, in_order, on_top_of_base}
use Rattle.sal_history.proofs.laws.chains_keep_to_themselves.Goals as goal

pub returns : goal.returns
returns c = record { base = on_top_of_base; own = apart_in_chains; order = in_order }
