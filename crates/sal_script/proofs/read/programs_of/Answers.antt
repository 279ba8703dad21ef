use Rattle.std.proofs.Common.{map, ap, sym, ◌∙◌}
use Rattle.sal_script.specs.Script.{or_bad, client_place}
use Rattle.sal_script.proofs.Each.{each_fails, each_done}
use Rattle.sal_script.proofs.Readers.{data_in, program_at, programs_from-each, fault_at}
use Rattle.sal_script.proofs.read.programs_of.Goals as goal

pub returns-in-None : goal.returns-in-None
returns-in-None c =
    let l = c.loop-client in
    let place = client_place l.client in
    let fails = ap (or_bad place) (sym c.in-None.ensures) in
    fault_at place _ _ c.bad_client.ensures
    (programs_from-each 0 c.args.clients.now
    ∙ each_fails program_at (map data_in l.programs.items) l.client c.args.clients.now _ c.index-clients-client.result place c.loop-client-test.true c.index-clients-client.is fails l.invariant)

pub returns : goal.returns
returns c =
    let l = c.loop-client in
    programs_from-each 0 c.args.clients.now ∙ each_done program_at (map data_in l.programs.items) l.client c.args.clients.now _ c.loop-client-test.false l.invariant
