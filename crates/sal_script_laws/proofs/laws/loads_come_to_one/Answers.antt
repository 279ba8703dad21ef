-- By what holds of the rounds of a load.
use Rattle.sal_script_laws.proofs.Ending.{loads_come_to_one, summaries_are_one}
use Rattle.sal_script_laws.proofs.Turning.{AreKnown}
use Rattle.sal_script_laws.proofs.laws.loads_come_to_one.Goals as goal

pub returns : goal.returns
returns c =
    let known : AreKnown = record {
      decided = c.rounds_are_done.ensures;
      accepted = c.puts_are_taken.ensures;
      path = c.rounds_are_read.ensures.path;
      values = c.rounds_are_read.ensures.rows;
      differ = c.rounds_have_keys.ensures.differ;
      short = c.rounds_have_keys.ensures.short;
      distinct = c.rounds_add_up.ensures.distinct;
      grows = c.rounds_add_up.ensures.grows;
    } in record {
      numbers = loads_come_to_one known c.rounds_are_counted.ensures c.rounds_add_up.ensures.all;
      text = summaries_are_one known c.rounds_are_counted.ensures c.rounds_add_up.ensures.all;
    }
