use Rattle.serde_json.specs.View.{members_view}
use Rattle.sal_script.specs.Reading.{own}
use Rattle.sal_script.proofs.CheckedReads.{json_with, limits_with}
use Rattle.sal_script.proofs.JsonRead.{own_read}
use Rattle.sal_script.proofs.read.parts_of.Goals as goal

pub invariant_of-result : goal.invariant_of-result
invariant_of-result c =
    let domains = c.in_ok-domains.ensures in
    let beginning = c.in_ok-beginning.ensures in
    let ms = members_view c.args.members.entries in
    record {
      short = c.in_ok-beginning.beginning.own.short;
      few = rw (c.from_items.ensures, beginning.domains.1) domains.few;
      limits = rw c.from_items-2.ensures (limits_with c.in_ok-ending.ending.checked_reads c.in_ok-beginning.beginning.clients.items c.with_reads-clients.result.items c.with_reads-clients.ensures beginning.limits);
      opening = rw (c.openings_in-config.ensures.config, c.openings_in-config.ensures.operational) (own_read ms c.requires (own ms c.in_ok-own.own) c.in_ok-own.ensures);
      json = rw (c.from_items-2.ensures, c.with_reads-clients.ensures, json_with) beginning.json;
    }
