use Rattle.std.proofs.lemmas.Bool.{and_from}
use Rattle.serde_json.specs.View.{view}
use Rattle.sal_json_laws.specs.Json.{is_json}
use Rattle.sal_script.proofs.device.with_openings.Goals as goal

pub invariant_of-result : goal.invariant_of-result
invariant_of-result c =
    let configured = c.in_ok-configured.ensures in
    let opened = c.in_ok-opened.ensures in
    record {
      short = rw (c.from_items.ensures, opened.before.0, configured.modules) c.requires.short;
      opening = and_from (is_json (view c.in_ok-opened.opened.1)) (is_json (view c.in_ok-opened.opened.2)) (rw opened.before.1 configured.json) opened.json;
    }
