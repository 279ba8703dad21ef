use Rattle.std.proofs.Common.{◌≡◌, length, ◌∙◌, ap, rules}
use Rattle.std.specs.List.{position_or_len}
use Rattle.sal_schema.specs.Names.{identity_of}
use Rattle.sal_json.specs.Named.{is_colon}
use Rattle.sal_json.proofs.Parted.{none_found}
use Rattle.sal_json.proofs.named.identity_called.Goals as goal

pub returns-in-None : goal.returns-in-None
returns-in-None c =
    let none : position_or_len is_colon c.args.text.now ≡ length c.args.text.now = search rules in
    rw (none_found is_colon c.args.text.now none) (c.identity-in-None.ensures ∙ ap (λ m. identity_of c.args.schema.now m c.args.text.now) c.module_name.ensures)
