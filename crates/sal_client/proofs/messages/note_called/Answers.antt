-- A name without a colon is that of no notification.
use Rattle.std.proofs.Common.{◌≡◌, length, refl, rules}
use Rattle.std.specs.List.{position_or_len}
use Rattle.sal_json.specs.Named.{is_colon}
use Rattle.sal_json.proofs.Parted.{none_found}
use Rattle.sal_client.proofs.messages.note_called.Goals as goal

pub returns-in-None : goal.returns-in-None
returns-in-None c =
    let none : position_or_len is_colon c.args.name.now ≡ length c.args.name.now = search rules in
    rw (none_found is_colon c.args.name.now none) refl
