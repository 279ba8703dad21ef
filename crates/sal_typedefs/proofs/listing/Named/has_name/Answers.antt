use Rattle.std.proofs.Common.{◌∙◌, ap}
use Rattle.std.specs.Prelude.{is_some}
use Rattle.sal_typedefs.proofs.Listings.{named, some-any}
use Rattle.sal_typedefs.proofs.listing.Named.has_name.Goals as goal

pub returns : goal.returns
returns c =
    let name = c.args.name.now in
    c.contains_key.ensures ∙ ap is_some (c.requires name) ∙ some-any (named name) 0 c.args.self.now.entries.items
