-- The domain, and then the path.
use Rattle.std.proofs.Common.{sym, ap, refl, ◌∙◌, subst}
use Rattle.sal_pathtext.specs.Read.{read_path}
use Rattle.sal_script.specs.Tables.{last_in}
use Rattle.sal_script.specs.Services.{path_or}
use Rattle.std.specs.Prelude.{◌≡◌}
use Rattle.sal_client.specs.Faults.{Refuses}
use Rattle.sal_client.specs.Targets.{IsTarget}
use Rattle.sal_client.proofs.Faults.{err_so}
use Rattle.sal_client.proofs.Reading.{path_ok}
use Rattle.sal_client.proofs.Wanted.{no_path}
use Rattle.sal_client.proofs.listeners.target_of.Goals as goal

pub returns-in_err-path : goal.returns-in_err-path
returns-in_err-path c =
    let tables = c.args.readers.now in
    let domain = c.args.domain in
    let text = c.args.text.now in
    let e = c.in_err-path.field-0.0 in
    let table : c.in-Some.reader.now ≡ last_in tables domain = c.in-Some.ensures.reader in
    err_so (IsTarget tables domain c.args.store text) _ e c.from_residual.ensures.1
    (no_path tables domain text e (sym c.in-Some.ensures.has) (subst (λ t. Refuses e (path_or (read_path t text))) table c.in_err-path.ensures))

pub returns : goal.returns
returns c =
    let tables = c.args.readers.now in
    let domain = c.args.domain in
    let text = c.args.text.now in
    let table : c.in-Some.reader.now ≡ last_in tables domain = c.in-Some.ensures.reader in
    (refl, refl, c.of.ensures, ap (λ t. read_path t text) (sym table) ∙ path_ok (read_path c.in-Some.reader.now text) c.in_ok-path.path c.in_ok-path.ensures, sym c.in-Some.ensures.has)
