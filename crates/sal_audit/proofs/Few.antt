-- A script that is prepared has at most 16 clients.
use Rattle.std.proofs.Common.{◌≡◌, ℕ, suc, ◌+◌, ◌≤◌, Bool, true, false, List, [], ◌∷◌, length, Option, Some, None, option_and_then, Result, Ok, Err, nat_le, codes, refl, ap, sym, subst, arith, if◌then◌else◌}
use Rattle.std.proofs.lemmas.Bool.{leb-true}
use Rattle.serde_json.specs.Data.{Data, Members}
use Rattle.sal_types.specs.Reading.{◌>>=◌}
use Rattle.sal_script.specs.Json.{data_of}
use Rattle.sal_script.specs.CheckedReads.{with_reads}
use Rattle.sal_script.specs.Moves.{Move}
use Rattle.sal_script.specs.Script.{OwnParts, Parts, at_most, client_place, clients_from, clients_member, devices_member, ending_of, list_member, members_of, names, or_bad, own_of, parts_of, parts_with, program_of, programs_from, script_of, steps_from}
use Rattle.sal_prepare.specs.declared.status.Status.{Status}
use Rattle.sal_prepare.specs.Scripted.{Prepared, domains_of, or_script, over_world, prepared, prepared_of, reader_versions, world_over}
use Rattle.sal_versions.proofs.Bound.{bind_ok}

few-by : (place : List ℕ) (xs ds : List Data) (b : Bool) → nat_le (length xs) 16 ≡ b → or_bad place (if b then Some xs else None) ≡ Ok ds → length ds ≤ 16
few-by place xs ds true is h = let same : xs ≡ ds = cc in subst (λ (ys : List Data). length ys ≤ 16) same (leb-true (length xs) 16 is)
few-by place xs ds false is h = absurd cc

few : (place : List ℕ) (o : Option (List Data)) (ds : List Data) → or_bad place (option_and_then (at_most 16) o) ≡ Ok ds → length ds ≤ 16
few place None ds h = absurd cc
few place (Some xs) ds h = few-by place xs ds (nat_le (length xs) 16) refl h

as-many-programs : (c : ℕ) (ds : List Data) (programs : List (List Data)) → programs_from c ds ≡ Ok programs → length programs ≡ length ds
as-many-programs c [] programs h = let none : [] ≡ programs = cc in rw (← none) refl
as-many-programs c (d ∷ ds) programs h =
    let first = bind_ok (or_bad (client_place c) (program_of d)) _ programs h in
    let rest = bind_ok (programs_from (c + 1) ds) _ programs first.2 in
    let all : first.0 ∷ rest.0 ≡ programs = cc rest.2 in
    rw (← all) (ap suc (as-many-programs (c + 1) ds rest.0 rest.1))

as-many-clients : (c : ℕ) (programs : List (List Data)) (clients : List (List Move)) → clients_from c programs ≡ Ok clients → length clients ≡ length programs
as-many-clients c [] clients h = let none : [] ≡ clients = cc in rw (← none) refl
as-many-clients c (p ∷ ps) clients h =
    let first = bind_ok (steps_from c 0 p) _ clients h in
    let rest = bind_ok (clients_from (c + 1) ps) _ clients first.2 in
    let all : first.0 ∷ rest.0 ≡ clients = cc rest.2 in
    rw (← all) (ap suc (as-many-clients (c + 1) ps rest.0 rest.1))

few-clients : (ms : Members) (clients : List (List Move)) → clients_member ms ≡ Ok clients → length clients ≤ 16
few-clients ms clients h =
    let listed = bind_ok (or_bad (codes "clients") (option_and_then (at_most 16) (list_member (codes "clients") ms))) _ clients h in
    let programs = bind_ok (programs_from 0 listed.0) _ clients listed.2 in
    let most = few (codes "clients") (list_member (codes "clients") ms) listed.0 listed.1 in
    let first = as-many-programs 0 listed.0 programs.0 programs.1 in
    let second = as-many-clients 0 programs.0 clients programs.2 in
    omega (arith, most, first, second)

-- ---- of the whole script

abbrev clients_in : Result Parts (List ℕ) → List (List Move)
clients_in (Ok parts) = parts.clients
clients_in (Err place) = []

-- checked reads change no number of clients
as-many : (checked : Bool) (clients : List (List Move)) → length (with_reads checked clients) ≡ length clients
as-many false clients = refl
as-many true [] = refl
as-many true (ms ∷ clients) = ap suc (as-many true clients)

few-parts : (ms : Members) (own : OwnParts) (parts : Parts) → parts_with ms own ≡ Ok parts → length parts.clients ≤ 16
few-parts ms own parts h =
    let devices = bind_ok (devices_member ms) _ parts h in
    let clients = bind_ok (clients_member ms) _ parts devices.2 in
    let ending = bind_ok (ending_of ms) _ parts clients.2 in
    let same : with_reads ending.0.checked clients.0 ≡ parts.clients = ap clients_in ending.2 in
    let most : length (with_reads ending.0.checked clients.0) ≤ 16 = subst (λ n. n ≤ 16) (sym (as-many ending.0.checked clients.0)) (few-clients ms clients.0 clients.1) in
    subst (λ (list : List (List Move)). length list ≤ 16) same most

few-script : (bytes : List ℕ) (parts : Parts) → script_of bytes ≡ Ok parts → length parts.clients ≤ 16
few-script bytes parts h =
    let json = bind_ok (or_bad (codes "json") (data_of bytes)) _ parts h in
    let members = bind_ok (or_bad (codes "script") (members_of names json.0)) parts_of parts json.2 in
    let own = bind_ok (own_of members.0) (parts_with members.0) parts members.2 in
    few-parts members.0 own.0 parts own.2

from-script : (r : Result Parts (List ℕ)) (parts : Parts) → or_script r ≡ Ok parts → r ≡ Ok parts
from-script (Ok read) parts h = let same : read ≡ parts = cc in λ i. Ok (same i)
from-script (Err place) parts h = absurd cc

abbrev parts_in : Parts → Result Prepared Status → Parts
parts_in parts (Ok script) = script.parts
parts_in parts (Err status) = parts

pub few-prepared : (bytes : List ℕ) (script : Prepared) → prepared bytes ≡ Ok script → length script.parts.clients ≤ 16
few-prepared bytes script h =
    let read = bind_ok (or_script (script_of bytes)) prepared_of script h in
    let tables = bind_ok (reader_versions read.0) (over_world read.0) script read.2 in
    let world = bind_ok (world_over read.0.rules (domains_of read.0) tables.0) _ script tables.2 in
    let same : read.0 ≡ script.parts = ap (parts_in read.0) world.2 in
    subst (λ (parts : Parts). length parts.clients ≤ 16) same (few-script bytes read.0 (from-script (script_of bytes) read.0 read.1))
