-- A broker just opened over one domain, and a seat there for a client.
use Rattle.std.specs.Prelude.{◌≡◌, true, [], ◌∷◌, List}
use Rattle.sal_history.specs.World.{Domain}
use Rattle.sal_history.specs.declared.call.Entry.{Entry}
use Rattle.sal_script.specs.Tables.{Versions, versions_of}
use Rattle.sal_turn.specs.Seats.{Place, TableId}
use Rattle.sal_broker.specs.Seats.{known}

-- the seat is the opening one of the lock, before any call and any other seat, over a world whose domains' schemas have these versions
pub record IsOpened (tables : List Versions) (turn : TableId) (seat : Place Entry (List Domain)) : Type 0 where
  pub lock : seat.lock ≡ turn
  pub reads : tables ≡ versions_of (known seat.view).world
  pub seen : seat.view.seen ≡ []
  pub may_split : seat.view.splits ≡ true
  pub given : seat.view.given ≡ 65535 ∷ []

-- the seat is that of the first client, which has seen nothing yet
pub record IsFirst (tables : List Versions) (turn : TableId) (seat : Place Entry (List Domain)) : Type 0 where
  pub lock : seat.lock ≡ turn
  pub reads : tables ≡ versions_of (known seat.view).world
  pub number : seat.view.number ≡ 0
  pub seen : seat.view.seen ≡ []
  pub own : seat.view.own ≡ []
