-- The reply is one more of the client's.
use Rattle.std.proofs.Common.{refl}
use Rattle.sal_client.specs.Clients.{client_of}
use Rattle.sal_client.proofs.Soundness.{IsSound-same, IsSteady-same}
use Rattle.sal_client.proofs.client.ClientState.keep.Goals as goal

pub returns : goal.returns
returns c =
    let old = c.args.self.now in
    record {
      client = λ i. record (client_of old) { replies = c.in_ok-push.ensures.items i };
      sound = record {
        steady = λ known is. IsSteady-same known old _ is refl refl;
        sound = λ known is. IsSound-same known old _ is refl refl refl (refl, refl, refl);
      };
      schema = λ tables has k tx at. has k tx at;
      number = refl;
    }
