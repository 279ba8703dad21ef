use Rattle.std.proofs.Common.{refl, sym, append-nil}
use Rattle.sal_typedefs.specs.Opened.{world}
use Rattle.sal_typedefs.proofs.SettledLists.{kept-put}
use Rattle.sal_typedefs.proofs.scope.Scope.keep.Goals as goal

pub returns-in_ok-append-in-Some : goal.returns-in_ok-append-in-Some
returns-in_ok-append-in-Some c =
    let a = c.args in
    let old = a.self.now in
    record {
      ready = record {
        own = kept-put (world old) old.number old.around.items c.pop.new.self.items old.kept.items c.append.new.list.items c.in-Some.slots c.in_ok-slots-in-Some.slots a.k a.one c.in-Some.ensures.items
            c.in_ok-append-in-Some.ensures c.in_ok-slots-in-Some.ensures c.requires.is c.requires.ready.own;
        others = c.requires.ready.others;
      };
      typedefs = refl;
      ranks = refl;
      number = refl;
      around = sym (append-nil old.around.items);
    }
