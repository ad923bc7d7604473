use Rattle.std.proofs.Common.{ap, is_ok, is_some, inr, ◌∙◌}
use Rattle.joins.specs.Held.{held}
use Rattle.joins.proofs.Holding.{put_there, value_here, absent_there, none_where_refused, ends_alike}
use Rattle.joins.proofs.change_set.ChangeSet.get_mut.Goals as goal

pub returns-in-Ok : goal.returns-in-Ok
returns-in-Ok g c = (
  ends_alike _ _ _ (λ x. put_there _ _ _ c.self.view_is _ x ((c.get_mut.follows.holds (record { value = x })).becomes (ap is_ok c.in-Ok.is)).map),
  record { writes_back = tt; value = value_here _ _ _ c.self.view_is _ c.in-Ok.ensures.value; absent = tt },
)

pub returns-in-Err : goal.returns-in-Err
returns-in-Err g c =
    let same = rw c.in-Err.is at c.get_mut.follows.holds-at-none.same in (
      ap inr (ap held same.map ∙ c.self.view_is),
      record {
        writes_back = tt;
        value = tt;
        absent = absent_there _ _ _ c.self.view_is (ap is_some (none_where_refused _ _ _ _ c.in-Err.is c.self.invariant c.get_mut.ensures.succeeds));
      },
    )
