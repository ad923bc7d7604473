use Rattle.std.proofs.Common.{ap, is_ok}
use Rattle.joins.proofs.Holding.{present_here, combined_there, kept_there, where_here}
use Rattle.joins.proofs.change_set.ChangeSet.combine_at.Goals as goal

pub present_mut-requires : goal.present_mut-requires
present_mut-requires g c = present_here _ _ _ c.self.view_is c.requires

pub returns-in-Err-clause-err : goal.returns-in-Err-clause-err
returns-in-Err-clause-err g c =
    kept_there _ _ _ c.self.view_is _ _ _ ((c.present_mut.follows.holds _).becomes (ap is_ok c.in-Ok.is)).map c.in-Ok.ensures.value c.in-Err.ensures.err

pub returns-in-Err-clause-refused : goal.returns-in-Err-clause-refused
returns-in-Err-clause-refused g c = where_here _ _ _ c.self.view_is _ _ c.in-Ok.ensures.value c.in-Err.ensures.refused

pub returns-clause-ok : goal.returns-clause-ok
returns-clause-ok g c =
    combined_there _ _ _ c.self.view_is _ _ _ _ _ ((c.present_mut.follows.holds _).becomes (ap is_ok c.in-Ok.is)).map c.in-Ok.ensures.value c.in-Ok-combine.ensures.ok
