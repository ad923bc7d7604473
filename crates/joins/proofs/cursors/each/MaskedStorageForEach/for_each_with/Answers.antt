use Rattle.std.proofs.Common.{rules}
use Rattle.joins.proofs.CallLemmas.{carried, stopped, each_of, others_of, absent_of, becomes_each}
use Rattle.joins.proofs.cursors.each.MaskedStorageForEach.for_each_with.Goals as goal

pub returns-in-Ok-clause-calls : goal.returns-in-Ok-clause-calls
returns-in-Ok-clause-calls g c =
    let made = c.join_mut-cursor.ensures in
    (_, carried {T = g.row.T.Denot} {I = g.row.J-Type.Denot} {R = Unit {0}} {F = g.row.F.Denot} _ (g.J.Join.gives c.args.join) _ (tt {0}) made.gives _ _ c.args.f _ _ _ _ made.rest made.slot (search rules) c.in-Ok.ensures.calls.0 c.in-Ok.ensures.calls.1)

pub returns-in-Ok-clause-each : goal.returns-in-Ok-clause-each
returns-in-Ok-clause-each g c q lt has is =
    each_of {T = g.row.T.Denot} {I = g.row.J-Type.Denot} {R = Unit {0}} {F = g.row.F.Denot} _ _ (tt {0}) c.args.self.now _ (g.J.Join.has c.args.join) _ _ (returns-in-Ok-clause-calls g c).1 q lt has is

pub returns-in-Ok-clause-others : goal.returns-in-Ok-clause-others
returns-in-Ok-clause-others g c q is =
    others_of {T = g.row.T.Denot} {I = g.row.J-Type.Denot} {R = Unit {0}} {F = g.row.F.Denot} _ _ (tt {0}) c.args.self.now _ (g.J.Join.has c.args.join) _ _ (returns-in-Ok-clause-calls g c).1 q is

pub returns-in-Ok-clause-absent : goal.returns-in-Ok-clause-absent
returns-in-Ok-clause-absent g c q none =
    absent_of {T = g.row.T.Denot} {I = g.row.J-Type.Denot} {R = Unit {0}} {F = g.row.F.Denot} _ _ (tt {0}) c.args.self.now _ (g.J.Join.has c.args.join) _ _ (returns-in-Ok-clause-calls g c).1 q none

pub returns-in-Ok-clause-becomes : goal.returns-in-Ok-clause-becomes
returns-in-Ok-clause-becomes g c to h =
    becomes_each {T = g.row.T.Denot} {I = g.row.J-Type.Denot} {R = Unit {0}} {F = g.row.F.Denot} _ _ (tt {0}) to h _ _ _ _ _ (returns-in-Ok-clause-calls g c).1

pub returns-in-Err-clause-err : goal.returns-in-Err-clause-err
returns-in-Err-clause-err g c =
    let made = c.join_mut-cursor.ensures in
    stopped {T = g.row.T.Denot} {I = g.row.J-Type.Denot} {R = Unit {0}} {F = g.row.F.Denot} _ (g.J.Join.gives c.args.join) _ (tt {0}) made.gives _ _ c.args.f _ _ _ _ made.rest made.slot (search rules) c.in-Err.ensures.err
