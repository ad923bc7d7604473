use Rattle.std.proofs.Common.{rules, subst}
use Rattle.entities.specs.declared.phase.pass.Pass.{Pass}
use Rattle.entities.specs.Phase.Trace.{Phase}
use Rattle.entities.specs.Phase.Opened.{phase_opened}
use Rattle.phase_threads.proofs.Retold.{if_ok, retold}
use Rattle.phase_threads.proofs.run.in_threads.Goals as goal

pub returns-clause-ran : goal.returns-clause-ran
returns-clause-ran g c =
    let tells = g.T.Turn.tells c.args.turn.now in
    if_ok c.in_threads_by.result _ _ (λ r ran. retold _ tells (λ o p a came.
    let told : tells (phase_opened came.shared.now) came.after.now a = search (came.call, rules) in
    subst (λ (q : Pass). tells o q a) came.left (subst (λ (x : Phase). tells x came.after.now a) came.is_it told)) _ _ _ _ _ _ ran) c.in_threads_by.ensures.ran
