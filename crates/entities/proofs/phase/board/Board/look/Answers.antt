use Rattle.std.proofs.Common.{rules}
use Rattle.entities.proofs.Phases.Keeps.{looks_at}
use Rattle.entities.specs.declared.phase.trace.Step.TheVariants.{Look}
use Rattle.entities.proofs.Phases.Passes.{next_of}
use Rattle.entities.proofs.phase.board.Board.look.Goals as goal

pub load-requires : goal.load-requires
load-requires c = let board = c.args.self.now in
    (c.requires.table, search rules, looks_at board.plan board.words.shared.key board.words.shared.table_id.slots c.args.pass.now.record.id c.args.pass.now.record.me board.keyed c.requires.one)

pub returns-clause-step : goal.returns-clause-step
returns-clause-step c = next_of c.args.pass.now _ (Look c.load.result) c.requires.one c.requires.bare c.load.ensures.0 c.load.ensures.2.0
