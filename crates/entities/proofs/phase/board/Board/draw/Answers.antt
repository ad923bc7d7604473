use Rattle.std.proofs.Common.{rules}
use Rattle.entities.proofs.Phases.Keeps.{draws_at}
use Rattle.entities.specs.declared.phase.trace.Step.TheVariants.{Draw}
use Rattle.entities.proofs.Phases.Passes.{next_of}
use Rattle.entities.proofs.phase.board.Board.draw.Goals as goal

pub fetch_add-requires : goal.fetch_add-requires
fetch_add-requires c = let board = c.args.self.now in let pass = c.requires.0 in
    (pass.table, search rules, draws_at board.plan board.words.shared.key board.words.shared.table_id.slots c.args.pass.now.record.id c.args.pass.now.record.me board.keyed pass.one (pass.fresh c.requires.1) board.fits)

pub returns-clause-step : goal.returns-clause-step
returns-clause-step c = next_of c.args.pass.now _ (Draw c.fetch_add.result) c.requires.0.one c.requires.0.bare c.fetch_add.ensures.0 c.fetch_add.ensures.2
