use Rattle.callers.proofs.lasting.followed.Goals as goal

pub returns-in-Ok : goal.returns-in-Ok
returns-in-Ok g c = c.in-Ok.ensures.events c.args.slot c.args.reader c.requires.quiet c.requires.spared c.requires.living c.requires.followed
