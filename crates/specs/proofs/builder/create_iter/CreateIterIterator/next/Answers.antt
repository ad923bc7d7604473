use Rattle.std.proofs.Common.{refl}
use Rattle.specs.proofs.builder.create_iter.CreateIterIterator.next.Goals as goal

pub returns-in-Ok-clause-steps : goal.returns-in-Ok-clause-steps
returns-in-Ok-clause-steps g c = record { same_reference = refl; storages = c.bear_lawfully.ensures.storages; gives = (c.if-self.false, c.if-self.false, c.in-Ok.ensures.ok.people); living = c.in-Ok.ensures.living; gone = c.in-Ok.ensures.gone; goes_on = c.in-Ok.ensures.goes_on }
