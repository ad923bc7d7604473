use Rattle.std.proofs.Common.{◌≡◌, ◌≤◌}
use Rattle.hibits.specs.WalkOf.{IsWalkOf, position, words_read, steps_left}
use Rattle.hibits.proofs.walk.Walk.fill3.Given as goal

abbrev pub invariant-loop-self : goal.invariant-loop-self
invariant-loop-self g l = record { walk : IsWalkOf (g.M.Layers.has l.mask) (g.M.Layers.cost l.mask) l.self; position : position l.self ≡ position l.initial.self; reads : words_read l.initial.self ≤ words_read l.self; word0 : l.self.word0 ≡ l.initial.self.word0; end0 : l.self.end0 ≡ l.initial.self.end0; word1 : l.self.word1 ≡ l.initial.self.word1; end1 : l.self.end1 ≡ l.initial.self.end1; word2 : l.self.word2 ≡ l.initial.self.word2; end2 : l.self.end2 ≡ l.initial.self.end2; nearer : steps_left l.self ≤ steps_left l.initial.self }

abbrev pub decreases-loop-self : goal.decreases-loop-self
decreases-loop-self g l = steps_left l.self
