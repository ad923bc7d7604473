use Rattle.std.proofs.lemmas.Bool.{false≢true}
use Rattle.composed.specs.declared.either.Either.TheVariants.{First, Rest}
use Rattle.specs.specs.Typed.Shown.{wants_none_as}
use Rattle.composed.proofs.both.BothStorages.reserve_drop.Goals as goal

pub returns-in_err-reserve_drop-clause-unheard : goal.returns-in_err-reserve_drop-clause-unheard
returns-in_err-reserve_drop-clause-unheard g c = λ quiet. absurd (false≢true (rw c.in_err-reserve_drop.was at (c.reserve_drop.ensures.unheard (λ s. wants_none_as First _ (quiet (First s))))))

pub returns-clause-unheard : goal.returns-clause-unheard
returns-clause-unheard g c = λ quiet. c.reserve_drop-2.ensures.unheard (λ s. wants_none_as Rest _ (quiet (Rest s)))
