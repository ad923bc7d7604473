-- What a core, a world and a struct of storages end as, once their parts were lent.
use Rattle.std.specs.Prelude.{Option}
use Rattle.std.specs.Borrow.{RattleType, Lends, LendsIf, MutBor, Fml}
use Rattle.specs.specs.declared.world.core_parts.Core.{Core}
use Rattle.specs.specs.declared.world.core_parts.Parts.{Parts}
use Rattle.specs.specs.declared.world.World.{World}
use Rattle.specs.specs.declared.world.WorldParts.{WorldParts}
use Rattle.specs.specs.contracts.world.core_parts.Core.{the_row}
use Rattle.specs.specs.contracts.world.core_parts.Parts as both
use Rattle.specs.specs.contracts.world.World as world
use Rattle.specs.specs.contracts.world.WorldParts as queue_too

-- the parts as they were left
abbrev pub LendsParts : (S : RattleType) → MutBor (Core S.Denot) → MutBor (Parts S.Denot) → Fml
LendsParts S c r = Lends (the_row S) (both.the_row S) c r (λ w. record c.now { parts = w })

-- both parts as they were left
abbrev pub LendsWorldParts : (S J K V : RattleType) → MutBor (World S.Denot J.Denot K.Denot V.Denot) → MutBor (WorldParts S.Denot J.Denot K.Denot V.Denot) → Fml
LendsWorldParts S J K V s r = Lends (world.the_row S J K V) (queue_too.the_row S J K V) s r (λ w. record s.now { parts = w })

-- its core as it was left
abbrev pub LendsCore : (S J K V : RattleType) → MutBor (World S.Denot J.Denot K.Denot V.Denot) → MutBor (Core S.Denot) → Fml
LendsCore S J K V s r = Lends (world.the_row S J K V) (the_row S) s r (λ c. let p = s.now.parts in record s.now { parts = record p { core = c } })

-- a struct has the part as it was left, and without one it is as it was
abbrev pub LendsPart : (S M : RattleType) → MutBor S.Denot → Option (MutBor M.Denot) → (M.Denot → S.Denot) → Fml
LendsPart S M s r F = LendsIf S M s r F s.now
