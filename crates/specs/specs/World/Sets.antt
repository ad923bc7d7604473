-- Sets of indices by expressions.
use Rattle.std.specs.Prelude.{◌≡◌, ℕ, Bool, true, false, not, nat_lt, if◌then◌else◌, ◌&&◌, ◌||◌, Option, Some, None, is_some}
use Rattle.hibits.specs.declared.limits.TheConstants.{INDEX_LIMIT}
use Rattle.hibits.specs.MaskExprs.{expr_has}
use Rattle.hibits.specs.Sets.{has_part}
use Rattle.entities.specs.Population.{Population, lives}
use Rattle.specs.specs.Slots.Maps.{has_value}
use Rattle.specs.specs.Slots.Column.{Column}
use Rattle.specs.specs.Slots.Table.{Table}
use Rattle.specs.specs.declared.world.chosen.Chosen.{Chosen}
use Rattle.specs.specs.declared.command.SetExpr.{SetExpr}
use Rattle.specs.specs.declared.command.SetExpr.TheVariants.{Slot, Living, And', Or', Xor', Not'}
use Rattle.specs.specs.declared.command.Refusal.{Refusal}
use Rattle.specs.specs.declared.command.Refusal.TheVariants.{WrongGeneration as Wrong, Unregistered, IndexLimit, OutOfMemory, Untracked, UnknownReader}

-- whether an index has a value in a slot, which may be unregistered
abbrev pub is_in : {V : Type 0} → Option (Column V) → ℕ → Bool
is_in None i = false
is_in (Some c) i = has_value c.values i

-- one or the other, and not both
abbrev pub differ : Bool → Bool → Bool
differ a b = if a then not b else b

-- whether the mask of a set has an index or, where the set is turned, lacks it
abbrev pub is_chosen : Chosen → ℕ → Bool
is_chosen it i = differ it.is_turned (expr_has (λ m. has_part m.now.members) it.mask 0 i)

-- whether an index is in the set
abbrev pub is_member : {K V : Type 0} → Population → Table K V → SetExpr K → ℕ → Bool
is_member p table (Slot s) i = is_in (table s) i
is_member p table Living i = lives p i
is_member p table (And' q a r b) i = is_member p table a i && is_member p table b i
is_member p table (Or' q a r b) i = is_member p table a i || is_member p table b i
is_member p table (Xor' q a r b) i = differ (is_member p table a i) (is_member p table b i)
is_member p table (Not' q a) i = nat_lt i INDEX_LIMIT && not (is_member p table a i)

-- whether each slot that it names is registered
abbrev pub is_registered : {K V : Type 0} → Table K V → SetExpr K → Bool
is_registered table (Slot s) = is_some (table s)
is_registered table Living = true
is_registered table (And' q a r b) = is_registered table a && is_registered table b
is_registered table (Or' q a r b) = is_registered table a && is_registered table b
is_registered table (Xor' q a r b) = is_registered table a && is_registered table b
is_registered table (Not' q a) = is_registered table a

abbrev pub SelectIsRefused : {K V : Type 0} → Table K V → SetExpr K → Refusal → Type 0
SelectIsRefused table x (Wrong w) = ⊥
SelectIsRefused table x Unregistered = is_registered table x ≡ false
SelectIsRefused table x IndexLimit = ⊥
SelectIsRefused table x OutOfMemory = is_registered table x ≡ true
SelectIsRefused table x Untracked = ⊥
SelectIsRefused table x UnknownReader = ⊥
