-- What a write through a view keeps: the same indices have a value.
use Rattle.std.proofs.Common.{◌≡◌, ℕ, refl, sym, ap, ◌∙◌, subst, Option, Some, None}
use Rattle.std.specs.Prelude.{option_map, is_some, ◌⊎◌}
use Rattle.entities.specs.Population.{Population, lives}
use Rattle.specs.specs.Slots.Column.{Column}
use Rattle.specs.specs.Typed.Field.{column_of, field_column, values_of}
use Rattle.specs.specs.Slots.Ids.{Ids}
use Rattle.specs.specs.Laws.Living.{table_only, within_becomes}
use Rattle.specs.specs.Laws.Reached.{KeepsLiving}
use Rattle.specs.specs.Typed.Shows.{column_as}
use Rattle.specs.specs.World.State.{State}
use Rattle.specs.specs.Slots.Table.{Table}
use Rattle.specs.specs.Typed.Shown.{others_stay}
use Rattle.storages.specs.Slot.{Slot, SameKeys}

has_as : {V W : Type 0} (f : V → W) (o : Option V) → is_some (option_map f o) ≡ is_some o
has_as f None = refl
has_as f (Some x) = refl

-- a slot with values at the same indices
living_rekeyed : {K V : Type 0} (old new : State K V) (slot : K) (c d : Column V) → old.table slot ≡ Some c → new.table slot ≡ Some d → ((k : K) → (k ≡ slot) ⊎ (new.table k ≡ old.table k))
    → ((i : ℕ) → is_some (d.values i) ≡ is_some (c.values i)) → new.people ≡ old.people → KeepsLiving old new
living_rekeyed old new slot c d was is only keys same w =
    table_only old new same w (within_becomes old.table new.table slot d (lives old.people) (record { here = is; others = others_stay slot old.table new.table only }) w.values
    (λ i h. w.values slot c i was (sym (keys i) ∙ h)))

-- a storage in its place, with components at the same indices
module _ {S T K V : Type 0} (part : S → Option (Slot T)) (with_part : S → Slot T → S) (table : S → Table K V) (ids : S → Ids K) (slot : K) (value : T → V)
    (sees : (s : S) → table s slot ≡ option_map (column_as value) (field_column (part s))) (only : (s : S) (w : Slot T) (k : K) → (k ≡ slot) ⊎ (table (with_part s w) k ≡ table s k))
    (puts : (s : S) (w : Slot T) → part (with_part s w) ≡ Some w) (p : Population) where
  abbrev state_with : S → State K V
  state_with s = record { people = p; table = table s; ids = ids s }

  pub living_rewritten : (s s' : S) (a b : Slot T) → part s ≡ Some a → s' ≡ with_part s b → SameKeys a b → KeepsLiving (state_with s) (state_with s')
  living_rewritten s s' a b there now same =
      subst (λ (t : S). KeepsLiving (state_with s) (state_with t)) (sym now)
      (living_rekeyed (state_with s) (state_with (with_part s b)) slot (column_as value (column_of a)) (column_as value (column_of b))
      (sees s ∙ ap (λ o. option_map (column_as value) (field_column o)) there) (sees (with_part s b) ∙ ap (λ o. option_map (column_as value) (field_column o)) (puts s b)) (only s b)
      (λ i. has_as value (values_of b i) ∙ (same.key i ∙ sym (has_as value (values_of a i)))) refl)
