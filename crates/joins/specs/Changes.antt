-- What added values make of a change set.
use Rattle.std.specs.Prelude.{◌≡◌, ◌↔◌, ◌≤◌, ℕ, Option, Some, None, List, [], ◌∷◌, ◌++◌}
use Rattle.std.specs.Ordering.{nat_cmp}
use Rattle.std.specs.FinMap as map
use Rattle.hibits.specs.declared.limits.TheConstants.{INDEX_LIMIT}
use Rattle.entities.specs.declared.entity.Entity.{Entity}
use Rattle.entities.specs.Population.{index_of}
use Rattle.joins.specs.declared.change_set.ChangeError.{ChangeError}
use Rattle.joins.specs.declared.change_set.ChangeError.TheVariants.{Refused, IndexLimit, OutOfMemory}

module _ {T : Type 0} where
  -- a value added to what there is
  abbrev pub joined : (T → T → T) → Option T → T → T
  joined combined None x = x
  joined combined (Some y) x = combined y x

  -- the change set with one value more at an index
  abbrev pub with_change : (T → T → T) → map.FinMap nat_cmp T → ℕ → T → map.FinMap nat_cmp T
  with_change combined m i x = map.insert m i (joined combined (map.get m i) x)

  -- and with the values of a list more, in its order
  abbrev pub all_changed : (T → T → T) → List (Entity × T) → map.FinMap nat_cmp T → map.FinMap nat_cmp T
  all_changed combined [] m = m
  all_changed combined (e ∷ es) m = all_changed combined es (with_change combined m (index_of e.0) e.1)

  -- there is a value at the index, of which P holds
  abbrev pub of_value : (T → Type 0) → Option T → Type 0
  of_value P None = ⊥
  of_value P (Some x) = P x

  abbrev pub value_at : map.FinMap nat_cmp T → ℕ → (T → Type 0) → Type 0
  value_at m i P = of_value P (map.get m i)

  -- a value was not added to m, for this reason
  pub record IsRefused (may_refuse : T → T → Type 0) (m : map.FinMap nat_cmp T) (c : Entity × T) (e : ChangeError) : Type 0 where
    pub refused : e ≡ Refused → value_at m (index_of c.0) (λ x. may_refuse x c.1)
    pub limit : (e ≡ IndexLimit) ↔ (INDEX_LIMIT ≤ index_of c.0)
    pub memory : e ≡ OutOfMemory → map.get m (index_of c.0) ≡ None

  -- the values of a list up to one that was refused were added to m
  pub record StopsIn (combined : T → T → T) (may_refuse : T → T → Type 0) (es : List (Entity × T)) (m m' : map.FinMap nat_cmp T) (e : ChangeError) : Type 0 where
    pub accepted : List (Entity × T)
    pub refused : Entity × T
    pub rest : List (Entity × T)
    pub list : es ≡ accepted ++ refused ∷ rest
    pub before : m' ≡ all_changed combined accepted m
    pub why : IsRefused may_refuse m' refused e
