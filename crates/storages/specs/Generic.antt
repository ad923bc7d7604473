-- What a view ends as, whatever view it is, where a `&mut` to a component is returned.
use Rattle.std.specs.Prelude.{◌≡◌, ℕ, Result, IsOk, OnErr}
use Rattle.std.specs.FinMap as map
use Rattle.std.specs.Borrow.{RattleType, MutBor, Fml, follows_so, name_if_ok}
use Rattle.entities.specs.Census.{Census}
use Rattle.entities.specs.Population.{index_of}
use Rattle.entities.specs.declared.entity.Entity.{Entity}
use Rattle.storages.specs.declared.event.ComponentEvent.TheVariants.{Modified}
use Rattle.storages.specs.Slot.{Slot, IsSame, Becomes, Fills}

-- the entities and the storage that a view shows
pub record Sight (T : Type 0) : Type 0 where
  pub entities : Census
  pub slot : Slot T

module _ {T B E : Type 0} (Same : Type 0) (r : Result B E) (v v' : Sight T) where
  -- what is seen after a write of x through the reference that the call answered, if it did
  pub record SightWrites (id : ℕ) (x : T) : Type 0 where
    pub same_reference : Same
    pub entities : v'.entities ≡ v.entities
    pub becomes : IsOk r → Becomes v.slot v'.slot (map.insert v.slot.map id x) (Modified id)

  -- the same, to a component or to one that was inserted
  pub record SightFills (id : ℕ) (x : T) : Type 0 where
    pub same_reference : Same
    pub entities : v'.entities ≡ v.entities
    pub fills : IsOk r → Fills v.slot v'.slot id x

  -- what is seen after the call answered an error, if it did
  pub record SightStays : Type 0 where
    pub same_reference : Same
    pub entities : v'.entities ≡ v.entities
    pub same : OnErr r (IsSame v.slot v'.slot)

module _ (R T : RattleType) (sight : R.Denot → Sight T.Denot) (SameView : R.Denot → R.Denot → Type 0) (v : MutBor R.Denot) (e : Entity) {E : Type 0} (r : Result (MutBor T.Denot) E) where
  -- once the borrow r ends, the entity has the last value written through it
  abbrev pub lends_seen : Fml
  lends_seen =
      follows_so R T v.ghost_name (name_if_ok (λ x. x.ghost_name) r)
      (λ x n. SightWrites (SameView v.now n) r (sight v.now) (sight n) (index_of e) x)
      (λ n. SightStays (SameView v.now n) r (sight v.now) (sight n))

  abbrev pub lends_seen_or_default : Fml
  lends_seen_or_default =
      follows_so R T v.ghost_name (name_if_ok (λ x. x.ghost_name) r)
      (λ x n. SightFills (SameView v.now n) r (sight v.now) (sight n) (index_of e) x)
      (λ n. SightStays (SameView v.now n) r (sight v.now) (sight n))
