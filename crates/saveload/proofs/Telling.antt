-- What insertions and removals tell.
use Rattle.std.proofs.Common.{◌≡◌, ◌∙◌, ◌++◌, ◌∷◌, [], List, ℕ, true, Option, Some, None, refl, sym, ap, subst}
use Rattle.std.specs.Prelude.{IsSome, is_some, option_map, cond, Result, Ok, Err, OnOk, OnErr}
use Rattle.std.specs.FinMap as finmap
use Rattle.std.proofs.lemmas.Bool.{false≢true}
use Rattle.entities.specs.Census.{Census, population}
use Rattle.entities.specs.Population.{index_of}
use Rattle.entities.specs.declared.entity.Entity.{Entity}
use Rattle.storages.specs.Life.{is_alive}
use Rattle.storages.specs.Found.{found_in}
use Rattle.storages.specs.Slot.{Slot, IsSame, Puts, Takes}
use Rattle.saveload.specs.Conversion.{Conversion}
use Rattle.saveload.specs.Naming.{ids_in}
use Rattle.saveload.specs.declared.entity_data.EntityData.{EntityData}
use Rattle.saveload.specs.Told.{IsTold, StoresOnce, StoresRecord, StoresEach}
use Rattle.saveload.specs.Told.IsTold.{start, same, put, taken}

module _ {T : Type 0} where
  pub same_told : (s u : Slot T) → IsSame s u → IsTold s u
  same_told s u e = same s u start e

  pub put_once : (c : Census) (s u : Slot T) (e : Entity) (x : T) → is_alive (population c) e ≡ true → Puts s u (index_of e) x (is_some (found_in c s e))
      → Puts s u (index_of e) x (is_some (finmap.get s.map (index_of e)))
  put_once c s u e x alive p = subst (λ b. Puts s u (index_of e) x b) (ap (λ b. is_some (cond b (finmap.get s.map (index_of e)) None)) alive) p

  pub put_told : (c : Census) (s u : Slot T) (e : Entity) (x : T) → is_alive (population c) e ≡ true → Puts s u (index_of e) x (is_some (found_in c s e)) → IsTold s u
  put_told c s u e x alive p =
      put s u (index_of e) x start (put_once c s u e x alive p)

  pub taken_once : {E : Type 0} (c : Census) (s u : Slot T) (e : Entity) (r : Result (Option T) E) → OnOk r (IsSome (found_in c s e) → Takes s u (index_of e)) → (found_in c s e ≡ None → (r ≡ Ok None) × (u ≡ s))
      → is_alive (population c) e ≡ true → OnOk r (StoresOnce s (index_of e) None u)
  taken_once c s u e (Ok x) t n alive =
      let here : found_in c s e ≡ finmap.get s.map (index_of e) = ap (λ b. cond b (finmap.get s.map (index_of e)) None) alive in
      (λ there. t (rw here there), λ none. (n (here ∙ none)).1)
  taken_once c s u e (Err x) t n alive = tt

  taken_told : (s u : Slot T) (i : ℕ) (o : Option T) → (IsSome o → Takes s u i) → (o ≡ None → u ≡ s) → IsTold s u
  taken_told s u i (Some x) t n = taken s u i start (t refl)
  taken_told s u i None t n = subst (IsTold s) (sym (n refl)) start

  pub removal_told : {E : Type 0} (s u : Slot T) (i : ℕ) (o : Option T) (r : Result (Option T) E) → OnOk r (IsSome o → Takes s u i) → OnErr r (IsSame s u) → (o ≡ None → (r ≡ Ok None) × (u ≡ s)) → IsTold s u
  removal_told s u i o (Ok x) t e n = taken_told s u i o t (λ h. (n h).1)
  removal_told s u i o (Err x) t e n = same_told s u e

  shown : {I : Type 0} (id_of : T → I) (o : Option T) (id : I) → option_map id_of o ≡ Some id → is_some o ≡ true
  shown id_of (Some x) id e = refl
  shown id_of None id e = absurd (false≢true (ap is_some e))

  -- a write to a component that is there
  pub written_told : {I : Type 0} (id_of : T → I) (s u : Slot T) (i : ℕ) (x : T) (id : I) → ids_in id_of s i ≡ Some id → Puts s u i x true → IsTold s u
  written_told id_of s u i x id there p = put s u i x start (subst (λ b. Puts s u i x b) (sym (shown id_of (finmap.get s.map i) id there)) p)

-- one record more is stored
pub stores_more : {M V D P : Type 0} (Stores : P → ℕ → V → P → Type 0) (c : Conversion M V D) (a b d : P) (rs : List (EntityData M D)) (r : EntityData M D)
    → StoresEach Stores c a rs b → StoresRecord Stores c b r d → StoresEach Stores c a (rs ++ r ∷ []) d
stores_more Stores c a b d [] r l m = (d, subst (λ s. StoresRecord Stores c s r d) l m, refl)
stores_more Stores c a b d (x ∷ rs) r l m = (l.0, l.1, stores_more Stores c l.0 b d rs r l.2 m)
