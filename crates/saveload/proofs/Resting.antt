-- A row is put by its first place and the rest.
use Rattle.std.proofs.Common.{◌≡◌, ℕ, Bool, true, false, nat_eq, cond, refl, ap, sym, ◌∙◌, inl, inr}
use Rattle.std.specs.Prelude.{Option, Result, Ok, Err, OnOk, IfErr}
use mathlib.Core.Path.{fun_ext}
use Rattle.entities.specs.declared.entity.Entity.{Entity}
use Rattle.entities.specs.Population.{index_of}
use Rattle.saveload.specs.Conversion.{Conversion, GivesEach}
use Rattle.storages.specs.Slot.{Slot}
use Rattle.saveload.specs.Places.{place, both, has_left, has_right, Shape, along}
use Rattle.saveload.specs.Loads.{row_put, PutsSaved}
use Rattle.saveload.specs.declared.error.LoadError.{LoadError}
use Rattle.saveload.specs.Stops.{IsOfStoring, Partial, PartlyPair, PutsSome}
use Rattle.saveload.specs.Told.{StoresOnce, StoresSaved, StoresWithRest}
use Rattle.saveload.proofs.Putting.{put_same}
use Rattle.saveload.proofs.Rows.{both_put_to}

module _ {X M V W D E : Type 0} (a : Conversion M V D) (b : Conversion M W E) (post : M → Option Entity → Type 0) (d : D × E) (e : Entity) (old mid : ℕ → V) (rest : ℕ → W) where
  -- the first place is put, and then the rest
  pub put_both : {Y : Type 0} (new : ℕ → W) → PutsSaved a post d.0 e old mid → (r : Result X Y) → OnOk r (PutsSaved b post d.1 e rest new)
      → OnOk r (PutsSaved (both a b) post d e (λ i. (old i, rest i)) (λ i. (mid i, new i)))
  put_both new p (Ok x) q = λ f gives. both_put_to old mid rest new (index_of e) _ _
      (p f (λ m r h k. gives m r (has_left (a.mentions d.0) (b.mentions d.1) m h) k))
      (q f (λ m r h k. gives m r (has_right (a.mentions d.0) (b.mentions d.1) m h) k))
  put_both new p (Err x) q = tt

  -- the first place is put, and the rest is refused
  pub some_both : (Partly : Partial E W) (new : ℕ → W) → PutsSaved a post d.0 e old mid → (r : Result X LoadError) → IfErr r (λ why. PutsSome Partly b post d.1 e why rest new)
      → IfErr r (λ why. PutsSome (PartlyPair a.unloaded Partly) (both a b) post d e why (λ i. (old i, rest i)) (λ i. (mid i, new i)))
  some_both Partly new p (Ok x) q = tt
  some_both Partly new p (Err x) q = λ f gives.
      let s = q f (λ m r h k. gives m r (has_right (a.mentions d.0) (b.mentions d.1) m h) k) in
      record {
        mid = (a.loaded f d.0, s.mid);
        part = inr (refl, s.part);
        rows = both_put_to old mid rest new (index_of e) (a.loaded f d.0) s.mid (p f (λ m r h k. gives m r (has_left (a.mentions d.0) (b.mentions d.1) m h) k)) s.rows;
      }

  -- the first place is refused
  pub some_first : (Partly : Partial E W) → mid ≡ old → (r : Result X LoadError) → ((f : M → Entity) → GivesEach post (a.mentions d.0) f → IfErr r (IsOfStoring (a.unloaded d.0)))
      → IfErr r (λ why. PutsSome (PartlyPair a.unloaded Partly) (both a b) post d e why (λ i. (old i, rest i)) (λ i. (mid i, rest i)))
  some_first Partly same (Ok x) why = tt
  some_first Partly same (Err x) why = λ f gives. record {
    mid = (old (index_of e), rest (index_of e));
    part = inl (why f (λ m r h k. gives m r (has_left (a.mentions d.0) (b.mentions d.1) m h) k), refl);
    rows = both_put_to old mid rest rest (index_of e) (old (index_of e)) (rest (index_of e)) (put_same old mid (index_of e) same) (put_same rest rest (index_of e) refl);
  }

-- the first place is stored, and then the rest, each once
pub stores_both : {X Y M T D W E R : Type 0} (a : Conversion M T D) (b : Conversion M W E) (post : M → Option Entity → Type 0) (d : Option D × E) (e : Entity) (Stores : R → ℕ → W → R → Type 0)
    (first first' : Slot T) (rest rest' : R) → StoresSaved StoresOnce (place a) post d.0 e first first' → (r : Result X Y) → OnOk r (StoresSaved Stores b post d.1 e rest rest')
    → OnOk r (StoresWithRest Stores a b post d e first rest first' rest')
stores_both a b post d e Stores first first' rest rest' p (Ok x) q = λ f gives. (
  p f (λ m r h k. gives m r (has_left ((place a).mentions d.0) (b.mentions d.1) m h) k),
  q f (λ m r h k. gives m r (has_right ((place a).mentions d.0) (b.mentions d.1) m h) k),
)
stores_both a b post d e Stores first first' rest rest' p (Err x) q = tt

module _ {V W : Type 0} (s : Shape W V) (old new : ℕ → W) where
  flat_put : (b : Bool) (v : V) (x : W) → s.flat (cond b v (s.nest x)) ≡ cond b (s.flat v) x
  flat_put true v x = refl
  flat_put false v x = s.flat_nest x

  flat_rows : (n : ℕ) (v : V) → ◌≡◌ {A = ℕ → V} (λ i. s.nest (new i)) (row_put (λ i. s.nest (old i)) n v) → new ≡ row_put old n (s.flat v)
  flat_rows n v h = fun_ext (λ j. sym (s.flat_nest (new j)) ∙ ap (λ (rows : ℕ → V). s.flat (rows j)) h ∙ flat_put (nat_eq n j) v (old j))

  -- flat tuples are the same where the nested pairs are
  pub same_along : ◌≡◌ {A = ℕ → V} (λ i. s.nest (new i)) (λ i. s.nest (old i)) → new ≡ old
  same_along h = fun_ext (λ j. sym (s.flat_nest (new j)) ∙ ap (λ (rows : ℕ → V). s.flat (rows j)) h ∙ s.flat_nest (old j))

-- flat tuples are put where the nested pairs are
module _ {X M V W D E : Type 0} (s : Shape W V) (t : Shape E D) (c : Conversion M V D) (post : M → Option Entity → Type 0) (d : E) (e : Entity) (old new : ℕ → W) where
  pub put_along : {Y : Type 0} (r : Result X Y) → OnOk r (PutsSaved c post (t.nest d) e (λ i. s.nest (old i)) (λ i. s.nest (new i))) → OnOk r (PutsSaved (along s t c) post d e old new)
  put_along (Ok x) h = λ f gives. flat_rows s old new (index_of e) (c.loaded f (t.nest d)) (h f gives)
  put_along (Err x) h = tt

  pub some_along : (Partly : Partial D V) (r : Result X LoadError) → IfErr r (λ why. PutsSome Partly c post (t.nest d) e why (λ i. s.nest (old i)) (λ i. s.nest (new i)))
      → IfErr r (λ why. PutsSome (λ x why o n m. Partly (t.nest x) why (s.nest o) (s.nest n) (s.nest m)) (along s t c) post d e why old new)
  some_along Partly (Ok x) h = tt
  some_along Partly (Err x) h = λ f gives.
      let k = h f gives in
      record {
        mid = s.flat k.mid;
        part = rw (s.nest_flat (c.loaded f (t.nest d)), s.nest_flat k.mid) k.part;
        rows = flat_rows s old new (index_of e) k.mid k.rows;
      }
