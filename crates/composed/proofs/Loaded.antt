-- What a load leaves of the storages that were lent to it.
use Rattle.std.proofs.Common.{◌≡◌, ℕ, Bool, List, [], ◌∷◌, Option, Some, Ok, Err, Result, ap, refl, sym, subst, inl, inr, ◌∙◌}
use Rattle.std.specs.Prelude.{OnOk, IfErr}
use Rattle.entities.specs.Census.{Census}
use Rattle.entities.specs.Population.{index_of}
use Rattle.entities.specs.declared.entity.Entity.{Entity}
use Rattle.storages.specs.Slot.{Slot}
use Rattle.saveload.specs.Conversion.{Conversion}
use Rattle.saveload.specs.Loads.{LoadsInto}
use Rattle.saveload.specs.Stops.{Partial, StopsInto}
use Rattle.saveload.specs.Told.{IsTold, StoresEach}
use Rattle.saveload.specs.declared.entity_data.EntityData.{EntityData}
use Rattle.saveload.specs.declared.error.LoadError.{LoadError}
use Rattle.std.specs.Borrow.{MutBor}
use Rattle.composed.specs.Stored.{LeavesIn, LeavesBoth, one_of, two_of}
use Rattle.composed.specs.Two.{OnTwoWith}
use Rattle.composed.specs.Loading.{stand, LoadsRecords, StopsRecords, LoadsList, StopsList, NotLoaded, IsUnreadOr}
use Rattle.composed.specs.declared.saved_error.LoadWorldError.{LoadWorldError}
use Rattle.composed.specs.declared.saved_error.LoadWorldError.TheVariants.{Unregistered, Refused}

-- what is said where nothing changed is said where no more changed
pub not_loaded : {M D L S T : Type 0} (f : S → T) (r : Result (Unit {0}) LoadWorldError) (Missing : Type 0) (l : Option L) (m : Option (Slot M)) (list : Option (List (EntityData M D))) (Stops : LoadError → Type 0)
    → IfErr r (NotLoaded (Missing × S) (λ e. IsUnreadOr l m list S (Stops e) e)) → IfErr r (NotLoaded (Missing × T) (λ e. IsUnreadOr l m list T (Stops e) e))
not_loaded f (Ok v) Missing l m list Stops w = tt
not_loaded f (Err Unregistered) Missing l m list Stops w = (w.0, f w.1)
not_loaded f (Err (Refused e)) Missing l m list Stops (inl w) = inl (w.0, f w.1)
not_loaded f (Err (Refused e)) Missing l m list Stops (inr w) = inr w

-- what is stored of records in storages that are lent is stored in these
stores_each : {M V D P L : Type 0} (h : P → L) (S : P → ℕ → V → P → Type 0) (T : L → ℕ → V → L → Type 0) (c : Conversion M V D) → ((p q : P) (i : ℕ) (row : V) → S p i row q → T (h p) i row (h q))
    → (old new : P) (rs : List (EntityData M D)) → StoresEach S c old rs new → StoresEach T c (h old) rs (h new)
stores_each h S T c f old new [] e = ap h e
stores_each h S T c f old new (r ∷ rs) (mid, (e, k, st), rest) = (h mid, (e, k, f old mid (index_of e) (c.loaded k r.components) st), stores_each h S T c f mid new rs rest)

module _ {M I V D A : Type 0} (id_of : M → I) (eq : I → I → Bool) (c : Conversion M V D) (mapping : A → I → Option Entity) (left : A → List I → Option ℕ) where
  module _ {P : Type 0} (rows : P → ℕ → V) (Changes : P → P → Type 0) where
    -- a list that is loaded, or stops, with markers that are there
    pub list_loaded : (Stores : P → ℕ → V → P → Type 0) (records : List (EntityData M D)) (r : Result (Unit {0}) LoadError) (field : Option (Slot M)) (m m' : Slot M) (e e' : Census) (a a' : A) (p p' : P)
        → field ≡ Some m → OnOk r (LoadsInto id_of eq c mapping left rows e a m p records e' a' m' p') → OnOk r (StoresEach Stores c p records p') → Changes p p' → IsTold m m'
        → OnOk r (LeavesIn field (Some m') (λ s s'. LoadsRecords id_of eq c mapping left rows Changes Stores records (stand e a p s) (stand e' a' p' s')))
    list_loaded Stores records (Ok v) field m m' e e' a a' p p' at loads stores changes told =
        record { marks = m; marks' = m'; marked = at; leaves = record { loads = loads; stores = stores; changes = changes; told = told }; is_marked = refl }
    list_loaded Stores records (Err x) field m m' e e' a a' p p' at loads stores changes told = tt

    pub list_stops : (Partly : Partial D V) (records : List (EntityData M D)) (r : Result (Unit {0}) LoadError) (field : Option (Slot M)) (m m' : Slot M) (e e' : Census) (a a' : A) (p p' : P)
        → field ≡ Some m → IfErr r (λ x. StopsInto id_of eq c Partly mapping left rows e a m p records x e' a' m' p') → Changes p p' → IsTold m m'
        → IfErr r (λ x. LeavesIn field (Some m') (λ s s'. StopsRecords id_of eq c mapping left rows Changes Partly records x (stand e a p s) (stand e' a' p' s')))
    list_stops Partly records (Ok v) field m m' e e' a a' p p' at stops changes told = tt
    list_stops Partly records (Err x) field m m' e e' a a' p p' at stops changes told =
        record { marks = m; marks' = m'; marked = at; leaves = record { stops = stops; changes = changes; told = told }; is_marked = refl }

  module _ {P L : Type 0} (h : P → L) (rows : L → ℕ → V) (ChangesOf : P → P → Type 0) (Changes : L → L → Type 0) (each : (p q : P) → ChangesOf p q → Changes (h p) (h q)) where
    -- what is lent is left as the loans were
    pub lent_loaded : (StoresOf : P → ℕ → V → P → Type 0) (Stores : L → ℕ → V → L → Type 0) → ((p q : P) (i : ℕ) (row : V) → StoresOf p i row q → Stores (h p) i row (h q))
        → (records : List (EntityData M D)) (r : Result (Unit {0}) LoadError) (o o' : Option (Slot M)) (e e' : Census) (a a' : A) (p q : P) (l' : L) → h q ≡ l'
        → OnOk r (LeavesIn o o' (λ s s'. LoadsRecords id_of eq c mapping left (λ p. rows (h p)) ChangesOf StoresOf records (stand e a p s) (stand e' a' q s')))
        → OnOk r (LeavesIn o o' (λ s s'. LoadsRecords id_of eq c mapping left rows Changes Stores records (stand e a (h p) s) (stand e' a' l' s')))
    lent_loaded StoresOf Stores f records (Ok v) o o' e e' a a' p q l' is w = subst (λ (l : L). LeavesIn o o' (λ s s'. LoadsRecords id_of eq c mapping left rows Changes Stores records (stand e a (h p) s) (stand e' a' l s'))) is
        (record {
          marks = w.marks;
          marks' = w.marks';
          marked = w.marked;
          is_marked = w.is_marked;
          leaves = record { loads = w.leaves.loads; stores = stores_each h StoresOf Stores c f p q records w.leaves.stores; changes = each p q w.leaves.changes; told = w.leaves.told };
        })
    lent_loaded StoresOf Stores f records (Err x) o o' e e' a a' p q l' is w = tt

    pub lent_stops : (Partly : Partial D V) (records : List (EntityData M D)) (r : Result (Unit {0}) LoadError) (o o' : Option (Slot M)) (e e' : Census) (a a' : A) (p q : P) (l' : L) → h q ≡ l'
        → IfErr r (λ x. LeavesIn o o' (λ s s'. StopsRecords id_of eq c mapping left (λ p. rows (h p)) ChangesOf Partly records x (stand e a p s) (stand e' a' q s')))
        → IfErr r (λ x. LeavesIn o o' (λ s s'. StopsRecords id_of eq c mapping left rows Changes Partly records x (stand e a (h p) s) (stand e' a' l' s')))
    lent_stops Partly records (Ok v) o o' e e' a a' p q l' is w = tt
    lent_stops Partly records (Err x) o o' e e' a a' p q l' is w = subst (λ (l : L). LeavesIn o o' (λ s s'. StopsRecords id_of eq c mapping left rows Changes Partly records x (stand e a (h p) s) (stand e' a' l s'))) is
        (record { marks = w.marks; marks' = w.marks'; marked = w.marked; is_marked = w.is_marked; leaves = record { stops = w.leaves.stops; changes = each p q w.leaves.changes; told = w.leaves.told } })

  -- a list that a call on two storages loaded is loaded into the struct of them
  module _ {F E X Y : Type 0} (field : E → Option (Slot M)) (allocator : E → A) (one : F → Option X) (other : F → Option Y) (with_two : F → X → Y → F) (rows : X × Y → ℕ → V) (Changes : X × Y → X × Y → Type 0)
      (fields fields' : F) (list : Option (List (EntityData M D))) (records : List (EntityData M D)) (read : list ≡ Some records) where
    abbrev lent : F → Option (X × Y)
    lent f = two_of (one f) (other f)

    abbrev with_lent : F → X × Y → F
    with_lent f l = with_two f l.0 l.1

    abbrev Post : Type 1
    Post = MutBor Census → MutBor E → MutBor X → MutBor Y → MutBor Census → MutBor E → MutBor X → MutBor Y → Type 0

    abbrev IsLoaded : (X × Y → ℕ → V → X × Y → Type 0) → Census → E → Census → E → Type 0
    IsLoaded Stores c1 e1 c2 e2 = LeavesBoth lent with_lent (λ l m l' m'. LoadsList id_of eq c mapping left rows Changes Stores list (stand c1 (allocator e1) l m) (stand c2 (allocator e2) l' m')) fields (field e1) fields' (field e2)

    abbrev IsStopped : Partial D V → LoadError → Census → E → Census → E → Type 0
    IsStopped Partly x c1 e1 c2 e2 = LeavesBoth lent with_lent (λ l m l' m'. StopsList id_of eq c mapping left rows Changes Partly list x (stand c1 (allocator e1) l m) (stand c2 (allocator e2) l' m')) fields (field e1) fields' (field e2)

    pub two_loaded : (Stores : X × Y → ℕ → V → X × Y → Type 0) (post : Post) (r : Result (Unit {0}) LoadError) (c1 c2 : Census) (e1 e2 : E)
        → ((d : MutBor Census) (e : MutBor E) (x : MutBor X) (y : MutBor Y) (d' : MutBor Census) (e' : MutBor E) (x' : MutBor X) (y' : MutBor Y) → post d e x y d' e' x' y'
        → OnOk r (LeavesIn (field e.now) (field e'.now) (λ s s'. LoadsRecords id_of eq c mapping left rows Changes Stores records (stand d.now (allocator e.now) (x.now, y.now) s) (stand d'.now (allocator e'.now) (x'.now, y'.now) s'))))
        → OnTwoWith c1 e1 (one fields) (other fields) (with_two fields) post c2 e2 fields' → OnOk r (IsLoaded Stores c1 e1 c2 e2)
    two_loaded Stores post (Err x) c1 c2 e1 e2 does o = tt
    two_loaded Stores post (Ok v) c1 c2 e1 e2 does o =
        let w = does o.d o.e o.x o.y o.d' o.e' o.x' o.y' o.called in
        let here : IsLoaded Stores o.d.now o.e.now o.d'.now o.e'.now = record {
          stored = (o.x.now, o.y.now);
          marks = w.marks;
          stored' = (o.x'.now, o.y'.now);
          marks' = w.marks';
          at = ap (λ u. two_of u (other fields)) o.at_x ∙ ap (λ u. two_of (Some o.x.now) u) o.at_y;
          marked = w.marked;
          leaves = record { records = records; read = read; loads = w.leaves };
          is = o.is;
          is_marked = w.is_marked;
        } in
        subst (λ k. IsLoaded Stores k e1 c2 e2) o.at_d (subst (λ k. IsLoaded Stores o.d.now k c2 e2) o.at_e
        (subst (λ k. IsLoaded Stores o.d.now o.e.now k e2) (sym o.is_d) (subst (λ k. IsLoaded Stores o.d.now o.e.now o.d'.now k) (sym o.is_e) here)))

    pub two_stops : (Partly : Partial D V) (post : Post) (r : Result (Unit {0}) LoadError) (c1 c2 : Census) (e1 e2 : E)
        → ((d : MutBor Census) (e : MutBor E) (x : MutBor X) (y : MutBor Y) (d' : MutBor Census) (e' : MutBor E) (x' : MutBor X) (y' : MutBor Y) → post d e x y d' e' x' y'
        → IfErr r (λ z. LeavesIn (field e.now) (field e'.now) (λ s s'. StopsRecords id_of eq c mapping left rows Changes Partly records z (stand d.now (allocator e.now) (x.now, y.now) s) (stand d'.now (allocator e'.now) (x'.now, y'.now) s'))))
        → OnTwoWith c1 e1 (one fields) (other fields) (with_two fields) post c2 e2 fields' → IfErr r (λ z. IsStopped Partly z c1 e1 c2 e2)
    two_stops Partly post (Ok v) c1 c2 e1 e2 does o = tt
    two_stops Partly post (Err z) c1 c2 e1 e2 does o =
        let w = does o.d o.e o.x o.y o.d' o.e' o.x' o.y' o.called in
        let here : IsStopped Partly z o.d.now o.e.now o.d'.now o.e'.now = record {
          stored = (o.x.now, o.y.now);
          marks = w.marks;
          stored' = (o.x'.now, o.y'.now);
          marks' = w.marks';
          at = ap (λ u. two_of u (other fields)) o.at_x ∙ ap (λ u. two_of (Some o.x.now) u) o.at_y;
          marked = w.marked;
          leaves = record { records = records; read = read; stops = w.leaves };
          is = o.is;
          is_marked = w.is_marked;
        } in
        subst (λ k. IsStopped Partly z k e1 c2 e2) o.at_d (subst (λ k. IsStopped Partly z o.d.now k c2 e2) o.at_e
        (subst (λ k. IsStopped Partly z o.d.now o.e.now k e2) (sym o.is_d) (subst (λ k. IsStopped Partly z o.d.now o.e.now o.d'.now k) (sym o.is_e) here)))

  -- and one that was loaded into one storage is loaded into the struct of it
  module _ {F X : Type 0} (part : F → Option X) (with_part : F → X → F) (rows : (record { 0 : X }) → ℕ → V) (Changes : (record { 0 : X }) → (record { 0 : X }) → Type 0)
      (fields : F) (x x' : X) (list : Option (List (EntityData M D))) (records : List (EntityData M D)) (read : list ≡ Some records) (at : part fields ≡ Some x) where
    abbrev lone : F → Option (record { 0 : X })
    lone f = one_of (λ s. record { 0 = s }) (part f)

    abbrev with_lone : F → (record { 0 : X }) → F
    with_lone f l = with_part f l.0

    pub one_loaded : (Stores : (record { 0 : X }) → ℕ → V → (record { 0 : X }) → Type 0) (c1 c2 : Census) (a1 a2 : A) (o o' : Option (Slot M))
        → LeavesIn o o' (λ s s'. LoadsRecords id_of eq c mapping left rows Changes Stores records (stand c1 a1 (record { 0 = x }) s) (stand c2 a2 (record { 0 = x' }) s'))
        → LeavesBoth lone with_lone (λ l m l' m'. LoadsList id_of eq c mapping left rows Changes Stores list (stand c1 a1 l m) (stand c2 a2 l' m')) fields o (with_part fields x') o'
    one_loaded Stores c1 c2 a1 a2 o o' w = record {
      stored = record { 0 = x };
      marks = w.marks;
      stored' = record { 0 = x' };
      marks' = w.marks';
      at = ap (one_of (λ s. record { 0 = s })) at;
      marked = w.marked;
      leaves = record { records = records; read = read; loads = w.leaves };
      is = refl;
      is_marked = w.is_marked;
    }

    pub one_stops : (Partly : Partial D V) (z : LoadError) (c1 c2 : Census) (a1 a2 : A) (o o' : Option (Slot M))
        → LeavesIn o o' (λ s s'. StopsRecords id_of eq c mapping left rows Changes Partly records z (stand c1 a1 (record { 0 = x }) s) (stand c2 a2 (record { 0 = x' }) s'))
        → LeavesBoth lone with_lone (λ l m l' m'. StopsList id_of eq c mapping left rows Changes Partly list z (stand c1 a1 l m) (stand c2 a2 l' m')) fields o (with_part fields x') o'
    one_stops Partly z c1 c2 a1 a2 o o' w = record {
      stored = record { 0 = x };
      marks = w.marks;
      stored' = record { 0 = x' };
      marks' = w.marks';
      at = ap (one_of (λ s. record { 0 = s })) at;
      marked = w.marked;
      leaves = record { records = records; read = read; stops = w.leaves };
      is = refl;
      is_marked = w.is_marked;
    }
