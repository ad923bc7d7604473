-- A list of readers over which a loop goes, as a channel keeps them.
use Rattle.std.proofs.Common.{◌≡◌, ◌≤◌, ◌<◌, ◌+◌, ◌==◌, ◌∷◌, ◌++◌, ◌∙◌, ℕ, true, false, List, [], zero, suc, length, map, refl, sym, ap, arith, Some, None, subst, slice_index_or, slice_set}
use Rattle.std.proofs.Math.Nat.{le_trans}
use Rattle.std.proofs.lemmas.Bool.{eq-eqb, ne_eqb}
use Rattle.std.specs.List.{remove}
use Rattle.storages.specs.Unread.{written, unread_of, emptied, first_dropped}
use Rattle.storages.specs.declared.channel.Reader.{Reader}
use Rattle.storages.specs.Meaning.{HasRoom}
use Rattle.storages.specs.Readers.{shown, room_of, least_room}

next : (i : ℕ) → suc i ≡ i + 1
next i = omega arith

cons_is : {X : Type 0} {x y : X} {xs ys : List X} → x ≡ y → xs ≡ ys → (x ∷ xs) ≡ (y ∷ ys)
cons_is {y = y} {xs = xs} e f = ap (λ z. z ∷ xs) e ∙ ap (λ zs. y ∷ zs) f

module _ {E : Type 0} where
  -- each reader has room for so many events
  abbrev pub EachHasRoom : ℕ → List (Reader E) → Type 0
  EachHasRoom k [] = Unit {0}
  EachHasRoom k (r ∷ rs) = (k ≤ room_of r) × EachHasRoom k rs

  pub each_has : (k : ℕ) (rs : List (Reader E)) → HasRoom (least_room rs) k → EachHasRoom k rs
  each_has k [] h = tt
  each_has k (r ∷ []) h = (h, tt)
  each_has k (r ∷ s ∷ rs) h = (omega (arith, h), each_has k (s ∷ rs) (omega (arith, h)))

  pub has_each : (k : ℕ) (rs : List (Reader E)) → EachHasRoom k rs → HasRoom (least_room rs) k
  has_each k [] h = tt
  has_each k (r ∷ []) h = h.0
  has_each k (r ∷ s ∷ rs) h = let rest = has_each k (s ∷ rs) h.1 in omega (arith, h.0, rest)

  -- the first i readers are related to what they were, and the others are as they were
  abbrev pub Walked : (Reader E → Reader E → Type 0) → ℕ → List (Reader E) → List (Reader E) → Type 0
  Walked R i [] [] = Unit {0}
  Walked R i [] (y ∷ ys) = ⊥
  Walked R i (x ∷ xs) [] = ⊥
  Walked R zero (x ∷ xs) (y ∷ ys) = (y ∷ ys) ≡ (x ∷ xs)
  Walked R (suc i) (x ∷ xs) (y ∷ ys) = R x y × Walked R i xs ys

  pub none_walked : (R : Reader E → Reader E → Type 0) (xs : List (Reader E)) → Walked R 0 xs xs
  none_walked R [] = tt
  none_walked R (x ∷ xs) = refl

  pub walked_as : (R Q : Reader E → Reader E → Type 0) → ((x y : Reader E) → R x y → Q x y) → (i : ℕ) (xs ys : List (Reader E)) → Walked R i xs ys → Walked Q i xs ys
  walked_as R Q f i [] [] w = tt
  walked_as R Q f i [] (y ∷ ys) w = w
  walked_as R Q f i (x ∷ xs) [] w = w
  walked_as R Q f zero (x ∷ xs) (y ∷ ys) w = w
  walked_as R Q f (suc i) (x ∷ xs) (y ∷ ys) w = (f x y w.0, walked_as R Q f i xs ys w.1)

  -- the next one is as it was
  pub walked_at : (R : Reader E → Reader E → Type 0) (i : ℕ) (xs ys : List (Reader E)) (d : Reader E) → Walked R i xs ys → slice_index_or ys i d ≡ slice_index_or xs i d
  walked_at R i [] [] d w = refl
  walked_at R i [] (y ∷ ys) d w = absurd w
  walked_at R i (x ∷ xs) [] d w = absurd w
  walked_at R zero (x ∷ xs) (y ∷ ys) d w = ap (λ zs. slice_index_or zs 0 d) w
  walked_at R (suc i) (x ∷ xs) (y ∷ ys) d w = walked_at R i xs ys d w.1

  put_first : (R : Reader E → Reader E → Type 0) (x y y' : Reader E) (xs ys : List (Reader E)) → (y ∷ ys) ≡ (x ∷ xs) → R y y' → Walked R 1 (x ∷ xs) (y' ∷ ys)
  put_first R x y y' xs ys same r = subst (λ zs. Walked R 1 zs (y' ∷ ys)) same (r, none_walked R ys)

  walks : (R : Reader E → Reader E → Type 0) (i : ℕ) (xs ys : List (Reader E)) (d y' : Reader E) → i < length ys → Walked R i xs ys → R (slice_index_or ys i d) y' → Walked R (suc i) xs (slice_set ys i y')
  walks R i [] [] d y' h w r = tt
  walks R i [] (y ∷ ys) d y' h w r = absurd w
  walks R i (x ∷ xs) [] d y' h w r = absurd w
  walks R zero (x ∷ xs) (y ∷ ys) d y' h w r = put_first R x y y' xs ys w r
  walks R (suc i) (x ∷ xs) (y ∷ ys) d y' h w r = (w.0, walks R i xs ys d y' (omega arith) w.1 r)

  -- it is walked over
  pub walks_on : (R : Reader E → Reader E → Type 0) (i : ℕ) (xs ys : List (Reader E)) (d y' : Reader E) → i < length ys → Walked R i xs ys → R (slice_index_or ys i d) y' → Walked R (i + 1) xs (slice_set ys i y')
  walks_on R i xs ys d y' h w r = subst (λ k. Walked R k xs (slice_set ys i y')) (next i) (walks R i xs ys d y' h w r)

  -- what a reader shows stays, and its room does not shrink
  abbrev pub Grows : Reader E → Reader E → Type 0
  Grows x y = (shown y ≡ shown x) × (room_of x ≤ room_of y)

  pub grown_shown : (i : ℕ) (xs ys : List (Reader E)) → Walked Grows i xs ys → map (shown {E = E}) ys ≡ map (shown {E = E}) xs
  grown_shown i [] [] w = refl
  grown_shown i [] (y ∷ ys) w = absurd w
  grown_shown i (x ∷ xs) [] w = absurd w
  grown_shown zero (x ∷ xs) (y ∷ ys) w = ap (map (shown {E = E})) w
  grown_shown (suc i) (x ∷ xs) (y ∷ ys) w = cons_is w.0.0 (grown_shown i xs ys w.1)

  grown_each : (k i : ℕ) (xs ys : List (Reader E)) → Walked Grows i xs ys → EachHasRoom k xs → EachHasRoom k ys
  grown_each k i [] [] w h = tt
  grown_each k i [] (y ∷ ys) w h = absurd w
  grown_each k i (x ∷ xs) [] w h = absurd w
  grown_each k zero (x ∷ xs) (y ∷ ys) w h = subst (EachHasRoom k) (sym w) h
  grown_each k (suc i) (x ∷ xs) (y ∷ ys) w h = (le_trans h.0 w.0.1, grown_each k i xs ys w.1 h.1)

  pub grown_room : (i : ℕ) (xs ys : List (Reader E)) → Walked Grows i xs ys → (k : ℕ) → HasRoom (least_room xs) k → HasRoom (least_room ys) k
  grown_room i xs ys w k h = has_each k ys (grown_each k i xs ys w (each_has k xs h))

  -- it has room for n besides
  abbrev pub Reserves : ℕ → Reader E → Reader E → Type 0
  Reserves n x y = Grows x y × (n ≤ room_of y)

  pub grows : (n : ℕ) (x y : Reader E) → Reserves n x y → Grows x y
  grows n x y r = r.0

  reserved_each : (n i : ℕ) (xs ys : List (Reader E)) → length ys ≤ i → Walked (Reserves n) i xs ys → EachHasRoom n ys
  reserved_each n i xs [] h w = tt
  reserved_each n i [] (y ∷ ys) h w = absurd w
  reserved_each n zero (x ∷ xs) (y ∷ ys) h w = absurd (omega arith)
  reserved_each n (suc i) (x ∷ xs) (y ∷ ys) h w = (w.0.1, reserved_each n i xs ys (omega arith) w.1)

  pub reserved : (n i : ℕ) (xs ys : List (Reader E)) → length ys ≤ i → Walked (Reserves n) i xs ys → HasRoom (least_room ys) n
  reserved n i xs ys h w = has_each n ys (reserved_each n i xs ys h w)

  -- a reader with an event more
  abbrev pub Hears : E → Reader E → Reader E → Type 0
  Hears e x y = (shown y ≡ (x.number, x.unread.items ++ e ∷ [])) × ((k : ℕ) → k + 1 ≤ room_of x → k ≤ room_of y)

  pub heard_shown : (e : E) (i : ℕ) (xs ys : List (Reader E)) → length ys ≤ i → Walked (Hears e) i xs ys → map (shown {E = E}) ys ≡ written e (map (shown {E = E}) xs)
  heard_shown e i [] [] h w = refl
  heard_shown e i [] (y ∷ ys) h w = absurd w
  heard_shown e i (x ∷ xs) [] h w = absurd w
  heard_shown e zero (x ∷ xs) (y ∷ ys) h w = absurd (omega arith)
  heard_shown e (suc i) (x ∷ xs) (y ∷ ys) h w = cons_is w.0.0 (heard_shown e i xs ys (omega arith) w.1)

  heard_each : (e : E) (k i : ℕ) (xs ys : List (Reader E)) → length ys ≤ i → Walked (Hears e) i xs ys → EachHasRoom (k + 1) xs → EachHasRoom k ys
  heard_each e k i [] [] h w room = tt
  heard_each e k i [] (y ∷ ys) h w room = absurd w
  heard_each e k i (x ∷ xs) [] h w room = absurd w
  heard_each e k zero (x ∷ xs) (y ∷ ys) h w room = absurd (omega arith)
  heard_each e k (suc i) (x ∷ xs) (y ∷ ys) h w room = (w.0.1 k room.0, heard_each e k i xs ys (omega arith) w.1 room.1)

  pub heard_room : (e : E) (i : ℕ) (xs ys : List (Reader E)) → length ys ≤ i → Walked (Hears e) i xs ys → (k : ℕ) → HasRoom (least_room xs) (k + 1) → HasRoom (least_room ys) k
  heard_room e i xs ys h w k room = has_each k ys (heard_each e k i xs ys h w (each_has (k + 1) xs room))

  room_there : (k i : ℕ) (xs : List (Reader E)) (d : Reader E) → i < length xs → EachHasRoom k xs → k ≤ room_of (slice_index_or xs i d)
  room_there k i [] d h each = absurd (omega arith)
  room_there k zero (x ∷ xs) d h each = each.0
  room_there k (suc i) (x ∷ xs) d h each = room_there k i xs d (omega arith) each.1

  -- the next one has the room that each had
  pub room_at : (k i : ℕ) (xs : List (Reader E)) (d : Reader E) → i < length xs → HasRoom (least_room xs) k → k ≤ room_of (slice_index_or xs i d)
  room_at k i xs d h room = room_there k i xs d h (each_has k xs room)

  -- none of the first i readers has the number n
  abbrev pub Lacks : ℕ → ℕ → List (Reader E) → Type 0
  Lacks n i [] = Unit {0}
  Lacks n zero (r ∷ rs) = Unit {0}
  Lacks n (suc i) (r ∷ rs) = ((r.number == n) ≡ false) × Lacks n i rs

  pub lacks_first : (n : ℕ) (rs : List (Reader E)) → Lacks n 0 rs
  lacks_first n [] = tt
  lacks_first n (r ∷ rs) = tt

  lacks_next : (n i : ℕ) (rs : List (Reader E)) (d : Reader E) → Lacks n i rs → ((slice_index_or rs i d).number == n) ≡ false → Lacks n (suc i) rs
  lacks_next n i [] d w e = tt
  lacks_next n zero (r ∷ rs) d w e = (e, lacks_first n rs)
  lacks_next n (suc i) (r ∷ rs) d w e = (w.0, lacks_next n i rs d w.1 e)

  pub lacks_more : (n i : ℕ) (rs : List (Reader E)) (d : Reader E) → Lacks n i rs → ((slice_index_or rs i d).number ≡ n → ⊥) → Lacks n (i + 1) rs
  lacks_more n i rs d w other = subst (λ k. Lacks n k rs) (next i) (lacks_next n i rs d w (ne_eqb _ _ other))

  unread_there_if : (n i : ℕ) (rs : List (Reader E)) (d : Reader E) → i < length rs → Lacks n i rs → ((slice_index_or rs i d).number == n) ≡ true
      → unread_of n (map (shown {E = E}) rs) ≡ Some ((slice_index_or rs i d).unread.items)
  unread_there_if n i [] d h w e = absurd (omega arith)
  unread_there_if n zero (r ∷ rs) d h w e = rw e refl
  unread_there_if n (suc i) (r ∷ rs) d h w e = rw w.0 (unread_there_if n i rs d (omega arith) w.1 e)

  emptied_there_if : (n i : ℕ) (rs : List (Reader E)) (d y : Reader E) → i < length rs → Lacks n i rs → ((slice_index_or rs i d).number == n) ≡ true → shown y ≡ ((slice_index_or rs i d).number, [])
      → map (shown {E = E}) (slice_set rs i y) ≡ emptied n (map (shown {E = E}) rs)
  emptied_there_if n i [] d y h w e same = absurd (omega arith)
  emptied_there_if n zero (r ∷ rs) d y h w e same = rw (e, same) refl
  emptied_there_if n (suc i) (r ∷ rs) d y h w e same = rw w.0 (cons_is refl (emptied_there_if n i rs d y (omega arith) w.1 e same))

  pub unread_nowhere : (n i : ℕ) (rs : List (Reader E)) → length rs ≤ i → Lacks n i rs → unread_of n (map (shown {E = E}) rs) ≡ None
  unread_nowhere n i [] h w = refl
  unread_nowhere n zero (r ∷ rs) h w = absurd (omega arith)
  unread_nowhere n (suc i) (r ∷ rs) h w = rw w.0 (unread_nowhere n i rs (omega arith) w.1)

  pub emptied_nowhere : (n i : ℕ) (rs : List (Reader E)) → length rs ≤ i → Lacks n i rs → map (shown {E = E}) rs ≡ emptied n (map (shown {E = E}) rs)
  emptied_nowhere n i [] h w = refl
  emptied_nowhere n zero (r ∷ rs) h w = absurd (omega arith)
  emptied_nowhere n (suc i) (r ∷ rs) h w = rw w.0 (cons_is refl (emptied_nowhere n i rs (omega arith) w.1))

  dropped_there_if : (n i : ℕ) (rs : List (Reader E)) (d : Reader E) → i < length rs → Lacks n i rs → ((slice_index_or rs i d).number == n) ≡ true
      → first_dropped n (map (shown {E = E}) rs) ≡ map (shown {E = E}) (remove rs i)
  dropped_there_if n i [] d h w e = absurd (omega arith)
  dropped_there_if n zero (r ∷ rs) d h w e = rw e refl
  dropped_there_if n (suc i) (r ∷ rs) d h w e = rw w.0 (cons_is refl (dropped_there_if n i rs d (omega arith) w.1 e))

  removed_each : (k i : ℕ) (rs : List (Reader E)) → i < length rs → EachHasRoom k rs → EachHasRoom k (remove rs i)
  removed_each k i [] lt h = absurd (omega arith)
  removed_each k zero (r ∷ rs) lt h = h.1
  removed_each k (suc i) (r ∷ rs) lt h = (h.0, removed_each k i rs (omega arith) h.1)

  pub removed_room : (i : ℕ) (rs : List (Reader E)) → i < length rs → (k : ℕ) → HasRoom (least_room rs) k → HasRoom (least_room (remove rs i)) k
  removed_room i rs lt k h = has_each k (remove rs i) (removed_each k i rs lt (each_has k rs h))

  pub unread_there : (n i : ℕ) (rs : List (Reader E)) (d : Reader E) → i < length rs → Lacks n i rs → (slice_index_or rs i d).number ≡ n → unread_of n (map (shown {E = E}) rs) ≡ Some ((slice_index_or rs i d).unread.items)
  unread_there n i rs d h w e = unread_there_if n i rs d h w (eq-eqb _ _ e)

  pub emptied_there : (n i : ℕ) (rs : List (Reader E)) (d y : Reader E) → i < length rs → Lacks n i rs → (slice_index_or rs i d).number ≡ n → shown y ≡ ((slice_index_or rs i d).number, [])
      → map (shown {E = E}) (slice_set rs i y) ≡ emptied n (map (shown {E = E}) rs)
  emptied_there n i rs d y h w e same = emptied_there_if n i rs d y h w (eq-eqb _ _ e) same

  pub dropped_there : (n i : ℕ) (rs : List (Reader E)) (d : Reader E) → i < length rs → Lacks n i rs → (slice_index_or rs i d).number ≡ n → first_dropped n (map (shown {E = E}) rs) ≡ map (shown {E = E}) (remove rs i)
  dropped_there n i rs d h w e = dropped_there_if n i rs d h w (eq-eqb _ _ e)
