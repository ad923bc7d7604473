-- What a reader that listens to a channel has to read, after a change of the readers.
use Rattle.std.proofs.Common.{◌≡◌, ℕ, true, false, eqb, cond, List, [], ◌∷◌, ◌++◌, refl, Option, Some, None}
use Rattle.std.specs.Prelude.{IsSome}
use Rattle.std.proofs.lemmas.Bool.{false≢true}
use Rattle.storages.specs.declared.event.ComponentEvent.{ComponentEvent}
use Rattle.storages.specs.Heard.{emptied_unread}
use Rattle.storages.specs.Unread.{with_events, unread_of, emptied}

-- it is registered still, once it was told of more
pub still_some : (es : List ComponentEvent) (o : Option (List ComponentEvent)) → IsSome o → IsSome (with_events es o)
still_some es None h = h
still_some es (Some us) h = refl

-- another reader was registered, of whatever number
pub unread_registered : (n : ℕ) (x : ℕ × List ComponentEvent) (rs : List (ℕ × List ComponentEvent)) → IsSome (unread_of n rs) → unread_of n (rs ++ x ∷ []) ≡ unread_of n rs
unread_registered n x [] h = absurd (false≢true h)
unread_registered n x (r ∷ rs) h = elim (eqb r.0 n) as (λ b. IsSome (cond b (Some r.1) (unread_of n rs)) → cond b (Some r.1) (unread_of n (rs ++ x ∷ [])) ≡ cond b (Some r.1) (unread_of n rs)) [
  | true ↦ λ h. refl
  | false ↦ unread_registered n x rs
] h

-- it has read all
pub unread_emptied : (n : ℕ) (rs : List (ℕ × List ComponentEvent)) → IsSome (unread_of n rs) → unread_of n (emptied n rs) ≡ Some []
unread_emptied n rs h = read_all (unread_of n rs) refl h
  where
    read_all : (o : Option (List ComponentEvent)) → unread_of n rs ≡ o → IsSome o → unread_of n (emptied n rs) ≡ Some []
    read_all None e s = absurd (false≢true s)
    read_all (Some es) e s = emptied_unread n es rs e
